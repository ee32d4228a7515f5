pub mod Basics
pub mod Tests
pub mod Tables
pub mod Instances
pub mod RouteLaws
pub mod Drift
