pub mod Asking
pub mod AskingFaults
pub mod AskingRun
