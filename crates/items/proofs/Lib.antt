pub mod Editing
pub mod Laying
mod Retuning
