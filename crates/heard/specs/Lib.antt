pub mod Heard
pub mod Runs
