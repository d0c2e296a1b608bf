pub mod Waits
pub mod Runs
mod Tested
