pub mod First
pub mod Missed
