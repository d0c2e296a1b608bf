pub mod Sources
mod Rows
mod Answered
mod Evaluated
mod Defined
pub mod Right
