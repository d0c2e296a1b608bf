pub mod Calls
pub mod Entries
pub mod Inner
