pub mod Sums
pub mod Counted
mod Unlined
