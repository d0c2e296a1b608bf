pub mod Images
pub mod Outcome
pub mod Inner
