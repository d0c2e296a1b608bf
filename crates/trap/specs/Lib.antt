pub mod Status
pub mod Interrupts
pub mod Target
pub mod Steps
pub mod Laws
pub mod Restored
pub mod Inner
