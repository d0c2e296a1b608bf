pub mod Status
pub mod Fields
pub mod Interrupts
pub mod Addresses
pub mod Config
pub mod Laws
pub mod Inner
