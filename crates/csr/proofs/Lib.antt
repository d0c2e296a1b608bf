pub mod Decoded
pub mod Found
mod Slots
pub mod Lawful
pub mod Laws
pub mod Expressed
