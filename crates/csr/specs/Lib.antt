pub mod Address
pub mod Line
pub mod Access
pub mod Laws
pub mod Inner
pub mod Slots
