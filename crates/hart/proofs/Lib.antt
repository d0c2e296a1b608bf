pub mod HasModes
pub mod EveryWord
pub mod Put
pub mod Legal
mod CapsBits
pub mod Capable
pub mod Fresh
pub mod Laws
pub mod Chain
pub mod EnvcfgBits
