pub mod Word
pub mod Alg
pub mod Masks
pub mod Laws
