pub mod Word
pub mod Laws
pub mod Inner
