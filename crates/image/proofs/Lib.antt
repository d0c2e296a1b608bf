pub mod Bytes
pub mod Words
pub mod Laws
