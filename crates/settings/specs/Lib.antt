pub mod Settings
pub mod Laws
