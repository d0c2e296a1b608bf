pub mod First
pub mod Laws
