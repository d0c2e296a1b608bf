pub mod Lost
pub mod Reasons
pub mod Reason
pub mod Explain
pub mod Elsewhere
pub mod Laws
