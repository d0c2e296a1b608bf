mod Listed
mod Made
mod Decided
mod Evaluated
mod Answered
pub mod Given
pub mod Laws
