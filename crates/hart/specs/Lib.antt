pub mod Words
pub mod Modes
pub mod Caps
pub mod Legal
pub mod Fresh
pub mod Answers
pub mod Laws
pub mod Inner
