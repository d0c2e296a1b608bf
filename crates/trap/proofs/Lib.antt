pub mod Order
pub mod StatusLaws
pub mod StepsKeepLegal
pub mod Pending
pub mod Laws
