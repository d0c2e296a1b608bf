pub mod StatusLaws
pub mod InterruptLaws
pub mod AddressLaws
pub mod ConfigLaws
pub mod Laws
