mod Accepted
mod InOrder
mod CallsKeepLegal
mod Explained
mod Months
mod Logs
pub mod Laws
