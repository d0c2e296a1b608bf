pub mod Refusals
pub mod Examples
pub mod LostExamples
pub mod Laws
pub mod Months
pub mod LogExamples
pub mod Logs
