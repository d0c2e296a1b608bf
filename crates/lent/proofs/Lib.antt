pub mod Views
pub mod Judged
