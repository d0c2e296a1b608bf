pub mod Row
pub mod Words
pub mod Engine
pub mod Numbers
pub mod Table
pub mod Laws
pub mod Inner
