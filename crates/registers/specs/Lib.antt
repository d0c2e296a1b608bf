pub mod Operand
pub mod Inner
pub mod Table
