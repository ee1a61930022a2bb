pub mod Lent
pub mod Shape
