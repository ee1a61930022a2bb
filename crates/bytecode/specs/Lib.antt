pub mod Test
pub mod Constant
pub mod Code
pub mod Effect
pub mod Table
pub mod Kinds
