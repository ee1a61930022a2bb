pub mod Asked
pub mod Turn
