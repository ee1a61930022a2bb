pub mod Passes
pub mod Counts
pub mod Asked
