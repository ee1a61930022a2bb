pub mod Counts
pub mod Input
pub mod Lines
