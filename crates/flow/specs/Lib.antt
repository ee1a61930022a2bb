pub mod Index
pub mod Linked
pub mod Walk
