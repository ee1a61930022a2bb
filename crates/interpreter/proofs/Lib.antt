pub mod Returning
pub mod Advancing
