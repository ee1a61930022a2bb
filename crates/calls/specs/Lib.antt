pub mod Encoding
pub mod Listing
pub mod Plays
