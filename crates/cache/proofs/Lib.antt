pub mod Caching
pub mod Entries
