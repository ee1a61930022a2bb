pub mod Lent
pub mod Searches
