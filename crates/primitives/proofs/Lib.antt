pub mod Indexing
pub mod Growing
pub mod Performing
