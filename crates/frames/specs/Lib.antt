pub mod Words
pub mod Active
