pub mod Answers
pub mod SaveLoad
