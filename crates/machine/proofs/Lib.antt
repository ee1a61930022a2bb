pub mod Calling
pub mod Answers
pub mod Beginning
pub mod RunCalls
pub mod Replying
