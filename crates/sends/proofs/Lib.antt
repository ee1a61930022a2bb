pub mod Placing
pub mod Sending
