pub mod Front
pub mod Reached
pub mod Printed
