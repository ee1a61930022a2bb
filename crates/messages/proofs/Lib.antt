pub mod Resending
