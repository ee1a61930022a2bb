pub mod Resends
