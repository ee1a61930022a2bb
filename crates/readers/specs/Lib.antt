pub mod Places
pub mod Header
pub mod Lent
