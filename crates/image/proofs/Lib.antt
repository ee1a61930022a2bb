pub mod Words
pub mod RoundTrip
pub mod SaveLoad
