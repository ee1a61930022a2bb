pub mod Lists
pub mod Playing
