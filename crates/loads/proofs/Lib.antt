pub mod Loading
pub mod Saving
pub mod SavedLoaded
