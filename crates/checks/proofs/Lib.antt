pub mod Standing
pub mod Headers
pub mod Walking
