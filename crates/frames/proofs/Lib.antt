pub mod Standing
pub mod ActiveLaws
pub mod FreshLaws
