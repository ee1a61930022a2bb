pub mod Refusals
pub mod Verdicts
pub mod Settled
pub mod ReadingLaws
