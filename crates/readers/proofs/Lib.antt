pub mod Loops
pub mod Names
pub mod Bodies
pub mod InsideLaws
pub mod HeaderLaws
pub mod Ranges
