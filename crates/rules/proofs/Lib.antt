pub mod Laid
pub mod ClassLaws
pub mod RuleFacts
