pub mod VisitLaws
pub mod StepLaws
pub mod InvariantLaws
pub mod UniqueLaws
pub mod RuleLaws
pub mod InstructionLaws
pub mod HereLaws
pub mod CodeWalk
