pub mod Choice
pub mod TestLaws
pub mod TableLaws
pub mod CodeLaws
pub mod DecodeLaws
pub mod KindLaws
pub mod EntryLaws
pub mod PositionLaws
