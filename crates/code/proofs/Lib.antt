pub mod LinkFine
pub mod TurnLaws
pub mod CodePlace
pub mod PassLaws
