pub mod PassLaws
pub mod CountLaws
pub mod ShapeLaws
pub mod HolderLaws
pub mod AskedLaws
pub mod SendLaws
