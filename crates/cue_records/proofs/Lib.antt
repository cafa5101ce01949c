pub mod CodesLaws
pub mod HexLaws
pub mod RowsLaws
pub mod RunLaws
mod ShortRunLaws
pub mod TestLaws
pub mod TextLaws
