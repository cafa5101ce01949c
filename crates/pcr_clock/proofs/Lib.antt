pub mod RunLaws
pub mod SpreadLaws
