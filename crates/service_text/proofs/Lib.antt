pub mod EntryLaws
pub mod OrderLaws
pub mod PlaceLaws
pub mod TellLaws
