pub mod ClockLaws
pub mod EntryLaws
pub mod FirstLaws
pub mod ListLaws
pub mod PatLaws
pub mod StreamLaws
