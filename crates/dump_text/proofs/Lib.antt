pub mod AskedLaws
pub mod DumpLaws
pub mod TextLaws
pub mod ToldLaws
