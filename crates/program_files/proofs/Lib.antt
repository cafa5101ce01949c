pub mod KeepingLaws
pub mod TableLaws
