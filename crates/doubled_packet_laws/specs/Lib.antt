pub mod Doubled
pub mod OfPid
