pub mod Unbreached
pub mod Scheduled
