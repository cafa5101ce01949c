pub mod PidUnits
pub mod PidText
pub mod Watched
pub mod Private
