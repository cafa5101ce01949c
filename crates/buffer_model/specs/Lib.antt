pub mod Calls
pub mod Meters
pub mod Ticks
pub mod Within
