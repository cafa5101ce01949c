pub mod Arrived
pub mod Collecting
pub mod Private
