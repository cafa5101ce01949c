pub mod Segments
pub mod Steps
pub mod Pictures
pub mod TwoRegions
