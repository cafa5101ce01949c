pub mod Arrivals
pub mod Samples
