pub mod Rows
pub mod SpacedSlots
pub mod SpacedArrival
pub mod ApartSets
pub mod SpacedExample
