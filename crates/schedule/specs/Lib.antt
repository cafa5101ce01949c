pub mod Arrivals
pub mod Fronts
pub mod Packets
pub mod Refusals
pub mod Slots
pub mod Private
