pub mod InHand
pub mod Packets
pub mod Private
