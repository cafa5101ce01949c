pub mod KeptPackets
pub mod Private
pub mod SlotStream
pub mod SlotWalk
pub mod UnitBytes
