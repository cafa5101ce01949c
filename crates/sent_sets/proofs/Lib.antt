pub mod FieldFrames
pub mod Units
pub mod Runs
pub mod SetEnds
pub mod SetsCome
pub mod RawUnits
pub mod RisingSlots
pub mod PacketCounts
pub mod LateEntry
pub mod LateStream
pub mod SlotPlaces
pub mod SentPackets
pub mod SentLists
pub mod LateSets
pub mod SentLate
pub mod SentLaws
mod Examples
