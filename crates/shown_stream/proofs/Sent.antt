-- The packets that a script is compiled to: the units of its sets, their sizes, times and places in the stream.
pub mod WrittenSets
pub mod UnitSizes
pub mod ScheduledLevels
pub mod SetPackets
pub mod CompiledSets
pub mod PlannedTimes
pub mod CompiledPackets
pub mod CompiledWithin
pub mod SentPlaces
pub mod SentOrder
pub mod PlannedOrder
