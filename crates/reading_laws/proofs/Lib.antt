pub mod SegmentsRead
pub mod OneReading
pub mod ReceivedBytes
pub mod ReceivedSets
pub mod PacketsRead
pub mod UsualPacket
