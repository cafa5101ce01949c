pub mod EachBehind
pub mod PacketCalls
pub mod SameCalls
pub mod TakenPackets
pub mod SetCalls
pub mod ToldLaws
pub mod MoreReceived
pub mod StoppedCalls
mod ToldExample
pub mod LaterSlots
