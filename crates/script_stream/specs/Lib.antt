pub mod LeftPackets
pub mod Private
pub mod Refused
pub mod SentScripts
pub mod ShownRightly
