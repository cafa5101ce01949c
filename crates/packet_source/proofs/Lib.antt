pub mod GaveLaws
pub mod JoinedPackets
mod ReaderLaws
