pub mod CutPackets
pub mod EveryStreamLaid
pub mod Fronts
pub mod LaidPackets
pub mod SectionsCome
pub mod WholeSections
pub mod WrittenPieces
