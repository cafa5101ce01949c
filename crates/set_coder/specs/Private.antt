-- What functions of this crate do inside: no other crate cites these.
pub mod BothBlocks
pub mod SizesLeft
pub mod UnitParts
pub mod Measuring
pub mod Keeping
