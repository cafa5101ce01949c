-- What functions of this crate do inside: no other crate cites these.
pub mod Packing
pub mod Reading
pub mod Columns
pub mod Strings
pub mod Spelling
pub mod Pairs
