-- What functions of this crate do inside: no other crate cites these.
pub mod Closing
pub mod CompileStatus
pub mod Entries
pub mod Generating
