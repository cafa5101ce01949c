-- What functions of this crate do inside: no other crate cites these.
pub mod Least
pub mod Walk
pub mod Cursor
pub mod Stream
pub mod Spelling
pub mod Rows
pub mod Maximal
