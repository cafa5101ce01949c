-- What functions of this crate do inside: no other crate cites these.
pub mod Ending
pub mod Objects
pub mod Reading
pub mod Sending
pub mod Timing
pub mod Units
pub mod Writing
