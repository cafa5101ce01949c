-- What functions of this crate do inside: no other crate cites these.
pub mod Sending
pub mod SetUnits
pub mod Timing
