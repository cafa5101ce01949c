-- What functions of this crate do inside: no other crate cites these.
pub mod Closing
pub mod Frames
pub mod Lanes
pub mod Naming
pub mod Stopping
pub mod Taking
