-- What functions of this crate do inside: no other crate cites these.
pub mod Listing
pub mod Tallying
pub mod Telling
pub mod Watching
