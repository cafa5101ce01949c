-- What functions of this crate do inside: no other crate cites these.
pub mod Following
pub mod Kinds
pub mod Steps
