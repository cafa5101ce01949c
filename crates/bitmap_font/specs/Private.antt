-- What functions of this crate do inside: no other crate cites these.
pub mod Layout
pub mod Steps
pub mod Reader
