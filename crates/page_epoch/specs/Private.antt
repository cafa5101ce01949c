-- What functions of this crate do inside: no other crate cites these.
pub mod Changes
pub mod Layouts
pub mod Showing
pub mod RecordedInstants
