-- What functions of this crate do inside: no other crate cites these.
pub mod Running
pub mod RunningReads
pub mod RunningEnds
pub mod Cutting
pub mod Loading
pub mod Planning
pub mod Accepting
