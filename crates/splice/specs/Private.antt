-- What functions of this crate do inside: no other crate cites these.
pub mod Walks
pub mod Sendings
pub mod JoinedSets
pub mod Parts
pub mod Surveys
pub mod Puts
pub mod Stops
pub mod Surveyed
pub mod Refusals
pub mod Sent
pub mod Inputs
