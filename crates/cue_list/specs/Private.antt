-- What functions of this crate do inside: no other crate cites these.
pub mod FirstTicks
pub mod HasRead
pub mod Names
pub mod Standing
pub mod State
pub mod Ticks
pub mod Taken
