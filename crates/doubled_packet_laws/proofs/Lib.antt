pub mod Places
pub mod Copies
pub mod Received
pub mod Damaged
pub mod OtherPids
