pub mod Definitions
pub mod Knowing
