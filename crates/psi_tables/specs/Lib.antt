pub mod Crc
pub mod Laws
pub mod Layout
pub mod Loops
pub mod Sections
pub mod Services
pub mod Walking
pub mod Writing
