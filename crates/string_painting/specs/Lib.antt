pub mod Codes
pub mod Painting
pub mod Private
