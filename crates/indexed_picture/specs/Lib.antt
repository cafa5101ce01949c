pub mod Making
pub mod Painting
