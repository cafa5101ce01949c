pub mod Listing
pub mod Order
pub mod Private
pub mod ServiceText
pub mod Services
pub mod Telling
