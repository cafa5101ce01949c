pub mod ListLines
pub mod ListText
pub mod Listing
