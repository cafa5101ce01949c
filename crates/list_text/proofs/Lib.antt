pub mod ListLaws
pub mod ListingLaws
