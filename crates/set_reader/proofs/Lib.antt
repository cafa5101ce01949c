pub mod Arrivals
pub mod Gatherings
pub mod Feeds
