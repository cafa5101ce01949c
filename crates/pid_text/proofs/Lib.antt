pub mod ListedPages
pub mod ListingLaws
pub mod NotedLaws
pub mod Tallies
pub mod TallyLaws
pub mod WatchLaws
pub mod PidsLaws
