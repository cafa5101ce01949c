-- The segments of a planned set as they are read, with the numbers that the set gives its objects: their order, and the
-- regions, CLUTs and objects that they carry.
pub mod ReadSets
pub mod ByPlace
pub mod Ordered
pub mod Parts
pub mod OwnIds
pub mod SetView
pub mod NoTwice
pub mod RegionViews
pub mod Lists
pub mod NeighbourPages
pub mod CarriedSets
pub mod FallingTimes
pub mod PlannedSets
