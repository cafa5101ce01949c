-- How many nodes and bytes a set needs, and that there are as many.
pub mod RegionCounts
pub mod CountedMarks
pub mod DifferentItems
pub mod ClutCounts
pub mod PixelRoom
pub mod ProfileNodes
pub mod RegionWalks
pub mod MarkLaws
pub mod MarkTables
pub mod KeptCounts
pub mod ListLengths
pub mod SetBounds
pub mod SetCounts
pub mod HeldNodes
pub mod SetRoom
pub mod RegionNeeds
