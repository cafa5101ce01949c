-- CLUT segments that are taken: the entries that they set, and the nodes of these in the pool.
pub mod ColourSteps
pub mod ColourNodes
pub mod ClutLaws
pub mod ClutNodes
pub mod KnownCluts
pub mod ClutSegments
pub mod InkTables
pub mod PlacedLaws
pub mod Popping
