pub mod Handed
pub mod Sets
pub mod Regions
pub mod ColourTables
pub mod Objects
pub mod Counts
pub mod Pictures
