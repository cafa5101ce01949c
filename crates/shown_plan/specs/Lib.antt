pub mod HoldsScript
pub mod NamedSets
pub mod NeighbourPages
pub mod WithinNeed
pub mod HiddenRegions
