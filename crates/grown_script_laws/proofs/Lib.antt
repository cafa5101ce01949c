pub mod GrownCluts
pub mod GrownCues
pub mod GrownInstants
pub mod GrownPackets
pub mod GrownPlans
pub mod GrownRows
pub mod GrownSets
pub mod GrowthLaws
