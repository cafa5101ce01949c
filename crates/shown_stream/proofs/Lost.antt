-- A stream of which packets are lost: the units that arrive, the sets that come whole, and what is shown between.
pub mod LostPieces
pub mod LostKinds
pub mod LostUnits
pub mod LostStretches
pub mod LostSets
pub mod LostSteps
pub mod LostRuns
pub mod LostKept
pub mod LostWalk
pub mod LostViews
pub mod LostCuts
pub mod LostPlaces
pub mod LostFits
pub mod LostCompiled
pub mod LostGood
pub mod LostShown
