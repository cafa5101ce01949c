-- What a receiver shows of the sets of a plan that come to it, and what its page memory holds.
pub mod DrawnObject
pub mod ReadSegments
pub mod ComingSets
pub mod SetPaintings
pub mod ShownSets
pub mod HeldSets
pub mod EnteredRuns
pub mod RunViews
pub mod EnteredTimes
pub mod FirstTimes
pub mod SentShown
pub mod SentEntered
pub mod CompiledShown
pub mod PlannedRegions
pub mod OneView
pub mod ScriptExample
