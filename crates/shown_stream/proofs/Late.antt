-- A stream that is entered late: the rest of a unit, the sets that come whole, and the anchors and ticks that suit.
pub mod LateSegments
pub mod LateRest
pub mod LatePlaces
pub mod LatePlan
pub mod LateCompiled
pub mod LateGood
pub mod LateCuts
pub mod LateTicks
