pub mod EnteredSums
pub mod EnteredLevels
pub mod EnteredLess
pub mod EnteredWithin
pub mod WholeLevels
pub mod EnteredDone
pub mod EnteredHeard
