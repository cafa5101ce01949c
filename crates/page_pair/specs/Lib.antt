pub mod PairDump
pub mod PairOutcome
pub mod PairSets
pub mod PairStream
pub mod PairTop
pub mod PairWords
pub mod Private
