-- All that was handed to a core: the sets and losses before, the page that stands after them, and the verdict on a set.
pub mod CoreCounts
pub mod EpochLaws
pub mod Pasts
pub mod ShownScenes
pub mod Standings
pub mod Verdicts
pub mod SetVerdicts
