pub mod EnteredCalls
pub mod DoneSets
