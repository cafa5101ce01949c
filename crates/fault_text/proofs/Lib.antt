mod FewSets
mod TallyLaws
mod LineLaws
mod ChangeLaws
mod SetLaws
pub mod FaultLaws
