pub mod CloseLaws
pub mod EndLaws
pub mod FinishLaws
pub mod TellLaws
pub mod WalkLaws
