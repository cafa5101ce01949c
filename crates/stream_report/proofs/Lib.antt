pub mod ClockEndLaws
pub mod EndLaws
pub mod FrontLaws
pub mod LevelLaws
pub mod PastLaws
pub mod PictureLaws
pub mod PidsLaws
pub mod TickLaws
pub mod UntilLaws
mod FaultsAnswered
