pub mod LevelLaws
pub mod MeterLaws
pub mod MovedLaws
