pub mod AnyCuttingLemmas
pub mod Adaptation
pub mod OneStep
pub mod UnitLemmas
pub mod WrittenPackets
