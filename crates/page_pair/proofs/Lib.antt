mod CarriedEnds
pub mod ClutLaws
mod CountedSegments
mod DumpLaws
mod EndLaws
mod KnownSets
pub mod ObjectLaws
pub mod OrderLaws
mod PagedBytes
mod PairLaws
pub mod PairSetLaws
mod PairSides
pub mod SendingLaws
mod SharedCluts
mod SharedNames
mod SharedObjects
pub mod SharingLaws
pub mod TimingLaws
pub mod UnitLaws
pub mod WritingLaws
