pub mod KeptSets
pub mod StreamTests
pub mod SplicedSets
pub mod SplicedStream
pub mod SpliceWords
pub mod SpliceOutcome
pub mod Private
