pub mod RawSets
pub mod SentStream
pub mod EnteredSets
