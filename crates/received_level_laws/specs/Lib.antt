pub mod StreamCalls
pub mod ToldSets
pub mod Before
