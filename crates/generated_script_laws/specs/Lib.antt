pub mod Listed
pub mod SmallLoads
