pub mod DumpText
pub mod Dumping
