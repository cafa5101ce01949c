pub mod Codes
pub mod SegmentLaws
