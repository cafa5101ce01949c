pub mod MoreSegments
pub mod UsedWithin
