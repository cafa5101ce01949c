-- Object segments that are taken: the regions that an object paints, what it writes there, and its blocks in the depth
-- of a region.
pub mod Written
pub mod BlockDepths
pub mod Rewriting
pub mod Repainting
pub mod PaintedRegions
pub mod ObjectSteps
pub mod ObjectRegions
pub mod ObjectFaultLaws
pub mod EverywhereLaws
pub mod EverywhereWalks
pub mod EverywhereWrites
pub mod EverywhereKept
pub mod EverywhereCodes
pub mod ObjectMemory
pub mod ObjectWalks
pub mod KnownObjects
