pub mod Bits
pub mod Table
pub mod First
pub mod DeepFirst
pub mod Chosen
pub mod Writing
pub mod Rows
pub mod RowStrings
pub mod Strings
pub mod Parts
pub mod Walk
pub mod Blocks
pub mod Steps
pub mod Sizes
mod RowSizes
mod LaneRuns
mod RunEnds
pub mod BlockParts
pub mod OneBlock
pub mod OneString
mod RunTable
