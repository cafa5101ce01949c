-- The picture of a page memory row by row, and how long a set is painted.
pub mod ColouredBytes
pub mod DrawnRows
pub mod DrawnEntries
pub mod SceneRows
pub mod PackedLines
pub mod PagePushes
pub mod EntryWalks
pub mod Finds
pub mod PaintedTimes
