-- Rows as they are let in, and the scripts that they are.
pub mod TakenRows
pub mod GrownScripts
-- The packets that are due.
pub mod ZippedLists
pub mod LateSlots
pub mod DuePackets
pub mod DueFronts
pub mod OneBatch
-- The packets that an outlet writes.
pub mod OutletLaws
-- Pieces of a script.
pub mod PieceLaws
-- Runs: pieces that go in, the reads that they come by, and the end.
pub mod DueFurther
pub mod RunLaws
pub mod ReadLaws
pub mod TellLaws
-- What is due while a script goes in.
pub mod DueRows
-- A record behind those that were let in.
pub mod LeftLaws
pub mod LetRows
pub mod LiveWrites
