-- The stamps before the index are swept, and the others are as they were.
use Rattle.std.proofs.Common.{◌≡◌, ◌==◌, ◌≤◌, ◌<◌, ℕ, cond, slice_index_or}
use Rattle.page_core.specs.Private.Marks.{all_set}
use Rattle.page_core.proofs.marks.sweep_all.Given as goal

abbrev pub invariant-loop-index : goal.invariant-loop-index
invariant-loop-index l =
    ((j : ℕ) → j < l.index
    → slice_index_or l.stamps j 0 ≡ cond (slice_index_or l.fn.stamps j 0 == all_set) all_set 0)
    × ((j : ℕ) → l.index ≤ j → slice_index_or l.stamps j 0 ≡ slice_index_or l.fn.stamps j 0)
