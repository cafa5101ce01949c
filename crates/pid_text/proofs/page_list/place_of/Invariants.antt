use Rattle.std.proofs.Common.{◌<◌, ℕ, slice_index_or}
use Rattle.pid_text.specs.declared.page_tally.PageTally.{PageTally}
use Rattle.pid_text.proofs.page_list.place_of.Given as goal

abbrev pub invariant-loop-place : goal.invariant-loop-place
invariant-loop-place l = (k : ℕ) (d : PageTally) → k < l.place → (slice_index_or l.entries k d).page < l.page
