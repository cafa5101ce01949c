-- What is set so far, with its marks, and the default colours beside it.
use Rattle.std.proofs.Common.{◌≡◌, [], length}
use Rattle.page_core.specs.Private.Marks.{AreMarked}
use Rattle.page_core.specs.Memory.{AreInks}
use Rattle.page_core.proofs.forget.reset_colours.Given as goal

abbrev pub invariant-loop-place : goal.invariant-loop-place
invariant-loop-place l =
    AreInks l.composition.set_entries l.inks × AreMarked l.composition.set_entries [] l.marks
    × (l.composition.size ≡ l.fn.composition.size)

abbrev pub decreases-loop-place : goal.decreases-loop-place
decreases-loop-place l = length l.composition.set_entries
