-- No entry is marked.
use Rattle.std.proofs.Common.{refl}
use Rattle.page_core.proofs.Counts.MarkLaws.{first_stamps, none_marked}
use Rattle.page_core.proofs.marks.Marks.make.Goals as goal

pub invariant_of-result : goal.invariant_of-result
invariant_of-result c = first_stamps _ c.in_ok-no_stamps.field-0.items refl c.in_ok-no_stamps.ensures

pub returns : goal.returns
returns c = none_marked _ _ c.in_ok-no_stamps.field-0.items refl refl c.in_ok-no_stamps.ensures
