-- Counted marks are taken off.
use Rattle.std.proofs.Common.{refl}
use Rattle.page_core.proofs.Counts.MarkLaws.{counted_on, swept}
use Rattle.page_core.proofs.marks.Marks.forget_counted.Goals as goal

pub returns-then-self-lt-SET : goal.returns-then-self-lt-SET
returns-then-self-lt-SET c =
    counted_on c.self.inside.current _ c.self.inside.stamps.items c.args.self.now c.self.view_is c.self.invariant refl
    c.if-self-lt-SET.true

pub returns-else-self-lt-SET : goal.returns-else-self-lt-SET
returns-else-self-lt-SET c =
    swept c.self.inside.current c.self.inside.stamps.items c.sweep.new.stamps.items c.args.self.now c.self.view_is
    c.sweep.ensures.swept c.sweep.ensures.count
