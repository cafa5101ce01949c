-- What a set is by its state, and by whether an epoch is known.
use Rattle.std.proofs.Common.{◌∙◌, sym}
use Rattle.page_core.proofs.Handed.EpochLaws.{changes, acquires, acquires_known, normal_waits, normal_known}
use Rattle.page_core.proofs.epoch.start_of.Goals as goal

pub returns-in-ModeChange : goal.returns-in-ModeChange
returns-in-ModeChange c sets set page known one is = changes sets set page one (is ∙ c.in-ModeChange.is)

pub returns-then-known : goal.returns-then-known
returns-then-known c sets set page known one is =
    acquires_known sets set page one (is ∙ c.in-Acquisition.is) (sym c.if-known.true ∙ known)

pub returns-else-known : goal.returns-else-known
returns-else-known c sets set page known one is =
    acquires sets set page one (is ∙ c.in-Acquisition.is) (sym c.if-known.false ∙ known)

pub returns-then-known-2 : goal.returns-then-known-2
returns-then-known-2 c sets set page known one is =
    normal_known sets set page one (is ∙ c.in-Normal.is) (sym c.if-known-2.true ∙ known)

pub returns-else-known-2 : goal.returns-else-known-2
returns-else-known-2 c sets set page known one is =
    normal_waits sets set page one (is ∙ c.in-Normal.is) (sym c.if-known-2.false ∙ known)
