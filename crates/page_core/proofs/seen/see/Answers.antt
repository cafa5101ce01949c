-- A segment that is no second one is seen.
use Rattle.std.proofs.Common.{subst}
use Rattle.page_core.specs.Handed.{Matches}
use Rattle.page_core.proofs.Sets.Scanning.{passes}
use Rattle.page_core.proofs.seen.see.Goals as goal

pub returns-in-None : goal.returns-in-None
returns-in-None c before next are same =
    passes before next c.in-Ok.segment c.args.seen.now c.pass.new.self c.in-None.ensures.fault c.pass.ensures.flags are
    (subst (λ r. Matches r next) c.in-Ok.is same)
