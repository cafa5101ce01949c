use Rattle.std.proofs.Common.{sym, subst}
use Rattle.pid_text.specs.Private.Tallying.{HasTallied, with_one}
use Rattle.pid_text.proofs.TallyLaws.{other_unit, read_unit}
use Rattle.pid_text.proofs.pid_tally.PidTally.take_unit.Goals as goal

pub returns-in-Ok : goal.returns-in-Ok
returns-in-Ok c units tallied =
    subst (λ one. HasTallied (with_one units one) c.take_pes.new.self)
    (sym (read_unit c.args.unit.now _ c.in-Ok.ensures.exact)) (c.take_pes.ensures units tallied)

pub returns-in_default : goal.returns-in_default
returns-in_default c units tallied =
    subst (λ one. HasTallied (with_one units one) c.args.self.now)
    (sym (other_unit c.args.unit.now _ c.in_default.ensures.exact)) tallied
