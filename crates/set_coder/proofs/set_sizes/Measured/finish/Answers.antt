use Rattle.std.proofs.Common.{sym, subst}
use Rattle.std.proofs.lemmas.Result.{on_ok_weaker}
use Rattle.pes_packets.specs.Units.{AreUnitLengths}
use Rattle.set_coder.proofs.set_sizes.Measured.finish.Goals as goal

pub returns-clause-units : goal.returns-clause-units
returns-clause-units c =
    on_ok_weaker c.close.result
    (λ units sizes measured. subst (AreUnitLengths sizes) (sym units)
    (c.length-last.ensures.lengths sizes c.args.self.now.units.items measured.taken))
    c.close.ensures.units
