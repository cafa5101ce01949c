use Rattle.std.proofs.Common.{arith}
use Rattle.std.proofs.lemmas.Grind.{common_steps}
use Rattle.cue_list.specs.Private.Ticks.{named_by}
use Rattle.cue_list.proofs.TicksLaws.{near-with}
use Rattle.cue_list.proofs.ticks.Ticks.add.Goals as goal

pub returns-clause-added : goal.returns-clause-added
returns-clause-added c = λ i other.
    near-with (named_by c.args.self.now) (named_by (record { spans = c.insert.new.self })) c.args.tick other
    c.requires.spans c.requires.apart
    (λ span. grind (arith, common_steps, c.in_ok-insert.ensures.updates.0 span)) i
