use Rattle.std.proofs.Common.{◌∙◌, ap}
use Rattle.cue_list.specs.Private.Ticks.{near_by, near_with}
use Rattle.cue_list.proofs.TicksLaws.{near_with-not}
use Rattle.cue_list.proofs.ticks.Ticks.add_both.Goals as goal

pub add-requires-2-clause-apart : goal.add-requires-2-clause-apart
add-requires-2-clause-apart c =
    near_with-not (near_by c.args.self.now) (near_by c.add.new.self) c.args.start c.args.end c.in_ok-add.ensures.added
    c.requires.start c.requires.apart

pub returns-clause-added : goal.returns-clause-added
returns-clause-added c = c.in_ok-add-2.ensures.added ∙ ap (near_with c.args.start) c.in_ok-add.ensures.added
