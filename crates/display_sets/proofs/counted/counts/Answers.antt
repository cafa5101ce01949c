use Rattle.std.proofs.Common.{◌∙◌}
use Rattle.display_sets.proofs.CountedLaws.{some_counts}
use Rattle.display_sets.proofs.counted.counts.Goals as goal

pub returns : goal.returns
returns c = c.is_some.ensures ∙ some_counts c.args.pages c.args.field.now _ c.next_counted.ensures
