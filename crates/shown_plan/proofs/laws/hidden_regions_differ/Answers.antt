use Rattle.shown_plan.proofs.TwoRegions.ExampleDiffers.{hidden_example}
use Rattle.shown_plan.proofs.laws.hidden_regions_differ.Goals as goal

pub returns : goal.returns
returns c = hidden_example
