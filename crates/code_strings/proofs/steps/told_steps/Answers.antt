use Rattle.code_strings.proofs.Told.{none_told}
use Rattle.code_strings.proofs.steps.told_steps.Goals as goal

pub returns-in-Eight-clause-told : goal.returns-in-Eight-clause-told
returns-in-Eight-clause-told c = none_told c.args.depth c.args.byte
