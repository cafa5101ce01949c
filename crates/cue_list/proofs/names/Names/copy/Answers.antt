use Rattle.cue_list.proofs.CopyLaws.{texts-copied}
use Rattle.cue_list.proofs.names.Names.copy.Goals as goal

pub returns : goal.returns
returns c = λ i name. texts-copied c.args.self.now.places c.in_ok-clone.field-0 c.in_ok-clone.ensures.cases name i
