use Rattle.cue_list.proofs.StandsLaws.{stands-first}
use Rattle.cue_list.proofs.kept_rows.ScriptReader.new.Goals as goal

pub returns : goal.returns
returns c = λ font. stands-first font _ (c.new.ensures.past font) c.new.ensures.pictures
