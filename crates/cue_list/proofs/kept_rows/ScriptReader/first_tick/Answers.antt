use Rattle.std.proofs.Common.{◌∙◌}
use Rattle.csv.specs.Records.{fields_of}
use Rattle.cue_list.specs.SeenReaders.{seen_of}
use Rattle.cue_list.proofs.FirstTickLaws.{first-read}
use Rattle.cue_list.proofs.kept_rows.ScriptReader.first_tick.Goals as goal

pub returns : goal.returns
returns c = λ font number right.
    c.tick_read.ensures ∙ first-read font (seen_of c.args.self.now).past number (fields_of c.args.row.now) right
