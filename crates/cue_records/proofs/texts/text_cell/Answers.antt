use Rattle.std.proofs.Common.{ap, ◌∙◌}
use Rattle.std.specs.Str.{is_utf8}
use Rattle.std.proofs.lemmas.Str.{IsUtf8-from_is_utf8}
use Rattle.csv.specs.Records.{fields_of}
use Rattle.cue_records.proofs.TextLaws.{is_utf8-cell}
use Rattle.cue_records.proofs.texts.text_cell.Goals as goal

pub unreachable-requires : goal.unreachable-requires
unreachable-requires c =
    c.in-Err.ensures.cases.0
    (IsUtf8-from_is_utf8 _
    (ap is_utf8 c.cell.ensures ∙ is_utf8-cell (fields_of c.args.row.now) c.args.place c.requires))
