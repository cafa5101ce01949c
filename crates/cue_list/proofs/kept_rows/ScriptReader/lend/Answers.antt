use Rattle.std.proofs.Common.{sym, subst, List}
use Rattle.bitmap_font.specs.Font.{FontValue}
use Rattle.cue_records.specs.Rows.{Row}
use Rattle.cue_list.specs.TakenRows.{StandsFor}
use Rattle.cue_list.specs.Private.Taken.{kept_of}
use Rattle.cue_list.specs.declared.reader.Reader.{Reader}
use Rattle.cue_list.proofs.kept_rows.ScriptReader.lend.Goals as goal

pub lent_of-requires-clause-stands : goal.lent_of-requires-clause-stands
lent_of-requires-clause-stands c =
    subst (λ (r : Reader). ∥ ((font : FontValue) × (rows : List Row) × StandsFor font rows (kept_of r)) ∥₁)
    (sym c.replace-kept.ensures.value) c.requires.stands
