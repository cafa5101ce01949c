use Rattle.std.proofs.Common.{◌<◌, ◌∙◌, ap, sym, length, arith}
use Rattle.std.specs.Str.{is_utf8}
use Rattle.csv.specs.Records.{fields_of}
use Rattle.cue_records.proofs.TextLaws.{is_text_row-next, is_text_row-not}
use Rattle.cue_records.proofs.texts.is_text_row.Goals as goal

pub returns-then-not-is_utf8 : goal.returns-then-not-is_utf8
returns-then-not-is_utf8 c =
    let within : c.loop-place.place < length (fields_of c.args.row.now) = omega arith in
    sym (sym c.loop-place.invariant
    ∙ is_text_row-not (fields_of c.args.row.now) c.loop-place.place within
    (ap is_utf8 (sym c.cell.ensures) ∙ (sym c.is_utf8.ensures ∙ c.if-not-is_utf8.true)))

pub loop-place-preserved : goal.loop-place-preserved
loop-place-preserved c =
    let within : c.loop-place.place < length (fields_of c.args.row.now) = omega arith in
    sym (is_text_row-next (fields_of c.args.row.now) c.loop-place.place within
    (ap is_utf8 (sym c.cell.ensures) ∙ (sym c.is_utf8.ensures ∙ c.if-not-is_utf8.false)))
    ∙ c.loop-place.invariant
