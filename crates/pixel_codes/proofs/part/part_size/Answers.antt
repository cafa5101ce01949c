use Rattle.std.proofs.Common.{refl, arith}
use Rattle.pixel_codes.proofs.Parts.{string_part, table_part, is_string, is_table}
use Rattle.pixel_codes.proofs.part.part_size.Goals as goal

pub returns-in_ok-size-in-Some-PixelString-clause-part :
    goal.returns-in_ok-size-in-Some-PixelString-clause-part
returns-in_ok-size-in-Some-PixelString-clause-part c =
    let p = c.in-Some-PixelString in
    let first = is_string c.args.first c.head_of.result p.field-0 p.depth c.head_of.ensures p.is p.field-0-is in
    string_part c.args.region p.depth c.args.first c.args.body.now c.string_end.result
    c.in_ok-size-in-Some-PixelString.size first (c.if-is_no_deeper.ensures.0 refl) c.string_end.ensures.found
    c.in_ok-size-in-Some-PixelString.ensures.ok_part

pub returns-else-body-size-clause-part : goal.returns-else-body-size-clause-part
returns-else-body-size-clause-part c =
    let p = c.in-Some-Table in
    let first = is_table c.args.first c.head_of.result p.field-0 p.table c.head_of.ensures p.is p.field-0-is in
    table_part c.args.region p.table c.args.first c.args.body.now c.size_of_table-size.result first
    c.size_of_table-size.ensures (omega arith)
