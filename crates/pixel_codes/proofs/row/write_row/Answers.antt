use Rattle.std.proofs.lemmas.Result.{on_ok_weaker}
use Rattle.pixel_codes.proofs.RowStrings.{row_string, row_short}
use Rattle.pixel_codes.proofs.Strings.{read_as}
use Rattle.pixel_codes.proofs.row.write_row.Goals as goal

pub returns-else-is_err-clause-row : goal.returns-else-is_err-clause-row
returns-else-is_err-clause-row c =
    on_ok_weaker c.append_row-written.result
    (λ t. row_string c.args.depth c.args.codes.now c.args.out.now.items c.append_row-written.new.out.items t.0
    c.requires c.type_inv.out c.append_row-written.ensures.extends t.1 t.2)
    c.append_row-written.ensures.text

pub returns-else-is_err-clause-read_back : goal.returns-else-is_err-clause-read_back
returns-else-is_err-clause-read_back c =
    on_ok_weaker c.append_row-written.result
    (λ t. let r = row_string c.args.depth c.args.codes.now c.args.out.now.items c.append_row-written.new.out.items t.0
    c.requires c.type_inv.out c.append_row-written.ensures.extends t.1 t.2 in
    (r.0, r.1, read_as c.args.depth c.args.codes.now r.0 r.2))
    c.append_row-written.ensures.text

pub returns-else-is_err-clause-short : goal.returns-else-is_err-clause-short
returns-else-is_err-clause-short c =
    on_ok_weaker c.append_row-written.result
    (λ t. row_short c.args.depth c.args.codes.now c.args.out.now.items c.append_row-written.new.out.items t.0
    c.requires t.1 t.2)
    c.append_row-written.ensures.text
