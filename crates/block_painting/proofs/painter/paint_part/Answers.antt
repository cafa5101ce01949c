use Rattle.std.proofs.Common.{◌≡◌, ◌∙◌, sym, ap, false, true, Some, ℕ, take, drop, arith}
use Rattle.std.proofs.lemmas.List.{nil_from_length}
use Rattle.stream_syntax.specs.PixelBlocks.{table_size}
use Rattle.pixel_codes.specs.Maps.{with_table}
use Rattle.pixel_codes.specs.declared.part.Head.TheVariants.{PixelString, Table, LineEnd}
use Rattle.block_painting.specs.Private.Heads.{Begins}
use Rattle.block_painting.specs.Private.Pens.{stand_of}
use Rattle.block_painting.proofs.Walks.{no_bytes, no_head, ended_said, deep_said, line_end_said, table_said, cut_said}
use Rattle.block_painting.proofs.painter.paint_part.Goals as goal

pub returns-in_default : goal.returns-in_default
returns-in_default c =
    let bytes = c.args.pen.now.rest.now in
    ended_said c.args.target c.args.store.now (stand_of c.args.pen.now)
    (λ depth parts are. no_bytes depth parts bytes (nil_from_length bytes c.in_default.ensures.cases) are)

pub returns-in-None : goal.returns-in-None
returns-in-None c =
    ended_said c.args.target c.args.store.now (stand_of c.args.pen.now)
    (λ depth parts are. no_head depth parts c.in-Some.first.now c.args.pen.now.rest.now c.in-Some.body.now
    c.in-Some.ensures.cases.0 (sym c.head_of.ensures ∙ c.in-None.is) are)

pub returns-in-Some-LineEnd : goal.returns-in-Some-LineEnd
returns-in-Some-LineEnd c =
    let begins : Begins LineEnd c.args.pen.now.rest.now c.in-Some.body.now = (
      c.in-Some.first.now,
      c.in-Some.ensures.cases.0,
      sym c.head_of.ensures ∙ c.in-Some-LineEnd.is ∙ ap Some c.in-Some-LineEnd.field-0-is,
    ) in
    line_end_said c.args.target c.args.store.now (stand_of c.args.pen.now) (stand_of c.end_line.new.self)
    c.in-Some.body.now begins c.end_line.ensures

pub returns-then-body-size : goal.returns-then-body-size
returns-then-body-size c =
    let kind = c.in-Some-Table.kind in
    let begins : Begins (Table kind) c.args.pen.now.rest.now c.in-Some.body.now = (
      c.in-Some.first.now,
      c.in-Some.ensures.cases.0,
      sym c.head_of.ensures ∙ c.in-Some-Table.is ∙ ap Some c.in-Some-Table.field-0-is,
    ) in
    cut_said c.args.target c.args.store.now (stand_of c.args.pen.now) kind c.in-Some.body.now begins
    (omega (arith, c.if-body-size.true, c.size_of_table-size.ensures))

pub returns-else-body-size : goal.returns-else-body-size
returns-else-body-size c =
    let kind = c.in-Some-Table.kind in
    let begins : Begins (Table kind) c.args.pen.now.rest.now c.in-Some.body.now = (
      c.in-Some.first.now,
      c.in-Some.ensures.cases.0,
      sym c.head_of.ensures ∙ c.in-Some-Table.is ∙ ap Some c.in-Some-Table.field-0-is,
    ) in
    let body = c.in-Some.body.now in
    let from = stand_of c.args.pen.now in
    let size = c.size_of_table-size.ensures in
    let table : c.split_at.result.0.now ≡ take (table_size kind) body =
    c.split_at.ensures.front ∙ ap (λ (n : ℕ). take n body) size in
    let after : c.split_at.result.1.now ≡ drop (table_size kind) body =
    c.split_at.ensures.back ∙ ap (λ (n : ℕ). drop n body) size in
    table_said c.args.target c.args.store.now from (stand_of c.pass_table.new.self) kind
    body begins
    (c.pass_table.ensures ∙ (λ i. record {
      x = from.x;
      row = from.row;
      rest = after i;
      maps = with_table kind (table i) from.maps;
    }))

pub returns-then-not-is_no_deeper : goal.returns-then-not-is_no_deeper
returns-then-not-is_no_deeper c =
    let depth = c.in-Some-PixelString.depth in
    let begins : Begins (PixelString depth) c.args.pen.now.rest.now c.in-Some.body.now = (
      c.in-Some.first.now,
      c.in-Some.ensures.cases.0,
      sym c.head_of.ensures ∙ c.in-Some-PixelString.is ∙ ap Some c.in-Some-PixelString.field-0-is,
    ) in
    deep_said c.args.target c.args.store.now (stand_of c.args.pen.now) depth c.in-Some.body.now begins
    (λ fits. let e : false ≡ true = sym c.if-not-is_no_deeper.true ∙ c.is_no_deeper.ensures.1 fits in absurd cc)
