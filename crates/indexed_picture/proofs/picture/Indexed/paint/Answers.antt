use Rattle.std.proofs.Common.{◌≡◌, ◌∙◌, sym, ap, subst, ◌+◌, ◌*◌, ◌++◌, ℕ, List, length, take, drop, arith}
use Rattle.std.proofs.lemmas.List.{take-append-le, take_all}
use Rattle.sub_base.specs.Picture.{Picture, picture_of}
use Rattle.indexed_picture.specs.Painting.{PaintsRow}
use Rattle.indexed_picture.proofs.PaintingLaws.{RowsPainted, RowsPainted-more}
use Rattle.indexed_picture.proofs.picture.Indexed.paint.Goals as goal

-- what is written back where a whole list was lent
written : (n : ℕ) (new old : List ℕ) → n ≡ length new → take n (new ++ drop (length new) old) ≡ new
written n new old same = take-append-le n new (drop (length new) old) (omega arith) ∙ take_all n new (omega arith)

pub loop-row-preserved : goal.loop-row-preserved
loop-row-preserved c =
    let inside = c.loop-row.self-inside in
    let width : c.from-width.result ≡ inside.width =
    c.from-width.ensures ∙ ap (λ (picture : Picture). picture.width) c.self.view_is
    ∙ sym c.loop-row.invariant.width in
    let start : (c.from.result + c.from-in-loop-row.result) * c.from-width.result + c.from-in-loop-row-2.result
    ≡ (c.args.y + c.loop-row.row) * inside.width + c.args.x = cc (width) in
    let Beneath : List ℕ
    → Type 0 = λ codes. PaintsRow c.row.result.now ((c.args.y + c.loop-row.row) * inside.width + c.args.x)
    c.args.see_through codes c.paint_row.new.codes in
    let At : ℕ
    → Type 0 = λ place. PaintsRow c.row.result.now place c.args.see_through c.deref_mut.result.now
    c.paint_row.new.codes in
    let paints = subst Beneath c.deref_mut.ensures.value (subst At start c.paint_row.ensures) in
    let P : List ℕ
    → Type 0 = λ codes. RowsPainted c.args.self.now c.args.over.now c.args.x c.args.y c.args.see_through
    (c.loop-row.row + 1)
    (picture_of inside.width inside.height inside.depth codes) in
    let same_length : length c.paint_row.new.codes ≡ length inside.codes.items =
    omega (arith, ap length c.deref_mut.ensures.value) in
    let whole : inside.codes.len ≡ length c.paint_row.new.codes = omega arith in
    subst P (sym (written inside.codes.len c.paint_row.new.codes inside.codes.items whole))
    (RowsPainted-more c.args.self.now c.args.over.now c.args.x c.args.y c.args.see_through c.requires
    c.height-row-end.ensures.picture
    c.loop-row.row (omega arith) inside.width inside.height inside.depth inside.codes.items c.paint_row.new.codes
    c.row.result.now
    c.loop-row.invariant c.row.ensures.value same_length paints)
