use Rattle.std.proofs.Common.{◌≡◌, ◌∙◌, ◌<◌, ℕ, length, map, get_or, sym, ap, subst, arith}
use Rattle.std.proofs.lemmas.Int.{ints}
use Rattle.std.proofs.Math.ListN.{get_or-map}
use Rattle.std.proofs.lemmas.List.{length-map}
use Rattle.bitmap_font.specs.Setting.{drawn_of}
use Rattle.bitmap_font.specs.Drawing.{PaintsWhere}
use Rattle.bitmap_font.proofs.DrawingLaws.{IsInkedBefore, IsInkedBefore-glyph}
use Rattle.bitmap_font.proofs.font.Font.draw.Goals as goal

pub loop-place-preserved : goal.loop-place-preserved
loop-place-preserved c =
    let before = c.loop-place in
    let here = c.place-item.result in
    let inside : before.place-index < length (map drawn_of c.args.placed.now) =
    omega (arith, length-map c.args.placed.now drawn_of) in
    let at : get_or (map drawn_of c.args.placed.now) before.place-index (drawn_of here) ≡ drawn_of here =
    get_or-map drawn_of c.args.placed.now before.place-index here ∙ ap drawn_of (sym c.place-item.is) in
    IsInkedBefore-glyph c.args.self.now (map drawn_of c.args.placed.now) before.place-index (drawn_of here) inside at _
    _
    (omega (arith, ints, c.left-left.ensures.value))
    (rw (← c.self.view_is) (omega (arith, ints, c.top-top.ensures.value)))
    c.args.width c.args.height c.args.ink c.args.codes.now before.codes c.draw_glyph.new.codes before.invariant
    c.draw_glyph.ensures

pub returns : goal.returns
returns c =
    let all : c.loop-place.place-index ≡ length (map drawn_of c.args.placed.now) =
    omega (arith, length-map c.args.placed.now drawn_of) in
    let P : ℕ
    → Type 0 = λ n. PaintsWhere (IsInkedBefore c.args.self.now (map drawn_of c.args.placed.now) n) c.args.width
    c.args.height c.args.ink c.args.codes.now c.loop-place.codes in
    subst P all c.loop-place.invariant
