use Rattle.std.proofs.Common.{◌≡◌, ◌≢◌, ◌∙◌, ◌+◌, ◌<◌, max, Some, refl, sym, ap, get_or, arith}
use Rattle.std.proofs.lemmas.List.{get_or_default}
use Rattle.bitmap_font.specs.declared.layout.PlacedGlyph.{PlacedGlyph}
use Rattle.bitmap_font.specs.Font.{glyph_of}
use Rattle.bitmap_font.proofs.SettingLaws.{LaidOut-feed, LaidOut-glyph}
use Rattle.bitmap_font.proofs.font.Font.lay_out.Goals as goal
use Rattle.bitmap_font.proofs.font.Font.lay_out.Goals.{then-character-eq10, else-character-eq10+in-Some+in_ok-push}

pub loop-character-preserved : goal.loop-character-preserved
loop-character-preserved c =
    let before = c.loop-character in
    let here : get_or c.args.characters.now before.character-index 0 ≡ c.character-item.result =
    get_or_default c.args.characters.now before.character-index 0 c.character-item.result c.loop-character-test.true
    ∙ sym c.character-item.is in
    elim c.if-character-eq10.branch [
      | then-character-eq10 w ↦
          rw (w.placed-is, w.pen-is, w.width-is, w.line-is)
          (LaidOut-feed c.args.self.now c.args.characters.now before.character-index c.loop-character-test.true
          before.placed.items before.pen before.width before.line
          before.invariant (here ∙ w.if-character-eq10.true))
      | else-character-eq10+in-Some+in_ok-push w ↦
          let new : PlacedGlyph = record { glyph = w.in-Some.glyph; pen = before.pen; line = before.line } in
          let found : glyph_of c.args.self.now (get_or c.args.characters.now before.character-index 0)
          ≡ Some w.in-Some.glyph.now =
          ap (glyph_of c.args.self.now) here ∙ sym w.in-Some.ensures in
          let other : get_or c.args.characters.now before.character-index 0 ≢ 10 =
          λ feed. w.if-character-eq10.false (sym here ∙ feed) in
          let advance : w.in-Some.glyph.now.advance < 256 = omega arith in
          let pen : c.if-character-eq10.pen ≡ before.pen + w.in-Some.glyph.now.advance = omega arith in
          let width : c.if-character-eq10.width ≡ max before.width c.if-character-eq10.pen = omega arith in
          rw (w.placed-is, w.in_ok-push.ensures.items, w.line-is)
          (LaidOut-glyph c.args.self.now c.args.characters.now before.character-index c.loop-character-test.true
          before.placed.items before.pen before.width before.line
          before.invariant other w.in-Some.glyph.now found new refl refl refl advance c.if-character-eq10.pen
          c.if-character-eq10.width pen width)
    ]
