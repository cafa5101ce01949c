use Rattle.std.proofs.Common.{◌≡◌, ◌∙◌, ◌+◌, ◌*◌, ◌≤◌, inl, inr, List, reverse, map, ap, subst, arith}
use Rattle.bitmap_font.specs.Font.{FontValue}
use Rattle.bitmap_font.specs.Setting.{Drawn, IsDrawn, HasSides, IsSetting, drawn_of, drawn_glyphs, line_after, widest_line}
use Rattle.bitmap_font.proofs.SettingLaws.{IfOk-with, high_enough}
use Rattle.bitmap_font.proofs.font.Font.set_characters.Goals as goal
use Rattle.bitmap_font.proofs.font.Font.set_characters.Goals.{then-layout-gt-MOST_WIDE-via-then-layout-gt-MOST_WIDE, then-layout-gt-MOST_WIDE-via-else-layout-gt-MOST_WIDE+then-layout-gt-MOST_HIGH, then-layout-gt-MOST_WIDE-via-else-layout-gt-MOST_WIDE+else-layout-gt-MOST_HIGH+then-layout-box_height-gt-MOST_HIGH}

pub returns-then-layout-gt-MOST_WIDE-clause-refused : goal.returns-then-layout-gt-MOST_WIDE-clause-refused
returns-then-layout-gt-MOST_WIDE-clause-refused c =
    let laid_out = c.in_ok-layout.ensures.laid_out in
    let box_height : c.from-box_height.result ≡ c.args.self.now.height =
    c.from-box_height.ensures ∙ ap (λ (font : FontValue). font.height) c.self.view_is in
    let high : 1 ≤ c.from-box_height.result = omega (arith, c.self.invariant.0.high.0) in
    let same : c.in_ok-layout.layout.lines * c.from-box_height.result
    ≡ (line_after (reverse c.args.characters.now) + 1) * c.args.self.now.height = cc (laid_out.lines, box_height)
    in
    let wide : 1 ≤ widest_line c.args.self.now (reverse c.args.characters.now) = omega (arith, laid_out.width) in (
      laid_out.each,
      wide,
      elim c.then-layout-gt-MOST_WIDE.branch [
        | then-layout-gt-MOST_WIDE-via-then-layout-gt-MOST_WIDE w ↦ inl (omega (arith, laid_out.width))
        | then-layout-gt-MOST_WIDE-via-else-layout-gt-MOST_WIDE+then-layout-gt-MOST_HIGH w ↦
            inr (omega
            (arith, same, high_enough c.in_ok-layout.layout.lines c.from-box_height.result high (omega arith)))
        | then-layout-gt-MOST_WIDE-via-else-layout-gt-MOST_WIDE+else-layout-gt-MOST_HIGH+then-layout-box_height-gt-MOST_HIGH w ↦
            inr (omega (arith, same))
      ],
    )

pub returns-clause-set : goal.returns-clause-set
returns-clause-set c =
    let laid_out = c.in_ok-layout.ensures.laid_out in
    let box_height : c.from-box_height.result ≡ c.args.self.now.height =
    c.from-box_height.ensures ∙ ap (λ (font : FontValue). font.height) c.self.view_is in
    let same : c.in_ok-layout.layout.lines * c.from-box_height.result
    ≡ (line_after (reverse c.args.characters.now) + 1) * c.args.self.now.height = cc (laid_out.lines, box_height)
    in
    let glyphs : map drawn_of c.deref.result.now ≡ drawn_glyphs c.args.self.now (reverse c.args.characters.now) =
    ap (map drawn_of) c.deref.ensures.value ∙ laid_out.placed in
    IfOk-with (IsDrawn c.args.self.now (map drawn_of c.deref.result.now) c.args.fg c.args.bg)
    (HasSides c.in_ok-layout.layout.width (c.in_ok-layout.layout.lines * c.from-box_height.result) c.args.depth)
    (IsSetting c.args.self.now c.args.characters.now c.args.fg c.args.bg c.args.depth)
    c.picture_of.result c.picture_of.ensures.drawn c.picture_of.ensures.sides
    (λ picture drawn sides. record {
      sides = record { wide = sides.wide ∙ laid_out.width; high = sides.high ∙ same; deep = sides.deep };
      drawn = subst (λ (glyphs : List Drawn). IsDrawn c.args.self.now glyphs c.args.fg c.args.bg picture) glyphs drawn;
    })
