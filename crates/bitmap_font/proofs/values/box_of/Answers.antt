use Rattle.std.proofs.Common.{◌≡◌, ◌≤ℤ◌, ◌∙◌, ap, Some, ℤ, pos, nat_abs, arith}
use Rattle.std.proofs.lemmas.Int.{ints}
use mir.Syntax.{w16, w32}
use mir.Val.{to_z, of_z}
use Rattle.bitmap_font.specs.Words.{words, number_within}
use Rattle.bitmap_font.proofs.ValueLaws.{box_from, nat_abs_between}
use Rattle.bitmap_font.proofs.values.box_of.Goals as goal

pub returns-clause-value : goal.returns-clause-value
returns-clause-value c =
    let line_words = words c.args.line.now in
    let least : to_z w32 (of_z w32 c.from.result) ≡ pos c.args.least = omega (arith, ints, c.from.ensures) in
    let least_too : to_z w32 (of_z w32 c.from-2.result) ≡ pos c.args.least = omega (arith, ints, c.from-2.ensures) in
    let width : to_z w32 (of_z w32 c.in_ok-width.width) ≡ c.in_ok-width.width =
    omega (arith, ints, c.in_ok-width.ensures.inside) in
    let height : to_z w32 (of_z w32 c.in_ok-height.height) ≡ c.in_ok-height.height =
    omega (arith, ints, c.in_ok-height.ensures.inside) in
    let left : to_z w16 (of_z w16 (to_z w32 (of_z w32 c.in_ok-left.left))) ≡ c.in_ok-left.left =
    omega (arith, ints, c.in_ok-left.ensures.inside) in
    let bottom : to_z w16 (of_z w16 (to_z w32 (of_z w32 c.in_ok-bottom.bottom))) ≡ c.in_ok-bottom.bottom =
    omega (arith, ints, c.in_ok-bottom.ensures.inside) in
    (λ i. Some (record { width = nat_abs (width i); height = nat_abs (height i); left = left i; bottom = bottom i }))
    ∙ box_from line_words c.args.least c.in_ok-width.width c.in_ok-height.height c.in_ok-left.left
    c.in_ok-bottom.bottom
    (c.in_ok-width.ensures.value ∙ ap (λ (low : ℤ). number_within line_words 1 low (pos 256)) least)
    (c.in_ok-height.ensures.value ∙ ap (λ (low : ℤ). number_within line_words 2 low (pos 256)) least_too)
    c.in_ok-left.ensures.value c.in_ok-bottom.ensures.value

pub returns-clause-inside : goal.returns-clause-inside
returns-clause-inside c =
    let wide : pos c.args.least ≤ℤ c.in_ok-width.width =
    omega (arith, ints, c.in_ok-width.ensures.inside, c.from.ensures) in
    let high : pos c.args.least ≤ℤ c.in_ok-height.height =
    omega (arith, ints, c.in_ok-height.ensures.inside, c.from-2.ensures) in
    let width : to_z w32 (of_z w32 c.in_ok-width.width) ≡ c.in_ok-width.width =
    omega (arith, ints, c.in_ok-width.ensures.inside, wide) in
    let height : to_z w32 (of_z w32 c.in_ok-height.height) ≡ c.in_ok-height.height =
    omega (arith, ints, c.in_ok-height.ensures.inside, high) in
    record {
      wide = rw width (nat_abs_between c.in_ok-width.width c.args.least 256 wide c.in_ok-width.ensures.inside.1);
      high = rw height (nat_abs_between c.in_ok-height.height c.args.least 256 high c.in_ok-height.ensures.inside.1);
      left =
          record {
            low = omega (arith, ints, c.in_ok-left.ensures.inside);
            high = omega
                (arith, ints, c.in_ok-left.ensures.inside);
          };
      bottom =
          record {
            low = omega (arith, ints, c.in_ok-bottom.ensures.inside);
            high = omega
                (arith, ints, c.in_ok-bottom.ensures.inside);
          };
    }
