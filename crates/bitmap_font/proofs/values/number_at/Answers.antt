use Rattle.std.proofs.Common.{◌≡◌, ◌∙◌, sym, ap, Some, None, option_map, option_and_then, ◌≤ℤ◌, arith}
use Rattle.std.proofs.lemmas.Int.{ints}
use Rattle.bitmap_font.specs.Words.{within, capped, number_of}
use Rattle.bitmap_font.proofs.ValueLaws.{capped_outside}
use Rattle.bitmap_font.proofs.values.number_at.Goals as goal
use Rattle.bitmap_font.proofs.values.number_at.Goals.{else-low-number-via-then-low-number+else-number-high, else-low-number-via-else-low-number}

pub returns-else-low-number-clause-value : goal.returns-else-low-number-clause-value
returns-else-low-number-clause-value c =
    let spelled : option_map capped (number_of c.in_ok-word.word.now) ≡ Some c.in_ok-number.number =
    sym c.in_ok-number.ensures in
    let outside : c.args.low ≤ℤ c.in_ok-number.number → c.in_ok-number.number ≤ℤ c.args.high → ⊥ =
    λ above below. elim c.else-low-number.branch [
      | else-low-number-via-then-low-number+else-number-high w ↦ omega (arith, ints)
      | else-low-number-via-else-low-number w ↦ omega (arith, ints)
    ] in
    let none : option_and_then (within c.args.low c.args.high) (number_of c.in_ok-word.word.now) ≡ None =
    capped_outside c.args.low c.args.high (number_of c.in_ok-word.word.now) c.in_ok-number.number c.requires.low
    c.requires.high spelled outside in
    sym (ap (λ word. option_and_then (within c.args.low c.args.high) (option_and_then number_of word))
    (sym c.in_ok-word.ensures) ∙ none)
