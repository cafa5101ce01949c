use Rattle.std.proofs.Common.{◌≡◌, ◌≢◌, ◌∙◌, ◌∷◌, ◌<◌, inl, inr, sym, ap, length, drop, get_or, add-zero, arith}
use Rattle.std.proofs.lemmas.Bool.Decides.{nat_tests}
use Rattle.std.proofs.lemmas.List.{drop_all}
use Rattle.indexed_picture.proofs.PaintingLaws.{lt_or_le}
use Rattle.bitmap_font.specs.Words.{words}
use Rattle.bitmap_font.proofs.LineLaws.{words-drop, words-first}
use Rattle.bitmap_font.proofs.words.first_word.Goals as goal

pub returns-then-is_empty : goal.returns-then-is_empty
returns-then-is_empty c =
    let none : length c.split_at.result.1.now ≡ 0 = grind (arith, nat_tests) in
    words-drop c.leading_spaces.result c.args.line.now c.leading_spaces.ensures.within c.leading_spaces.ensures.before
    ∙ ap words (drop_all c.leading_spaces.result c.args.line.now (omega arith))

pub returns-else-is_empty : goal.returns-else-is_empty
returns-else-is_empty c =
    let rest = c.split_at.result.1.now in
    let e = c.word_len.result in
    let filled : 0 < length rest = grind (arith, nat_tests) in
    let head : get_or rest 0 0 ≡ get_or c.args.line.now c.leading_spaces.result 0 =
    c.split_at.ensures.by_index.2 0 0 ∙ ap (λ k. get_or c.args.line.now k 0) (add-zero c.leading_spaces.result) in
    let no_space : get_or rest 0 0 ≢ 32 = λ e. c.leading_spaces.ensures.after (omega arith) (sym head ∙ e) in
    let some : 0 < e = elim (lt_or_le 0 e) [
      | inl positive ↦ positive
      | inr zero_len ↦
          let none : e ≡ 0 = omega arith in
          absurd (no_space (ap (λ k. get_or rest k 0) (sym none) ∙ c.word_len.ensures.after (omega arith)))
    ] in
    words-drop c.leading_spaces.result c.args.line.now c.leading_spaces.ensures.within c.leading_spaces.ensures.before
    ∙ ap words (sym c.split_at.ensures.back)
    ∙ words-first rest e some c.word_len.ensures.within c.word_len.ensures.before c.word_len.ensures.after
    ∙ ap (λ w. w ∷ words (drop e rest)) (sym c.split_at-else-is_empty.ensures.front)
    ∙ ap (λ r. c.split_at-else-is_empty.result.0.now ∷ words r) (sym c.split_at-else-is_empty.ensures.back)
