use Rattle.std.proofs.Common.{◌≡◌, ◌∙◌, false, length, get_or, sym, subst, arith}
use Rattle.std.proofs.lemmas.List.{get_or_default}
use Rattle.sub_base.specs.Colour.{clear}
use Rattle.sub_base.specs.declared.colour.Colour.{Colour}
use Rattle.command_text.specs.PictureText.{is_same_colour}
use Rattle.command_text.proofs.PictureLaws.{runs_of-first, not_first}
use Rattle.command_text.proofs.picture_text.first_run.Goals as goal

abbrev black : Colour
black = record { y = 0; cr = 0; cb = 0; t = 0 }

pub returns-then-not-is_same_colour-clause-run : goal.returns-then-not-is_same_colour-clause-run
returns-then-not-is_same_colour-clause-run c =
    let row = c.args.row.now in
    let first : get_or row 0 black ≡ get_or row 0 clear = get_or_default row 0 black clear c.requires in
    let here : get_or row c.loop-place.place black ≡ get_or row c.loop-place.place clear =
    get_or_default row c.loop-place.place black clear c.loop-place-test.true in
    let differs = sym c.is_same_colour.ensures ∙ c.if-not-is_same_colour.true in
    let P : Colour → Colour → Type 0 = λ a b. is_same_colour a b ≡ false in
    runs_of-first row c.loop-place.place (get_or row 0 clear) (not_first row black c.loop-place.place differs)
    (omega arith)
    (λ k below. c.loop-place.invariant k below ∙ first)
    (λ inside. subst (P (get_or row 0 clear)) here
    (subst (λ (a : Colour). P a (get_or row c.loop-place.place black)) first differs))

pub returns-clause-run : goal.returns-clause-run
returns-clause-run c =
    let row = c.args.row.now in
    let first : get_or row 0 black ≡ get_or row 0 clear = get_or_default row 0 black clear c.requires in
    runs_of-first row (length row) (get_or row 0 clear) c.requires (omega arith)
    (λ k below. c.loop-place.invariant k (omega arith) ∙ first)
    (λ inside. absurd (omega arith))
