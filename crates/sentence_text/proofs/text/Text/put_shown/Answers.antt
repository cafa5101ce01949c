use Rattle.std.proofs.Common.{◌≡◌, ◌∙◌, ℕ, ◌+◌, List, ◌++◌, ◌∷◌, [], length, map, append_assoc, sym, ap, arith}
use Rattle.std.specs.List.{range_with_len}
use Rattle.std.proofs.lemmas.List.FromFn.{map-range_with_len_more}
use Rattle.sentence_text.specs.Quotation.{shown_at}
use Rattle.sentence_text.proofs.text.Text.put_shown.Goals as goal

-- a byte more stands at the end
next : (old before after bytes : List ℕ) (place byte : ℕ)
    → before ≡ old ++ map (shown_at bytes) (range_with_len 0 place) → byte ≡ shown_at bytes place
    → after ≡ before ++ byte ∷ []
    → after ≡ old ++ map (shown_at bytes) (range_with_len 0 (place + 1))
next old before after bytes place byte was is more =
    more
    ∙ ap (λ text. text ++ byte ∷ []) was
    ∙ append_assoc old (map (shown_at bytes) (range_with_len 0 place)) (byte ∷ [])
    ∙ ap (λ last. old ++ (map (shown_at bytes) (range_with_len 0 place) ++ last ∷ [])) is
    ∙ ap (λ text. old ++ text) (sym (map-range_with_len_more (shown_at bytes) 0 place place (omega arith)))

pub loop-place-preserved : goal.loop-place-preserved
loop-place-preserved c =
    next c.args.self.now c.loop-place.self-inside.bytes.items c.push.new.self.items c.args.bytes.now c.loop-place.place
    c.shown_at.result c.loop-place.invariant c.shown_at.ensures c.in_ok-push.ensures.items

pub returns : goal.returns
unfolding Rattle.sentence_text.specs.Quotation.shown
returns c =
    let all : c.loop-place.place ≡ length c.args.bytes.now =
    omega (arith, c.loop-place-test.false, c.loop-place.auto.place-end) in
    c.loop-place.invariant
    ∙ ap (λ count. c.args.self.now ++ map (shown_at c.args.bytes.now) (range_with_len 0 count)) all
