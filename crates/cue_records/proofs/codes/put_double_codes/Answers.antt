use Rattle.std.proofs.Common.{◌≡◌, ◌∙◌, ℕ, ◌+◌, ◌*◌, ◌/◌, ◌<◌, [], length, get_or, unwrap_or, ap, arith}
use Rattle.sub_base.specs.Number.{hex_value}
use Rattle.cue_records.proofs.CodesLaws.{digit_in_chunk, double_more}
use Rattle.cue_records.proofs.codes.put_double_codes.Goals as goal

pub loop-place-preserved : goal.loop-place-preserved
loop-place-preserved c =
    let l = c.loop-place in
    let text = c.args.text.now in
    let within : l.place < length l.codes = omega (arith, c.loop-place-test.true, c.requires, l.invariant.count) in
    let digit : (j : ℕ) → j < 2
    → get_or (get_or c.as_chunks.result.0.now l.place []) j 0 ≡ get_or text (2 * l.place + j) 0 =
    λ j inside. ap (λ pairs. get_or (get_or pairs l.place []) j 0) c.as_chunks.ensures.front
    ∙ digit_in_chunk 2 (length text / 2) l.place j text (omega (arith, within, l.invariant.count)) inside in
    double_more text l.codes l.place c.digit_value-high.result c.digit_value-low.result l.valid within
    (c.digit_value-high.ensures
    ∙ ap (λ d. unwrap_or (hex_value d) 255) (digit 0 (omega arith) ∙ ap (λ n. get_or text n 0) (omega arith)))
    (c.digit_value-low.ensures ∙ ap (λ d. unwrap_or (hex_value d) 255) (digit 1 (omega arith)))
    l.invariant
