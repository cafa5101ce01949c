use Rattle.std.proofs.Common.{◌∙◌, [], ◌∷◌, ◌<◌, ◌+◌, ◌-◌, sym, ap, length, drop, take_all, length-drop, arith}
use Rattle.std.proofs.lemmas.List.{drop_all}
use Rattle.std.specs.Str.Lines.{lines}
use Rattle.bitmap_font.proofs.LineLaws.{lines-one, lines-first}
use Rattle.bitmap_font.proofs.lines.first_line.Goals as goal

pub returns-then-end-text : goal.returns-then-end-text
returns-then-end-text c =
    let text = c.args.text.now in
    lines-one text (omega arith) (λ k below. c.line_len-end.ensures.before k (omega arith))
    ∙ ap (λ l. l ∷ []) (sym (take_all c.line_len-end.result text (omega arith)) ∙ sym c.split_at.ensures.front)
    ∙ ap (λ r. c.split_at.result.0.now ∷ lines r)
    (sym (drop_all c.line_len-end.result text (omega arith)) ∙ sym c.split_at.ensures.back)

pub returns-else-end-text : goal.returns-else-end-text
returns-else-end-text c =
    let text = c.args.text.now in
    let end = c.line_len-end.result in
    let inside : end < length text = omega arith in
    lines-first text end inside c.line_len-end.ensures.before (c.line_len-end.ensures.after inside)
    ∙ ap (λ line. line ∷ lines (drop (end + 1) text)) (sym c.without_carriage_return.ensures)
    ∙ ap (λ rest. c.without_carriage_return.result.now ∷ lines rest)
    (sym (take_all (length text - (end + 1)) (drop (end + 1) text) (omega (arith, length-drop (end + 1) text))))
