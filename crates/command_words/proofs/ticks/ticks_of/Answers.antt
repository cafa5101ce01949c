use Rattle.std.proofs.Common.{◌∙◌, ◌++◌, ◌∷◌, [], ℕ, List, ap, sym, arith}
use Rattle.command_words.proofs.TickLaws.{ticks_more}
use Rattle.command_words.proofs.ticks.ticks_of.Goals as goal

pub loop-place-preserved : goal.loop-place-preserved
loop-place-preserved c =
    c.in_ok-push.ensures.items ∙ ap (λ (ticks : List ℕ). ticks ++ c.tick_at.result ∷ []) c.loop-place.invariant
    ∙ sym (ticks_more c.args.words.now c.args.place c.loop-place.place c.tick_at.result (omega arith) (omega arith)
    c.tick_at.ensures)
