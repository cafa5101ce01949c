use Rattle.std.proofs.Common.{◌∙◌, sym, arith}
use Rattle.command_words.proofs.TickLaws.{rising_not, rising_below, rising_more}
use Rattle.command_words.proofs.ticks.are_rising.Goals as goal

pub returns-in_default : goal.returns-in_default
returns-in_default c =
    sym (c.loop-place.invariant
    ∙ rising_not c.loop-place.before c.args.words.now c.loop-place.place c.word.result.now c.as_bytes.result.now
    c.number_in.result (omega arith) c.word.ensures c.as_bytes.ensures.value c.number_in.ensures.value
    c.in_default.is)

pub returns-then-not-is_above : goal.returns-then-not-is_above
returns-then-not-is_above c =
    sym (c.loop-place.invariant
    ∙ rising_below c.loop-place.before c.args.words.now c.loop-place.place c.word.result.now c.as_bytes.result.now
    c.number_in.result c.in-Some.tick (omega arith) c.word.ensures c.as_bytes.ensures.value
    c.number_in.ensures.value c.in-Some.is
    (sym c.is_above.ensures ∙ c.if-not-is_above.true))

pub loop-place-preserved : goal.loop-place-preserved
loop-place-preserved c =
    c.loop-place.invariant
    ∙ rising_more c.loop-place.before c.args.words.now c.loop-place.place c.word.result.now c.as_bytes.result.now
    c.number_in.result c.in-Some.tick (omega arith) c.word.ensures c.as_bytes.ensures.value
    c.number_in.ensures.value c.in-Some.is
    (sym c.is_above.ensures ∙ c.if-not-is_above.false)
