use Rattle.std.proofs.Common.{arith}
use Rattle.command_words.proofs.WordsLaws.{is_plain-at, are_plain-not, are_plain-more}
use Rattle.command_words.proofs.plain.are_plain.Goals as goal

pub returns-then-not-is_plain : goal.returns-then-not-is_plain
returns-then-not-is_plain c =
    are_plain-not c.args.words.now c.loop-place.place (omega arith)
    (is_plain-at c.args.words.now c.loop-place.place _ _ _ _ c.word.ensures c.as_bytes.ensures.value
    c.is_plain.ensures c.if-not-is_plain.true)

pub loop-place-preserved : goal.loop-place-preserved
loop-place-preserved c =
    are_plain-more c.args.words.now c.loop-place.place (omega arith) c.loop-place.invariant
    (is_plain-at c.args.words.now c.loop-place.place _ _ _ _ c.word.ensures c.as_bytes.ensures.value
    c.is_plain.ensures c.if-not-is_plain.false)
