use Rattle.std.proofs.Common.{◌∙◌, ap, arith}
use Rattle.command_line.proofs.WordsLaws.{bytes_of, texts_more}
use Rattle.command_line.proofs.positional.texts_of.Goals as goal

pub loop-place-preserved : goal.loop-place-preserved
loop-place-preserved c =
    ap bytes_of c.in_ok-push.ensures.items
    ∙ texts_more c.loop-place.texts.items c.word.result c.args.words.now c.loop-place.place (omega arith)
    c.loop-place.invariant c.word.ensures
