use Rattle.std.proofs.lemmas.Iterator.Consumers.{YieldsList-from_first, nth_from_yields_List}
use Rattle.bitmap_font.specs.Words.{words}
use Rattle.bitmap_font.proofs.keyword.word_at.Goals as goal

pub returns : goal.returns
returns c =
    nth_from_yields_List c.nth.result c.nth.new.self c.args.place c.nth.ensures.ran
    (YieldsList-from_first (λ word. word.now) (λ words_left. words_left) (words c.args.line.now) c.new.ensures)
