use Rattle.string_painting.proofs.painter.paint_string.Goals as goal

pub returns-clause-painted : goal.returns-clause-painted
returns-clause-painted c = λ codes front rest e s. (c.paint_at_depths.ensures.whole codes front rest e s).painted

pub returns-clause-size : goal.returns-clause-size
returns-clause-size c = λ codes front rest e s. (c.paint_at_depths.ensures.whole codes front rest e s).size_is

pub returns-clause-column : goal.returns-clause-column
returns-clause-column c = λ codes front rest e s. (c.paint_at_depths.ensures.whole codes front rest e s).column_is

pub returns-clause-beside : goal.returns-clause-beside
returns-clause-beside c = c.paint_at_depths.ensures.beside

pub returns-clause-within : goal.returns-clause-within
returns-clause-within c = c.paint_at_depths.ensures.inside

pub returns-clause-forward : goal.returns-clause-forward
returns-clause-forward c = c.paint_at_depths.ensures.forward

pub returns-clause-short : goal.returns-clause-short
returns-clause-short c = c.paint_at_depths.ensures.short
