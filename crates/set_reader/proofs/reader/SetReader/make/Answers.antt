-- A reader that was fed nothing.
use Rattle.set_reader.proofs.Feeds.{none_at_first, nothing_fed}
use Rattle.set_reader.proofs.reader.SetReader.make.Goals as goal

pub returns-clause-stands : goal.returns-clause-stands
returns-clause-stands c = nothing_fed _ c.in_ok-make.ensures.stands c.in_ok-make-2.ensures.stands

pub returns-clause-none : goal.returns-clause-none
returns-clause-none c = none_at_first _ c.in_ok-make-2.ensures.stands
