-- A packet that brings nothing need not be fed.
use Rattle.std.proofs.Common.{[], ◌∷◌, ◌++◌, false, sym, subst}
use Rattle.set_reader.specs.Collecting.{IsReaderOf}
use Rattle.set_reader.proofs.Feeds.{passed_by}
use Rattle.set_reader.proofs.reader.SetReader.is_other.Goals as goal

pub returns-clause-stands : goal.returns-clause-stands
returns-clause-stands c is fed given stands =
    subst (IsReaderOf false (fed ++ c.args.packet.now ∷ []) given) c.self.view_is
    (passed_by _ fed c.args.packet.now given c.self.invariant
    (subst (IsReaderOf false fed given) (sym c.self.view_is) stands) (c.is_other.ensures.other.0 is).0
    (c.is_other.ensures.goes_on is) (c.is_other.ensures.event is fed) (c.is_other.ensures.unit is fed))
