use Rattle.page_core.proofs.Pictures.EntryWalks.{walk_begins}
use Rattle.page_core.proofs.composition.CompositionMemory.entries.Goals as goal

pub invariant_of-result : goal.invariant_of-result
invariant_of-result c =
    walk_begins c.self.inside.pool c.first.result c.self.invariant.0 c.first.ensures.distinct c.first.ensures.first
