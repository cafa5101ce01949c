-- The entries of the page are out.
use Rattle.std.proofs.Common.{[]}
use Rattle.page_core.proofs.Pictures.PagePushes.{cleared_first, has_list, no_entries, value_with_entries}
use Rattle.page_core.proofs.composition.CompositionMemory.clear_entries.Goals as goal

pub returns : goal.returns
returns c =
    let emptied =
    cleared_first c.self.inside.pool c.clear.new.self (has_list c.self.inside.pool c.self.invariant.0)
    c.clear.ensures.cleared c.clear.ensures.nodes in
    value_with_entries [] c.self.inside.pool c.clear.new.self c.clear.new.self c.args.self.now c.self.view_is
    c.self.invariant.0 emptied (no_entries c.clear.new.self emptied.empty)
