-- The entries of the page take the place of those that were there.
use Rattle.std.proofs.Common.{length}
use Rattle.segments.specs.Contents.{page_value}
use Rattle.page_core.proofs.Pictures.PagePushes.{cleared_first, has_list, room_for, value_with_entries}
use Rattle.page_core.proofs.composition.CompositionMemory.set_entries.Goals as goal

pub push_entries-requires-clause-room : goal.push_entries-requires-clause-room
push_entries-requires-clause-room c =
    let emptied =
    cleared_first c.self.inside.pool c.clear.new.self (has_list c.self.inside.pool c.self.invariant.0)
    c.clear.ensures.cleared c.clear.ensures.nodes in
    room_for (length (page_value c.args.page.now).entries) c.self.inside.pool c.clear.new.self c.args.self.now
    c.self.view_is c.self.invariant.0 emptied c.requires.room

pub returns : goal.returns
returns c =
    let emptied =
    cleared_first c.self.inside.pool c.clear.new.self (has_list c.self.inside.pool c.self.invariant.0)
    c.clear.ensures.cleared c.clear.ensures.nodes in
    value_with_entries (page_value c.args.page.now).entries c.self.inside.pool c.clear.new.self c.push_entries.new.pool
    c.args.self.now c.self.view_is c.self.invariant.0 emptied c.push_entries.ensures
