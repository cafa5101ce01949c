use Rattle.std.proofs.Common.{◌≡◌, ◌++◌, drop, map, take}
use Rattle.pid_text.specs.Private.Listing.{closed}
use Rattle.pid_text.proofs.page_list.close_all.Given as goal

abbrev pub invariant-loop-entry : goal.invariant-loop-entry
invariant-loop-entry l =
    l.entries ≡ map closed (take l.entry-index l.initial.entries) ++ drop l.entry-index l.initial.entries
