use Rattle.std.proofs.Common.{◌≡◌, ◌+◌, ◌-◌, ◌*◌, ◌≤◌, ◌++◌, length, take, vec_len}
use Rattle.std.specs.List.{flat_map}
use Rattle.std.specs.Vec.{vec_capacity}
use Rattle.segments.specs.Writing.{page_entry_bytes}
use Rattle.segments.proofs.writing.put_page.Given as goal

abbrev pub invariant-loop-entry : goal.invariant-loop-entry
invariant-loop-entry l =
    (l.out.items ≡ l.initial.out.items ++ flat_map page_entry_bytes (take l.entry-index l.entries))
    × (vec_len l.out + 6 * (length l.entries - l.entry-index) ≤ vec_capacity l.out)
