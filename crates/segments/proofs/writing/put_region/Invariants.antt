use Rattle.std.proofs.Common.{◌≡◌, ◌+◌, ◌-◌, ◌*◌, ◌≤◌, ◌++◌, length, take, vec_len}
use Rattle.std.specs.List.{flat_map}
use Rattle.std.specs.Vec.{vec_capacity}
use Rattle.segments.specs.Writing.{listing_bytes}
use Rattle.segments.proofs.writing.put_region.Given as goal

abbrev pub invariant-loop-listing : goal.invariant-loop-listing
invariant-loop-listing l =
    (l.out.items ≡ l.initial.out.items ++ flat_map listing_bytes (take l.listing-index l.listings))
    × (vec_len l.out + 6 * (length l.listings - l.listing-index) ≤ vec_capacity l.out)
