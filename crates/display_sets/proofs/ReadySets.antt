-- How many sets can be ready at once.
use Rattle.std.proofs.Common.{◌≤◌, ℕ, List, length, Some, None, arith, length-append}
use Rattle.std.specs.Prelude.{Option}
use Rattle.display_sets.specs.Gathered.{Gathered, ready_in, ready_sets}
use Rattle.display_sets.specs.Private.Hands.{ready_head}
use Rattle.display_sets.specs.declared.hand.Head.{Head}

-- a head gives one set at most
one_in : (head : Option Head) (bytes : List ℕ) → length (ready_in head bytes) ≤ 1
one_in None bytes = omega arith
one_in (Some head) bytes = omega arith

-- at most two sets are ready: the one that was parted, and the one in hand
pub at_most_two : (gathered : Gathered) → length (ready_sets gathered) ≤ 2
at_most_two gathered =
    omega (
      arith,
      length-append (ready_in gathered.parted gathered.parted_bytes)
          (ready_in (ready_head gathered.hand) gathered.bytes),
      one_in gathered.parted gathered.parted_bytes,
      one_in (ready_head gathered.hand) gathered.bytes,
    )
