-- Small display sets that are shown far apart.
use Rattle.std.specs.Prelude.{◌≡◌, ℕ, ◌+◌, ◌<◌, ◌≤◌, List, length, slice_index}
use Rattle.sub_base.specs.declared.load.WriteLoad.{WriteLoad}

-- a small set: one PES packet, of at most 2,000 bytes, no longer segment, and painted in at most 144 ticks
pub record IsSmall (load : WriteLoad) : Type 0 where
  pub one : length load.units ≡ 1
  pub size : load.load.size ≤ 2000
  pub longest : load.longest ≤ 2000
  pub painted : load.load.painted ≤ 144

-- each of these times is at least 27,000 ticks after the one before, and the first after the origin
pub record AreWellApart (origin : ℕ) (times : List ℕ) : Type 0 where
  pub first : 0 < length times → origin + 27000 ≤ slice_index times 0
  pub next : (i : ℕ) → i + 1 < length times → slice_index times i + 27000 ≤ slice_index times (i + 1)
