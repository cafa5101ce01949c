-- What is known of a set once some of its segments are measured.
use Rattle.std.specs.Prelude.{◌≡◌, ℕ, ◌*◌, ◌^◌, ◌==◌, ◌≤◌, ◌⊎◌, true, List, [], sum, All}
use Rattle.std.specs.List.{list_any}
use Rattle.pes_packets.specs.Units.{IsOpenAfter}
use Rattle.set_coder.specs.declared.set_sizes.Measured.{Measured}

-- the greatest of these sizes; 0 where there is none
pub record IsGreatest (sizes : List ℕ) (longest : ℕ) : Type 0 where
  pub one : (sizes ≡ []) ⊎ (list_any (λ size. size == longest) sizes ≡ true)
  pub none : sizes ≡ [] → longest ≡ 0
  pub greatest : All (λ size. size ≤ longest) sizes

-- segments of these sizes have been measured
pub record IsMeasured (sizes : List ℕ) (measured : Measured) : Type 0 where
  pub taken : IsOpenAfter sizes measured.units.items measured.unit.bytes
  pub size : measured.size ≡ sum measured.units.items
  pub longest : IsGreatest sizes measured.longest

-- the numbers of bytes are as small as they are after so many segments
pub record CanTake (measured : Measured) (count : ℕ) : Type 0 where
  pub unit : measured.unit.bytes ≤ 2 ^ 31
  pub size : measured.size ≤ 2 ^ 32 * count
