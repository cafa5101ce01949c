-- What painting changes in a store of regions, in the words of the last write to a pixel (EN 300 743, clause 7.2.5).
use Rattle.std.specs.Prelude.{◌≡◌, ℕ, ◌<◌, Option, unwrap_or}
use Rattle.pixel_store.specs.Regions.{Regions, KeepsOthers, region_at, code_of}

-- each pixel of a slot's region has the code that is written to its column and row, and the code from before where none
-- is; all other regions are as they were
pub record IsWritten (slot : ℕ) (written : ℕ → ℕ → Option ℕ) (old new : Regions) : Type 0 where
  pub others : KeepsOthers slot old new
  pub codes : (x y : ℕ) → x < (region_at old slot).width → y < (region_at old slot).height →
      code_of (region_at new slot) x y ≡ unwrap_or (written x y) (code_of (region_at old slot) x y)
