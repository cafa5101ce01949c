use Rattle.std.specs.Prelude.{◌≡◌, ℕ}
use Rattle.pixel_store.specs.Regions.{Regions, IsPlaced, region_at}

-- the slot has a region of 720 by 576 pixels
pub record IsScreen (slot : ℕ) (store : Regions) : Type 0 where
  pub placed : IsPlaced store slot
  pub width : (region_at store slot).width ≡ 720
  pub height : (region_at store slot).height ≡ 576
