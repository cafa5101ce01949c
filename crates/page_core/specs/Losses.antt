-- A page memory behind a loss.
use Rattle.std.specs.Prelude.{◌≡◌, false}
use Rattle.page_core.specs.Memory.{Memory}

-- no epoch is known, and all nodes and all bytes of pixels are free
pub record IsAllFree (memory : Memory) : Type 0 where
  pub known : memory.known ≡ false
  pub nodes : memory.composition.free ≡ memory.profile.nodes
  pub pixels : memory.store.free ≡ memory.profile.pixels
