-- What a page memory shows of the page that stands.
use Rattle.std.specs.Prelude.{◌≡◌, ℕ, ◌+◌, ◌*◌, ◌==◌, List, Option, Some, None, option_map, unwrap_or, if◌then◌else◌}
use Rattle.sub_base.specs.declared.pace.TheConstants.{SECOND}
use Rattle.decoder_model.specs.PackedRows.{IsPackedLine, listed_region}
use Rattle.decoder_model.specs.Shown.{Standing, plane_of, row_of, until_of}
use Rattle.decoder_model.specs.Taken.{taken_region}
use Rattle.page_core.specs.Composition.{KeptRegion, region_in}
use Rattle.page_core.specs.Memory.{Memory, head_of}
use Rattle.page_core.specs.Rows.{IsLineLent, listed_in, picture_in, row_in}

-- the tick at which the page is timed out
abbrev pub until_in : Memory → Option ℕ
until_in memory = if memory.time_out == 0 then None else Some (unwrap_or memory.last 0 + SECOND * memory.time_out)

-- the memory has the display, the entries and regions, the rows and the packed lines of what stands, and its end
pub record ShowsStanding (standing : Standing) (memory : Memory) : Type 0 where
  pub display : memory.display ≡ standing.scene.display
  pub entries : memory.composition.entries ≡ standing.scene.entries
  pub heads : (id : ℕ) →
      option_map (λ (kept : KeptRegion). kept.head) (region_in memory.composition id)
      ≡ option_map head_of (taken_region id standing.scene.taken)
  pub rows : (y : ℕ) → row_in memory y ≡ row_of standing.scene y
  pub picture : picture_in memory ≡ (plane_of standing.scene).colours
  pub lines : (id line : ℕ) (bytes : Option (List ℕ)) → IsLineLent memory (listed_in memory id) line bytes
      → IsPackedLine standing.scene.taken (listed_region standing.scene id) line bytes
  pub until : until_in memory ≡ until_of standing
