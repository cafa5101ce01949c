-- The regions of a page that do not lie inside the part of the display in which regions stand (EN 300 743, clauses
-- 7.2.1 and 7.2.2): what passes its edges is not seen.
use Rattle.std.specs.Prelude.{◌+◌, ◌-◌, Bool, false, not, Option, Some, None, option_map}
use Rattle.stream_syntax.specs.declared.display.Window.{Window}
use Rattle.stream_syntax.specs.declared.page.PageEntry.{PageEntry}
use Rattle.stream_syntax.specs.declared.region.RegionHead.{RegionHead}
use Rattle.decoder_model.specs.Shown.{Scene, is_in_window, window_of}
use Rattle.decoder_model.specs.Taken.{taken_region}
use Rattle.page_core.specs.Composition.{KeptRegion, region_in}
use Rattle.page_core.specs.Memory.{Memory, head_of}

-- a region with these sides, which stands from an entry of the page on, passes an edge of the window: its last column
-- and row are no place of the window
abbrev pub passes_edge : Window → PageEntry → Option RegionHead → Bool
passes_edge window entry None = false
passes_edge window entry (Some head) =
    not
    (is_in_window window (window.left + entry.x + (head.width - 1)) (window.top + entry.y + (head.height - 1)))

-- the region that an entry of the page lists does not lie inside the window of the display
abbrev pub is_outside : Scene → PageEntry → Bool
is_outside scene entry =
    passes_edge (window_of scene.display) entry (option_map head_of (taken_region entry.region scene.taken))

-- the same by a page memory
abbrev pub is_outside_in : Memory → PageEntry → Bool
is_outside_in memory entry =
    passes_edge (window_of memory.display) entry
    (option_map (λ (kept : KeptRegion). kept.head) (region_in memory.composition entry.region))
