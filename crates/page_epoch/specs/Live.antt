-- The cues of an epoch that a region shows, given by their places in the epoch's list.
use Rattle.std.specs.Prelude.{ℕ, ◌==◌, nat_le, Bool, false, List, length, map, filter, count_by, slice_index_or}
use Rattle.std.specs.List.{range_with_len}
use Rattle.std.specs.List.Sorted.{IsPermutation, IsNonDecreasingBy}
use Rattle.std.specs.Str.{bytes_eq}
use Rattle.sub_base.specs.declared.depth.Depth.TheVariants.{Two}
use Rattle.cue_list.specs.declared.epoch.Cue.{Cue}
use Rattle.cue_records.specs.declared.region.Region.{Region}
use Rattle.cue_list.specs.Authored.{is_live}
use Rattle.page_epoch.specs.declared.live.CueStart.{CueStart}

-- two lists of places are the same
abbrev pub are_same_places : List ℕ → List ℕ → Bool
are_same_places first second = bytes_eq first second

-- the places of a list of that length, from 0
abbrev pub places_below : ℕ → List ℕ
places_below count = range_with_len 0 count

-- no cue
abbrev pub no_cue : Cue
no_cue = record { start = 0; end = 0; row = 0; region = 0; x = 0; y = 0; picture = 0; see_through = false }

-- no region
abbrev pub no_region : Region
no_region = record { id = 0; x = 0; y = 0; width = 0; height = 0; depth = Two; clut = 0 }

-- the cue at a place
abbrev pub cue_at : List Cue → ℕ → Cue
cue_at cues place = slice_index_or cues place no_cue

-- the cues of a region, in the script's order
abbrev pub own_places : List Cue → ℕ → List ℕ
own_places cues region = filter (λ place. (cue_at cues place).region == region) (places_below (length cues))

-- the cues of a region that are live at a tick, in the script's order
abbrev pub live_places : List Cue → ℕ → ℕ → List ℕ
live_places cues region tick = filter (λ place. is_live tick (cue_at cues place)) (own_places cues region)

-- how many cues of a region have started by a tick
abbrev pub started_by : List Cue → ℕ → ℕ → ℕ
started_by cues region tick = count_by (λ place. nat_le (cue_at cues place).start tick) (own_places cues region)

-- how often a place is in a list
abbrev pub times : ℕ → List ℕ → ℕ
times place places = count_by (λ other. other == place) places

-- the start of the cue at a place, with that place
abbrev pub start_at : List Cue → ℕ → CueStart
start_at cues place = record { tick = (cue_at cues place).start; place = place }

-- the cues of a region, in order of their starts
pub record AreStarts (cues : List Cue) (region : ℕ) (starts : List CueStart) : Type 0 where
  pub same : IsPermutation (map (start_at cues) (own_places cues region)) starts
  pub rise : IsNonDecreasingBy (λ start. start.tick) starts
