-- What the page memory of a receiver holds of a script behind a display set of its plan.
use Rattle.std.specs.Prelude.{◌≡◌, ℕ, ◌<◌, List, All, Some, map}
use Rattle.std.specs.List.{Contains}
use Rattle.sub_base.specs.Depth.{code_count}
use Rattle.sub_base.specs.declared.depth.Depth.{Depth}
use Rattle.stream_syntax.specs.Segments.{Region, Page, of_page}
use Rattle.cue_list.specs.Authored.{authored_code, authored_colour, live_cues}
use Rattle.cue_list.specs.declared.epoch.Epoch.{Epoch}
use Rattle.cue_records.specs.declared.region.Region.{Region as AuthoredRegion}
use Rattle.cue_list.specs.declared.script.Script.{Script}
use Rattle.page_epoch.specs.EpochStates.{changed_version}
use Rattle.page_epoch.specs.SentRegions.{region_version}
use Rattle.page_epoch.specs.declared.planned_set.PlannedSet.{PlannedSet}
use Rattle.set_coder.specs.SetSegments.{display_of_script, page_segment}
use Rattle.decoder_model.specs.Ink.{ink_of}
use Rattle.decoder_model.specs.Nodes.{region_ids}
use Rattle.decoder_model.specs.Pixels.{pixel_of}
use Rattle.decoder_model.specs.Taken.{Taken, taken_region, last_clut, last_display, version_of_clut}

-- a region of an epoch is known with its size, depth and CLUT, and with its version at the latest of these instants
pub record IsKnownRegion (epoch : Epoch) (seen : List ℕ) (taken : Taken) (region : AuthoredRegion) : Type 0 where
  pub last : Region
  pub known : taken_region region.id taken ≡ Some last
  pub width : last.head.width ≡ region.width
  pub height : last.head.height ≡ region.height
  pub depth : last.head.depth ≡ region.depth
  pub clut : last.head.clut ≡ region.clut
  pub version : last.head.version ≡ region_version epoch.cues region.id seen

-- the page and the taken segments of a known epoch, behind a set of the plan, with the instants of the epoch up to the
-- set, the latest first: the script's display and page, all regions of the epoch and no others, the last version of
-- each CLUT, the authored colours, and in each region that the page lists the authored codes. Of the codes of other
-- regions nothing is said.
pub record HoldsScript (script : Script) (epoch : Epoch) (seen : List ℕ) (set : PlannedSet) (page : Page)
    (taken : Taken) : Type 0 where
  pub display : last_display taken.segments ≡ Some (display_of_script script)
  pub page_is : of_page page ≡ page_segment script epoch set
  pub regions : All (IsKnownRegion epoch seen taken) epoch.regions
  pub only : All (λ id. Contains (map (λ (region : AuthoredRegion). region.id) epoch.regions) id) (region_ids taken)
  pub cluts : (clut : ℕ)
      → version_of_clut (last_clut clut taken.segments) ≡ changed_version epoch.colours seen clut
  pub ink : (clut : ℕ) (depth : Depth) (entry : ℕ) → entry < code_count depth
      → ink_of taken clut depth entry ≡ authored_colour epoch.colours clut depth entry set.pts
  pub pixel : (region : AuthoredRegion) (x y : ℕ) → Contains epoch.regions region → Contains set.shown region.id
      → x < region.width → y < region.height
      → pixel_of taken region.id x y ≡ authored_code script.pictures (live_cues epoch.cues region.id set.pts) x y
