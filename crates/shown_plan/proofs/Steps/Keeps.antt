-- What the taken segments of an epoch are behind one of its sets, in a receiver that has had the sets from one on.
use Rattle.std.proofs.Common.{◌≡◌, ℕ, ◌<◌, ◌≤◌, true, List, [], ◌∷◌, length, Some, unwrap_or}
use Rattle.std.specs.Prelude.{All, IsSome}
use Rattle.std.specs.List.{AllPairs}
use Rattle.std.specs.Option.{option_map}
use Rattle.sub_base.specs.Depth.{code_count}
use Rattle.sub_base.specs.Lists.{first_given, has_some}
use Rattle.sub_base.specs.Picture.{Picture}
use Rattle.sub_base.specs.declared.depth.Depth.{Depth}
use Rattle.stream_syntax.specs.Segments.{SegmentValue, of_page, of_region, of_clut, of_object, of_display, end_of_set, passed_over, Region}
use Rattle.stream_syntax.specs.declared.clut.ClutEntry.{ClutEntry}
use Rattle.cue_list.specs.Authored.{authored_code, live_cues}
use Rattle.cue_records.specs.declared.row_values.ColourRow.{ColourRow}
use Rattle.cue_list.specs.declared.epoch.Epoch.{Epoch}
use Rattle.cue_records.specs.declared.region.Region.{Region as AuthoredRegion}
use Rattle.cue_list.specs.declared.script.Script.{Script}
use Rattle.page_epoch.specs.EpochStates.{changed_version}
use Rattle.page_epoch.specs.Live.{live_places}
use Rattle.page_epoch.specs.Sendable.{HasRegion, HasColour}
use Rattle.page_epoch.specs.SentCluts.{row_at}
use Rattle.page_epoch.specs.SentRegions.{region_version, drawn_count}
use Rattle.set_coder.specs.SetSegments.{epoch_region, clut_entry_of, display_of_script}
use Rattle.decoder_model.specs.Contents.{object_named}
use Rattle.decoder_model.specs.Ink.{colour_by_segment}
use Rattle.decoder_model.specs.Pixels.{last_code, since_region}
use Rattle.decoder_model.specs.Readings.{Content}
use Rattle.decoder_model.specs.Taken.{segments_of, taken_among, last_region, last_clut, last_display, version_of_clut}
use Rattle.page_epoch.proofs.RowLaws.{entry_of}
use Rattle.shown_plan.proofs.Pictures.ColourRows.{latest_of, colour_at}

-- the code in a column and a row of a region by taken segments, and 0 where nothing was written
abbrev pub last_code_or_zero : List Content → ℕ → ℕ → ℕ → ℕ
last_code_or_zero taken id x y = unwrap_or (last_code taken id x y) 0

-- each is below all later ones
abbrev pub AreRising : List ℕ → Type 0
AreRising places = AllPairs (λ (before later : ℕ). before < later) places

-- ---- what each segment of the epoch is, by itself

-- a region segment: its region is one of the epoch, with its sides, depth and CLUT; what it lists is told by its set
pub record IsSentRegion (epoch : Epoch) (value : Region) : Type 0 where
  pub own : HasRegion epoch value.head.region
  pub width : value.head.width ≡ (epoch_region epoch value.head.region).width
  pub height : value.head.height ≡ (epoch_region epoch value.head.region).height
  pub depth : value.head.depth ≡ (epoch_region epoch value.head.region).depth
  pub clut : value.head.clut ≡ (epoch_region epoch value.head.region).clut

-- an entry of a CLUT: that of a colour row that has come
pub record IsSentEntry (epoch : Epoch) (tick clut : ℕ) (entry : ClutEntry) : Type 0 where
  pub place : ℕ
  pub there : HasColour epoch place
  pub of_clut : (row_at epoch.colours place).clut ≡ clut
  pub come : (row_at epoch.colours place).tick ≤ tick
  pub is : entry ≡ clut_entry_of epoch place

-- an object has version 0, whatever its number
abbrev pub IsSentBy : Epoch → ℕ → SegmentValue → Type 0
IsSentBy epoch tick (of_page value) = Unit {0}
IsSentBy epoch tick (of_region value) = IsSentRegion epoch value
IsSentBy epoch tick (of_clut value) = All (IsSentEntry epoch tick value.clut) value.entries
IsSentBy epoch tick (of_object value) = value.version ≡ 0
IsSentBy epoch tick (of_display value) = Unit {0}
IsSentBy epoch tick end_of_set = Unit {0}
IsSentBy epoch tick passed_over = Unit {0}

-- a segment of a set of the epoch up to a tick
abbrev pub IsSent : Epoch → ℕ → Content → Type 0
IsSent epoch tick content = IsSentBy epoch tick content.value

-- ---- what all of them together are

-- since a region's last segment there was an object for a listing
abbrev pub HasObject : ℕ → List Content → ℕ → Type 0
HasObject id taken object = IsSome (first_given (object_named object) (since_region id (record { segments = taken })))

-- A region, by its last taken segment: its version, how many listings it has, that all of them have had their object,
-- and its codes where it has live cues. Objects have version 0, so none that comes now paints one of these listings,
-- even if it has a number that an earlier set gave another cue.
pub record KeepsRegion (pictures : List Picture) (epoch : Epoch) (tick : ℕ) (earlier : List ℕ)
    (taken : List Content) (region : AuthoredRegion) : Type 0 where
  pub last : Region
  pub known : last_region region.id taken ≡ Some last
  pub version : last.head.version ≡ region_version epoch.cues region.id (tick ∷ earlier)
  pub few : length last.listings ≤ drawn_count epoch.cues region.id (tick ∷ earlier)
  pub painted : All (λ listing. HasObject region.id taken listing.object) last.listings
  pub codes : has_some (live_places epoch.cues region.id tick) ≡ true → (x y : ℕ)
      → last_code_or_zero taken region.id x y ≡ authored_code pictures (live_cues epoch.cues region.id tick) x y

-- a CLUT: its version is the plan's, and each entry has the colour of its latest row
pub record KeepsClut (colours : List ColourRow) (tick : ℕ) (earlier : List ℕ) (taken : List Content)
    (clut : ℕ) : Type 0 where
  pub version : version_of_clut (last_clut clut taken) ≡ changed_version colours (tick ∷ earlier) clut
  pub inks : (depth : Depth) (number : ℕ) → number < code_count depth
      → first_given (colour_by_segment clut depth number) taken
      ≡ option_map (colour_at colours) (latest_of colours clut (entry_of depth number) tick)

-- an epoch behind a set at a tick, by its segments: `earlier` are its instants before, the latest first
pub record Keeps (script : Script) (epoch : Epoch) (tick : ℕ) (earlier : List ℕ)
    (segments : List Content) : Type 0 where
  pub each : All (IsSent epoch tick) segments
  pub display : last_display (taken_among segments) ≡ Some (display_of_script script)
  pub regions : All (KeepsRegion script.pictures epoch tick earlier (taken_among segments)) epoch.regions
  pub cluts : (clut : ℕ) → KeepsClut epoch.colours tick earlier (taken_among segments) clut

-- what a receiver has of the epoch before a set: nothing, or that of the set before
abbrev pub KeepsBefore : Script → Epoch → List ℕ → List (List Content) → Type 0
KeepsBefore script epoch earlier [] = Unit {0}
KeepsBefore script epoch [] (set ∷ sets) = ⊥
KeepsBefore script epoch (before ∷ earlier) (set ∷ sets) =
    Keeps script epoch before earlier (segments_of (set ∷ sets))
