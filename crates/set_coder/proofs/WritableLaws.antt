-- The segments of a set can be written, and how many bytes they have.
use Rattle.std.proofs.Common.{◌≡◌, ℕ, ◌+◌, ◌*◌, ◌<◌, ◌≤◌, ◌^◌, Bool, true, false, List, [], ◌∷◌, ◌++◌, length, map, refl, sym, ap, subst, ◌∙◌, arith, Result, Ok, Err, OnOk, None}
use Rattle.std.specs.Prelude.{All}
use Rattle.std.specs.List.{flat_map, AllByRecursion}
use Rattle.std.proofs.Math.Logic.{∥∥₁_elim}
use Rattle.std.proofs.Props.{props}
use Rattle.std.proofs.lemmas.List.{length-append, length-map}
use Rattle.std.proofs.lemmas.List.Elements.{All-head, All-tail, All-cons, All-append, All-from_recursion}
use Rattle.sub_base.specs.Colour.{shown_of}
use Rattle.sub_base.specs.Picture.{Picture}
use Rattle.sub_base.specs.declared.depth.Depth.{Depth}
use Rattle.sub_base.specs.declared.depth.Depth.TheVariants.{Two, Four, Eight}
use Rattle.stream_syntax.specs.Fields.{FitsFields}
use Rattle.stream_syntax.specs.Segments.{SegmentValue, of_page, of_region, of_clut, of_object, of_display, end_of_set, passed_over, page_entry_fields, listing_fields, coded_entry_fields, in_full, flag, state_number, depth_number, written_body, byte_count, segment_kind, spelled, IsValid, HasShownColours, IsWritable}
use Rattle.stream_syntax.specs.declared.clut.ClutEntry.{ClutEntry}
use Rattle.stream_syntax.specs.declared.page.PageEntry.{PageEntry}
use Rattle.stream_syntax.specs.declared.page.State.{State}
use Rattle.stream_syntax.specs.declared.page.State.TheVariants.{Normal, Acquisition, ModeChange}
use Rattle.stream_syntax.specs.declared.region.Listing.{Listing}
use Rattle.stream_syntax.specs.declared.region.RegionHead.{RegionHead}
use Rattle.segments.specs.Writing.{body_bytes}
use Rattle.segments.proofs.Sizes.{page_entries_size, listings_size, clut_entries_size}
use Rattle.segments.proofs.Spellings.{size_is, spelled_as}
use Rattle.cue_list.specs.Sound.{IsSoundScript}
use Rattle.cue_list.specs.declared.epoch.Epoch.{Epoch}
use Rattle.cue_records.specs.declared.region.Region.{Region}
use Rattle.cue_list.specs.declared.script.Script.{Script}
use Rattle.page_epoch.specs.Live.{cue_at}
use Rattle.page_epoch.specs.SentCluts.{row_at}
use Rattle.page_epoch.specs.Sendable.{HasRegion, HasCue, HasColour, IsSendableRegion, IsSendableClut, IsSendableIn}
use Rattle.page_epoch.specs.declared.planned_set.PlannedSet.{PlannedSet}
use Rattle.page_epoch.specs.declared.planned_set.SentClut.{SentClut}
use Rattle.page_epoch.specs.declared.planned_set.SentRegion.{SentRegion}
use Rattle.set_coder.specs.SetSegments.{epoch_region, display_segments, time_out_of, page_entry_of, page_segment, listing_of, region_segment_of, clut_entry_of, clut_segment_of, leading_segments}
use Rattle.set_coder.specs.SetSizes.{region_size, clut_size}
use Rattle.set_coder.specs.Usable.{IsUsable, IsUsableRegion, IsUsablePlace, IsUsableColour}
use Rattle.set_coder.proofs.UsableLaws.{usable_region}

-- the numbers of a script that segments have
pub script_numbers : (origin width height refresh : ℕ) (epochs : List Epoch) (pictures : List Picture)
    → ∥ IsSoundScript origin width height refresh epochs pictures ∥₁ → (1 ≤ width) × (width ≤ 1920)
    × (1 ≤ height) × (height ≤ 1080) × (refresh ≤ 5400000)
script_numbers origin width height refresh epochs pictures sound =
    ∥∥₁_elim sound (hlevel props)
    (λ s. (s.wide.0, s.wide.1, s.high.0, s.high.1, omega (arith, s.whole, s.often)))

-- ---- any segment

kind_small : (value : SegmentValue) → segment_kind value < 256
kind_small value = elim value as (λ v. segment_kind v < 256) [
  | of_page v ↦ omega arith
  | of_region v ↦ omega arith
  | of_clut v ↦ omega arith
  | of_object v ↦ omega arith
  | of_display v ↦ omega arith
  | end_of_set ↦ omega arith
  | passed_over ↦ omega arith
]

-- a segment whose numbers fit, and whose body is short enough
pub writable : (page : ℕ) (value : SegmentValue) → page < 2 ^ 16 → FitsFields (written_body value)
    → length (body_bytes value) < 65536 → IsValid value → HasShownColours value → IsWritable page value
writable page value fits_page body short valid shown =
    let size : byte_count (written_body value) < 2 ^ 16 = omega (arith, size_is value body, short) in
    record { fits = (omega arith, (kind_small value, (fits_page, (size, body)))); valid = valid; shown = shown }

pub spelled_length : (page : ℕ) (value : SegmentValue) → IsWritable page value
    → length (spelled page value) ≡ 6 + length (body_bytes value)
spelled_length page value w = ap length (spelled_as page value w.fits) ∙ omega arith

-- how long it is now
pub longer_by : {A E : Type 0} (r : Result A E) (old now piece : List ℕ) (size : ℕ)
    → OnOk r (now ≡ old ++ piece) → length piece ≡ size → OnOk r (length now ≡ length old + size)
longer_by (Ok _) old now piece size h e =
    ap length h ∙ length-append old piece ∙ ap (λ (n : ℕ). length old + n) e
longer_by (Err _) old now piece size h e = tt

-- ---- pages

fits_page_entries : (epoch : Epoch) (ids : List ℕ) → IsUsable epoch → All (HasRegion epoch) ids
    → FitsFields (flat_map page_entry_fields (map (page_entry_of epoch) ids))
fits_page_entries epoch [] u has = tt
fits_page_entries epoch (id ∷ ids) u has =
    let region = usable_region epoch id u (All-head (HasRegion epoch) id ids has) in (
      omega (arith, region.1),
      (
        tt,
        (
          omega
              (arith, region.0.x),
          (
            omega (arith, region.0.y),
            fits_page_entries epoch ids u
                (All-tail (HasRegion epoch) id ids has),
          ),
        ),
      ),
    )

state_small : (state : State) → state_number state < 2 ^ 2
state_small Normal = omega arith
state_small Acquisition = omega arith
state_small ModeChange = omega arith

pub page_writable : (epoch : Epoch) (page time_out version : ℕ) (state : State) (ids : List ℕ)
    (entries : List PageEntry) → page < 2 ^ 16 → IsUsable epoch → time_out ≤ 255 → version < 16
    → length ids ≤ 64 → All (HasRegion epoch) ids → entries ≡ map (page_entry_of epoch) ids
    → IsWritable page (of_page (record { time_out = time_out; version = version; state = state; entries = entries }))
    × (length
    (spelled page (of_page (record { time_out = time_out; version = version; state = state; entries = entries })))
    ≡ 8 + 6 * length ids)
page_writable epoch page time_out version state ids entries fits_page u t v few has same =
    let count : length entries ≡ length ids = ap length same ∙ length-map ids (page_entry_of epoch) in
    let size = page_entries_size entries in
    let fits : FitsFields (flat_map page_entry_fields entries) =
    subst (λ (es : List PageEntry). FitsFields (flat_map page_entry_fields es)) (sym same)
    (fits_page_entries epoch ids u has) in
    let whole =
    writable page (of_page (record { time_out = time_out; version = version; state = state; entries = entries }))
    fits_page (omega arith, (omega arith, (state_small state, (tt, fits)))) (omega arith) tt tt in
    (whole, spelled_length page _ whole ∙ omega arith)

-- ---- regions

-- listings of cues with numbers that fit
pub fits_numbered : (names : ℕ → ℕ) (epoch : Epoch) (places : List ℕ) → IsUsable epoch → All (HasCue epoch) places
    → ((place : ℕ) → HasCue epoch place → names place < 2 ^ 16)
    → FitsFields (flat_map listing_fields
    (map (λ place. record { object = names place; x = (cue_at epoch.cues place).x; y = (cue_at epoch.cues place).y })
    places))
fits_numbered names epoch [] u has few = tt
fits_numbered names epoch (place ∷ places) u has few =
    let here : place < length epoch.cues = All-head (HasCue epoch) place places has in
    let cue : IsUsablePlace (cue_at epoch.cues place) = u.cues place _ here in (
      few place here,
      (
        omega arith,
        (
          omega arith,
          (
            omega (arith, cue.x),
            (
              tt,
              (
                omega (arith, cue.y),
                fits_numbered names epoch places u (All-tail (HasCue epoch) place places has)
                    few,
              ),
            ),
          ),
        ),
      ),
    )

pub fits_listings : (epoch : Epoch) (places : List ℕ) → IsUsable epoch → All (HasCue epoch) places
    → FitsFields (flat_map listing_fields (map (listing_of epoch) places))
fits_listings epoch [] u has = tt
fits_listings epoch (place ∷ places) u has =
    let here : place < length epoch.cues = All-head (HasCue epoch) place places has in
    let cue : IsUsablePlace (cue_at epoch.cues place) = u.cues place _ here in (
      omega (arith, u.few_cues),
      (
        omega
            arith,
        (
          omega
              arith,
          (
            omega
                (arith, cue.x),
            (
              tt,
              (
                omega (arith, cue.y),
                fits_listings epoch places u
                    (All-tail (HasCue epoch) place places has),
              ),
            ),
          ),
        ),
      ),
    )

depth_small : (depth : Depth) → depth_number depth < 2 ^ 3
depth_small Two = omega arith
depth_small Four = omega arith
depth_small Eight = omega arith

pub flag_small : (b : Bool) → flag b < 2 ^ 1
flag_small false = omega arith
flag_small true = omega arith

-- the head of a region as it is sent
abbrev pub head_of : SentRegion → Region → RegionHead
head_of sent region =
    record {
      region = sent.id;
      version = sent.version;
      fill = sent.fill;
      width = region.width;
      height = region.height;
      depth = region.depth;
      clut = region.clut;
      code8 = 0;
      code4 = 0;
      code2 = 0;
    }

pub listed_writable : (epoch : Epoch) (page : ℕ) (sent : SentRegion) (region : Region) (listings : List Listing)
    → page < 2 ^ 16 → IsUsable epoch → IsSendableRegion epoch sent → region ≡ epoch_region epoch sent.id
    → length listings ≡ length sent.cues → FitsFields (flat_map listing_fields listings)
    → IsWritable page (of_region (record { head = head_of sent region; listings = listings }))
    × (length (spelled page (of_region (record { head = head_of sent region; listings = listings })))
    ≡ region_size sent)
listed_writable epoch page sent region listings fits_page u s here count fits =
    let r = subst IsUsableRegion (sym here) (usable_region epoch sent.id u s.region).0 in
    let size = listings_size listings in
    let depth = depth_small region.depth in
    let body : FitsFields (written_body (of_region (record { head = head_of sent region; listings = listings }))) = (
      omega (arith, s.number),
      (
        omega
            (arith, s.version),
        (
          flag_small
              sent.fill,
          (
            tt,
            (
              omega
                  (arith, r.width),
              (
                omega
                    (arith, r.height),
                (
                  depth,
                  (
                    depth,
                    (
                      tt,
                      (
                        omega
                            (arith, r.clut),
                        (omega arith, (omega arith, (omega arith, (tt, fits)))),
                      ),
                    ),
                  ),
                ),
              ),
            ),
          ),
        ),
      ),
    ) in
    let whole =
    writable page (of_region (record { head = head_of sent region; listings = listings })) fits_page body
    (omega (arith, s.few)) (r.wide, r.high) tt in
    (whole, spelled_length page _ whole ∙ omega arith)

pub region_writable : (epoch : Epoch) (page : ℕ) (sent : SentRegion) (region : Region) (listings : List Listing)
    → page < 2 ^ 16 → IsUsable epoch → IsSendableRegion epoch sent → region ≡ epoch_region epoch sent.id
    → listings ≡ map (listing_of epoch) sent.cues
    → IsWritable page (of_region (record { head = head_of sent region; listings = listings }))
    × (length (spelled page (of_region (record { head = head_of sent region; listings = listings })))
    ≡ region_size sent)
region_writable epoch page sent region listings fits_page u s here same =
    listed_writable epoch page sent region listings fits_page u s here
    (ap length same ∙ length-map sent.cues (listing_of epoch))
    (subst (λ (ls : List Listing). FitsFields (flat_map listing_fields ls)) (sym same)
    (fits_listings epoch sent.cues u s.cues))

-- ---- CLUTs

fits_clut_entries : (epoch : Epoch) (places : List ℕ) → IsUsable epoch → All (HasColour epoch) places
    → FitsFields (flat_map coded_entry_fields (map in_full (map (clut_entry_of epoch) places)))
fits_clut_entries epoch [] u has = tt
fits_clut_entries epoch (place ∷ places) u has =
    let here : place < length epoch.colours = All-head (HasColour epoch) place places has in
    let row : IsUsableColour (row_at epoch.colours place) = u.colours place _ here in
    let entry = clut_entry_of epoch place in (
      row.entry,
      (
        flag_small
            entry.two,
        (
          flag_small
              entry.four,
          (
            flag_small
                entry.eight,
            (
              tt,
              (
                omega
                    arith,
                (
                  omega
                      (arith, row.y),
                  (
                    omega
                        (arith, row.cr),
                    (
                      omega
                          (arith, row.cb),
                      (
                        omega (arith, row.t),
                        fits_clut_entries epoch places u
                            (All-tail (HasColour epoch) place places has),
                      ),
                    ),
                  ),
                ),
              ),
            ),
          ),
        ),
      ),
    )

shown_clut_entries : (epoch : Epoch) (places : List ℕ) → IsUsable epoch → All (HasColour epoch) places
    → AllByRecursion (λ (entry : ClutEntry). shown_of entry.colour ≡ entry.colour)
    (map (clut_entry_of epoch) places)
shown_clut_entries epoch [] u has = tt
shown_clut_entries epoch (place ∷ places) u has = (
  (u.colours place _ (All-head (HasColour epoch) place places has)).shown,
  shown_clut_entries epoch places u
      (All-tail (HasColour epoch) place places has),
)

pub clut_writable : (epoch : Epoch) (page : ℕ) (sent : SentClut) (entries : List ClutEntry) → page < 2 ^ 16
    → IsUsable epoch → IsSendableClut epoch sent → entries ≡ map (clut_entry_of epoch) sent.rows
    → IsWritable page (of_clut (record { clut = sent.clut; version = sent.version; entries = entries }))
    × (length (spelled page (of_clut (record { clut = sent.clut; version = sent.version; entries = entries })))
    ≡ clut_size sent)
clut_writable epoch page sent entries fits_page u s same =
    let count : length entries ≡ length sent.rows = ap length same ∙ length-map sent.rows (clut_entry_of epoch) in
    let size = clut_entries_size entries in
    let fits : FitsFields (flat_map coded_entry_fields (map in_full entries)) =
    subst (λ (es : List ClutEntry). FitsFields (flat_map coded_entry_fields (map in_full es))) (sym same)
    (fits_clut_entries epoch sent.rows u s.rows) in
    let shown : AllByRecursion (λ (entry : ClutEntry). shown_of entry.colour ≡ entry.colour) entries =
    subst (AllByRecursion (λ (entry : ClutEntry). shown_of entry.colour ≡ entry.colour)) (sym same)
    (shown_clut_entries epoch sent.rows u s.rows) in
    let whole =
    writable page (of_clut (record { clut = sent.clut; version = sent.version; entries = entries })) fits_page
    (omega (arith, s.number), (omega (arith, s.version), (tt, fits))) (omega (arith, s.few)) tt
    (All-from_recursion (λ (entry : ClutEntry). shown_of entry.colour ≡ entry.colour) entries shown) in
    (whole, spelled_length page _ whole ∙ omega arith)

-- ---- all segments of a set

one_display : (script : Script) (page : ℕ) → page < 2 ^ 16
    → ∥ IsSoundScript script.origin script.width script.height script.refresh script.epochs script.pictures ∥₁
    → All (IsWritable page)
    (of_display (record { version = 0; width = script.width; height = script.height; window = None }) ∷ [])
one_display script page fits_page sound =
    let n =
    script_numbers script.origin script.width script.height script.refresh script.epochs script.pictures sound in
    let fits : FitsFields
    (written_body
    (of_display (record { version = 0; width = script.width; height = script.height; window = None }))) =
    (omega arith, (omega arith, (tt, (omega (arith, n.1), (omega (arith, n.3), tt))))) in
    let valid : IsValid
    (of_display
    (record { version = 0; width = script.width; height = script.height; window = None })) = (n.0, n.2, tt) in
    All-cons (IsWritable page)
    (of_display (record { version = 0; width = script.width; height = script.height; window = None })) []
    (writable page
    (of_display (record { version = 0; width = script.width; height = script.height; window = None })) fits_page
    fits (omega arith) valid tt) (λ k d h. absurd (omega arith))

display_writable : (script : Script) (page : ℕ) (state : State) → page < 2 ^ 16
    → ∥ IsSoundScript script.origin script.width script.height script.refresh script.epochs script.pictures ∥₁
    → All (IsWritable page) (display_segments script state)
display_writable script page Normal fits_page sound = λ k d h. absurd (omega arith)
display_writable script page Acquisition fits_page sound = one_display script page fits_page sound
display_writable script page ModeChange fits_page sound = one_display script page fits_page sound

regions_writable : (epoch : Epoch) (page : ℕ) (regions : List SentRegion) → page < 2 ^ 16 → IsUsable epoch
    → All (IsSendableRegion epoch) regions → All (IsWritable page) (map (region_segment_of epoch) regions)
regions_writable epoch page [] fits_page u each = λ k d h. absurd (omega arith)
regions_writable epoch page (sent ∷ regions) fits_page u each =
    All-cons (IsWritable page) (region_segment_of epoch sent) (map (region_segment_of epoch) regions)
    (region_writable epoch page sent (epoch_region epoch sent.id) (map (listing_of epoch) sent.cues) fits_page u
    (All-head (IsSendableRegion epoch) sent regions each) refl refl).0
    (regions_writable epoch page regions fits_page u (All-tail (IsSendableRegion epoch) sent regions each))

cluts_writable : (epoch : Epoch) (page : ℕ) (cluts : List SentClut) → page < 2 ^ 16 → IsUsable epoch
    → All (IsSendableClut epoch) cluts → All (IsWritable page) (map (clut_segment_of epoch) cluts)
cluts_writable epoch page [] fits_page u each = λ k d h. absurd (omega arith)
cluts_writable epoch page (sent ∷ cluts) fits_page u each =
    All-cons (IsWritable page) (clut_segment_of epoch sent) (map (clut_segment_of epoch) cluts)
    (clut_writable epoch page sent (map (clut_entry_of epoch) sent.rows) fits_page u
    (All-head (IsSendableClut epoch) sent cluts each) refl).0
    (cluts_writable epoch page cluts fits_page u (All-tail (IsSendableClut epoch) sent cluts each))

pub leading_writable : (script : Script) (epoch : Epoch) (page : ℕ) (set : PlannedSet) → page < 2 ^ 16
    → ∥ IsSoundScript script.origin script.width script.height script.refresh script.epochs script.pictures ∥₁
    → IsUsable epoch → IsSendableIn epoch set
    → All (IsWritable page) (leading_segments script epoch set)
leading_writable script epoch page set fits_page sound u s =
    let numbers =
    script_numbers script.origin script.width script.height script.refresh script.epochs script.pictures sound in
    let first =
    page_writable epoch page (time_out_of script) set.page_version set.state set.shown
    (map (page_entry_of epoch) set.shown) fits_page u (omega (arith, numbers.4)) s.page_version s.few_shown s.shown
    refl in
    All-append (IsWritable page) (display_segments script set.state)
    (page_segment script epoch set
    ∷ (map (region_segment_of epoch) set.regions ++ map (clut_segment_of epoch) set.cluts))
    (display_writable script page set.state fits_page sound)
    (All-cons (IsWritable page) (page_segment script epoch set)
    (map (region_segment_of epoch) set.regions ++ map (clut_segment_of epoch) set.cluts) first.0
    (All-append (IsWritable page) (map (region_segment_of epoch) set.regions) (map (clut_segment_of epoch) set.cluts)
    (regions_writable epoch page set.regions fits_page u s.regions)
    (cluts_writable epoch page set.cluts fits_page u s.cluts)))

pub end_writable : (page : ℕ) → page < 2 ^ 16 → IsWritable page end_of_set
end_writable page fits_page = writable page end_of_set fits_page tt (omega arith) tt tt
