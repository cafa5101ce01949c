-- The segments of the later units of a set: its display and its page stand in its first unit.
use Rattle.std.proofs.Common.{◌≡◌, ◌∙◌, ℕ, zero, suc, ◌+◌, ◌*◌, ◌≤◌, List, [], ◌∷◌, ◌++◌, length, map, drop, None, sym, ap, subst, refl, arith, append-nil, append_assoc}
use Rattle.std.specs.List.{AllByRecursion, flat_map, sum_by}
use Rattle.std.proofs.lemmas.List.{drop-map, length-map}
use Rattle.std.proofs.lemmas.List.Elements.{recursion_from_All}
use Rattle.std.proofs.lemmas.List.Sums.{sum_by-append}
use Rattle.sub_base.specs.Picture.{Picture}
use Rattle.stream_syntax.specs.Fields.{number, reserved}
use Rattle.stream_syntax.specs.Segments.{SegmentValue, Page, Display, of_page, of_region, of_clut, of_object, of_display, end_of_set, passed_over, page_entry_fields, page_fields, display_fields, state_number, width_of, spelled, IsWritable}
use Rattle.stream_syntax.specs.declared.page.PageEntry.{PageEntry}
use Rattle.stream_syntax.specs.declared.page.State.{State}
use Rattle.stream_syntax.specs.declared.page.State.TheVariants.{Normal, Acquisition, ModeChange}
use Rattle.pes_packets.specs.Units.{AreUnits}
use Rattle.cue_list.specs.declared.epoch.Epoch.{Epoch}
use Rattle.cue_list.specs.declared.script.Script.{Script}
use Rattle.page_epoch.specs.declared.planned_set.PlannedSet.{PlannedSet}
use Rattle.page_epoch.specs.declared.planned_set.SentClut.{SentClut}
use Rattle.page_epoch.specs.declared.planned_set.SentRegion.{SentRegion}
use Rattle.segments.proofs.Spellings.{spelled_size}
use Rattle.set_coder.specs.SetSegments as planned
use Rattle.shown_stream.proofs.Sent.CompiledSets.{IsSentAs}
use Rattle.shown_stream.proofs.Sent.WrittenSets.{unit_with, joined_units, segments_with}
use Rattle.sent_sets.proofs.LateSets.{rest_of_set}
use Rattle.sent_sets.proofs.RawUnits.{parts_of_all}
use Rattle.sent_sets.proofs.Units.{SetUnit, TimedSet, all_segments, segments_of_units}

-- ---- the page stands in the first unit

-- the segment is neither a display nor a page
abbrev pub IsLater : SegmentValue → Type 0
IsLater (of_page value) = ⊥
IsLater (of_region value) = Unit {0}
IsLater (of_clut value) = Unit {0}
IsLater (of_object value) = Unit {0}
IsLater (of_display value) = ⊥
IsLater end_of_set = Unit {0}
IsLater passed_over = Unit {0}

objects_later : (pictures : List Picture) (epoch : Epoch) (places : List ℕ) (segments : List SegmentValue)
    → planned.AreObjectsOf pictures epoch places segments → AllByRecursion IsLater (segments ++ end_of_set ∷ [])
objects_later pictures epoch [] [] h = (tt, tt)
objects_later pictures epoch [] (segment ∷ segments) h = absurd h
objects_later pictures epoch (place ∷ places) [] h = absurd h
objects_later pictures epoch (place ∷ places) (segment ∷ segments) h =
    (subst IsLater (sym h.0.value) tt, objects_later pictures epoch places segments h.1)

cluts_later : (epoch : Epoch) (sent : List SentClut) (behind : List SegmentValue) → AllByRecursion IsLater behind
    → AllByRecursion IsLater (map (planned.clut_segment_of epoch) sent ++ behind)
cluts_later epoch [] behind h = h
cluts_later epoch (one ∷ sent) behind h = (tt, cluts_later epoch sent behind h)

regions_later : (epoch : Epoch) (sent : List SentRegion) (behind : List SegmentValue)
    → AllByRecursion IsLater behind → AllByRecursion IsLater (map (planned.region_segment_of epoch) sent ++ behind)
regions_later epoch [] behind h = h
regions_later epoch (one ∷ sent) behind h = (tt, regions_later epoch sent behind h)

-- a list ends with another one
pub record EndsWith (all more : List SegmentValue) : Type 0 where
  pub front : List SegmentValue
  pub are : all ≡ front ++ more

-- of a list that begins with an item, what stands behind a prefix that is not empty
behind_one : (front more : List SegmentValue) (x : SegmentValue) (tail : List SegmentValue) → 1 ≤ length front
    → front ++ more ≡ x ∷ tail → EndsWith tail more
behind_one [] more x tail some e = absurd (omega arith)
behind_one (y ∷ front) more x tail some e =
    let rest : front ++ more ≡ tail = cc in record { front = front; are = sym rest }

-- of one that begins with two items that are small together, where the front is closed
behind_two : (bytes : SegmentValue → ℕ) (first : List SegmentValue) (units : List (List SegmentValue))
    (x y : SegmentValue) (tail : List SegmentValue) → AreUnits bytes (first ∷ units) → bytes x + bytes y ≤ 65524
    → first ++ joined_units units ≡ x ∷ y ∷ tail → EndsWith tail (joined_units units)
behind_two bytes [] units x y tail are small e = absurd (omega (arith, are.0.0))
behind_two bytes (a ∷ []) [] x y tail are small e = absurd (omega (arith, ap length e))
behind_two bytes (a ∷ []) ([] ∷ units) x y tail are small e = absurd (omega (arith, are.2.0.0))
behind_two bytes (a ∷ []) ((b ∷ next) ∷ units) x y tail are small e =
    let first : a ≡ x = cc in
    let second : b ≡ y = cc in
    let closed = are.1 in
    absurd (omega (arith, closed, ap bytes first, ap bytes second))
behind_two bytes (a ∷ b ∷ front) units x y tail are small e =
    let rest : front ++ joined_units units ≡ tail = cc in record { front = front; are = sym rest }

-- ---- how many bytes display and page have

entries_width : (entries : List PageEntry)
    → sum_by width_of (flat_map page_entry_fields entries) ≡ 48 * length entries
entries_width [] = refl
entries_width (entry ∷ entries) =
    omega (
      arith,
      entries_width entries,
      sum_by-append width_of (page_entry_fields entry)
          (flat_map page_entry_fields entries),
    )

page_bytes : (page : ℕ) (value : Page) → IsWritable page (of_page value)
    → planned.segment_bytes page (of_page value) ≡ 8 + 6 * length value.entries
page_bytes page value writable =
    let all : sum_by width_of (page_fields value) ≡ 16 + 48 * length value.entries =
    sum_by-append width_of
    (number 8 value.time_out ∷ number 4 value.version ∷ number 2 (state_number value.state) ∷ reserved 2
    ∷ []) (flat_map page_entry_fields value.entries) ∙ omega (arith, entries_width value.entries) in
    omega (arith, spelled_size page (of_page value) writable, all)

display_bytes : (page : ℕ) (value : Display) → value.window ≡ None → IsWritable page (of_display value)
    → planned.segment_bytes page (of_display value) ≡ 11
display_bytes page value none writable =
    let all : sum_by width_of (display_fields 0 value) ≡ 40 =
    ap (λ window. sum_by width_of
    (display_fields 0
    (record { version = value.version; width = value.width; height = value.height; window = window }))) none in
    omega (arith, spelled_size page (of_display value) writable, all)

abbrev display_in : Script → Display
display_in script = record { version = 0; width = script.width; height = script.height; window = None }

-- together they have room in a unit
both_small : (script : Script) (page : ℕ) (epoch : Epoch) (set : PlannedSet) → length set.shown ≤ 64
    → IsWritable page (of_display (display_in script)) → IsWritable page (planned.page_segment script epoch set)
    → planned.segment_bytes page (of_display (display_in script))
    + planned.segment_bytes page (planned.page_segment script epoch set) ≤ 65524
both_small script page epoch set few display writable =
    omega (
      arith,
      few,
      display_bytes page (display_in script) refl display,
      page_bytes page
          (record {
            time_out = planned.time_out_of script;
            version = set.page_version;
            state = set.state;
            entries = map
                (planned.page_entry_of epoch) set.shown;
          }) writable,
      length-map set.shown (planned.page_entry_of epoch),
    )

-- ---- the later units of a set

-- what comes behind the page
abbrev pub behind_page : Epoch → PlannedSet → List SegmentValue → List SegmentValue
behind_page epoch set objects =
    map (planned.region_segment_of epoch) set.regions
    ++ (map (planned.clut_segment_of epoch) set.cluts ++ (objects ++ end_of_set ∷ []))

pub later_behind_page : (script : Script) (epoch : Epoch) (set : PlannedSet) (objects : List SegmentValue)
    → planned.AreObjectsOf script.pictures epoch set.cues objects
    → AllByRecursion IsLater (behind_page epoch set objects)
later_behind_page script epoch set objects drawn =
    regions_later epoch set.regions (map (planned.clut_segment_of epoch) set.cluts ++ (objects ++ end_of_set ∷ []))
    (cluts_later epoch set.cluts (objects ++ end_of_set ∷ [])
    (objects_later script.pictures epoch set.cues objects drawn))

pub regrouped : (xs ys zs : List SegmentValue) (x : SegmentValue)
    → (x ∷ (xs ++ ys)) ++ zs ≡ x ∷ (xs ++ (ys ++ zs))
regrouped xs ys zs x = ap (λ rest. x ∷ rest) (append_assoc xs ys zs)

-- the first unit of a set has its display and its page, as both have room in it: the later units have what comes behind
first_has_page : (script : Script) (page : ℕ) (set : PlannedSet) (state : State) (epoch : Epoch)
    (objects first : List SegmentValue) (units : List (List SegmentValue)) → length set.shown ≤ 64
    → AreUnits (planned.segment_bytes page) (first ∷ units)
    → first ++ joined_units units ≡ planned.display_segments script state
    ++ (planned.page_segment script epoch set ∷ behind_page epoch set objects)
    → AllByRecursion (IsWritable page)
    (planned.display_segments script state
    ++ (planned.page_segment script epoch set ∷ behind_page epoch set objects))
    → EndsWith (behind_page epoch set objects) (joined_units units)
first_has_page script page set Normal epoch objects first units few are joined fit =
    behind_one first (joined_units units) (planned.page_segment script epoch set) (behind_page epoch set objects)
    are.0.0 joined
first_has_page script page set Acquisition epoch objects first units few are joined fit =
    behind_two (planned.segment_bytes page) first units (of_display (display_in script))
    (planned.page_segment script epoch set) (behind_page epoch set objects) are
    (both_small script page epoch set few fit.0 fit.1.0) joined
first_has_page script page set ModeChange epoch objects first units few are joined fit =
    behind_two (planned.segment_bytes page) first units (of_display (display_in script))
    (planned.page_segment script epoch set) (behind_page epoch set objects) are
    (both_small script page epoch set few fit.0 fit.1.0) joined

ends_behind : (k : ℕ) (all : List SegmentValue) (units : List (List SegmentValue))
    → EndsWith all (joined_units units) → EndsWith all (joined_units (drop k units))
ends_behind zero all units h = h
ends_behind (suc k) all [] h = h
ends_behind (suc k) all (unit ∷ units) h =
    ends_behind k all units
    (record { front = h.front ++ unit; are = h.are ∙ sym (append_assoc h.front unit (joined_units units)) })

ends_with_itself : (all : List SegmentValue) → EndsWith all []
ends_with_itself all = record { front = all; are = sym (append-nil all) }

segments_in_parts : (script : Script) (page : ℕ) (set : PlannedSet) (packets : List (List ℕ)) (sent : TimedSet)
    → (is : IsSentAs script page set packets sent)
    → is.segments ≡ planned.display_segments script set.state
    ++ (planned.page_segment script is.carried.epoch set ∷ behind_page is.carried.epoch set is.carried.objects)
segments_in_parts script page set packets sent is =
    let epoch = is.carried.epoch in
    let regions = map (planned.region_segment_of epoch) set.regions in
    let cluts = map (planned.clut_segment_of epoch) set.cluts in
    is.carried.whole
    ∙ append_assoc (planned.display_segments script set.state)
    (planned.page_segment script epoch set ∷ (regions ++ cluts)) (is.carried.objects ++ end_of_set ∷ [])
    ∙ ap (λ rest. planned.display_segments script set.state ++ rest)
    (regrouped regions cluts (is.carried.objects ++ end_of_set ∷ []) (planned.page_segment script epoch set))

-- the segments of the units behind the first ones stand behind the page
pub later_segments : (script : Script) (page : ℕ) (set : PlannedSet) (packets : List (List ℕ)) (sent : TimedSet)
    → (is : IsSentAs script page set packets sent) → length set.shown ≤ 64 → (k : ℕ)
    → EndsWith (behind_page is.carried.epoch set is.carried.objects) (joined_units (drop (suc k) is.units))
later_segments script page set packets sent is few k = by is.units is.shared.each is.shared.whole
  where
    epoch : Epoch
    epoch = is.carried.epoch

    objects : List SegmentValue
    objects = is.carried.objects

    by : (units : List (List SegmentValue)) → AreUnits (planned.segment_bytes page) units
        → joined_units units ≡ is.segments
        → EndsWith (behind_page epoch set objects) (joined_units (drop (suc k) units))
    by [] each joined = ends_with_itself (behind_page epoch set objects)
    by (first ∷ units) each joined =
        let all = segments_in_parts script page set packets sent is in
        let fit = recursion_from_All (IsWritable page) is.segments is.carried.fit in
        ends_behind k (behind_page epoch set objects) units
        (first_has_page script page set set.state epoch objects first units few each (joined ∙ all)
        (subst (AllByRecursion (IsWritable page)) all fit))

pub both_hold : (P Q : SegmentValue → Type 0) (values : List SegmentValue) → AllByRecursion P values
    → AllByRecursion Q values → AllByRecursion (λ value. P value × Q value) values
both_hold P Q [] h k = tt
both_hold P Q (value ∷ values) h k = ((h.0, k.0), both_hold P Q values h.1 k.1)

all_at_end : (P : SegmentValue → Type 0) (all more : List SegmentValue) → EndsWith all more
    → AllByRecursion P all → AllByRecursion P more
all_at_end P all more h each = (parts_of_all P h.front more (subst (AllByRecursion P) h.are each)).1

-- they can be written, and none of them is a display or a page
pub later_are : (script : Script) (page : ℕ) (set : PlannedSet) (packets : List (List ℕ)) (sent : TimedSet)
    → (is : IsSentAs script page set packets sent) → length set.shown ≤ 64 → (k : ℕ)
    → AllByRecursion (λ value. IsWritable page value × IsLater value) (joined_units (drop (suc k) is.units))
later_are script page set packets sent is few k =
    let epoch = is.carried.epoch in
    let objects = is.carried.objects in
    let ends = later_segments script page set packets sent is few k in
    let all = segments_in_parts script page set packets sent is in
    let fit =
    subst (AllByRecursion (IsWritable page)) all (recursion_from_All (IsWritable page) is.segments is.carried.fit)
    in
    let behind =
    (parts_of_all (IsWritable page) (planned.display_segments script set.state)
    (planned.page_segment script epoch set ∷ behind_page epoch set objects) fit).1.1 in
    both_hold (IsWritable page) IsLater (joined_units (drop (suc k) is.units))
    (all_at_end (IsWritable page) (behind_page epoch set objects) (joined_units (drop (suc k) is.units)) ends
    behind)
    (all_at_end IsLater (behind_page epoch set objects) (joined_units (drop (suc k) is.units)) ends
    (later_behind_page script epoch set objects is.carried.drawn))

-- they are the segments of what is left of the set
pub rest_segments : (script : Script) (page : ℕ) (set : PlannedSet) (packets : List (List ℕ)) (sent : TimedSet)
    → (is : IsSentAs script page set packets sent) → (k : ℕ)
    → all_segments (rest_of_set k sent) ≡ map (spelled page) (joined_units (drop k is.units))
rest_segments script page set packets sent is k =
    ap (λ (units : List SetUnit). segments_of_units (drop k units)) is.each
    ∙ ap segments_of_units (drop-map (unit_with page set.pts) k is.units)
    ∙ segments_with page set.pts (drop k is.units)
