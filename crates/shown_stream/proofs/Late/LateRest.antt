-- The later units of a set, received alone, are a set without a page: it is broken, and nothing is shown of it.
use Rattle.std.proofs.Common.{◌≡◌, ◌∙◌, ℕ, zero, suc, ◌+◌, ◌≤◌, Bool, true, false, ◌||◌, cond, eqb, List, [], ◌∷◌, ◌++◌, length, map, drop, Option, Some, None, refl, sym, ap, subst, arith}
use Rattle.std.specs.Prelude.{nat_le}
use Rattle.std.specs.Bool.{if◌then◌else◌}
use Rattle.std.specs.List.{AllByRecursion, AllZip, sum_by, list_any}
use Rattle.std.specs.Option.{option_or, is_some}
use Rattle.std.proofs.Math.Seq.{take-length}
use Rattle.std.proofs.lemmas.Bool.Decides.{nat_tests}
use Rattle.std.proofs.lemmas.List.Sums.{sum_by-cons}
use Rattle.sub_base.specs.Lists.{first_given, with_earlier}
use Rattle.sub_base.specs.Picture.{Picture}
use Rattle.sub_base.specs.declared.profile.Profile.{Profile}
use Rattle.stream_syntax.specs.SegmentTests.{IsSegmentFault}
use Rattle.stream_syntax.specs.Segments.{SegmentValue, Region, of_page, of_region, of_clut, of_object, of_display, end_of_set, passed_over, spelled, IsWritable, IsSegment}
use Rattle.stream_syntax.specs.declared.segment_fault.SegmentFault.{SegmentFault}
use Rattle.cue_list.specs.declared.epoch.Epoch.{Epoch}
use Rattle.cue_list.specs.declared.script.Script.{Script}
use Rattle.page_epoch.specs.declared.planned_set.PlannedSet.{PlannedSet}
use Rattle.page_epoch.specs.declared.planned_set.SentClut.{SentClut}
use Rattle.page_epoch.specs.declared.planned_set.SentRegion.{SentRegion}
use Rattle.segments.proofs.Readings.{one_reading, no_fault_there}
use Rattle.segments.proofs.Spellings.{written_segment}
use Rattle.decoder_model.specs.Contents.{page_in, region_in, page_in_set, where_passes, region_named}
use Rattle.decoder_model.specs.Faults.{contents_in, twice_among, fault_of_segment, segment_fault}
use Rattle.decoder_model.specs.Kept.{ahead_of, last_time}
use Rattle.decoder_model.specs.Readings.{Content, Reading, read, faulty, IsContent, AreReadings, IsDeliveryRead}
use Rattle.decoder_model.specs.Sets.{Delivery, whole}
use Rattle.decoder_model.specs.Shown.{nothing, view_of, standing_with, standing_after, view_at}
use Rattle.decoder_model.specs.Verdict.{verdict_on_segments, verdict_with_page, verdict_on_kept, verdict_of, sets_with, sets_since}
use Rattle.decoder_model.specs.declared.set_end.SetEnd.TheVariants.{Broken}
use Rattle.decoder_model.specs.declared.set_fault.SetFault.{SetFault}
use Rattle.decoder_model.specs.declared.set_fault.SetFault.TheVariants as fault
use Rattle.decoder_model.specs.declared.set_fault.SetFault.TheVariants.{NoPage}
use Rattle.set_coder.specs.SetSegments as planned
use Rattle.shown_stream.specs.SentPlan.{IsWrittenAs}
use Rattle.shown_stream.proofs.Sent.CompiledSets.{IsSentAs}
use Rattle.shown_stream.proofs.Late.LateSegments.{IsLater, later_segments, later_are, rest_segments}
use Rattle.shown_stream.proofs.Sent.WrittenSets.{joined_units}
use Rattle.sent_sets.proofs.LateSets.{rest_of_set}
use Rattle.sent_sets.proofs.SetEnds.{delivered}
use Rattle.sent_sets.proofs.Units.{TimedSet, all_segments, size_of_units}

-- ---- how they are read

-- a region has another id than an earlier segment
abbrev pub IsOther : SegmentValue → SegmentValue → Type 0
IsOther earlier (of_page value) = Unit {0}
IsOther earlier (of_region value) =
    is_some (where_passes (λ (region : Region). eqb region.head.region value.head.region) (region_in earlier))
    ≡ false
IsOther earlier (of_clut value) = Unit {0}
IsOther earlier (of_object value) = Unit {0}
IsOther earlier (of_display value) = Unit {0}
IsOther earlier end_of_set = Unit {0}
IsOther earlier passed_over = Unit {0}

-- no two regions have one id
abbrev pub HaveOtherRegions : List SegmentValue → Type 0
HaveOtherRegions [] = Unit {0}
HaveOtherRegions (value ∷ values) = AllByRecursion (IsOther value) values × HaveOtherRegions values

pub others_at_end : (front more : List SegmentValue) → HaveOtherRegions (front ++ more) → HaveOtherRegions more
others_at_end [] more h = h
others_at_end (value ∷ front) more h = others_at_end front more h.1

no_region_named : (id : ℕ) (before : List Content)
    → AllByRecursion
    (λ (content : Content). is_some
    (where_passes (λ (region : Region). eqb region.head.region id) (region_in content.value)) ≡ false) before
    → list_any (λ content. is_some (region_named id content)) before ≡ false
no_region_named id [] h = refl
no_region_named id (content ∷ before) h =
    ap (λ b. b || list_any (λ content. is_some (region_named id content)) before) h.0
    ∙ no_region_named id before h.1

-- such a segment is no second one
not_twice : (before : List Content) (value : SegmentValue) → IsLater value
    → AllByRecursion (λ (content : Content). IsOther content.value value) before
    → twice_among before value ≡ None
not_twice before (of_page value) later other = absurd later
not_twice before (of_region value) later other =
    ap (λ b. if b then Some (fault.TwiceInSet 0x11 value.head.region) else None)
    (no_region_named value.head.region before other)
not_twice before (of_clut value) later other = refl
not_twice before (of_object value) later other = refl
not_twice before (of_display value) later other = absurd later
not_twice before end_of_set later other = refl
not_twice before passed_over later other = refl

-- what is read of a segment that is written is its value, and no fault
pub same_value : (page : ℕ) (value : SegmentValue) (content : Content) → IsWritable page value
    → IsContent (spelled page value) content → value ≡ content.value
same_value page value content writable is =
    (one_reading (spelled page value) (spelled page value) [] [] value content.value
    (written_segment page value writable) is.segment refl).1

pub not_faulty : (page : ℕ) (value : SegmentValue) (found : SegmentFault) → IsWritable page value
    → IsSegmentFault (spelled page value) found → ⊥
not_faulty page value found writable bad =
    no_fault_there (spelled page value) (length (spelled page value)) value found (omega arith)
    (subst (λ (all : List ℕ). IsSegment all value) (sym (take-length (spelled page value)))
    (written_segment page value writable)) bad

-- so it is with the bytes of one, whatever page it is written for
pub value_read : (value : SegmentValue) (bytes : List ℕ) (content : Content) → IsWrittenAs value bytes
    → IsContent bytes content → value ≡ content.value
value_read value bytes content written is =
    same_value written.0 value content written.1 (subst (λ (all : List ℕ). IsContent all content) written.2 is)

pub never_faulty : (value : SegmentValue) (bytes : List ℕ) (found : SegmentFault) → IsWrittenAs value bytes
    → IsSegmentFault bytes found → ⊥
never_faulty value bytes found written bad =
    not_faulty written.0 value found written.1 (subst (λ (all : List ℕ). IsSegmentFault all found) written.2 bad)

-- segments that can be written for a page
pub all_written : (page : ℕ) (values : List SegmentValue) → AllByRecursion (IsWritable page) values
    → AllZip IsWrittenAs values (map (spelled page) values)
all_written page [] h = tt
all_written page (value ∷ values) h = ((page, h.0, refl), all_written page values h.1)

-- all of these are other than an earlier one
abbrev pub AreOther : List Reading → List SegmentValue → Type 0
AreOther before values =
    AllByRecursion
    (λ (value : SegmentValue). AllByRecursion (λ (content : Content). IsOther content.value value)
    (contents_in before)) values

pub one_earlier : (content : Content) (before : List Reading) (values : List SegmentValue)
    → AllByRecursion (IsOther content.value) values → AreOther before values
    → AreOther (read content ∷ before) values
one_earlier content before [] h k = tt
one_earlier content before (value ∷ values) h k = ((h.0, k.0), one_earlier content before values h.1 k.1)

-- segments without a display and a page, of which no two regions have one id, are read without a fault
pub no_fault_read : (before : List Reading) (values : List SegmentValue) (segments : List (List ℕ))
    (readings : List Reading) → AllByRecursion IsLater values → HaveOtherRegions values → AreOther before values
    → AllZip IsWrittenAs values segments → AreReadings segments readings
    → first_given (λ (placed : Reading × List Reading). fault_of_segment placed.1 placed.0)
    (with_earlier before readings) ≡ None
no_fault_read before [] [] [] h others earlier written are = refl
no_fault_read before [] [] (reading ∷ readings) h others earlier written are = absurd are
no_fault_read before [] (bytes ∷ segments) readings h others earlier written are = absurd written
no_fault_read before (value ∷ values) [] readings h others earlier written are = absurd written
no_fault_read before (value ∷ values) (bytes ∷ segments) [] h others earlier written are = absurd are
no_fault_read before (value ∷ values) (bytes ∷ segments) (faulty found ∷ readings) h others earlier written are =
    absurd (never_faulty value bytes found written.0 are.0)
no_fault_read before (value ∷ values) (bytes ∷ segments) (read content ∷ readings) h others earlier written are =
    let same = value_read value bytes content written.0 are.0 in
    let rest =
    no_fault_read (read content ∷ before) values segments readings h.1 others.1
    (one_earlier content before values
    (subst (λ (v : SegmentValue). AllByRecursion (IsOther v) values) same others.0) earlier.1) written.1 are.1 in
    ap (λ found. option_or found
    (first_given (λ (placed : Reading × List Reading). fault_of_segment placed.1 placed.0)
    (with_earlier (read content ∷ before) readings)))
    (ap (twice_among (contents_in before)) (sym same) ∙ not_twice (contents_in before) value h.0 earlier.0)
    ∙ rest

-- a segment that is no page
abbrev pub IsNoPage : SegmentValue → Type 0
IsNoPage value = page_in value ≡ None

pub later_no_page : (value : SegmentValue) → IsLater value → page_in value ≡ None
later_no_page (of_page value) h = absurd h
later_no_page (of_region value) h = refl
later_no_page (of_clut value) h = refl
later_no_page (of_object value) h = refl
later_no_page (of_display value) h = absurd h
later_no_page end_of_set h = refl
later_no_page passed_over h = refl

later_none : (values : List SegmentValue) → AllByRecursion IsLater values → AllByRecursion IsNoPage values
later_none [] h = tt
later_none (value ∷ values) h = (later_no_page value h.0, later_none values h.1)

-- and without a page
pub no_page_read : (values : List SegmentValue) (segments : List (List ℕ)) (readings : List Reading)
    → AllByRecursion IsNoPage values → AllZip IsWrittenAs values segments → AreReadings segments readings
    → page_in_set (contents_in readings) ≡ None
no_page_read [] [] [] h written are = refl
no_page_read [] [] (reading ∷ readings) h written are = absurd are
no_page_read [] (bytes ∷ segments) readings h written are = absurd written
no_page_read (value ∷ values) [] readings h written are = absurd written
no_page_read (value ∷ values) (bytes ∷ segments) [] h written are = absurd are
no_page_read (value ∷ values) (bytes ∷ segments) (faulty found ∷ readings) h written are =
    no_page_read values segments readings h.1 written.1 are.1
no_page_read (value ∷ values) (bytes ∷ segments) (read content ∷ readings) h written are =
    ap (λ found. option_or found (page_in_set (contents_in readings)))
    (ap page_in (sym (value_read value bytes content written.0 are.0)) ∙ h.0)
    ∙ no_page_read values segments readings h.1 written.1 are.1

pub none_earlier : (values : List SegmentValue) → AreOther [] values
none_earlier [] = tt
none_earlier (value ∷ values) = (tt, none_earlier values)

-- ---- the later units of a set are broken

-- the regions that a set sends have different numbers
abbrev pub HaveNumbers : List SentRegion → Type 0
HaveNumbers sent = (id : ℕ) → sum_by (λ (one : SentRegion). cond (eqb id one.id) 1 0) sent ≤ 1

numbers_behind : (one : SentRegion) (sent : List SentRegion) → HaveNumbers (one ∷ sent) → HaveNumbers sent
numbers_behind one sent h =
    λ id. omega (arith, h id, sum_by-cons (λ (other : SentRegion). cond (eqb id other.id) 1 0) one sent)

-- what stands behind regions has no region
abbrev pub IsNoRegion : SegmentValue → Type 0
IsNoRegion value = region_in value ≡ None

no_region_other : (earlier value : SegmentValue) → IsNoRegion value → IsOther earlier value
no_region_other earlier (of_page value) h = tt
no_region_other earlier (of_region value) h = absurd (cc)
no_region_other earlier (of_clut value) h = tt
no_region_other earlier (of_object value) h = tt
no_region_other earlier (of_display value) h = tt
no_region_other earlier end_of_set h = tt
no_region_other earlier passed_over h = tt

all_no_region : (earlier : SegmentValue) (values : List SegmentValue) → AllByRecursion IsNoRegion values
    → AllByRecursion (IsOther earlier) values
all_no_region earlier [] h = tt
all_no_region earlier (value ∷ values) h = (no_region_other earlier value h.0, all_no_region earlier values h.1)

none_of_regions : (values : List SegmentValue) → AllByRecursion IsNoRegion values → HaveOtherRegions values
none_of_regions [] h = tt
none_of_regions (value ∷ values) h = (all_no_region value values h.1, none_of_regions values h.1)

-- the segment of a region
abbrev pub region_with : Epoch → SentRegion → Region
region_with epoch sent = record {
  head = record {
    region = sent.id;
    version = sent.version;
    fill = sent.fill;
    width = (planned.epoch_region epoch sent.id).width;
    height = (planned.epoch_region epoch sent.id).height;
    depth = (planned.epoch_region epoch sent.id).depth;
    clut = (planned.epoch_region epoch sent.id).clut;
    code8 = 0;
    code4 = 0;
    code2 = 0;
  };
  listings = map (planned.listing_of epoch) sent.cues;
}

same_number : (id : ℕ) → eqb id id ≡ true
same_number id = grind (arith, nat_tests)

other_numbers : (epoch : Epoch) (one : SentRegion) (sent : List SentRegion) (behind : List SegmentValue)
    → sum_by (λ (other : SentRegion). cond (eqb one.id other.id) 1 0) sent ≤ 0 → AllByRecursion IsNoRegion behind
    → AllByRecursion (IsOther (planned.region_segment_of epoch one))
    (map (planned.region_segment_of epoch) sent ++ behind)
other_numbers epoch one [] behind h none = all_no_region (planned.region_segment_of epoch one) behind none
other_numbers epoch one (other ∷ sent) behind h none =
    let total = sum_by-cons (λ (next : SentRegion). cond (eqb one.id next.id) 1 0) other sent in
    (by (eqb one.id other.id) refl (omega arith), other_numbers epoch one sent behind (omega arith) none)
  where
    by : (same : Bool) → eqb one.id other.id ≡ same → cond (eqb one.id other.id) 1 0 ≤ 0
        → is_some
        (where_passes (λ (region : Region). eqb region.head.region other.id) (Some (region_with epoch one))) ≡ false
    by true is none_here =
        absurd (let one_here : cond {A = ℕ} (eqb one.id other.id) 1 0
        ≡ 1 = ap (λ (b : Bool). cond {A = ℕ} b 1 0) is in omega arith)
    by false is none_here = ap (λ (b : Bool). is_some (if b then Some (region_with epoch one) else None)) is

pub regions_other : (epoch : Epoch) (sent : List SentRegion) (behind : List SegmentValue) → HaveNumbers sent
    → AllByRecursion IsNoRegion behind → HaveOtherRegions (map (planned.region_segment_of epoch) sent ++ behind)
regions_other epoch [] behind h none = none_of_regions behind none
regions_other epoch (one ∷ sent) behind h none =
    let here : cond {A = ℕ} (eqb one.id one.id) 1 0
    ≡ 1 = ap (λ (b : Bool). cond {A = ℕ} b 1 0) (same_number one.id) in
    let total = sum_by-cons (λ (other : SentRegion). cond (eqb one.id other.id) 1 0) one sent in (
      other_numbers epoch one sent behind (omega (arith, h one.id, total, here)) none,
      regions_other epoch sent behind
          (numbers_behind one sent h) none,
    )

pub objects_no_region : (pictures : List Picture) (epoch : Epoch) (places : List ℕ) (segments : List SegmentValue)
    → planned.AreObjectsOf pictures epoch places segments
    → AllByRecursion IsNoRegion (segments ++ end_of_set ∷ [])
objects_no_region pictures epoch [] [] h = (refl, tt)
objects_no_region pictures epoch [] (segment ∷ segments) h = absurd h
objects_no_region pictures epoch (place ∷ places) [] h = absurd h
objects_no_region pictures epoch (place ∷ places) (segment ∷ segments) h =
    (ap region_in h.0.value, objects_no_region pictures epoch places segments h.1)

pub cluts_no_region : (epoch : Epoch) (sent : List SentClut) (behind : List SegmentValue)
    → AllByRecursion IsNoRegion behind
    → AllByRecursion IsNoRegion (map (planned.clut_segment_of epoch) sent ++ behind)
cluts_no_region epoch [] behind h = h
cluts_no_region epoch (one ∷ sent) behind h = (refl, cluts_no_region epoch sent behind h)

-- what the plan says of a set that is cut
pub record IsPlannedWell (set : PlannedSet) : Type 0 where
  pub few : length set.shown ≤ 64
  pub numbers : HaveNumbers set.regions

all_first : (page : ℕ) (values : List SegmentValue)
    → AllByRecursion (λ value. IsWritable page value × IsLater value) values
    → AllByRecursion (IsWritable page) values
all_first page [] h = tt
all_first page (value ∷ values) h = (h.0.0, all_first page values h.1)

all_second : (page : ℕ) (values : List SegmentValue)
    → AllByRecursion (λ value. IsWritable page value × IsLater value) values → AllByRecursion IsLater values
all_second page [] h = tt
all_second page (value ∷ values) h = (h.0.1, all_second page values h.1)

-- the later units of a set are read as a set without a page, and without any other fault: it is broken for that,
-- whatever sets came before
pub rest_is_broken : (profile : Profile) (script : Script) (page : ℕ) (set : PlannedSet) (packets : List (List ℕ))
    (sent : TimedSet) → IsSentAs script page set packets sent → IsPlannedWell set → (k : ℕ) → 1 ≤ k
    → (sets : List (List Content)) (readings : List Reading)
    → AreReadings (all_segments (rest_of_set k sent)) readings
    → verdict_on_kept profile sets readings ≡ Broken NoPage
rest_is_broken profile script page set packets sent is well zero some sets readings are = absurd (omega arith)
rest_is_broken profile script page set packets sent is well (suc k) some sets readings are =
    let values = joined_units (drop (suc k) is.units) in
    let each = later_are script page set packets sent is well.few k in
    let later = all_second page values each in
    let written = all_written page values (all_first page values each) in
    let ends = later_segments script page set packets sent is well.few k in
    let epoch = is.carried.epoch in
    let objects = is.carried.objects in
    let behind = map (planned.clut_segment_of epoch) set.cluts ++ (objects ++ end_of_set ∷ []) in
    let none =
    cluts_no_region epoch set.cluts (objects ++ end_of_set ∷ [])
    (objects_no_region script.pictures epoch set.cues objects is.carried.drawn) in
    let others =
    others_at_end ends.front values
    (subst HaveOtherRegions ends.are (regions_other epoch set.regions behind well.numbers none)) in
    let read_so =
    subst (λ (segments : List (List ℕ)). AreReadings segments readings)
    (rest_segments script page set packets sent is (suc k)) are in
    ap (verdict_on_segments profile sets (contents_in readings))
    (no_fault_read [] values (map (spelled page) values) readings later others (none_earlier values) written
    read_so)
    ∙ ap (verdict_with_page profile sets (contents_in readings))
    (no_page_read values (map (spelled page) values) readings (later_none values later) written read_so)

-- a set without a page is broken, for that or for a fault of a segment, whatever sets came before
breaks : (profile : Profile) (sets : List (List Content)) (readings : List Reading)
    → page_in_set (contents_in readings) ≡ None
    → (fault : SetFault) × (verdict_on_kept profile sets readings ≡ Broken fault)
breaks profile sets readings none = by (segment_fault readings)
  where
    by : (found : Option SetFault)
        → (fault : SetFault) × (verdict_on_segments profile sets (contents_in readings) found ≡ Broken fault)
    by (Some fault) = (fault, refl)
    by None = (NoPage, ap (verdict_with_page profile sets (contents_in readings)) none)

-- ---- what is shown of it

-- the first set of all is kept; where it is broken it counts for no later one, and nothing is shown of it
broken_first : (profile : Profile) (anchor time size : ℕ) (readings : List Reading) (fault : SetFault)
    → verdict_on_kept profile [] readings ≡ Broken fault
    → verdict_of profile anchor [] (whole time size readings) ≡ Some (Broken fault)
unfolding last_time sets_since
broken_first profile anchor time size readings fault is = ap Some is

counts_for_none : (profile : Profile) (anchor time size : ℕ) (readings : List Reading) (fault : SetFault)
    → verdict_on_kept profile [] readings ≡ Broken fault
    → sets_since profile anchor (whole time size readings ∷ []) ≡ []
unfolding last_time sets_since
counts_for_none profile anchor time size readings fault is =
    ap (λ verdict. sets_with [] (whole time size readings) (Some verdict)) is

nothing_stands : (profile : Profile) (anchor time size : ℕ) (readings : List Reading) (fault : SetFault)
    → verdict_on_kept profile [] readings ≡ Broken fault
    → standing_after profile anchor (whole time size readings ∷ []) ≡ None
unfolding last_time sets_since standing_after
nothing_stands profile anchor time size readings fault is =
    ap (λ verdict. standing_with [] (Some (anchor + ahead_of anchor time)) (whole time size readings) (Some verdict)
    None) is

either_clear : (come : Bool) → (if come then nothing else nothing) ≡ nothing
either_clear true = refl
either_clear false = refl

nothing_shown : (profile : Profile) (anchor tick time size : ℕ) (readings : List Reading) (fault : SetFault)
    → verdict_on_kept profile [] readings ≡ Broken fault
    → view_at profile anchor tick (whole time size readings ∷ []) ≡ nothing
unfolding last_time view_at
nothing_shown profile anchor tick time size readings fault is =
    ap (λ standing. if nat_le (anchor + ahead_of anchor time) tick then view_of tick standing else nothing)
    (nothing_stands profile anchor time size readings fault is)
    ∙ either_clear (nat_le (anchor + ahead_of anchor time) tick)

-- what a receiver makes of a set that comes first of all: it is broken, no epoch begins with it, and nothing is shown
pub record IsBrokenFirst (profile : Profile) (anchor : ℕ) (first : Delivery Reading) : Type 0 where
  pub fault : SetFault
  pub verdict : verdict_of profile anchor [] first ≡ Some (Broken fault)
  pub counts : sets_since profile anchor (first ∷ []) ≡ []
  pub clear : (tick : ℕ) → view_at profile anchor tick (first ∷ []) ≡ nothing

-- so it is with a set without a page
pub comes_broken : (profile : Profile) (anchor : ℕ) (one : TimedSet)
    → ((readings : List Reading) → AreReadings (all_segments one) readings
    → page_in_set (contents_in readings) ≡ None)
    → (first : Delivery Reading) → IsDeliveryRead (delivered one) first → IsBrokenFirst profile anchor first
comes_broken profile anchor one none first come =
    let broken = breaks profile [] come.0 (none come.0 come.1) in
    let size = size_of_units one.units in
    subst (IsBrokenFirst profile anchor) (sym come.2) (record {
      fault = broken.0;
      verdict = broken_first profile anchor one.time size come.0 broken.0 broken.1;
      counts = counts_for_none profile anchor one.time size come.0 broken.0 broken.1;
      clear = λ tick. nothing_shown profile anchor tick one.time size come.0 broken.0 broken.1;
    })
