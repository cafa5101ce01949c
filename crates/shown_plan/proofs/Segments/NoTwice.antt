-- The segments of a set of the plan, as they are read, have no fault: there is one page, one display at most, and no
-- region comes twice.
use Rattle.std.proofs.Common.{◌≡◌, ◌≢◌, ◌∙◌, ℕ, suc, false, ◌||◌, eqb, List, [], ◌∷◌, ◌++◌, map, get_or, Option, None, refl, sym, ap, subst, arith}
use Rattle.std.specs.Prelude.{All}
use Rattle.std.specs.List.{AllPairs, list_any}
use Rattle.std.specs.Option.{option_or, is_some}
use Rattle.std.proofs.lemmas.Bool.Decides.{nat_tests}
use Rattle.std.proofs.lemmas.List.Elements.{All-head, All-tail, All-cons, All-append, All-map}
use Rattle.std.proofs.lemmas.List.Kept.{AllPairs-cons}
use Rattle.sub_base.specs.Lists.{first_given, with_earlier}
use Rattle.stream_syntax.specs.Segments.{SegmentValue, of_page, of_region, of_clut, of_object, of_display, end_of_set, passed_over}
use Rattle.stream_syntax.specs.declared.page.State.{State}
use Rattle.stream_syntax.specs.declared.page.State.TheVariants.{Normal, Acquisition, ModeChange}
use Rattle.cue_list.specs.declared.epoch.Epoch.{Epoch}
use Rattle.cue_list.specs.declared.script.Script.{Script}
use Rattle.page_epoch.proofs.ListLaws.{All-none}
use Rattle.page_epoch.specs.declared.planned_set.PlannedSet.{PlannedSet}
use Rattle.page_epoch.specs.declared.planned_set.SentRegion.{SentRegion}
use Rattle.set_coder.specs.SetSegments.{display_segments, display_of_script}
use Rattle.decoder_model.specs.Contents.{page_of, display_of, region_named}
use Rattle.decoder_model.specs.Faults.{contents_in, twice_among, fault_of_segment, segment_fault}
use Rattle.decoder_model.specs.Readings.{Content, Reading, read}
use Rattle.shown_plan.specs.NamedSets.{Names}
use Rattle.shown_plan.proofs.Segments.Ordered.{displays_in, page_content, region_content, clut_content, regions_in, cluts_in, contents_are}
use Rattle.shown_plan.proofs.Segments.OwnIds.{AreSingle}
use Rattle.shown_plan.proofs.Segments.ReadSets.{plain, IsObject, IsReadSet, objects_of}
use Rattle.shown_plan.proofs.Segments.SetView.{pairs_append, single_pairs}

-- ---- second ones

-- a segment is no second one behind an earlier one
abbrev IsNoSecond : Content → SegmentValue → Type 0
IsNoSecond earlier (of_page value) = page_of earlier ≡ None
IsNoSecond earlier (of_region value) = region_named value.head.region earlier ≡ None
IsNoSecond earlier (of_clut value) = Unit {0}
IsNoSecond earlier (of_object value) = Unit {0}
IsNoSecond earlier (of_display value) = display_of earlier ≡ None
IsNoSecond earlier end_of_set = Unit {0}
IsNoSecond earlier passed_over = Unit {0}

abbrev AreApart : Content → Content → Type 0
AreApart earlier later = IsNoSecond earlier later.value

none_among : {X : Type 0} (found : Content → Option X) (before : List Content) → All (λ c. found c ≡ None) before
    → list_any (λ content. is_some (found content)) before ≡ false
none_among found [] none = refl
none_among found (content ∷ before) none =
    (λ i. is_some (All-head (λ c. found c ≡ None) content before none i)
    || none_among found before (All-tail (λ c. found c ≡ None) content before none) i)

not_twice : (before : List Content) (value : SegmentValue) → All (λ earlier. IsNoSecond earlier value) before
    → twice_among before value ≡ None
not_twice before (of_page value) none = rw (none_among page_of before none) refl
not_twice before (of_region value) none = rw (none_among (region_named value.head.region) before none) refl
not_twice before (of_clut value) none = refl
not_twice before (of_object value) none = refl
not_twice before (of_display value) none = rw (none_among display_of before none) refl
not_twice before end_of_set none = refl
not_twice before passed_over none = refl

-- contents of which none is a second one have no fault, behind others to which that applies
none_behind : (before : List Reading) (contents : List Content)
    → All (λ content. All (λ earlier. AreApart earlier content) (contents_in before)) contents
    → AllPairs AreApart contents
    → first_given (λ (placed : Reading × List Reading). fault_of_segment placed.1 placed.0)
    (with_earlier before (map read contents)) ≡ None
none_behind before [] first apart = refl
none_behind before (content ∷ contents) first apart =
    ap (λ found. option_or found
    (first_given (λ (placed : Reading × List Reading). fault_of_segment placed.1 placed.0)
    (with_earlier (read content ∷ before) (map read contents))))
    (not_twice (contents_in before) content.value
    (All-head (λ c. All (λ earlier. AreApart earlier c) (contents_in before)) content contents first))
    ∙ none_behind (read content ∷ before) contents
    (λ k d within. All-cons (λ earlier. AreApart earlier (get_or contents k d)) content (contents_in before)
    (apart 0 (suc k) d (omega arith) (omega arith))
    (All-tail (λ c. All (λ earlier. AreApart earlier c) (contents_in before)) content contents first k d
    within))
    (λ i j d before_it within. apart (suc i) (suc j) d (omega arith) (omega arith))

-- ---- a set

-- segments of which there may be several
abbrev IsFree : Content → Type 0
IsFree content = (earlier : Content) → AreApart earlier content

free_pairs : (contents : List Content) → All IsFree contents → AllPairs AreApart contents
free_pairs contents free i j d before within = free j d within (get_or contents i d)

object_is_free : (content : Content) → IsObject content → IsFree content
object_is_free content object earlier = subst (IsNoSecond earlier) (sym object.is) tt

other_regions : (names : Names) (epoch : Epoch) (a b : SentRegion) → a.id ≢ b.id
    → AreApart (region_content names epoch a) (region_content names epoch b)
other_regions names epoch a b differ = (let other : eqb a.id b.id ≡ false = grind (arith, nat_tests) in rw other refl)

-- a set of which each region is sent once has no fault in its segments
pub set_no_fault : {script : Script} {epoch : Epoch} {set : PlannedSet} {contents : List Content}
    → IsReadSet script epoch set contents → AreSingle (λ (sent : SentRegion). sent.id) set.regions
    → segment_fault (map read contents) ≡ None
set_no_fault {script} {epoch} {set} {contents} is single =
    none_behind [] contents (λ k d within. All-none _) (subst (AllPairs AreApart) (sym (contents_are is)) all)
  where
    page : Content
    page = page_content script epoch set

    free : List Content
    free = cluts_in is ++ (is.objects ++ plain end_of_set ∷ [])

    all_free : All IsFree free
    all_free =
        All-append IsFree (cluts_in is) (is.objects ++ plain end_of_set ∷ [])
        (All-map IsFree (clut_content epoch) is.cluts (λ k d within earlier. tt))
        (All-append IsFree is.objects (plain end_of_set ∷ [])
        (λ k d within. object_is_free (get_or is.objects k d) (objects_of is k d within))
        (All-cons IsFree (plain end_of_set) [] (λ earlier. tt) (All-none _)))

    regions_free : AllPairs AreApart (regions_in is ++ free)
    regions_free =
        pairs_append AreApart (regions_in is) free
        (single_pairs AreApart (λ (sent : SentRegion). sent.id) (region_content is.names epoch) set.regions
        (other_regions is.names epoch) single)
        (free_pairs free all_free)
        (λ k d within n e inside. all_free n e inside (get_or (regions_in is) k d))

    -- what is no region is before all regions
    before_regions : (earlier : Content) → ((id : ℕ) → region_named id earlier ≡ None)
        → All (AreApart earlier) (regions_in is ++ free)
    before_regions earlier none =
        All-append (AreApart earlier) (regions_in is) free
        (All-map (AreApart earlier) (region_content is.names epoch) set.regions
        (λ k d within. none (get_or set.regions k d).id))
        (λ n e inside. all_free n e inside earlier)

    behind_display : AllPairs AreApart (page ∷ (regions_in is ++ free))
    behind_display =
        AllPairs-cons AreApart page (regions_in is ++ free) (before_regions page (λ id. refl)) regions_free

    display : Content
    display = plain (of_display (display_of_script script))

    with_display : AllPairs AreApart (display ∷ (page ∷ (regions_in is ++ free)))
    with_display =
        AllPairs-cons AreApart display (page ∷ (regions_in is ++ free))
        (All-cons (AreApart display) page (regions_in is ++ free) refl (before_regions display (λ id. refl)))
        behind_display

    displays : (state : State)
        → AllPairs AreApart (map plain (display_segments script state) ++ (page ∷ (regions_in is ++ free)))
    displays Normal = behind_display
    displays Acquisition = with_display
    displays ModeChange = with_display

    all : AllPairs AreApart (displays_in script set ++ (page ∷ (regions_in is ++ free)))
    all = displays set.state
