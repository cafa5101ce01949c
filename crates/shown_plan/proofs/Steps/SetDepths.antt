-- No object of a set of the plan is too deep for a region in which it is painted. A region that the set sends lists it
-- by the set's names, and then it is the region of the object's cue. A region that an earlier set sent has had all of
-- its objects since: of an object whose number comes again nothing is painted there.
use Rattle.std.proofs.Common.{◌≡◌, ◌∙◌, ℕ, ◌==◌, Bool, true, false, cond, eqb, List, [], ◌∷◌, ◌++◌, length, map, reverse, get_or, Option, Some, None, refl, sym, ap, subst, arith}
use Rattle.std.specs.Prelude.{All}
use Rattle.std.specs.List.{AllZip, Contains}
use Rattle.std.specs.Option.{option_or, option_and_then}
use Rattle.std.proofs.lemmas.Bool.Decides.{nat_tests}
use Rattle.std.proofs.lemmas.List.Elements.{All-head, All-tail, All-cons, All-append, All-map, All-contains_itself, Contains-append_left, Contains-append_right}
use Rattle.std.proofs.lemmas.List.Sorted.{Contains-permutation}
use Rattle.sub_base.specs.Lists.{first_given}
use Rattle.sub_base.specs.Picture.{Picture}
use Rattle.sub_base.specs.declared.depth.Depth.{Depth}
use Rattle.stream_syntax.specs.Segments.{Region, Object, is_entry_state}
use Rattle.stream_syntax.specs.declared.page.State.{State}
use Rattle.stream_syntax.specs.declared.page.State.TheVariants.{Normal, Acquisition, ModeChange}
use Rattle.stream_syntax.specs.declared.region.Listing.{Listing}
use Rattle.cue_list.specs.declared.epoch.Epoch.{Epoch}
use Rattle.cue_list.specs.declared.script.Script.{Script}
use Rattle.page_epoch.proofs.ListLaws.{All-none}
use Rattle.page_epoch.specs.Live.{cue_at}
use Rattle.page_epoch.specs.SentRegions.{listed_cues}
use Rattle.page_epoch.specs.declared.planned_set.PlannedSet.{PlannedSet}
use Rattle.page_epoch.specs.declared.planned_set.SentRegion.{SentRegion}
use Rattle.set_coder.specs.SetSegments.{epoch_region, depth_of_cue, display_segments}
use Rattle.decoder_model.specs.Contents.{region_named, object_of, in_order}
use Rattle.decoder_model.specs.Faults.{depth_fault, fault_in_region, fault_in_regions, object_too_deep, all_region_ids, too_deep_at, first_fault_by}
use Rattle.decoder_model.specs.Pixels.{depth_of, listings_naming, painted_listings}
use Rattle.decoder_model.specs.Readings.{Content}
use Rattle.decoder_model.specs.Taken.{segments_of, taken_among, taken_of, is_taken, last_region}
use Rattle.decoder_model.specs.declared.set_fault.SetFault.{SetFault}
use Rattle.decoder_model.proofs.IdleSegments.{idle_paints_none}
use Rattle.decoder_model.proofs.NoFaults.{no_fault_by}
use Rattle.decoder_model.proofs.Searches.{first_given-append, first_given-none}
use Rattle.decoder_model.proofs.TakenLaws.{none_taken, taken_first, held_first}
use Rattle.decoder_model.proofs.TakenSets.{taken_all}
use Rattle.shown_plan.specs.NamedSets.{Names, named_listing}
use Rattle.shown_plan.proofs.Segments.CarriedSets.{ListsOwn, all_list_own}
use Rattle.shown_plan.proofs.Segments.Lists.{all_at, piece_there}
use Rattle.shown_plan.proofs.Segments.Ordered.{displays_in, page_content, region_content, clut_content, regions_in, cluts_in, contents_in_order}
use Rattle.shown_plan.proofs.Segments.ReadSets.{plain, IsDrawnObject, drawn_value, IsReadSet}
use Rattle.shown_plan.proofs.Segments.SetView.{reversed_all}
use Rattle.shown_plan.proofs.Steps.Keeps.{IsSent, HasObject, KeepsRegion, KeepsBefore}
use Rattle.shown_plan.proofs.Steps.KeepsStep.{IsReadIn, no_sets, zero_sent}
use Rattle.shown_plan.proofs.Steps.ObjectsPaint.{is_own, unlisted_none}
use Rattle.shown_plan.proofs.Steps.RegionNext.{object_zero}
use Rattle.shown_plan.proofs.Steps.RegionOn.{HasVersionZero, given_all, HaveHadAll, have_had, idle_object}
use Rattle.shown_plan.proofs.Steps.RegionSteps.{sent_value}
use Rattle.shown_plan.proofs.Steps.SetFits.{last_sent}
use Rattle.shown_plan.proofs.Steps.SetPixels.{own_region}

-- ---- the segments of a set, to the set's own objects

-- a region lists cues of the set that are its own, by the set's names
record ListsNamed {script : Script} {epoch : Epoch} {set : PlannedSet} {contents : List Content}
    (is : IsReadSet script epoch set contents) (id : ℕ) (region : Region) : Type 0 where
  places : List ℕ
  listed : region.listings ≡ map (named_listing is.names epoch) places
  inside : All (Contains set.cues) places
  own : All (λ place. is_own epoch id place ≡ true) places
  depth : region.head.depth ≡ (epoch_region epoch id).depth

-- an object of a cue of the set
abbrev DrawsCue : {script : Script} {epoch : Epoch} {set : PlannedSet} {contents : List Content}
    → IsReadSet script epoch set contents → Content → Type 0
DrawsCue {script = script} {epoch = epoch} {set = set} is content =
    (place : ℕ) × Contains set.cues place × IsDrawnObject is.names script.pictures epoch place content

-- what a segment of the set is, where it is a region or an object
record IsOfSet {script : Script} {epoch : Epoch} {set : PlannedSet} {contents : List Content}
    (is : IsReadSet script epoch set contents) (content : Content) : Type 0 where
  version : HasVersionZero content
  region : (id : ℕ) (region : Region) → region_named id content ≡ Some region → ListsNamed is id region
  object : (object : Object) → object_of content ≡ Some object → DrawsCue is content

region_of_set : {script : Script} {epoch : Epoch} {set : PlannedSet} {earlier : List ℕ} {contents : List Content}
    (is : IsReadIn script epoch set earlier contents) (sent : SentRegion) → Contains set.regions sent
    → IsOfSet is.read (region_content is.read.names epoch sent)
region_of_set {script} {epoch} {set} {earlier} {contents} is sent there =
    record {
      version = λ object e. absurd (cc);
      region = λ id region e. by id region (eqb sent.id id) refl e;
      object = λ object e. absurd (cc);
    }
  where
    lists : ListsOwn epoch sent
    lists =
        all_at (ListsOwn epoch) set.regions sent
        (all_list_own epoch (is_entry_state set.state) (set.pts ∷ earlier) set.regions is.planned.carried.regions)
        there

    inside : All (Contains set.cues) sent.cues
    inside = λ k d within.
        Contains-permutation (listed_cues set.regions) set.cues (get_or sent.cues k d) is.planned.carried.cues
        (piece_there (λ (one : SentRegion). one.cues) set.regions sent (get_or sent.cues k d) there
        (All-contains_itself sent.cues k d within))

    by : (id : ℕ) (region : Region) (b : Bool) → eqb sent.id id ≡ b
        → cond b (Some (sent_value is.read.names epoch sent)) None ≡ Some region → ListsNamed is.read id region
    by id region false e found = absurd (cc)
    by id region true e found =
        (let same : sent_value is.read.names epoch sent ≡ region = cc in
        let number : sent.id ≡ id = grind (arith, nat_tests) in
        subst (ListsNamed is.read id) same
        (record {
          places = sent.cues;
          listed = refl;
          inside = inside;
          own = subst (λ (n : ℕ). All (λ place. is_own epoch n place ≡ true) sent.cues) number lists.own;
          depth = ap (λ (n : ℕ). (epoch_region epoch n).depth) number;
        }))

objects_of_set : {script : Script} {epoch : Epoch} {set : PlannedSet} {contents : List Content}
    (is : IsReadSet script epoch set contents) (cues : List ℕ) (objects : List Content)
    → All (Contains set.cues) cues
    → AllZip (IsDrawnObject is.names script.pictures epoch) cues objects → All (IsOfSet is) objects
objects_of_set is [] [] inside drawn = All-none _
objects_of_set is [] (o ∷ objects) inside drawn = absurd drawn
objects_of_set is (place ∷ cues) [] inside drawn = absurd drawn
objects_of_set {set = set} is (place ∷ cues) (o ∷ objects) inside drawn =
    All-cons (IsOfSet is) o objects
    (record {
      version = object_zero o (record { object = drawn_value drawn.0; is = drawn.0.value_is; version = refl });
      region = λ id region e. absurd (let no : None ≡ Some region = rw drawn.0.value_is at e in cc);
      object = λ object e. (place, All-head (Contains set.cues) place cues inside, drawn.0);
    }) (objects_of_set is cues objects (All-tail (Contains set.cues) place cues inside) drawn.1)

-- all segments of a set, as they are handled
segments_of_set : {script : Script} {epoch : Epoch} {set : PlannedSet} {earlier : List ℕ} {contents : List Content}
    (is : IsReadIn script epoch set earlier contents) → All (IsOfSet is.read) (in_order contents)
segments_of_set {script} {epoch} {set} {earlier} {contents} is =
    subst (All (IsOfSet is.read)) (sym (contents_in_order is.read))
    (All-append (IsOfSet is.read) (displays_in script set) _ (displays set.state)
    (All-cons (IsOfSet is.read) (page_content script epoch set) _ none
    (All-append (IsOfSet is.read) (regions_in is.read) _
    (All-map (IsOfSet is.read) (region_content is.read.names epoch) set.regions
    (λ k d within. region_of_set is (get_or set.regions k d) (All-contains_itself set.regions k d within)))
    (All-append (IsOfSet is.read) (cluts_in is.read) is.read.objects
    (All-map (IsOfSet is.read) (clut_content epoch) is.read.cluts
    (λ k d within. record {
      version = λ object e. absurd (cc);
      region = λ id region e. absurd (cc);
      object = λ object e. absurd (cc);
    }))
    (objects_of_set is.read set.cues is.read.objects (All-contains_itself set.cues) is.read.drawn)))))
  where
    none : IsOfSet is.read (page_content script epoch set)
    none =
        record {
          version = λ object e. absurd (cc);
          region = λ id region e. absurd (cc);
          object = λ object e. absurd
              (cc);
        }

    displays : (state : State) → All (IsOfSet is.read) (map plain (display_segments script state))
    displays Normal = All-none _
    displays Acquisition =
        All-cons (IsOfSet is.read) _ []
        (record {
          version = λ object e. absurd (cc);
          region = λ id region e. absurd (cc);
          object = λ object
              e. absurd (cc);
        })
        (All-none _)
    displays ModeChange =
        All-cons (IsOfSet is.read) _ []
        (record {
          version = λ object e. absurd (cc);
          region = λ id region e. absurd (cc);
          object = λ object
              e. absurd (cc);
        })
        (All-none _)

-- ---- what earlier sets left

-- behind the sets before a set of the plan each region has had the objects of all of its listings
had_before : (script : Script) (epoch : Epoch) (earlier : List ℕ) (sets : List (List Content))
    → KeepsBefore script epoch earlier sets → (id : ℕ) → HaveHadAll id (taken_among (segments_of sets))
had_before script epoch earlier [] kept id =
    subst (HaveHadAll id) (sym (ap taken_among no_sets ∙ none_taken))
    (record { zeros = All-none _; had = λ last known. absurd (cc) })
had_before script epoch [] (set ∷ sets) kept id = absurd kept
had_before script epoch (before ∷ more) (set ∷ sets) kept id =
    record { zeros = zeros; had = λ last known. had last known }
  where
    segments : List Content
    segments = segments_of (set ∷ sets)

    taken : List Content
    taken = taken_among segments

    zeros : All HasVersionZero taken
    zeros =
        taken_all HasVersionZero segments
        (λ k d within. zero_sent epoch before (get_or segments k d) (kept.each k d within))

    had : (last : Region) → last_region id taken ≡ Some last
        → All (λ (listing : Listing). HasObject id taken listing.object) last.listings
    had last known =
        let sent = last_sent epoch before id taken last (taken_all (IsSent epoch before) segments kept.each) known in
        let own = own_region epoch.regions last.head.region sent.0.own in
        let number : own.0.id ≡ id = own.2 ∙ sent.1 in
        let region =
        all_at (KeepsRegion script.pictures epoch before more taken) epoch.regions own.0 kept.regions own.1 in
        (subst (λ (n : ℕ). HaveHadAll n taken) number (have_had zeros region)).had last known

-- ---- an object behind segments of its set and what earlier sets left

-- what is taken of new segments stands before what was taken
taken_behind : (P : Content → Type 0) (new earlier : List Content) → All P new
    → (kept : List Content) × All P kept × (taken_among (new ++ earlier) ≡ kept ++ taken_among earlier)
taken_behind P [] earlier all = ([], All-none _, refl)
taken_behind P (segment ∷ new) earlier all =
    by (is_taken (new ++ earlier) segment.value) refl (taken_behind P new earlier (All-tail P segment new all))
  where
    by : (b : Bool) → is_taken (new ++ earlier) segment.value ≡ b
        → (kept : List Content) × All P kept × (taken_among (new ++ earlier) ≡ kept ++ taken_among earlier)
        → (kept : List Content) × All P kept
        × (taken_among (segment ∷ (new ++ earlier)) ≡ kept ++ taken_among earlier)
    by true e again = (
      segment ∷ again.0,
      All-cons P segment again.0 (All-head P segment new all) again.1,
      taken_first (new ++ earlier) segment e ∙ ap (λ rest. segment ∷ rest) again.2,
    )
    by false e again = (again.0, again.1, held_first (new ++ earlier) segment e ∙ again.2)

-- where a search finds nothing, no item gives something
none_given : {X Y : Type 0} (f : X → Option Y) (xs : List X) → first_given f xs ≡ None
    → All (λ x. f x ≡ None) xs
none_given f [] none = All-none _
none_given {X} {Y} f (x ∷ xs) none = by (f x) refl none (none_given f xs)
  where
    by : (found : Option Y) → f x ≡ found → option_or found (first_given f xs) ≡ None
        → (first_given f xs ≡ None → All (λ x. f x ≡ None) xs) → All (λ x. f x ≡ None) (x ∷ xs)
    by None e none again = All-cons (λ x. f x ≡ None) x xs e (again none)
    by (Some y) e none again = absurd (cc)

-- a region of the set that lists an object's number is that of the object's cue
listed_depth : {script : Script} {epoch : Epoch} {set : PlannedSet} {contents : List Content}
    {is : IsReadSet script epoch set contents} {id : ℕ} {region : Region} (place : ℕ) (first : Listing)
    (rest : List Listing) → Contains set.cues place → ListsNamed is id region
    → listings_naming (is.names place) region.listings ≡ first ∷ rest
    → region.head.depth ≡ depth_of_cue epoch place
listed_depth {script} {epoch} {set} {contents} {is} {id} {region} place first rest there lists named =
    let own = found lists.places lists.inside lists.own
    (sym (ap (listings_naming (is.names place)) lists.listed) ∙ named) in
    lists.depth ∙ ap (λ (n : ℕ). (epoch_region epoch n).depth) (sym own)
  where
    found : (places : List ℕ) → All (Contains set.cues) places
        → All (λ other. is_own epoch id other ≡ true) places
        → listings_naming (is.names place) (map (named_listing is.names epoch) places) ≡ first ∷ rest
        → (cue_at epoch.cues place).region ≡ id
    found [] inside own e = absurd (cc)
    found (other ∷ places) inside own e =
        one (eqb (is.names other) (is.names place)) refl e
        (found places (All-tail (Contains set.cues) other places inside)
        (All-tail (λ other. is_own epoch id other ≡ true) other places own))
      where
        behind : List Listing
        behind = listings_naming (is.names place) (map (named_listing is.names epoch) places)

        one : (b : Bool) → eqb (is.names other) (is.names place) ≡ b
            → cond b (named_listing is.names epoch other ∷ behind) behind ≡ first ∷ rest
            → (behind ≡ first ∷ rest → (cue_at epoch.cues place).region ≡ id)
            → (cue_at epoch.cues place).region ≡ id
        one true t e again =
            (let number : is.names other ≡ is.names place = grind (arith, nat_tests) in
            let same : other ≡ place =
            is.apart other place (All-head (Contains set.cues) other places inside) there number in
            let mine : is_own epoch id place ≡ true =
            ap (is_own epoch id) (sym same) ∙ All-head (λ other. is_own epoch id other ≡ true) other places own in
            grind (arith, nat_tests))
        one false t e again = again e

-- an object of a cue is not too deep for a region of the cue's depth
not_deeper : {names : Names} {epoch : Epoch} {place : ℕ} {content : Content} {pictures : List Picture}
    (drawn : IsDrawnObject names pictures epoch place content) (depth : Depth) → depth ≡ depth_of_cue epoch place
    → depth_fault depth content (drawn_value drawn) ≡ None
not_deeper {content = content} drawn depth e =
    let top : too_deep_at depth content.top ≡ None = ap (λ d. too_deep_at d content.top) e ∙ drawn.top_depth in
    let bottom : too_deep_at depth content.bottom ≡ None =
    ap (λ d. too_deep_at d content.bottom) e ∙ drawn.bottom_depth in
    rw (top, bottom) refl

-- taken segments: some of the set, and what earlier sets left
record AreBehind {script : Script} {epoch : Epoch} {set : PlannedSet} {contents : List Content}
    (is : IsReadSet script epoch set contents) (taken : List Content) : Type 0 where
  kept : List Content
  old : List Content
  whole : taken ≡ kept ++ old
  of_set : All (IsOfSet is) kept
  had : (id : ℕ) → HaveHadAll id old

-- behind them no object of the set has a fault in a region
fits_in : {script : Script} {epoch : Epoch} {set : PlannedSet} {contents : List Content} {place : ℕ}
    {content : Content} {is : IsReadSet script epoch set contents} {taken : List Content} → AreBehind is taken
    → Contains set.cues place → (drawn : IsDrawnObject is.names script.pictures epoch place content) → (id : ℕ)
    → fault_in_region (record { segments = taken }) content (drawn_value drawn) id ≡ None
fits_in {script} {epoch} {set} {contents} {place} {content} {is} {taken} behind there drawn id =
    subst (λ (segments : List Content). FitsBehind segments) (sym behind.whole)
    (by_new (last_region id behind.kept) refl)
  where
    object : Object
    object = drawn_value drawn

    FitsBehind : List Content → Type 0
    FitsBehind segments = fault_in_region (record { segments = segments }) content object id ≡ None

    all : List Content
    all = behind.kept ++ behind.old

    found : last_region id all ≡ option_or (last_region id behind.kept) (last_region id behind.old)
    found = first_given-append (region_named id) behind.kept behind.old

    unpainted : painted_listings (record { segments = all }) id object ≡ [] → FitsBehind all
    unpainted none = rw none refl

    -- the set has sent the region: where it lists the object, it has the depth of the object's cue
    in_own : (last : Region) → last_region id all ≡ Some last → ListsNamed is id last
        → (listings : List Listing)
        → listings_naming object.object last.listings ≡ listings → FitsBehind all
    in_own last known lists [] named = unpainted (unlisted_none all id object last known named)
    in_own last known lists (first ∷ rest) named =
        ap (cond (length (painted_listings (record { segments = all }) id object) == 0) None)
        (not_deeper drawn (depth_of (last_region id all))
        (ap depth_of known ∙ listed_depth place first rest there lists named))
        ∙ either (length (painted_listings (record { segments = all }) id object) == 0)
      where
        either : (b : Bool) → cond {A = Option SetFault} b None None ≡ None
        either true = refl
        either false = refl

    -- it has not: whatever number the object has, nothing is painted
    in_old : last_region id behind.kept ≡ None → FitsBehind all
    in_old none =
        unpainted (idle_paints_none id behind.kept behind.old content object
        (λ k d within. idle_object (behind.had id) (get_or behind.kept k d) (behind.of_set k d within).version
        (none_given (region_named id) behind.kept none k d within))
        (idle_object (behind.had id) content
        (object_zero content (record { object = object; is = drawn.value_is; version = refl }))
        (rw drawn.value_is refl)) (rw drawn.value_is refl))

    by_new : (last : Option Region) → last_region id behind.kept ≡ last → FitsBehind all
    by_new (Some last) known =
        in_own last (found ∙ ap (λ f. option_or f (last_region id behind.old)) known)
        (given_all (region_named id) (ListsNamed is id) behind.kept last
        (λ k d within region named. (behind.of_set k d within).region id region named) known)
        (listings_naming object.object last.listings) refl
    by_new None none = in_old none

none_deep : {script : Script} {epoch : Epoch} {set : PlannedSet} {contents : List Content}
    {is : IsReadSet script epoch set contents} (earlier : List Content) (content : Content)
    → AreBehind is (taken_among earlier) → IsOfSet is content → object_too_deep earlier content ≡ None
none_deep earlier content behind own = by (object_of content) refl
  where
    by : (found : Option Object) → object_of content ≡ found → object_too_deep earlier content ≡ None
    by None e = ap (option_and_then (fault_in_regions (taken_of earlier) content)) e
    by (Some object) e =
        (let draws = own.object object e in
        ap (option_and_then (fault_in_regions (taken_of earlier) content))
        (let is_drawn : object_of content ≡ Some (drawn_value draws.2) = rw draws.2.value_is refl in is_drawn)
        ∙ first_given-none (fault_in_region (taken_of earlier) content (drawn_value draws.2))
        (λ id. fits_in behind draws.1 draws.2 id) all_region_ids)

-- no object of the set is too deep, whatever numbers the objects of earlier sets had
pub depths_fit : {script : Script} {epoch : Epoch} {set : PlannedSet} {earlier : List ℕ} {contents : List Content}
    (is : IsReadIn script epoch set earlier contents) (sets : List (List Content))
    → KeepsBefore script epoch earlier sets → first_fault_by object_too_deep (segments_of sets) contents ≡ None
depths_fit {script} {epoch} {set} {earlier} {contents} is sets kept =
    no_fault_by object_too_deep (segments_of sets) contents (λ front back content parts.
    (let all = subst (All (IsOfSet is.read)) parts (segments_of_set is) in
    let before : All (IsOfSet is.read) (reverse front) =
    reversed_all (IsOfSet is.read) front (λ k d within.
    all_at (IsOfSet is.read) (front ++ content ∷ back) (get_or front k d) all
    (Contains-append_left front (content ∷ back) (get_or front k d) (All-contains_itself front k d within))) in
    let own : IsOfSet is.read content =
    all_at (IsOfSet is.read) (front ++ content ∷ back) content all
    (Contains-append_right front (content ∷ back) content (0, omega arith, refl)) in
    let split = taken_behind (IsOfSet is.read) (reverse front) (segments_of sets) before in
    none_deep (reverse front ++ segments_of sets) content
    (record {
      kept = split.0;
      old = taken_among (segments_of sets);
      whole = split.2;
      of_set = split.1;
      had = had_before script epoch earlier sets kept;
    }) own))
