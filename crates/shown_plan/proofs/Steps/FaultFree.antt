-- A set of the plan, read, has no fault behind what a receiver has of its epoch, in a profile that has what the plan
-- needs.
use Rattle.std.proofs.Common.{◌≡◌, ◌∙◌, ℕ, ◌≤◌, nat_lt, Bool, true, false, cond, List, [], ◌∷◌, ◌++◌, length, map, reverse, get_or, sum_by, Option, Some, None, refl, sym, ap, subst, arith}
use Rattle.std.specs.Prelude.{All}
use Rattle.std.specs.Option.{option_or, option_and_then, is_none, is_some}
use Rattle.std.proofs.lemmas.Bool.Decides.{nat_tests}
use Rattle.std.proofs.lemmas.List.{length-map}
use Rattle.std.proofs.lemmas.List.Elements.{All-head, All-tail}
use Rattle.sub_base.specs.Lists.{first_given}
use Rattle.sub_base.specs.declared.profile.Profile.{Profile}
use Rattle.stream_syntax.specs.Segments.{end_of_set, Page, Region, is_entry_state}
use Rattle.stream_syntax.specs.declared.page.State.{State}
use Rattle.stream_syntax.specs.declared.page.State.TheVariants.{Normal, Acquisition, ModeChange}
use Rattle.cue_list.specs.declared.epoch.Epoch.{Epoch}
use Rattle.cue_records.specs.declared.region.Region.{Region as AuthoredRegion}
use Rattle.cue_list.specs.declared.script.Script.{Script}
use Rattle.page_epoch.specs.Needs.{node_need, pixel_need}
use Rattle.page_epoch.specs.Plan.{HasDisplay}
use Rattle.page_epoch.specs.Sendable.{HasRegion}
use Rattle.page_epoch.specs.SentCluts.{sent_cluts}
use Rattle.page_epoch.specs.SentRegions.{drawn_count}
use Rattle.page_epoch.specs.declared.planned_set.PlannedSet.{PlannedSet}
use Rattle.page_epoch.specs.declared.planned_set.SentClut.{SentClut}
use Rattle.page_epoch.specs.declared.planned_set.SentRegion.{SentRegion}
use Rattle.set_coder.specs.SetSegments.{display_segments, time_out_of, page_entry_of, display_of_script}
use Rattle.decoder_model.specs.Contents.{page_of, display_of, page_in_set, display_in_set, in_order}
use Rattle.decoder_model.specs.Faults.{display_fault, unknown_region, page_fault, first_fault_by, region_changed, pixels_full, composition_fault, object_too_deep, epoch_fault}
use Rattle.decoder_model.specs.Nodes.{region_ids, listings_held, clut_ids, table_entries, nodes_of}
use Rattle.decoder_model.specs.Readings.{Content}
use Rattle.decoder_model.specs.Taken.{segments_of, taken_among, taken_of, last_region, version_of_region}
use Rattle.decoder_model.specs.declared.set_fault.SetFault.TheVariants.{NoSuchRegion, CompositionFull}
use Rattle.decoder_model.proofs.Searches.{first_given-append, first_given-all_none}
use Rattle.decoder_model.proofs.SoleCue.{six_none}
use Rattle.decoder_model.proofs.TakenLaws.{taken_region_version}
use Rattle.decoder_model.proofs.TakenSets.{taken_all}
use Rattle.shown_plan.proofs.Steps.Fair.{IsFairEpoch}
use Rattle.shown_plan.proofs.Steps.Keeps.{IsSent, KeepsRegion, Keeps, KeepsBefore}
use Rattle.shown_plan.proofs.Steps.KeepsOn.{IsPlannedIn, rows_seen}
use Rattle.shown_plan.proofs.Steps.KeepsStep.{IsReadIn}
use Rattle.shown_plan.proofs.Segments.Lists.{all_at, sum_ones}
use Rattle.shown_plan.proofs.Segments.Ordered.{displays_in, page_content, region_content, clut_content, objects_are, regions_in, cluts_in, contents_are}
use Rattle.shown_plan.proofs.Segments.ReadSets.{plain, IsReadSet, objects_of}
use Rattle.shown_plan.proofs.Steps.SetDepths.{depths_fit}
use Rattle.shown_plan.proofs.Steps.SetFits.{shapes_stay}
use Rattle.shown_plan.proofs.Steps.SetNodes.{listings_within, cluts_within, entries_within}
use Rattle.shown_plan.proofs.Steps.SetPixels.{ids_of, own_region, AreKnownIds, known_ids, ids_within, pixels_fit}
use Rattle.shown_plan.proofs.Segments.SetView.{segments_more}

-- ---- the page and the display of the set

-- the page of a set
abbrev pub page_value : Script → Epoch → PlannedSet → Page
page_value script epoch set =
    record {
      time_out = time_out_of script;
      version = set.page_version;
      state = set.state;
      entries = map
          (page_entry_of epoch) set.shown;
    }

pub page_is : (script : Script) (epoch : Epoch) (set : PlannedSet) (contents : List Content)
    → IsReadSet script epoch set contents → page_in_set contents ≡ Some (page_value script epoch set)
page_is script epoch set contents is =
    ap page_in_set (contents_are is)
    ∙ first_given-append page_of (displays_in script set)
    (page_content script epoch set
    ∷ (regions_in is ++ (cluts_in is ++ (is.objects ++ plain end_of_set ∷ []))))
    ∙ ap (λ found. option_or found (Some (page_value script epoch set))) (by set.state)
  where
    by : (state : State) → first_given page_of (map plain (display_segments script state)) ≡ None
    by Normal = refl
    by Acquisition = refl
    by ModeChange = refl

-- a set that is not normal has the script's display, and a normal one none
display_is : (script : Script) (epoch : Epoch) (set : PlannedSet) (contents : List Content)
    → IsReadSet script epoch set contents
    → display_in_set contents ≡ cond (is_entry_state set.state) (Some (display_of_script script)) None
display_is script epoch set contents is =
    ap display_in_set (contents_are is)
    ∙ first_given-append display_of (displays_in script set)
    (page_content script epoch set
    ∷ (regions_in is ++ (cluts_in is ++ (is.objects ++ plain end_of_set ∷ []))))
    ∙ ap (option_or (first_given display_of (displays_in script set))) none ∙ by set.state
  where
    none_of : {X : Type 0} (found : Option X) → is_some found ≡ false → found ≡ None
    none_of None e = refl
    none_of (Some x) e = absurd (let no : true ≡ false = e in cc)

    no_cluts : (sent : List SentClut) → first_given display_of (map (clut_content epoch) sent) ≡ None
    no_cluts [] = refl
    no_cluts (one ∷ sent) = no_cluts sent

    no_regions : (sent : List SentRegion) → first_given display_of (map (region_content is.names epoch) sent) ≡ None
    no_regions [] = refl
    no_regions (one ∷ sent) = no_regions sent

    none : first_given display_of
        (page_content script epoch set
        ∷ (regions_in is ++ (cluts_in is ++ (is.objects ++ plain end_of_set ∷ [])))) ≡ None
    none =
        first_given-append display_of (regions_in is) (cluts_in is ++ (is.objects ++ plain end_of_set ∷ []))
        ∙ ap (λ found. option_or found
        (first_given display_of (cluts_in is ++ (is.objects ++ plain end_of_set ∷ []))))
        (no_regions set.regions)
        ∙ first_given-append display_of (cluts_in is) (is.objects ++ plain end_of_set ∷ [])
        ∙ ap (λ found. option_or found (first_given display_of (is.objects ++ plain end_of_set ∷ [])))
        (no_cluts is.cluts)
        ∙ first_given-append display_of is.objects (plain end_of_set ∷ [])
        ∙ ap (λ found. option_or found None)
        (first_given-all_none display_of is.objects
        (λ k d within. none_of (display_of (get_or is.objects k d))
        (objects_are is.objects (objects_of is) k d within).display_is))

    by : (state : State)
        → option_or (first_given display_of (map plain (display_segments script state))) None
        ≡ cond (is_entry_state state) (Some (display_of_script script)) None
    by Normal = refl
    by Acquisition = refl
    by ModeChange = refl

-- ---- the tests

display_fits : (script : Script) (profile : Profile) (epoch : Epoch) (set : PlannedSet) (contents : List Content)
    → IsReadSet script epoch set contents → HasDisplay script.width script.height profile
    → option_and_then (display_fault profile) (display_in_set contents) ≡ None
display_fits script profile epoch set contents is room =
    ap (option_and_then (display_fault profile)) (display_is script epoch set contents is)
    ∙ by (is_entry_state set.state)
  where
    by : (b : Bool) → option_and_then (display_fault profile) (cond b (Some (display_of_script script)) None) ≡ None
    by false = refl
    by true =
        (let across : nat_lt profile.width script.width
        ≡ false = (let low = room.across in grind (arith, nat_tests)) in
        let down : nat_lt profile.height script.height ≡ false =
        (let low = room.down in grind (arith, nat_tests)) in rw (across, down) refl)

regions_known : (script : Script) (epoch : Epoch) (tick : ℕ) (earlier : List ℕ) (segments : List Content)
    (shown : List ℕ) → Keeps script epoch tick earlier segments → All (HasRegion epoch) shown
    → first_given (unknown_region segments) (map (page_entry_of epoch) shown) ≡ None
regions_known script epoch tick earlier segments [] kept has = refl
regions_known script epoch tick earlier segments (id ∷ shown) kept has =
    (λ i. option_or (known i)
    (regions_known script epoch tick earlier segments shown kept (All-tail (HasRegion epoch) id shown has) i))
  where
    there : (found : Option Region)
        → version_of_region (last_region id (taken_among segments)) ≡ version_of_region found
        → is_none found ≡ false
    there (Some region) e = refl
    there None e =
        (let own = own_region epoch.regions id (All-head (HasRegion epoch) id shown has) in
        let region =
        all_at (KeepsRegion script.pictures epoch tick earlier (taken_among segments)) epoch.regions own.0
        kept.regions own.1 in
        let known_last : last_region id (taken_among segments) ≡ Some region.last =
        ap (λ (n : ℕ). last_region n (taken_among segments)) (sym own.2) ∙ region.known in
        let no : Some region.last.head.version ≡ None = sym (ap version_of_region known_last) ∙ e in absurd (cc))

    known : unknown_region segments (page_entry_of epoch id) ≡ None
    known =
        ap (λ b. cond b (Some (NoSuchRegion id)) None)
        (there (last_region id segments) (taken_region_version id segments))

-- the nodes that a receiver has behind a set are no more than the plan counts
pub nodes_within : {script : Script} {epoch : Epoch} {set : PlannedSet} {earlier : List ℕ} {segments : List Content}
    → IsFairEpoch script.width script.height script.pictures epoch → IsPlannedIn epoch set earlier
    → Keeps script epoch set.pts earlier segments
    → nodes_of (taken_of segments) (page_value script epoch set)
    ≤ node_need epoch (set.pts ∷ earlier) (length set.shown)
nodes_within {script} {epoch} {set} {earlier} {segments} is_fair planned kept =
    omega (arith, length-map set.shown (page_entry_of epoch), regions, listings, cluts, in_tables)
  where
    taken : List Content
    taken = taken_among segments

    sent : All (IsSent epoch set.pts) taken
    sent = taken_all (IsSent epoch set.pts) segments kept.each

    are : AreKnownIds epoch taken
    are = known_ids epoch set.pts taken sent

    regions : length (region_ids (taken_of segments)) ≤ length epoch.regions
    regions =
        omega (
          arith,
          sum_ones (region_ids (taken_of segments)),
          ids_within epoch taken (λ (id : ℕ). 1) are,
          sum_ones
              (ids_of epoch),
          length-map epoch.regions (λ (region : AuthoredRegion). region.id),
        )

    listings : listings_held (taken_of segments)
        ≤ sum_by (λ (region : AuthoredRegion). drawn_count epoch.cues region.id (set.pts ∷ earlier)) epoch.regions
    listings = listings_within script.pictures epoch set.pts earlier taken are kept.regions

    cluts : length (clut_ids (taken_of segments)) ≤ length (sent_cluts epoch.colours true (set.pts ∷ earlier))
    cluts =
        cluts_within epoch set.pts earlier taken is_fair.cluts
        (λ clut. rows_seen clut is_fair planned.seen)
        kept.cluts

    in_tables : length (table_entries (taken_of segments))
        ≤ sum_by (λ (sent : SentClut). length sent.rows) (sent_cluts epoch.colours true (set.pts ∷ earlier))
    in_tables =
        entries_within epoch set.pts earlier taken is_fair.cluts
        (λ clut. rows_seen clut is_fair planned.seen)
        sent

nodes_fit : {script : Script} {epoch : Epoch} {set : PlannedSet} {earlier : List ℕ} {contents : List Content}
    (segments : List Content) (profile : Profile) → IsReadIn script epoch set earlier contents
    → Keeps script epoch set.pts earlier segments
    → node_need epoch (set.pts ∷ earlier) (length set.shown) ≤ profile.nodes
    → composition_fault profile (taken_of segments) (page_value script epoch set) ≡ None
nodes_fit {script} {epoch} {set} segments profile is kept enough =
    let within = nodes_within is.fair is.planned kept in
    let test : nat_lt profile.nodes nodes ≡ false =
    (let low : nodes ≤ profile.nodes = omega (arith, within, enough) in grind (arith, nat_tests)) in
    ap (λ b. cond b (Some (CompositionFull nodes)) None) test
  where
    nodes : ℕ
    nodes = nodes_of (taken_of segments) (page_value script epoch set)

-- ---- all of them

-- what a profile has for a set
pub record HasRoom (script : Script) (epoch : Epoch) (set : PlannedSet) (earlier : List ℕ)
    (profile : Profile) : Type 0 where
  pub display : HasDisplay script.width script.height profile
  pub pixels : pixel_need epoch.regions ≤ profile.pixels
  pub nodes : node_need epoch (set.pts ∷ earlier) (length set.shown) ≤ profile.nodes

-- with the page of a set, and what a receiver has of the epoch before it and with it
pub set_fits : {script : Script} {epoch : Epoch} {set : PlannedSet} {earlier : List ℕ} {contents : List Content}
    {profile : Profile} (sets : List (List Content)) (page : Page) → IsReadIn script epoch set earlier contents
    → HasRoom script epoch set earlier profile → KeepsBefore script epoch earlier sets
    → Keeps script epoch set.pts earlier (segments_of (contents ∷ sets)) → page_in_set contents ≡ Some page
    → epoch_fault profile sets contents page ≡ None
unfolding epoch_fault
set_fits {script} {epoch} {set} {earlier} {contents} {profile} sets page is room before kept found =
    six_none
    (option_and_then (display_fault profile) (display_in_set contents))
    (page_fault (segments_of (contents ∷ sets)) page)
    (first_fault_by region_changed (segments_of sets) contents)
    (first_fault_by (pixels_full profile) (segments_of sets) contents)
    (composition_fault profile (taken_of (segments_of (contents ∷ sets))) page)
    (first_fault_by object_too_deep (segments_of sets) contents)
    (display_fits script profile epoch set contents is.read room.display)
    (ap (λ (p : Page). page_fault (segments_of (contents ∷ sets)) p) page_of_set
    ∙ regions_known script epoch set.pts earlier (segments_of (contents ∷ sets)) set.shown kept
    is.planned.sendable.shown)
    (shapes_stay epoch set.pts (segments_of sets) contents sent)
    (pixels_fit epoch profile set.pts (segments_of sets) contents is.fair.apart room.pixels sent)
    (ap (λ (p : Page). composition_fault profile (taken_of (segments_of (contents ∷ sets))) p) page_of_set
    ∙ nodes_fit (segments_of (contents ∷ sets)) profile is kept room.nodes)
    (depths_fit is sets before)
  where
    page_of_set : page ≡ page_value script epoch set
    page_of_set =
        (let both : Some page ≡ Some (page_value script epoch set) = sym found
        ∙ page_is script epoch set contents is.read in cc)

    sent : All (IsSent epoch set.pts) (reverse (in_order contents) ++ segments_of sets)
    sent = subst (All (IsSent epoch set.pts)) (segments_more contents sets) kept.each
