-- What a receiver has of an epoch behind a set of the plan, from what it had behind the set before.
use Rattle.std.proofs.Common.{◌≡◌, ◌∙◌, ℕ, ◌<◌, Bool, true, false, cond, List, [], ◌∷◌, ◌++◌, map, reverse, get_or, Option, Some, None, refl, sym, ap, subst, arith}
use Rattle.std.specs.Prelude.{All}
use Rattle.std.specs.List.{Contains}
use Rattle.std.specs.Option.{option_or, is_some}
use Rattle.std.proofs.lemmas.List.{append-nil}
use Rattle.std.proofs.lemmas.List.Elements.{All-append, All-contains_itself}
use Rattle.stream_syntax.specs.Segments.{SegmentValue, of_page, of_region, of_clut, of_object, of_display, end_of_set, passed_over, Object, is_entry_state}
use Rattle.stream_syntax.specs.declared.page.State.{State}
use Rattle.stream_syntax.specs.declared.page.State.TheVariants.{Normal, Acquisition, ModeChange}
use Rattle.cue_list.specs.declared.epoch.Epoch.{Epoch}
use Rattle.cue_records.specs.declared.region.Region.{Region}
use Rattle.cue_list.specs.declared.script.Script.{Script}
use Rattle.page_epoch.specs.Live.{no_cue}
use Rattle.page_epoch.specs.SentCluts.{sent_clut}
use Rattle.page_epoch.specs.SentRegions.{sent_region}
use Rattle.page_epoch.specs.declared.planned_set.PlannedSet.{PlannedSet}
use Rattle.page_epoch.specs.declared.planned_set.SentClut.{SentClut}
use Rattle.page_epoch.specs.declared.planned_set.SentRegion.{SentRegion}
use Rattle.set_coder.specs.SetSegments.{display_segments, display_of_script}
use Rattle.decoder_model.specs.Contents.{display_of}
use Rattle.decoder_model.specs.Readings.{Content}
use Rattle.decoder_model.specs.Taken.{segments_of, taken_among, last_region, last_display}
use Rattle.decoder_model.proofs.Searches.{first_given-append, first_given-all_none}
use Rattle.decoder_model.proofs.TakenLaws.{none_taken}
use Rattle.decoder_model.proofs.TakenSets.{taken_display, taken_all}
use Rattle.shown_plan.proofs.Segments.CarriedSets.{regions_single, cluts_single, clut_own, clut_once, clut_part, own_listed}
use Rattle.shown_plan.proofs.Steps.ClutNext.{IsClutView, clut_view}
use Rattle.shown_plan.proofs.Steps.ClutSteps.{clut_first, clut_next}
use Rattle.shown_plan.proofs.Steps.Fair.{IsFairEpoch}
use Rattle.shown_plan.proofs.Steps.Keeps.{IsSent, IsSentBy, Keeps}
use Rattle.shown_plan.proofs.Steps.KeepsOn.{IsPlannedIn, rows_seen, next_instant, later_sent, newest_sent}
use Rattle.shown_plan.proofs.Segments.Ordered.{region_content, clut_content, objects_are}
use Rattle.shown_plan.proofs.Segments.OwnIds.{AreSingle, single_permuted, part_permuted}
use Rattle.shown_plan.proofs.Segments.Parts.{HasPart, region_part}
use Rattle.shown_plan.proofs.Segments.ReadSets.{plain, IsReadSet, objects_of}
use Rattle.shown_plan.proofs.Steps.RegionNext.{IsDrawnFor, region_first, region_next}
use Rattle.shown_plan.proofs.Steps.RegionOn.{HasVersionZero}
use Rattle.shown_plan.proofs.Segments.RegionViews.{IsRegionView, region_view}
use Rattle.shown_plan.proofs.Segments.SetView.{new_cluts, new_regions, new_page, newest, newest_first, reversed_all, AreSentOnce}

-- ---- the display

-- the display that a set defines: none in a normal set
set_display : {script : Script} {epoch : Epoch} {set : PlannedSet} {contents : List Content}
    (is : IsReadSet script epoch set contents)
    → last_display (newest is) ≡ cond (is_entry_state set.state) (Some (display_of_script script)) None
set_display {script} {epoch} {set} {contents} is =
    first_given-append display_of (reverse is.objects) (new_cluts is ++ (new_regions is ++ new_page script epoch set))
    ∙ ap (λ found. option_or found (last_display (new_cluts is ++ (new_regions is ++ new_page script epoch set))))
    (first_given-all_none display_of (reverse is.objects)
    (reversed_all (λ c. display_of c ≡ None) is.objects
    (λ k d within. none_of (display_of (get_or is.objects k d))
    (objects_are is.objects (objects_of is) k d within).display_is)))
    ∙ first_given-append display_of (new_cluts is) (new_regions is ++ new_page script epoch set)
    ∙ ap (λ found. option_or found (last_display (new_regions is ++ new_page script epoch set)))
    (no_cluts (reverse is.cluts))
    ∙ first_given-append display_of (new_regions is) (new_page script epoch set)
    ∙ ap (λ found. option_or found (last_display (new_page script epoch set))) (no_regions (reverse set.regions))
    ∙ by set.state
  where
    none_of : {X : Type 0} (found : Option X) → is_some found ≡ false → found ≡ None
    none_of None e = refl
    none_of (Some x) e = absurd (let no : true ≡ false = e in cc)

    no_cluts : (sent : List SentClut) → last_display (map (clut_content epoch) sent) ≡ None
    no_cluts [] = refl
    no_cluts (one ∷ sent) = no_cluts sent

    no_regions : (sent : List SentRegion) → last_display (map (region_content is.names epoch) sent) ≡ None
    no_regions [] = refl
    no_regions (one ∷ sent) = no_regions sent

    by : (state : State)
        → last_display (reverse (map plain (display_segments script state)))
        ≡ cond (is_entry_state state) (Some (display_of_script script)) None
    by Normal = refl
    by Acquisition = refl
    by ModeChange = refl

-- ---- objects of version 0

pub zero_sent : (epoch : Epoch) (tick : ℕ) (content : Content) → IsSent epoch tick content
    → HasVersionZero content
zero_sent epoch tick content sent object is = by content.value refl sent
  where
    by : (value : SegmentValue) → content.value ≡ value → IsSentBy epoch tick value → object.version ≡ 0
    by value e sent = elim value as (λ v. content.value ≡ v → IsSentBy epoch tick v → object.version ≡ 0) [
      | of_page v ↦ λ e sent. absurd (let no : None ≡ Some object = rw e at is in cc)
      | of_region v ↦ λ e sent. absurd (let no : None ≡ Some object = rw e at is in cc)
      | of_clut v ↦ λ e sent. absurd (let no : None ≡ Some object = rw e at is in cc)
      | of_object v ↦ λ e sent. (let both : Some v ≡ Some object = rw e at is in
          let same : v ≡ object = cc in subst (λ (o : Object). o.version ≡ 0) same sent)
      | of_display v ↦ λ e sent. absurd (let no : None ≡ Some object = rw e at is in cc)
      | end_of_set ↦ λ e sent. absurd (let no : None ≡ Some object = rw e at is in cc)
      | passed_over ↦ λ e sent. absurd (let no : None ≡ Some object = rw e at is in cc)
    ] e sent

-- ---- the step

-- a set of the plan, read, in its epoch
pub record IsReadIn (script : Script) (epoch : Epoch) (set : PlannedSet) (earlier : List ℕ)
    (contents : List Content) : Type 0 where
  pub fair : IsFairEpoch script.width script.height script.pictures epoch
  pub planned : IsPlannedIn epoch set earlier
  pub read : IsReadSet script epoch set contents

drawn_for : {script : Script} {epoch : Epoch} {set : PlannedSet} {earlier : List ℕ} {contents : List Content}
    (is : IsReadIn script epoch set earlier contents) (region : Region) → Contains epoch.regions region
    → IsDrawnFor is.read.names script.pictures epoch region.id
    (sent_region epoch.cues (is_entry_state set.state) (set.pts ∷ earlier) region.id) is.read.objects
drawn_for {script} {epoch} {set} {earlier} {contents} is region there =
    record {
      cues = set.cues;
      apart = is.read.apart;
      drawn = is.read.drawn;
      are = λ k d within. (is.fair.cues (get_or set.cues k d) no_cue (is.planned.sendable.cues k d within)).drawn;
      listed =
          own_listed region is.fair.apart is.planned.carried there;
    }

-- each region and each CLUT of the plan's set is sent once
sent_once : {script : Script} {epoch : Epoch} {set : PlannedSet} {earlier : List ℕ} {contents : List Content}
    (is : IsReadIn script epoch set earlier contents) → AreSentOnce is.read
sent_once {script} {epoch} {set} {earlier} {contents} is =
    record {
      regions = regions_single epoch.cues epoch.regions (is_entry_state set.state) (set.pts ∷ earlier) set.regions
          is.fair.apart is.planned.carried.regions;
      cluts = single_permuted (λ (one : SentClut). one.clut) set.cluts is.read.cluts is.read.permuted
          (subst (AreSingle (λ (one : SentClut). one.clut)) (sym is.planned.carried.cluts)
          (cluts_single epoch.colours (is_entry_state set.state) (set.pts ∷ earlier)));
    }

-- the set as a region of the epoch sees it, and as a CLUT does
region_seen : {script : Script} {epoch : Epoch} {set : PlannedSet} {earlier : List ℕ} {contents : List Content}
    (is : IsReadIn script epoch set earlier contents) (sets : List (List Content)) (region : Region)
    → Contains epoch.regions region
    → IsRegionView is.read.names epoch region.id
    (sent_region epoch.cues (is_entry_state set.state) (set.pts ∷ earlier) region.id) is.read.objects
    (taken_among (segments_of sets)) (taken_among (segments_of (contents ∷ sets)))
region_seen {script} {epoch} {set} {earlier} {contents} is sets region there =
    region_view is.read sets (sent_once is) region.id
    (sent_region epoch.cues (is_entry_state set.state) (set.pts ∷ earlier) region.id)
    (region_part epoch.cues epoch.regions (is_entry_state set.state) (set.pts ∷ earlier) set.regions region
    is.fair.apart is.planned.carried.regions there)

clut_seen : {script : Script} {epoch : Epoch} {set : PlannedSet} {earlier : List ℕ} {contents : List Content}
    (is : IsReadIn script epoch set earlier contents) (sets : List (List Content)) (id : ℕ)
    → IsClutView epoch id (sent_clut epoch.colours (is_entry_state set.state) (set.pts ∷ earlier) id)
    (taken_among (segments_of sets)) (taken_among (segments_of (contents ∷ sets)))
clut_seen {script} {epoch} {set} {earlier} {contents} is sets id =
    clut_view is.read sets (sent_once is) id own
    (part_permuted (clut_once epoch.colours (is_entry_state set.state) (set.pts ∷ earlier) id)
    (clut_own epoch.colours (is_entry_state set.state) (set.pts ∷ earlier) id) is.read.permuted (sent_once is).cluts
    (subst (HasPart (λ (one : SentClut). one.clut) id own) (sym is.planned.carried.cluts)
    (clut_part epoch.colours (is_entry_state set.state) set.pts earlier id is.fair.cluts)))
  where
    own : List SentClut
    own = sent_clut epoch.colours (is_entry_state set.state) (set.pts ∷ earlier) id

pub no_sets : segments_of [] ≡ []
unfolding segments_of
no_sets = refl

-- the first set that a receiver has of an epoch, which is not normal
pub keeps_first : {script : Script} {epoch : Epoch} {set : PlannedSet} {earlier : List ℕ} {contents : List Content}
    → IsReadIn script epoch set earlier contents → is_entry_state set.state ≡ true
    → Keeps script epoch set.pts earlier (segments_of (contents ∷ []))
keeps_first {script} {epoch} {set} {earlier} {contents} is whole =
    record {
      each = subst (All (IsSent epoch set.pts)) (sym first) (newest_sent is.read earlier is.planned);
      display =
          taken_display (segments_of (contents ∷ [])) ∙ ap last_display first ∙ set_display is.read
          ∙ ap (λ b. cond b (Some (display_of_script script)) None) whole;
      regions = λ k d within.
          region_first (get_or epoch.regions k d) set.pts earlier
          (view (get_or epoch.regions k d) (All-contains_itself epoch.regions k d within))
          (draws (get_or epoch.regions k d) (All-contains_itself epoch.regions k d within))
          (ap (λ taken. last_region (get_or epoch.regions k d).id taken) nothing);
      cluts = λ clut.
          clut_first (rows_seen clut is.fair is.planned.seen)
          (subst (λ (taken : List Content). IsClutView epoch clut
          (sent_clut epoch.colours true (set.pts ∷ earlier) clut) taken now) nothing
          (subst (λ b. IsClutView epoch clut (sent_clut epoch.colours b (set.pts ∷ earlier) clut)
          (taken_among (segments_of [])) now) whole (clut_seen is [] clut)));
    }
  where
    now : List Content
    now = taken_among (segments_of (contents ∷ []))

    nothing : taken_among (segments_of []) ≡ []
    nothing = ap taken_among no_sets ∙ none_taken

    first : segments_of (contents ∷ []) ≡ newest is.read
    first = newest_first is.read [] ∙ ap (λ rest. newest is.read ++ rest) no_sets ∙ append-nil (newest is.read)

    view : (region : Region) → Contains epoch.regions region
        → IsRegionView is.read.names epoch region.id (sent_region epoch.cues true (set.pts ∷ earlier) region.id)
        is.read.objects (taken_among (segments_of [])) now
    view region there =
        subst (λ b. IsRegionView is.read.names epoch region.id
        (sent_region epoch.cues b (set.pts ∷ earlier) region.id) is.read.objects (taken_among (segments_of [])) now)
        whole (region_seen is [] region there)

    draws : (region : Region) → Contains epoch.regions region
        → IsDrawnFor is.read.names script.pictures epoch region.id
        (sent_region epoch.cues true (set.pts ∷ earlier) region.id) is.read.objects
    draws region there =
        subst (λ b. IsDrawnFor is.read.names script.pictures epoch region.id
        (sent_region epoch.cues b (set.pts ∷ earlier) region.id) is.read.objects) whole (drawn_for is region there)

-- one set more
pub keeps_next : {script : Script} {epoch : Epoch} {set : PlannedSet} {before : ℕ} {more : List ℕ}
    {contents : List Content} (sets : List (List Content)) → IsReadIn script epoch set (before ∷ more) contents
    → Keeps script epoch before more (segments_of sets)
    → Keeps script epoch set.pts (before ∷ more) (segments_of (contents ∷ sets))
keeps_next {script} {epoch} {set} {before} {more} {contents} sets is kept =
    record {
      each =
          subst (All (IsSent epoch set.pts)) (sym first)
          (All-append (IsSent epoch set.pts) (newest is.read) (segments_of sets)
          (newest_sent is.read (before ∷ more) is.planned)
          (λ k d within. later_sent epoch before set.pts (get_or (segments_of sets) k d) (omega (arith, rise))
          (kept.each k d within)));
      display =
          taken_display (segments_of (contents ∷ sets)) ∙ ap last_display first
          ∙ first_given-append display_of (newest is.read) (segments_of sets)
          ∙ (λ i. option_or (set_display is.read i) ((sym (taken_display (segments_of sets)) ∙ kept.display) i))
          ∙ upon (is_entry_state set.state);
      regions = λ k d within.
          region_next (is_entry_state set.state) set.pts
          (region_seen is sets (get_or epoch.regions k d) (All-contains_itself epoch.regions k d within))
          (drawn_for is (get_or epoch.regions k d) (All-contains_itself epoch.regions k d within))
          (taken_all HasVersionZero (segments_of sets)
          (λ n e inside. zero_sent epoch before (get_or (segments_of sets) n e) (kept.each n e inside)))
          (kept.regions k d within);
      cluts = λ clut.
          clut_next (is_entry_state set.state) (next_instant clut is.fair is.planned.seen)
          (clut_seen is sets clut) (kept.cluts clut);
    }
  where
    first : segments_of (contents ∷ sets) ≡ newest is.read ++ segments_of sets
    first = newest_first is.read sets

    rise : before < set.pts
    rise = is.planned.seen.falls 0 1 0 (omega arith) (omega arith)

    upon : (b : Bool)
        → option_or (cond b (Some (display_of_script script)) None) (Some (display_of_script script))
        ≡ Some (display_of_script script)
    upon true = refl
    upon false = refl
