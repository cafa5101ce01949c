-- Sets of a plan that follow each other without a hole, as a receiver keeps them: each is shown, and what the receiver
-- has is as the plan says. Lists have the latest first.
use Rattle.std.proofs.Common.{◌≡◌, ◌≢◌, ◌∙◌, ◌⊎◌, inl, inr, ℕ, suc, ◌==◌, ◌||◌, ◌<◌, Bool, true, false, List, [], ◌∷◌, ◌++◌, map, reverse, get_or, Option, Some, None, refl, sym, ap, subst, arith}
use Rattle.std.specs.Prelude.{All, slice_get, filter_map}
use Rattle.std.specs.List.{AllPairs, cons_option, list_any}
use Rattle.std.specs.Option.{is_some}
use Rattle.std.proofs.lemmas.List.{reverse-append, reverse-reverse, append_assoc, map-append}
use Rattle.std.proofs.lemmas.List.Elements.{All-head, All-tail, filter_map-append}
use Rattle.sub_base.specs.declared.profile.Profile.{Profile}
use Rattle.stream_syntax.specs.Segments.{Page, end_of_set, state_number, is_entry_state}
use Rattle.stream_syntax.specs.declared.page.State.{State}
use Rattle.stream_syntax.specs.declared.page.State.TheVariants.{Normal, Acquisition, ModeChange}
use Rattle.cue_list.specs.declared.epoch.Epoch.{Epoch}
use Rattle.cue_list.specs.declared.script.Script.{Script}
use Rattle.page_epoch.specs.Plan.{IsPlan}
use Rattle.page_epoch.specs.declared.planned_set.PlannedSet.{PlannedSet}
use Rattle.page_epoch.specs.declared.planned_set.SentClut.{SentClut}
use Rattle.page_epoch.specs.declared.planned_set.SentRegion.{SentRegion}
use Rattle.set_coder.specs.SetSegments.{display_segments}
use Rattle.decoder_model.specs.Contents.{page_of, page_in_set, has_state}
use Rattle.decoder_model.specs.Faults.{contents_in, segment_fault}
use Rattle.decoder_model.specs.Kept.{epoch_of}
use Rattle.decoder_model.specs.Readings.{Content, Reading}
use Rattle.decoder_model.specs.Taken.{segments_of}
use Rattle.decoder_model.specs.Verdict.{shown_unless, verdict_in_epoch, verdict_with_page, verdict_on_segments, verdict_on_kept}
use Rattle.decoder_model.specs.declared.set_end.SetEnd.TheVariants.{Shown}
use Rattle.decoder_model.proofs.Epochs.{epoch_begun, epoch_on, epoch_entered}
use Rattle.shown_plan.proofs.Steps.Fair.{IsFair}
use Rattle.shown_plan.proofs.Steps.FaultFree.{HasRoom, page_value, page_is, set_fits}
use Rattle.shown_plan.proofs.Steps.Keeps.{Keeps, KeepsBefore}
use Rattle.shown_plan.proofs.Steps.KeepsStep.{IsReadIn, keeps_first, keeps_next}
use Rattle.shown_plan.proofs.Segments.Ordered.{displays_in, page_content, region_content, clut_content, objects_are, regions_in, cluts_in, contents_are}
use Rattle.shown_plan.proofs.Segments.PlannedSets.{times_of, has_times, IsInEpoch, in_epoch, goes_after}
use Rattle.shown_plan.proofs.Segments.ReadSets.{plain, IsReadSet, objects_of}

-- The sets of the plan up to one, and the kept sets since the last loss or broken set up to it. The run begins with a
-- set that is not normal: a mode change, or an acquisition point at which no epoch is known.
pub data IsRun (script : Script) : List PlannedSet → List (List Content) → Type 0 where
  begins : {plan : List PlannedSet} {sets : List (List Content)} {set : PlannedSet} {contents : List Content}
      (epoch : Epoch) → slice_get script.epochs set.epoch ≡ Some epoch
      → is_entry_state set.state ≡ true → (set.state ≡ ModeChange) ⊎ (epoch_of sets ≡ None)
      → IsReadSet script epoch set contents → IsRun script (set ∷ plan) (contents ∷ sets)
  goes_on : {plan : List PlannedSet} {sets : List (List Content)} {before set : PlannedSet} {previous contents : List
      Content} (epoch : Epoch) → slice_get script.epochs set.epoch ≡ Some epoch
      → IsRun script (before ∷ plan) (previous ∷ sets) → IsReadSet script epoch set contents
      → IsRun script (set ∷ before ∷ plan) (contents ∷ previous ∷ sets)

-- a set is shown behind others, in whatever segments it comes that have no fault
abbrev pub IsShownBehind : Profile → List (List Content) → List Content → Type 0
IsShownBehind profile before latest = (readings : List Reading) → contents_in readings ≡ latest
    → segment_fault readings ≡ None → verdict_on_kept profile before readings ≡ Shown

-- what stands behind a run: its last set is shown, and what the receiver has of the epoch is as the plan says
pub record RunKeeps (script : Script) (profile : Profile) (past : List PlannedSet) (set : PlannedSet)
    (latest : List Content) (before : List (List Content)) : Type 0 where
  pub place : IsInEpoch script profile past set
  pub older : List (List Content)
  pub known : epoch_of (latest ∷ before) ≡ Some (latest ∷ older)
  pub read : IsReadSet script place.epoch set latest
  pub keeps : Keeps script place.epoch set.pts place.earlier (segments_of (latest ∷ older))
  pub shown : IsShownBehind profile before latest

abbrev pub HasKept : Script → Profile → List PlannedSet → List (List Content) → Type 0
HasKept script profile [] sets = Unit {0}
HasKept script profile (set ∷ past) [] = Unit {0}
HasKept script profile (set ∷ past) (latest ∷ before) = RunKeeps script profile past set latest before

-- ---- the state of a set

-- a set has one page
one_page : (script : Script) (epoch : Epoch) (set : PlannedSet) (contents : List Content)
    → IsReadSet script epoch set contents → filter_map page_of contents ≡ page_value script epoch set ∷ []
one_page script epoch set contents is =
    ap (filter_map page_of) (contents_are is)
    ∙ filter_map-append page_of (displays_in script set) (page_content script epoch set ∷ rest)
    ∙ (λ i. no_displays set.state i ++ (page_value script epoch set ∷ none i))
  where
    rest : List Content
    rest = regions_in is ++ (cluts_in is ++ (is.objects ++ plain end_of_set ∷ []))

    no_displays : (state : State) → filter_map page_of (map plain (display_segments script state)) ≡ []
    no_displays Normal = refl
    no_displays Acquisition = refl
    no_displays ModeChange = refl

    no_regions : (sent : List SentRegion) → filter_map page_of (map (region_content is.names epoch) sent) ≡ []
    no_regions [] = refl
    no_regions (one ∷ sent) = no_regions sent

    no_cluts : (sent : List SentClut) → filter_map page_of (map (clut_content epoch) sent) ≡ []
    no_cluts [] = refl
    no_cluts (one ∷ sent) = no_cluts sent

    no_objects : (objects : List Content) → All (λ c. page_of c ≡ None) objects
        → filter_map page_of objects ≡ []
    no_objects [] none = refl
    no_objects (o ∷ objects) none =
        ap (λ found. cons_option found (filter_map page_of objects))
        (All-head (λ c. page_of c ≡ None) o objects none)
        ∙ no_objects objects (All-tail (λ c. page_of c ≡ None) o objects none)

    none_of : {X : Type 0} (found : Option X) → is_some found ≡ false → found ≡ None
    none_of None e = refl
    none_of (Some x) e = absurd (let no : true ≡ false = e in cc)

    none : filter_map page_of rest ≡ []
    none =
        filter_map-append page_of (regions_in is) (cluts_in is ++ (is.objects ++ plain end_of_set ∷ []))
        ∙ (λ i. no_regions set.regions i
        ++ (filter_map-append page_of (cluts_in is) (is.objects ++ plain end_of_set ∷ [])
        ∙ (λ j. no_cluts is.cluts j ++ (filter_map-append page_of is.objects (plain end_of_set ∷ [])
        ∙ (λ k. no_objects is.objects
        (λ n d within. none_of (page_of (get_or is.objects n d))
        (objects_are is.objects (objects_of is) n d within).page_is) k ++ [])) j)) i)

pub has_its_state : (script : Script) (epoch : Epoch) (set : PlannedSet) (contents : List Content) (state : State)
    → IsReadSet script epoch set contents
    → has_state state contents ≡ (state_number set.state == state_number state)
has_its_state script epoch set contents state is =
    ap (list_any (λ (page : Page). state_number page.state == state_number state))
    (one_page script epoch set contents is) ∙ either (state_number set.state == state_number state)
  where
    either : (b : Bool) → (b || false) ≡ b
    either true = refl
    either false = refl

-- the set is read in its epoch
read_at : {script : Script} {profile : Profile} {past : List PlannedSet} {set : PlannedSet} {latest : List Content}
    (place : IsInEpoch script profile past set) → IsReadSet script place.epoch set latest
    → IsReadIn script place.epoch set place.earlier latest
read_at place read = record { fair = place.fair; planned = place.planned; read = read }

same_epoch : {script : Script} {profile : Profile} {past : List PlannedSet} {set : PlannedSet} {epoch : Epoch}
    {latest : List Content} (place : IsInEpoch script profile past set)
    → slice_get script.epochs set.epoch ≡ Some epoch
    → IsReadSet script epoch set latest → IsReadSet script place.epoch set latest
same_epoch {script} {profile} {past} {set} {epoch} {latest} place found read =
    subst (λ (e : Epoch). IsReadSet script e set latest)
    (let both : Some epoch ≡ Some place.epoch = sym found ∙ place.place.found in cc) read

-- ---- the verdict

-- what a receiver has of the epoch before a set, and with it
record IsStepOf (script : Script) (epoch : Epoch) (set : PlannedSet) (earlier : List ℕ) (latest : List Content)
    (older : List (List Content)) : Type 0 where
  is : IsReadIn script epoch set earlier latest
  before : KeepsBefore script epoch earlier older
  now : Keeps script epoch set.pts earlier (segments_of (latest ∷ older))

shown_set : {script : Script} {profile : Profile} {epoch : Epoch} {set : PlannedSet} {earlier : List ℕ}
    {latest : List Content} {older : List (List Content)} (before : List (List Content))
    → IsStepOf script epoch set earlier latest older → HasRoom script epoch set earlier profile
    → epoch_of (latest ∷ before) ≡ Some (latest ∷ older) → IsShownBehind profile before latest
shown_set {script} {profile} {epoch} {set} {earlier} {latest} {older} before step room known readings contents
    no_fault =
    (λ i. verdict_on_segments profile before (contents i) (no_fault i))
    ∙ ap (verdict_with_page profile before latest) page
    ∙ ap (verdict_in_epoch profile (page_value script epoch set)) known
    ∙ ap shown_unless (set_fits older (page_value script epoch set) step.is room step.before step.now page)
  where
    page : page_in_set latest ≡ Some (page_value script epoch set)
    page = page_is script epoch set latest step.is.read

-- ---- the run

begun : {script : Script} {profile : Profile} {past : List PlannedSet} {set : PlannedSet} {latest : List Content}
    (before : List (List Content)) (place : IsInEpoch script profile past set)
    → IsReadSet script place.epoch set latest → is_entry_state set.state ≡ true
    → epoch_of (latest ∷ before) ≡ Some (latest ∷ []) → RunKeeps script profile past set latest before
begun before place read whole known =
    let kept = keeps_first (read_at place read) whole in
    record {
      place = place;
      older = [];
      known = known;
      read = read;
      keeps = kept;
      shown = shown_set before (record { is = read_at place read; before = tt; now = kept }) place.room known;
    }

begins_run : {script : Script} {profile : Profile} {past : List PlannedSet} {set : PlannedSet} {latest : List Content}
    (before : List (List Content)) (place : IsInEpoch script profile past set)
    → IsReadSet script place.epoch set latest → is_entry_state set.state ≡ true
    → (set.state ≡ ModeChange) ⊎ (epoch_of before ≡ None) → RunKeeps script profile past set latest before
begins_run {script} {profile} {past} {set} {latest} before place read whole first =
    begun before place read whole (by set.state refl whole first)
  where
    mode : (b : Bool) → (state_number set.state == state_number ModeChange) ≡ b
        → has_state ModeChange latest ≡ b
    mode b e = has_its_state script place.epoch set latest ModeChange read ∙ e

    by : (state : State) → set.state ≡ state → is_entry_state state ≡ true → (set.state ≡ ModeChange)
        ⊎ (epoch_of before ≡ None) → epoch_of (latest ∷ before) ≡ Some (latest ∷ [])
    by Normal e w first = absurd (cc)
    by ModeChange e w first =
        epoch_begun latest before (mode true (ap (λ s. state_number s == state_number ModeChange) e))
    by Acquisition e w (inl mode_change) = absurd (let no : Acquisition ≡ ModeChange = sym e ∙ mode_change in cc)
    by Acquisition e w (inr unknown) =
        epoch_entered latest before (mode false (ap (λ s. state_number s == state_number ModeChange) e))
        (has_its_state script place.epoch set latest Acquisition read
        ∙ ap (λ s. state_number s == state_number Acquisition) e) unknown

continues : {script : Script} {profile : Profile} {past : List PlannedSet} {before set : PlannedSet}
    {latest previous : List Content} {sets : List (List Content)}
    (place : IsInEpoch script profile (before ∷ past) set) → before.pts < set.pts
    → IsReadSet script place.epoch set latest → RunKeeps script profile past before previous sets
    → RunKeeps script profile (before ∷ past) set latest (previous ∷ sets)
continues {script} {profile} {past} {before} {set} {latest} {previous} {sets} place rise read kept = by set.state refl
  where
    mode : (b : Bool) → (state_number set.state == state_number ModeChange) ≡ b
        → has_state ModeChange latest ≡ b
    mode b e = has_its_state script place.epoch set latest ModeChange read ∙ e

    still : set.state ≢ ModeChange → (state_number set.state == state_number ModeChange) ≡ false
        → RunKeeps script profile (before ∷ past) set latest (previous ∷ sets)
    still other number =
        (let after = goes_after script profile past before set kept.place place rise other in
        let known = epoch_on latest (previous ∷ sets) (previous ∷ kept.older) (mode false number) kept.known in
        let is : IsReadIn script place.epoch set (before.pts ∷ kept.place.earlier) latest =
        subst (λ (times : List ℕ). IsReadIn script place.epoch set times latest) after.earlier
        (read_at place read) in
        let was : Keeps script place.epoch before.pts kept.place.earlier (segments_of (previous ∷ kept.older)) =
        subst (λ (e : Epoch). Keeps script e before.pts kept.place.earlier (segments_of (previous ∷ kept.older)))
        (sym after.epoch) kept.keeps in
        let keeps = keeps_next (previous ∷ kept.older) is was in
        record {
          place = place;
          older = previous ∷ kept.older;
          known = known;
          read = read;
          keeps =
              subst (λ (times : List ℕ). Keeps script place.epoch set.pts times
              (segments_of (latest ∷ previous ∷ kept.older))) (sym after.earlier) keeps;
          shown =
              shown_set (previous ∷ sets) (record { is = is; before = was; now = keeps })
              (subst (λ (times : List ℕ). HasRoom script place.epoch set times profile) after.earlier place.room)
              known;
        })

    by : (state : State) → set.state ≡ state
        → RunKeeps script profile (before ∷ past) set latest (previous ∷ sets)
    by ModeChange e =
        begun (previous ∷ sets) place read (ap is_entry_state e)
        (epoch_begun latest (previous ∷ sets) (mode true (ap (λ s. state_number s == state_number ModeChange) e)))
    by Normal e =
        still (λ other. (let no : Normal ≡ ModeChange = sym e ∙ other in absurd (cc)))
        (ap (λ s. state_number s == state_number ModeChange) e)
    by Acquisition e =
        still (λ other. (let no : Acquisition ≡ ModeChange = sym e ∙ other in absurd (cc)))
        (ap (λ s. state_number s == state_number ModeChange) e)

-- ---- places of the plan

turned_more : (past back : List PlannedSet) (set : PlannedSet)
    → reverse (set ∷ past) ++ back ≡ reverse past ++ (set ∷ back)
turned_more past back set =
    ap (λ front. front ++ back) (reverse-append (set ∷ []) past) ∙ append_assoc (reverse past) (set ∷ []) back

-- the set behind the front of a plan, in its epoch
pub at_place : (script : Script) (profile : Profile) (sets past back : List PlannedSet) (set : PlannedSet)
    → IsFair script → IsPlan script profile sets → sets ≡ reverse (set ∷ past) ++ back
    → IsInEpoch script profile past set
at_place script profile sets past back set is_fair plan parts =
    subst (λ (earlier : List PlannedSet). IsInEpoch script profile earlier set) (reverse-reverse past)
    (in_epoch script profile sets (reverse past) back set is_fair plan (parts ∙ turned_more past back set))

-- it is later than the one before
next_later : (script : Script) (profile : Profile) (sets past back : List PlannedSet) (before set : PlannedSet)
    → IsPlan script profile sets → sets ≡ reverse (set ∷ before ∷ past) ++ back → before.pts < set.pts
next_later script profile sets past back before set plan parts =
    neighbours (times_of (reverse past)) (times_of back) before.pts set.pts
    (subst (AllPairs (λ (earlier later : ℕ). earlier < later)) whole
    (has_times script profile sets plan.planned).rise)
  where
    whole : times_of sets ≡ times_of (reverse past) ++ (before.pts ∷ set.pts ∷ times_of back)
    whole =
        ap times_of (parts ∙ turned_more (before ∷ past) back set ∙ turned_more past (set ∷ back) before)
        ∙ map-append (λ (s : PlannedSet). s.pts) (reverse past) (before ∷ set ∷ back)

    neighbours : (xs ys : List ℕ) (x y : ℕ)
        → AllPairs (λ (earlier later : ℕ). earlier < later) (xs ++ (x ∷ y ∷ ys)) → x < y
    neighbours [] ys x y rise = rise 0 1 x (omega arith) (omega arith)
    neighbours (first ∷ xs) ys x y rise =
        neighbours xs ys x y (λ i j d before within. rise (suc i) (suc j) d (omega arith) (omega arith))

-- behind a run of the plan's sets the last one is shown, and what a receiver has is as the plan says
pub run_keeps : (script : Script) (profile : Profile) (sets : List PlannedSet) → IsFair script
    → IsPlan script profile sets → (plan : List PlannedSet) (kept : List (List Content)) → IsRun script plan kept
    → (back : List PlannedSet) → sets ≡ reverse plan ++ back → HasKept script profile plan kept
run_keeps script profile sets is_fair plan_is all kept
    (begins {plan = past} {sets = older} {set = set} {contents = latest} epoch found whole first read) back parts =
    let place = at_place script profile sets past back set is_fair plan_is parts in
    begins_run older place (same_epoch place found read) whole first
run_keeps script profile sets is_fair plan_is all kept
    (goes_on {plan = past} {sets = older} {before = before} {set = set} {previous = previous} {contents = latest} epoch
    found run read) back parts =
    let place = at_place script profile sets (before ∷ past) back set is_fair plan_is parts in
    continues place (next_later script profile sets past back before set plan_is parts) (same_epoch place found read)
    (run_keeps script profile sets is_fair plan_is (before ∷ past) (previous ∷ older) run (set ∷ back)
    (parts ∙ turned_more (before ∷ past) back set))
