-- A set of a plan more in a receiver: it is kept at its own time; where no epoch is known and it is normal nothing is
-- shown, and behind a run of the plan's sets its own page is.
use Rattle.std.proofs.Common.{◌≡◌, ◌∙◌, ℕ, ◌+◌, ◌%◌, ◌==◌, ◌<◌, ◌≤◌, ◌⊎◌, inl, inr, false, List, [], ◌∷◌, Option, Some, None, refl, sym, ap, subst}
use Rattle.std.specs.Option.{option_or}
use Rattle.std.proofs.lemmas.Bool.{cases_lt}
use Rattle.sub_base.specs.declared.profile.Profile.{Profile}
use Rattle.stream_syntax.specs.Segments.{state_number, is_entry_state}
use Rattle.stream_syntax.specs.declared.page.State.{State}
use Rattle.stream_syntax.specs.declared.page.State.TheVariants.{Normal, Acquisition, ModeChange}
use Rattle.cue_list.specs.declared.script.Script.{Script}
use Rattle.page_epoch.specs.declared.planned_set.PlannedSet.{PlannedSet}
use Rattle.decoder_model.specs.BehindLoss.{IsNormal, IsWaitingOrBroken}
use Rattle.decoder_model.specs.Contents.{page_in_set}
use Rattle.decoder_model.specs.Faults.{contents_in}
use Rattle.decoder_model.specs.Kept.{lifted_behind, lifted_time, last_time, epoch_of}
use Rattle.decoder_model.specs.Readings.{Content, Reading}
use Rattle.decoder_model.specs.Sets.{Delivery, whole}
use Rattle.decoder_model.specs.Shown.{IsClear, Standing, scene_in, standing_with, standing_after, view_of, view_at}
use Rattle.decoder_model.specs.Verdict.{verdict_in_epoch, verdict_with_page, verdict_on_segments, verdict_on_kept, if_kept, verdict_of, sets_with, sets_since, known_epoch}
use Rattle.decoder_model.specs.declared.set_end.SetEnd.{SetEnd}
use Rattle.decoder_model.specs.declared.set_end.SetEnd.TheVariants.{Shown, Waiting, Broken, NotLater}
use Rattle.decoder_model.proofs.AfterLoss.{still_unknown, normal_waits}
use Rattle.decoder_model.proofs.Lifts.{lifted_first, lifted_next}
use Rattle.decoder_model.proofs.Views.{view_before, view_with, view_of_shown}
use Rattle.shown_plan.proofs.Steps.FaultFree.{page_value, page_is}
use Rattle.shown_plan.proofs.Pictures.Runs.{has_its_state, RunKeeps}
use Rattle.shown_stream.proofs.Shown.ComingSets.{SetComes, reading_of}
use Rattle.stream_syntax.specs.declared.wire.TheConstants.{TIME_ROUND, HALF_ROUND, TICK_LIMIT}
use Rattle.sent_sets.proofs.Units.{TimedSet, size_of_units}

-- ---- times

-- a time is lifted as it is, behind sets of which that is the greatest lifted time, and by an anchor where there are
-- none
abbrev pub IsAheadOf : ℕ → Option ℕ → ℕ → Type 0
IsAheadOf anchor None time = (anchor ≤ time) × (time < anchor + TIME_ROUND)
IsAheadOf anchor (Some last) time = (last < time) × (time < last + HALF_ROUND)

pub lifted_at : (anchor : ℕ) (last : Option ℕ) (time : ℕ) → IsAheadOf anchor last time → time < TICK_LIMIT
    → lifted_behind anchor last (time % TIME_ROUND) ≡ Some time
lifted_at anchor None time ahead low = lifted_first anchor time ahead.0 ahead.1
lifted_at anchor (Some last) time ahead low = lifted_next anchor last time ahead.0 ahead.1 low

-- and so are those of sets, one behind another
abbrev pub AreAheadOf : ℕ → Option ℕ → List PlannedSet → Type 0
AreAheadOf anchor last [] = Unit {0}
AreAheadOf anchor last (set ∷ sets) =
    IsAheadOf anchor last set.pts × (set.pts < TICK_LIMIT) × AreAheadOf anchor (Some set.pts) sets

-- such a set is kept at its own time
pub kept_at : {script : Script} {set : PlannedSet} {sent : TimedSet} (anchor : ℕ) (last : Option ℕ)
    (past : List (Delivery Reading)) (comes : SetComes script set sent) → last_time anchor past ≡ last
    → IsAheadOf anchor last set.pts
    → set.pts < TICK_LIMIT → lifted_time anchor past (reading_of comes) ≡ Some set.pts
kept_at {set = set} {sent = sent} anchor last past comes before ahead low =
    ap (λ found. lifted_behind anchor found sent.time) before ∙ ap (lifted_behind anchor last) comes.time
    ∙ lifted_at anchor last set.pts ahead low

-- and its time is the greatest from then on
pub last_is : {script : Script} {set : PlannedSet} {sent : TimedSet} (anchor : ℕ) (past : List (Delivery Reading))
    (comes : SetComes script set sent) → lifted_time anchor past (reading_of comes) ≡ Some set.pts
    → last_time anchor (reading_of comes ∷ past) ≡ Some set.pts
unfolding last_time
last_is anchor past comes kept = ap (λ found. option_or found (last_time anchor past)) kept

-- ---- a normal set where no epoch is known

normal_state : (state : State) → is_entry_state state ≡ false
    → ((state_number state == state_number ModeChange) ≡ false)
    × ((state_number state == state_number Acquisition) ≡ false)
normal_state Normal e = (refl, refl)
normal_state Acquisition e = absurd (cc)
normal_state ModeChange e = absurd (cc)

pub is_normal : {script : Script} {set : PlannedSet} {sent : TimedSet} (comes : SetComes script set sent)
    → is_entry_state set.state ≡ false → IsNormal (contents_in comes.readings)
is_normal {script = script} {set = set} comes e =
    let state = normal_state set.state e in
    subst IsNormal (sym comes.contents_are) (
      has_its_state script comes.epoch set comes.contents ModeChange comes.is ∙ state.0,
      has_its_state script comes.epoch set comes.contents Acquisition comes.is ∙ state.1,
    )

-- where no epoch is known nothing is shown
pub record IsIdle (profile : Profile) (anchor : ℕ) (past : List (Delivery Reading)) : Type 0 where
  pub unknown : known_epoch profile anchor past ≡ None
  pub clear : (tick : ℕ) → IsClear (view_at profile anchor tick past)

-- what is known behind a set that is kept, by its verdict
pub verdict_is : (profile : Profile) (anchor lifted : ℕ) (past : List (Delivery Reading)) (time size : ℕ)
    (readings : List Reading) (verdict : SetEnd) → lifted_time anchor past (whole time size readings) ≡ Some lifted
    → verdict_on_kept profile (sets_since profile anchor past) readings ≡ verdict
    → verdict_of profile anchor past (whole time size readings) ≡ Some verdict
verdict_is profile anchor lifted past time size readings verdict kept is =
    ap (λ found. Some
    (if_kept found (last_time anchor past) (verdict_on_kept profile (sets_since profile anchor past) readings)))
    kept ∙ ap Some is

pub sets_are : (profile : Profile) (anchor : ℕ) (past : List (Delivery Reading)) (delivery : Delivery Reading)
    (verdict : SetEnd) → verdict_of profile anchor past delivery ≡ Some verdict
    → sets_since profile anchor (delivery ∷ past)
    ≡ sets_with (sets_since profile anchor past) delivery (Some verdict)
unfolding sets_since
sets_are profile anchor past delivery verdict is = ap (sets_with (sets_since profile anchor past) delivery) is

stands : (profile : Profile) (anchor lifted : ℕ) (past : List (Delivery Reading)) (delivery : Delivery Reading)
    (verdict : SetEnd) → lifted_time anchor past delivery ≡ Some lifted
    → verdict_of profile anchor past delivery ≡ Some verdict
    → standing_after profile anchor (delivery ∷ past)
    ≡ standing_with (sets_since profile anchor past) (Some lifted) delivery (Some verdict)
    (standing_after profile anchor past)
unfolding standing_after
stands profile anchor lifted past delivery verdict kept is =
    ap (λ found. standing_with (sets_since profile anchor past) found delivery
    (verdict_of profile anchor past delivery) (standing_after profile anchor past)) kept
    ∙ ap (λ found. standing_with (sets_since profile anchor past) (Some lifted) delivery found
    (standing_after profile anchor past)) is

stands_not : (sets : List (List Content)) (lifted time size : ℕ) (readings : List Reading) (verdict : SetEnd)
    (before : Option Standing) → IsWaitingOrBroken verdict
    → standing_with sets (Some lifted) (whole time size readings) (Some verdict) before ≡ None
stands_not sets lifted time size readings Shown before waits = absurd waits
stands_not sets lifted time size readings Waiting before waits = refl
stands_not sets lifted time size readings (Broken fault) before waits = refl
stands_not sets lifted time size readings (NotLater last) before waits = absurd waits

pub none_known : epoch_of [] ≡ None
unfolding epoch_of
none_known = refl

pub unknown_with : (sets : List (List Content)) (time size : ℕ) (readings : List Reading) (verdict : SetEnd)
    → IsNormal (contents_in readings) → epoch_of sets ≡ None
    → epoch_of (sets_with sets (whole time size readings) (Some verdict)) ≡ None
unknown_with sets time size readings Shown normal unknown = still_unknown (contents_in readings) sets normal unknown
unknown_with sets time size readings Waiting normal unknown = still_unknown (contents_in readings) sets normal unknown
unknown_with sets time size readings (Broken fault) normal unknown = none_known
unknown_with sets time size readings (NotLater last) normal unknown = unknown

clear_from : (anchor lifted tick : ℕ) (profile : Profile) (past : List (Delivery Reading))
    (delivery : Delivery Reading) → lifted_time anchor past delivery ≡ Some lifted
    → standing_after profile anchor (delivery ∷ past) ≡ None
    → IsClear (view_at profile anchor tick past) → IsClear (view_at profile anchor tick (delivery ∷ past))
clear_from anchor lifted tick profile past delivery kept none clear = by (cases_lt tick lifted)
  where
    by : (tick < lifted) ⊎ (lifted ≤ tick) → IsClear (view_at profile anchor tick (delivery ∷ past))
    by (inl early) = subst IsClear (sym (view_before profile anchor tick lifted past delivery kept early)) clear
    by (inr come) =
        subst IsClear (sym (view_with profile anchor tick lifted past delivery kept come ∙ ap (view_of tick) none)) tt

-- behind a normal set it stays so
pub still_idle : {script : Script} {set : PlannedSet} {sent : TimedSet} (profile : Profile) (anchor : ℕ)
    (past : List (Delivery Reading)) (comes : SetComes script set sent) → IsIdle profile anchor past
    → lifted_time anchor past (reading_of comes) ≡ Some set.pts → is_entry_state set.state ≡ false
    → IsIdle profile anchor (reading_of comes ∷ past)
still_idle {script = script} {set = set} {sent = sent} profile anchor past comes idle kept normal =
    let sets = sets_since profile anchor past in
    let size = size_of_units sent.units in
    let verdict = verdict_on_kept profile sets comes.readings in
    let is = verdict_is profile anchor set.pts past sent.time size comes.readings verdict kept refl in
    let waits = normal_waits profile sets comes.readings (is_normal comes normal) idle.unknown in
    let none =
    stands profile anchor set.pts past (reading_of comes) verdict kept is
    ∙ stands_not sets set.pts sent.time size comes.readings verdict (standing_after profile anchor past) waits in
    record {
      unknown =
          ap epoch_of (sets_are profile anchor past (reading_of comes) verdict is)
          ∙ unknown_with sets sent.time size comes.readings verdict (is_normal comes normal) idle.unknown;
      clear = λ tick. clear_from anchor set.pts tick profile past (reading_of comes) kept none (idle.clear tick);
    }

-- and the set waits
pub waits_with : {script : Script} {set : PlannedSet} {sent : TimedSet} (profile : Profile) (anchor : ℕ)
    (past : List (Delivery Reading)) (comes : SetComes script set sent) → known_epoch profile anchor past ≡ None
    → lifted_time anchor past (reading_of comes) ≡ Some set.pts → is_entry_state set.state ≡ false
    → verdict_of profile anchor past (reading_of comes) ≡ Some Waiting
waits_with {script = script} {set = set} {sent = sent} profile anchor past comes none kept normal =
    let sets = sets_since profile anchor past in
    let page = ap page_in_set comes.contents_are ∙ page_is script comes.epoch set comes.contents comes.is in
    let unknown = still_unknown (contents_in comes.readings) sets (is_normal comes normal) none in
    verdict_is profile anchor set.pts past sent.time (size_of_units sent.units) comes.readings Waiting kept
    (ap (verdict_on_segments profile sets (contents_in comes.readings)) comes.no_fault
    ∙ ap (verdict_with_page profile sets (contents_in comes.readings)) page
    ∙ ap (verdict_in_epoch profile (page_value script comes.epoch set)) unknown)

-- ---- a set behind a run

-- the page of a set of the plan behind a run, as it stands
abbrev pub page_behind : {script : Script} {profile : Profile} {plan : List
    PlannedSet} {set : PlannedSet} {latest : List Content} {before : List (List Content)}
    → RunKeeps script profile plan set latest before → Standing
page_behind {script = script} {set = set} {latest = latest}
    kept = record {
      time = set.pts;
      page = page_value script kept.place.epoch set;
      scene = scene_in
          (latest ∷ kept.older) (page_value script kept.place.epoch set);
    }

-- with a set that goes on with a run, or begins one, its page is shown from its time on
pub record IsShownSet (script : Script) (profile : Profile) (anchor : ℕ) (past : List (Delivery Reading))
    (plan : List PlannedSet) (set : PlannedSet) (latest : List Content) (delivery : Delivery Reading)
    (kept : RunKeeps script profile plan set latest (sets_since profile anchor past)) : Type 0 where
  pub sets : sets_since profile anchor (delivery ∷ past) ≡ latest ∷ sets_since profile anchor past
  pub verdict : verdict_of profile anchor past delivery ≡ Some Shown
  pub before : (tick : ℕ) → tick < set.pts
      → view_at profile anchor tick (delivery ∷ past) ≡ view_at profile anchor tick past
  pub from : (tick : ℕ) → set.pts ≤ tick
      → view_at profile anchor tick (delivery ∷ past) ≡ view_of tick (Some (page_behind kept))

pub shown_set : {script : Script} {set : PlannedSet} {sent : TimedSet} (profile : Profile) (anchor : ℕ)
    (past : List (Delivery Reading)) (plan : List PlannedSet) (comes : SetComes script set sent)
    → (kept : RunKeeps script profile plan set comes.contents (sets_since profile anchor past))
    → lifted_time anchor past (reading_of comes) ≡ Some set.pts
    → IsShownSet script profile anchor past plan set comes.contents (reading_of comes) kept
shown_set {script = script} {set = set} {sent = sent} profile anchor past plan comes kept lifted =
    let sets = sets_since profile anchor past in
    let size = size_of_units sent.units in
    let is =
    verdict_is profile anchor set.pts past sent.time size comes.readings Shown lifted
    (kept.shown comes.readings comes.contents_are comes.no_fault) in
    let page = ap page_in_set comes.contents_are ∙ page_is script kept.place.epoch set comes.contents kept.read in
    let epoch = ap (λ contents. epoch_of (contents ∷ sets)) comes.contents_are ∙ kept.known in
    record {
      sets =
          sets_are profile anchor past (reading_of comes) Shown is
          ∙ ap (λ contents. contents ∷ sets) comes.contents_are;
      verdict = is;
      before = λ tick early. view_before profile anchor tick set.pts past (reading_of comes) lifted early;
      from =
          λ tick come. view_of_shown profile anchor tick set.pts past sent.time size comes.readings
          (page_value script kept.place.epoch set) (comes.contents ∷ kept.older) lifted come is page epoch;
    }
