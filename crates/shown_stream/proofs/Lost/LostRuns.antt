-- What a receiver shows of a stream of which some packets are lost: at each tick up to which, from a set that is not
-- normal on, all sets have come whole, what is authored.
use Rattle.std.proofs.Common.{◌≡◌, ◌∙◌, ℕ, zero, suc, ◌<◌, ◌≤◌, ◌⊎◌, inl, inr, Bool, true, false, List, ◌∷◌, ◌++◌, reverse, Option, Some, None, refl, sym, ap, subst, arith}
use Rattle.std.specs.List.{AllByRecursion}
use Rattle.sub_base.specs.declared.profile.Profile.{Profile}
use Rattle.cue_list.specs.Sound.{IsTick}
use Rattle.cue_list.specs.declared.script.Script.{Script}
use Rattle.page_epoch.specs.Plan.{IsPlan}
use Rattle.page_epoch.specs.declared.planned_set.PlannedSet.{PlannedSet}
use Rattle.decoder_model.specs.Kept.{lifted_time, last_time, epoch_of}
use Rattle.decoder_model.specs.Readings.{Content, Reading}
use Rattle.decoder_model.specs.Sets.{Delivery}
use Rattle.decoder_model.specs.Shown.{View, Agrees, view_at}
use Rattle.decoder_model.specs.Verdict.{verdict_on_kept, verdict_of, sets_since, known_epoch}
use Rattle.decoder_model.specs.declared.set_end.SetEnd.TheVariants.{Shown, Waiting}
use Rattle.shown_plan.proofs.Steps.Fair.{fair}
use Rattle.shown_plan.proofs.Pictures.Runs.{IsRun, begins, goes_on, RunKeeps, run_keeps}
use Rattle.shown_stream.specs.HoldsWhole.{HoldsSet}
use Rattle.shown_stream.specs.Shows.{authored_view}
use Rattle.shown_stream.proofs.Shown.ComingSets.{SetComes, reading_of, turned_more}
use Rattle.shown_stream.proofs.Shown.HeldSets.{kept_holds}
use Rattle.shown_stream.proofs.Lost.LostStretches.{count_before}
use Rattle.shown_stream.proofs.Lost.LostKinds.{Kind, Fresh, Joined, Apart, Steps, missed_from}
use Rattle.shown_stream.proofs.Sent.PlannedTimes.{pts_of}
use Rattle.shown_stream.proofs.Shown.RunViews.{IsBefore, run_shows}
use Rattle.shown_stream.proofs.Shown.ShownSets.{IsAheadOf, verdict_is, sets_are, is_normal, unknown_with, waits_with, IsShownSet, shown_set}
use Rattle.stream_syntax.specs.Segments.{is_entry_state}
use Rattle.sent_sets.proofs.Units.{TimedSet, size_of_units}

-- ---- what is known in a receiver

-- the sets that are known are a run of the plan's sets, up to the one before
pub record IsRunning (script : Script) (profile : Profile) (anchor : ℕ) (past : List (Delivery Reading))
    (plan : List PlannedSet) : Type 0 where
  pub before : PlannedSet
  pub earlier : List PlannedSet
  pub plan_is : plan ≡ before ∷ earlier
  pub latest : List Content
  pub older : List (List Content)
  pub are : sets_since profile anchor past ≡ latest ∷ older
  pub run : IsRun script (before ∷ earlier) (latest ∷ older)

abbrev pub IsUnknown : Profile → ℕ → List (Delivery Reading) → Type 0
IsUnknown profile anchor past = known_epoch profile anchor past ≡ None

-- by how the next piece stands to those before it: before the first nothing is known; behind one in turn nothing or a
-- run; behind missing pieces a loss comes first
abbrev pub KnownBy : Script → Profile → ℕ → Kind → List (Delivery Reading) → List PlannedSet → Type 0
KnownBy script profile anchor Fresh past plan = IsUnknown profile anchor past
KnownBy script profile anchor Joined past plan =
    IsUnknown profile anchor past ⊎ IsRunning script profile anchor past plan
KnownBy script profile anchor Apart past plan = Unit {0}

-- with a set that comes whole a run goes on or begins, and its page is shown
pub record RunsOn (script : Script) (profile : Profile) (anchor : ℕ) (sets : List PlannedSet)
    (past : List (Delivery Reading)) (plan left : List PlannedSet) (set : PlannedSet)
    (delivery : Delivery Reading) : Type 0 where
  pub verdict : verdict_of profile anchor past delivery ≡ Some Shown
  pub running : IsRunning script profile anchor (delivery ∷ past) (set ∷ plan)
  pub shows : (tick : ℕ) → set.pts ≤ tick → IsBefore tick left
      → Agrees (view_at profile anchor tick (delivery ∷ past)) (authored_view script tick)
  pub held : (known : List (List Content)) → known_epoch profile anchor (delivery ∷ past) ≡ Some known
      → HoldsSet script plan set known

runs_with : {sent : TimedSet} (script : Script) (profile : Profile) (anchor : ℕ) (sets : List PlannedSet)
    (past : List (Delivery Reading)) (plan left : List PlannedSet) (set : PlannedSet) → IsPlan script profile sets
    → sets ≡ reverse plan ++ (set ∷ left)
    → (comes : SetComes script set sent) → lifted_time anchor past (reading_of comes) ≡ Some set.pts
    → IsRun script (set ∷ plan) (comes.contents ∷ sets_since profile anchor past)
    → RunsOn script profile anchor sets past plan left set (reading_of comes)
runs_with script profile anchor sets past plan left set is_plan parts comes lifted run = record {
  verdict = shown.verdict;
  running =
      record {
        before = set;
        earlier = plan;
        plan_is = refl;
        latest = comes.contents;
        older = sets_since profile anchor
            past;
        are = shown.sets;
        run = run;
      };
  shows =
      λ tick come early. subst (λ (view : View). Agrees view (authored_view script tick)) (sym (shown.from tick come))
      (run_shows script profile sets plan left set comes.contents (sets_since profile anchor past) is_plan whole kept
      tick come early);
  held = kept_holds profile anchor past plan set comes.contents (reading_of comes) kept shown;
}
  where
    whole : sets ≡ reverse (set ∷ plan) ++ left
    whole = parts ∙ sym (turned_more plan left set)

    kept : RunKeeps script profile plan set comes.contents (sets_since profile anchor past)
    kept =
        run_keeps script profile sets (fair script) is_plan (set ∷ plan)
        (comes.contents ∷ sets_since profile anchor past) run left whole

    shown : IsShownSet script profile anchor past plan set comes.contents (reading_of comes) kept
    shown = shown_set profile anchor past plan comes kept lifted

-- a run goes on
runs_on : {sent : TimedSet} (script : Script) (profile : Profile) (anchor : ℕ) (sets : List PlannedSet)
    (past : List (Delivery Reading)) (plan left : List PlannedSet) (set : PlannedSet) → IsPlan script profile sets
    → sets ≡ reverse plan ++ (set ∷ left)
    → (comes : SetComes script set sent) → lifted_time anchor past (reading_of comes) ≡ Some set.pts
    → IsRunning script profile anchor past plan
    → RunsOn script profile anchor sets past plan left set (reading_of comes)
runs_on script profile anchor sets past plan left set is_plan parts comes lifted running =
    runs_with script profile anchor sets past plan left set is_plan parts comes lifted
    (subst (λ (earlier : List PlannedSet). IsRun script (set ∷ earlier)
    (comes.contents ∷ sets_since profile anchor past)) (sym running.plan_is)
    (subst (λ (known : List (List Content)). IsRun script (set ∷ running.before ∷ running.earlier)
    (comes.contents ∷ known)) (sym running.are) (goes_on comes.epoch comes.found running.run comes.is)))

-- or begins
run_begins : {sent : TimedSet} (script : Script) (profile : Profile) (anchor : ℕ) (sets : List PlannedSet)
    (past : List (Delivery Reading)) (plan left : List PlannedSet) (set : PlannedSet) → IsPlan script profile sets
    → sets ≡ reverse plan ++ (set ∷ left)
    → (comes : SetComes script set sent) → lifted_time anchor past (reading_of comes) ≡ Some set.pts
    → IsUnknown profile anchor past → is_entry_state set.state ≡ true
    → RunsOn script profile anchor sets past plan left set (reading_of comes)
run_begins script profile anchor sets past plan left set is_plan parts comes lifted unknown whole =
    runs_with script profile anchor sets past plan left set is_plan parts comes lifted
    (begins comes.epoch comes.found whole (inr unknown) comes.is)

-- and where no epoch is known none is behind a normal set
unknown_on : {script : Script} {set : PlannedSet} {sent : TimedSet} (profile : Profile) (anchor : ℕ)
    (past : List (Delivery Reading)) (comes : SetComes script set sent)
    → lifted_time anchor past (reading_of comes) ≡ Some set.pts → IsUnknown profile anchor past
    → is_entry_state set.state ≡ false → IsUnknown profile anchor (reading_of comes ∷ past)
unknown_on {set = set} {sent = sent} profile anchor past comes lifted unknown normal =
    let sets = sets_since profile anchor past in
    let size = size_of_units sent.units in
    let verdict = verdict_on_kept profile sets comes.readings in
    ap epoch_of
    (sets_are profile anchor past (reading_of comes) verdict
    (verdict_is profile anchor set.pts past sent.time size comes.readings verdict lifted refl))
    ∙ unknown_with sets sent.time size comes.readings verdict (is_normal comes normal) unknown

-- ---- a set that comes whole

-- what is so behind a set that has come whole
pub record WholeAfter (script : Script) (profile : Profile) (anchor : ℕ) (sets : List PlannedSet)
    (past : List (Delivery Reading)) (plan left : List PlannedSet) (set : PlannedSet)
    (delivery : Delivery Reading) : Type 0 where
  pub verdict : (verdict_of profile anchor past delivery ≡ Some Shown)
      ⊎ (verdict_of profile anchor past delivery ≡ Some Waiting)
  pub known : IsUnknown profile anchor (delivery ∷ past)
      ⊎ IsRunning script profile anchor (delivery ∷ past) (set ∷ plan)
  pub held : (epoch : List (List Content)) → known_epoch profile anchor (delivery ∷ past) ≡ Some epoch
      → HoldsSet script plan set epoch
  pub runs : IsRunning script profile anchor past plan ⊎ (is_entry_state set.state ≡ true)
      → RunsOn script profile anchor sets past plan left set delivery

pub none_known_of : (profile : Profile) (anchor : ℕ) (past : List (Delivery Reading))
    → IsUnknown profile anchor past → (known : List (List Content))
    → known_epoch profile anchor past ≡ Some known → ⊥
none_known_of profile anchor past unknown known found = cc

pub whole_after : {sent : TimedSet} (script : Script) (profile : Profile) (anchor : ℕ) (sets : List PlannedSet)
    (past : List (Delivery Reading)) (plan left : List PlannedSet) (set : PlannedSet) → IsPlan script profile sets
    → sets ≡ reverse plan ++ (set ∷ left)
    → (comes : SetComes script set sent) → lifted_time anchor past (reading_of comes) ≡ Some set.pts
    → IsUnknown profile anchor past ⊎ IsRunning script profile anchor past plan
    → WholeAfter script profile anchor sets past plan left set (reading_of comes)
whole_after script profile anchor sets past plan left set is_plan parts comes lifted (inr running) =
    let on = runs_on script profile anchor sets past plan left set is_plan parts comes lifted running in
    record { verdict = inl on.verdict; known = inr on.running; held = on.held; runs = λ why. on }
whole_after script profile anchor sets past plan left set is_plan parts comes lifted (inl unknown) =
    by (is_entry_state set.state) refl
  where
    by : (b : Bool) → is_entry_state set.state ≡ b
        → WholeAfter script profile anchor sets past plan left set (reading_of comes)
    by true whole =
        let on = run_begins script profile anchor sets past plan left set is_plan parts comes lifted unknown whole in
        record { verdict = inl on.verdict; known = inr on.running; held = on.held; runs = λ why. on }
    by false normal =
        let still = unknown_on profile anchor past comes lifted unknown normal in
        record {
          verdict = inr (waits_with profile anchor past comes unknown lifted normal);
          known = inl still;
          held = λ epoch found. absurd (none_known_of profile anchor (reading_of comes ∷ past) still epoch found);
          runs = runs;
        }
      where
        runs : IsRunning script profile anchor past plan ⊎ (is_entry_state set.state ≡ true)
            → RunsOn script profile anchor sets past plan left set (reading_of comes)
        runs (inl running) = runs_on script profile anchor sets past plan left set is_plan parts comes lifted running
        runs (inr whole) = absurd (cc)

-- ---- times

-- the greatest lifted time is that of an earlier set, or there is none yet
abbrev pub LastBy : ℕ → ℕ → List (Delivery Reading) → List PlannedSet → Type 0
LastBy origin anchor past left = (last_time anchor past ≡ None)
    ⊎ ((m : ℕ) × (last_time anchor past ≡ Some m) × IsTick origin m
    × AllByRecursion (λ time. m < time) (pts_of left))

pub record Ahead (anchor : ℕ) (past : List (Delivery Reading)) (time : ℕ) : Type 0 where
  pub last : Option ℕ
  pub is_last : last_time anchor past ≡ last
  pub ahead : IsAheadOf anchor last time

pub ahead_by : (origin anchor : ℕ) (past : List (Delivery Reading)) (set : PlannedSet) (left : List PlannedSet)
    → LastBy origin anchor past (set ∷ left) → IsTick origin set.pts
    → (last_time anchor past ≡ None → IsAheadOf anchor None set.pts) → Ahead anchor past set.pts
ahead_by origin anchor past set left (inl none) within suits =
    record { last = None; is_last = none; ahead = suits none }
ahead_by origin anchor past set left (inr some) within suits =
    let late = some.2.late in
    let early = within.early in
    record { last = Some some.0; is_last = some.1; ahead = (some.3.0, omega arith) }

pub last_passed : (origin anchor : ℕ) (past now : List (Delivery Reading)) (set : PlannedSet)
    (left : List PlannedSet) → last_time anchor now ≡ last_time anchor past
    → LastBy origin anchor past (set ∷ left) → LastBy origin anchor now left
last_passed origin anchor past now set left same (inl none) = inl (same ∙ none)
last_passed origin anchor past now set left same (inr some) = inr (some.0, same ∙ some.1, some.2, some.3.1)

-- ---- what is known behind losses

pub known_pushed : (script : Script) (profile : Profile) (anchor n : ℕ) (kind next : Kind)
    (past now : List (Delivery Reading)) (plan more : List PlannedSet)
    → KnownBy script profile anchor kind past plan → Steps (missed_from kind) n next
    → (n ≡ 0 → now ≡ past) → (1 ≤ n → IsUnknown profile anchor now)
    → KnownBy script profile anchor next now more
known_pushed script profile anchor n Fresh Fresh past now plan more known steps none some =
    ap (known_epoch profile anchor) (none steps) ∙ known
known_pushed script profile anchor zero Fresh Joined past now plan more known steps none some =
    inl (ap (known_epoch profile anchor) (none refl) ∙ known)
known_pushed script profile anchor (suc n) Fresh Joined past now plan more known steps none some =
    inl (some (omega arith))
known_pushed script profile anchor n kind Apart past now plan more known steps none some = tt
known_pushed script profile anchor n Joined Fresh past now plan more known steps none some = absurd steps
known_pushed script profile anchor n Joined Joined past now plan more known steps none some = inl (some steps)
known_pushed script profile anchor n Apart Fresh past now plan more known steps none some = absurd steps
known_pushed script profile anchor n Apart Joined past now plan more known steps none some = inl (some steps)

pub known_before : (script : Script) (profile : Profile) (anchor : ℕ) (kind : Kind)
    (past now : List (Delivery Reading)) (plan : List PlannedSet) → KnownBy script profile anchor kind past plan
    → (count_before kind ≡ 0 → now ≡ past) → (1 ≤ count_before kind → IsUnknown profile anchor now)
    → IsUnknown profile anchor now ⊎ IsRunning script profile anchor now plan
known_before script profile anchor Fresh past now plan known none some =
    inl (ap (known_epoch profile anchor) (none refl) ∙ known)
known_before script profile anchor Joined past now plan known none some =
    subst (λ (all : List (Delivery Reading)). IsUnknown profile anchor all
    ⊎ IsRunning script profile anchor all plan) (sym (none refl)) known
known_before script profile anchor Apart past now plan known none some = inl (some (omega arith))
