-- What a receiver shows while the sets of a plan come to it, one after another without a hole: nothing until one comes
-- that is not normal, and from its time on what is authored.
use Rattle.std.proofs.Common.{◌≡◌, ◌∙◌, ℕ, ◌+◌, ◌<◌, ◌≤◌, ◌⊎◌, inl, inr, Bool, true, false, ◌&&◌, cond, List, [], ◌∷◌, ◌++◌, map, reverse, Option, Some, None, refl, sym, ap, subst, arith, append_assoc}
use Rattle.std.specs.List.{AllZip, AllByRecursion}
use Rattle.std.proofs.lemmas.Bool.{cases_lt}
use Rattle.std.proofs.lemmas.List.{reverse-append}
use Rattle.sub_base.specs.declared.profile.Profile.{Profile}
use Rattle.cue_list.specs.declared.script.Script.{Script}
use Rattle.page_epoch.specs.Plan.{IsPlan}
use Rattle.page_epoch.specs.declared.planned_set.PlannedSet.{PlannedSet}
use Rattle.schedule.specs.Slots.{Timetable}
use Rattle.decoder_model.specs.Kept.{lifted_time, last_time}
use Rattle.decoder_model.specs.Readings.{Content, Reading, AreDeliveriesRead}
use Rattle.decoder_model.specs.Sets.{Delivery}
use Rattle.decoder_model.specs.Shown.{View, IsClear, Agrees, view_at}
use Rattle.decoder_model.specs.Streams.{SentSet, is_from, entry_set, IsShownFrom}
use Rattle.decoder_model.specs.Verdict.{verdict_of, sets_since, known_epoch}
use Rattle.decoder_model.specs.declared.set_end.SetEnd.TheVariants.{Shown, Waiting}
use Rattle.shown_plan.proofs.Steps.Fair.{fair}
use Rattle.shown_plan.proofs.Pictures.Runs.{IsRun, begins, goes_on, RunKeeps, run_keeps}
use Rattle.shown_stream.specs.KeptSets.{IsFromEntry, IsKept}
use Rattle.shown_stream.specs.SentSets.{sent_set, sent_from}
use Rattle.shown_stream.specs.Shows.{authored_view}
use Rattle.received_level_laws.specs.StreamCalls.{set_call}
use Rattle.shown_stream.proofs.Shown.ComingSets.{SetComes, reading_of, is_read, turned_more}
use Rattle.shown_stream.proofs.Shown.HeldSets.{HoldsEach, holds_next, kept_holds}
use Rattle.shown_stream.proofs.Shown.RunViews.{IsBefore, run_shows}
use Rattle.shown_stream.proofs.Shown.SetPaintings.{calls_behind, IsPaintedAs, painted_as}
use Rattle.shown_stream.proofs.Shown.ShownSets.{AreAheadOf, kept_at, last_is, IsIdle, still_idle, waits_with, IsShownSet, shown_set}
use Rattle.stream_syntax.specs.Segments.{is_entry_state}
use Rattle.sent_sets.proofs.SetEnds.{delivered}
use Rattle.sent_sets.proofs.Units.{TimedSet}

-- ---- lists turned

-- these, in order, on top of what stands there, the latest first
abbrev pub turned : {X : Type 0} → List X → List X → List X
turned [] there = there
turned (x ∷ xs) there = turned xs (x ∷ there)

pub turned_is : {X : Type 0} (xs there : List X) → turned xs there ≡ reverse xs ++ there
turned_is [] there = refl
turned_is (x ∷ xs) there =
    turned_is xs (x ∷ there)
    ∙ sym (ap (λ front. front ++ there) (reverse-append (x ∷ []) xs)
    ∙ append_assoc (reverse xs) (x ∷ []) there)

-- ---- the set that came last

-- it is kept at its own time, is not broken, and is painted as the plan says
pub record IsOnTop (script : Script) (profile : Profile) (anchor : ℕ) (entry : Option SentSet)
    (past : List (Delivery Reading)) (set : PlannedSet) : Type 0 where
  pub delivery : Delivery Reading
  pub before : List (Delivery Reading)
  pub placed : past ≡ delivery ∷ before
  pub lifted : lifted_time anchor before delivery ≡ Some set.pts
  pub shown : IsFromEntry entry set.pts → verdict_of profile anchor before delivery ≡ Some Shown
  pub kept : (verdict_of profile anchor before delivery ≡ Some Shown)
      ⊎ (verdict_of profile anchor before delivery ≡ Some Waiting)
  pub painted : IsPaintedAs script set (set_call profile anchor before delivery)

-- ---- behind a set that is not normal

-- a receiver behind a run of sets of the plan that began with an entry set
pub record IsEntered (script : Script) (profile : Profile) (anchor : ℕ) (sets : List PlannedSet)
    (past : List (Delivery Reading)) (plan left : List PlannedSet) (set : PlannedSet) (entry : SentSet) : Type 0 where
  pub latest : List Content
  pub older : List (List Content)
  pub are : sets_since profile anchor past ≡ latest ∷ older
  pub run : IsRun script (set ∷ plan) (latest ∷ older)
  pub last : last_time anchor past ≡ Some set.pts
  pub come : entry.time ≤ set.pts
  pub shows : (tick : ℕ) → IsBefore tick left
      → IsShownFrom (Some entry) tick (view_at profile anchor tick past) (authored_view script tick)
  pub holds : HoldsEach script profile anchor sets past
  pub top : IsOnTop script profile anchor (Some entry) past set

-- what is received in the end, behind what was received before these sets came, and what is shown of it
pub record IsReceivedSo (script : Script) (profile : Profile) (anchor : ℕ) (sets : List PlannedSet)
    (first : List (Delivery Reading)) (left : List PlannedSet) (deliveries : List (Delivery (List ℕ)))
    (entry : Option SentSet) : Type 0 where
  pub past : List (Delivery Reading)
  pub read : AreDeliveriesRead deliveries past
  pub shows : (tick : ℕ) → IsShownFrom entry tick (view_at profile anchor tick past) (authored_view script tick)
  pub holds : HoldsEach script profile anchor sets past
  pub more : List (Delivery Reading)
  pub over : past ≡ more ++ first
  pub kept : AllByRecursion (IsKept profile anchor (IsFromEntry entry) past) left
  pub painted : AllZip (IsPaintedAs script) left (calls_behind profile anchor first (reverse more))

on_top : (script : Script) (profile : Profile) (anchor : ℕ) (entry : Option SentSet) (past : List (Delivery Reading))
    (one : Delivery Reading) (set : PlannedSet) → IsOnTop script profile anchor entry (one ∷ past) set
    → IsPaintedAs script set (set_call profile anchor past one)
on_top script profile anchor entry past one set top =
    let first : top.delivery ≡ one = (let same = top.placed in cc) in
    let rest : top.before ≡ past = (let same = top.placed in cc) in
    subst (λ (delivery : Delivery Reading). IsPaintedAs script set (set_call profile anchor past delivery)) first
    (subst (λ (before : List (Delivery Reading)). IsPaintedAs script set (set_call profile anchor before top.delivery))
    rest top.painted)

-- whom the sets of a plan come to
pub record Listening : Type 0 where
  pub script : Script
  pub profile : Profile
  pub anchor : ℕ
  pub sets : List PlannedSet
  pub is_plan : IsPlan script profile sets

abbrev pub SoReceived : (listening : Listening) (past : List (Delivery Reading)) (left : List PlannedSet)
    (deliveries : List (Delivery (List ℕ))) (entry : Option SentSet) → Type 0
SoReceived listening past left deliveries entry =
    IsReceivedSo listening.script listening.profile listening.anchor listening.sets past left deliveries entry

-- with the set that came before them
with_one : (listening : Listening) {past : List (Delivery Reading)} {one : Delivery Reading} {set : PlannedSet}
    {left : List PlannedSet} {deliveries : List (Delivery (List ℕ))} {entry : Option SentSet}
    → IsOnTop listening.script listening.profile listening.anchor entry (one ∷ past) set
    → SoReceived listening (one ∷ past) left deliveries entry → SoReceived listening past (set ∷ left) deliveries entry
with_one listening {past} {one} {set} {left} {deliveries} {entry} top rest = record {
  past = rest.past;
  read = rest.read;
  shows = rest.shows;
  holds = rest.holds;
  more = rest.more ++ one ∷ [];
  over = rest.over ∙ sym (append_assoc rest.more (one ∷ []) past);
  kept = (
    record {
      later = rest.more;
      delivery = top.delivery;
      before = top.before;
      placed = rest.over ∙ ap (λ all. rest.more ++ all) top.placed;
      lifted = top.lifted;
      shown = top.shown;
      kept = top.kept;
    },
    rest.kept,
  );
  painted =
      subst (λ (calls : List (Delivery Reading)). AllZip (IsPaintedAs listening.script) (set ∷ left)
      (calls_behind listening.profile listening.anchor past calls)) (sym (reverse-append rest.more (one ∷ [])))
      (on_top listening.script listening.profile listening.anchor entry past one set top, rest.painted);
}

-- a set comes behind another one of the plan
record Comes (listening : Listening) (past : List (Delivery Reading)) (last : Option ℕ) (plan left : List PlannedSet)
    (set : PlannedSet) (sent : TimedSet) : Type 0 where
  before : last_time listening.anchor past ≡ last
  parts : listening.sets ≡ reverse plan ++ (set ∷ left)
  ahead : AreAheadOf listening.anchor last (set ∷ left)
  come : SetComes listening.script set sent

-- one set more
next_entered : (listening : Listening) (past : List (Delivery Reading)) (plan left : List PlannedSet)
    (before set : PlannedSet) {sent : TimedSet} (entry : SentSet)
    → (here : Comes listening past (Some before.pts) (before ∷ plan) left set sent)
    → IsEntered listening.script listening.profile listening.anchor listening.sets past plan (set ∷ left) before entry
    → IsEntered listening.script listening.profile listening.anchor listening.sets (reading_of here.come ∷ past)
    (before ∷ plan) left set entry
next_entered listening past plan left before set entry here entered = record {
  latest = here.come.contents;
  older = entered.latest ∷ entered.older;
  are = shown.sets ∙ ap (λ known. here.come.contents ∷ known) entered.are;
  run = run;
  last = last_is listening.anchor past here.come lifted;
  come = let rise = here.ahead.0.0 in let come = entered.come in omega arith;
  shows = shows;
  holds =
      holds_next listening.script listening.profile listening.anchor listening.sets (λ number set. Unit {0}) past
      (before ∷ plan) left set (reading_of here.come)
      listening.is_plan here.parts lifted
      (λ come. kept_holds listening.profile listening.anchor past (before ∷ plan) set here.come.contents
      (reading_of here.come) kept shown)
      entered.holds;
  top =
      record {
        delivery = reading_of here.come;
        before = past;
        placed = refl;
        lifted = lifted;
        shown = λ from. shown.verdict;
        kept = inl shown.verdict;
        painted = painted_as listening.script listening.profile listening.anchor past here.come
            lifted (inl shown.verdict);
      };
}
  where
    lifted : lifted_time listening.anchor past (reading_of here.come) ≡ Some set.pts
    lifted = kept_at listening.anchor (Some before.pts) past here.come entered.last here.ahead.0 here.ahead.1

    run : IsRun listening.script (set ∷ before ∷ plan) (here.come.contents ∷ entered.latest ∷ entered.older)
    run = goes_on here.come.epoch here.come.found entered.run here.come.is

    whole : listening.sets ≡ reverse (set ∷ before ∷ plan) ++ left
    whole = here.parts ∙ sym (turned_more (before ∷ plan) left set)

    kept : RunKeeps listening.script listening.profile (before ∷ plan) set here.come.contents
        (sets_since listening.profile listening.anchor past)
    kept = subst (RunKeeps listening.script listening.profile (before ∷ plan) set here.come.contents) (sym entered.are)
        (run_keeps listening.script listening.profile listening.sets (fair listening.script) listening.is_plan
        (set ∷ before ∷ plan)
        (here.come.contents ∷ entered.latest ∷ entered.older) run left whole)

    shown : IsShownSet listening.script listening.profile listening.anchor past (before ∷ plan) set here.come.contents
        (reading_of here.come) kept
    shown = shown_set listening.profile listening.anchor past (before ∷ plan) here.come kept lifted

    shows : (tick : ℕ) → IsBefore tick left
        → IsShownFrom (Some entry) tick (view_at listening.profile listening.anchor tick (reading_of here.come ∷ past))
        (authored_view listening.script tick)
    shows tick early = by (cases_lt tick set.pts)
      where
        by : (tick < set.pts) ⊎ (set.pts ≤ tick)
            → IsShownFrom (Some entry) tick
            (view_at listening.profile listening.anchor tick (reading_of here.come ∷ past))
            (authored_view listening.script tick)
        by (inl sooner) =
            subst (λ (view : View). IsShownFrom (Some entry) tick view (authored_view listening.script tick))
            (sym (shown.before tick sooner)) (entered.shows tick sooner)
        by (inr later) = (
          λ soon. absurd (let rise = here.ahead.0.0 in let come = entered.come in omega arith),
          λ from. subst (λ (view : View). Agrees view (authored_view listening.script tick))
              (sym (shown.from tick later))
              (run_shows listening.script listening.profile listening.sets (before ∷ plan) left set here.come.contents
              (sets_since listening.profile listening.anchor past)
              listening.is_plan whole kept tick later early),
        )

-- what came, and how it reads
pub record Came : Type 0 where
  pub taken : List (Delivery (List ℕ))
  pub past : List (Delivery Reading)
  pub read : AreDeliveriesRead taken past

abbrev with_set : (script : Script) (came : Came) (set : PlannedSet) (sent : TimedSet) → SetComes script set sent → Came
with_set script came set sent come = record {
  taken = delivered sent ∷ came.taken;
  past = reading_of come ∷ came.past;
  read = (is_read come, came.read);
}

-- the sets of the plan that are left come as they were sent, behind one at that time
pub record AreLeftOf (listening : Listening) (last : Option ℕ) (plan left : List PlannedSet) (sent : List TimedSet)
    : Type 0 where
  pub parts : listening.sets ≡ reverse plan ++ left
  pub ahead : AreAheadOf listening.anchor last left
  pub come : AllZip (SetComes listening.script) left sent

abbrev comes_here : (listening : Listening) (past : List (Delivery Reading)) (last : Option ℕ)
    (plan left : List PlannedSet) (set : PlannedSet) (one : TimedSet) (sent : List TimedSet)
    → last_time listening.anchor past ≡ last → AreLeftOf listening last plan (set ∷ left) (one ∷ sent)
    → Comes listening past last plan left set one
comes_here listening past last plan left set one sent before are = record {
  before = before;
  parts = are.parts;
  ahead = are.ahead;
  come = are.come.0;
}

left_behind : (listening : Listening) (last : Option ℕ) (plan left : List PlannedSet) (set : PlannedSet)
    (one : TimedSet) (sent : List TimedSet) → AreLeftOf listening last plan (set ∷ left) (one ∷ sent)
    → AreLeftOf listening (Some set.pts) (set ∷ plan) left sent
left_behind listening last plan left set one sent are = record {
  parts = are.parts ∙ sym (turned_more plan left set);
  ahead = are.ahead.2;
  come = are.come.1;
}

-- all that are left
pub go_on : (listening : Listening) (came : Came) (plan left : List PlannedSet) (sent : List TimedSet)
    (before : PlannedSet) (entry : SentSet)
    → AreLeftOf listening (Some before.pts) (before ∷ plan) left sent
    → IsEntered listening.script listening.profile listening.anchor listening.sets came.past plan left before entry
    → SoReceived listening came.past left (turned (map delivered sent) came.taken) (Some entry)
go_on listening came plan [] [] before entry are entered =
    record {
      past = came.past;
      read = came.read;
      shows = λ tick. entered.shows tick tt;
      holds = entered.holds;
      more = [];
      over = refl;
      kept = tt;
      painted = tt;
    }
go_on listening came plan [] (one ∷ sent) before entry are entered = absurd are.come
go_on listening came plan (set ∷ left) [] before entry are entered = absurd are.come
go_on listening came plan (set ∷ left) (one ∷ sent) before entry are entered =
    let here = comes_here listening came.past (Some before.pts) (before ∷ plan) left set one sent entered.last are in
    let next = next_entered listening came.past plan left before set entry here entered in
    with_one listening next.top
    (go_on listening (with_set listening.script came set one are.come.0) (before ∷ plan) left sent set entry
    (left_behind listening (Some before.pts) (before ∷ plan) left set one sent are) next)

-- ---- until such a set comes

-- no epoch is known yet, and each set is held as it is said
pub record Waits (listening : Listening) (past : List (Delivery Reading)) : Type 0 where
  pub idle : IsIdle listening.profile listening.anchor past
  pub holds : HoldsEach listening.script listening.profile listening.anchor listening.sets past

-- the first one that is not normal
first_entered : (listening : Listening) (past : List (Delivery Reading)) {last : Option ℕ}
    (plan left : List PlannedSet) (set : PlannedSet) {sent : TimedSet} (entry : SentSet)
    → (here : Comes listening past last plan left set sent)
    → Waits listening past → is_entry_state set.state ≡ true → entry.time ≡ set.pts
    → IsEntered listening.script listening.profile listening.anchor listening.sets (reading_of here.come ∷ past) plan
    left set entry
first_entered listening past {last} plan left set entry here wait whole_state time = record {
  latest = here.come.contents;
  older = sets_since listening.profile listening.anchor past;
  are = shown.sets;
  run = run;
  last = last_is listening.anchor past here.come lifted;
  come = omega (arith, time);
  shows = shows;
  holds =
      holds_next listening.script listening.profile listening.anchor listening.sets (λ number set. Unit {0}) past plan
      left set (reading_of here.come) listening.is_plan
      here.parts lifted (λ come. kept_holds listening.profile listening.anchor past plan set here.come.contents
      (reading_of here.come) kept shown)
      wait.holds;
  top =
      record {
        delivery = reading_of here.come;
        before = past;
        placed = refl;
        lifted = lifted;
        shown = λ from. shown.verdict;
        kept = inl shown.verdict;
        painted = painted_as listening.script listening.profile listening.anchor past here.come
            lifted (inl shown.verdict);
      };
}
  where
    lifted : lifted_time listening.anchor past (reading_of here.come) ≡ Some set.pts
    lifted = kept_at listening.anchor last past here.come here.before here.ahead.0 here.ahead.1

    run : IsRun listening.script (set ∷ plan) (here.come.contents ∷ sets_since listening.profile listening.anchor past)
    run = begins here.come.epoch here.come.found whole_state (inr wait.idle.unknown) here.come.is

    whole : listening.sets ≡ reverse (set ∷ plan) ++ left
    whole = here.parts ∙ sym (turned_more plan left set)

    kept : RunKeeps listening.script listening.profile plan set here.come.contents
        (sets_since listening.profile listening.anchor past)
    kept =
        run_keeps listening.script listening.profile listening.sets (fair listening.script) listening.is_plan
        (set ∷ plan)
        (here.come.contents ∷ sets_since listening.profile listening.anchor past) run left whole

    shown : IsShownSet listening.script listening.profile listening.anchor past plan set here.come.contents
        (reading_of here.come) kept
    shown = shown_set listening.profile listening.anchor past plan here.come kept lifted

    shows : (tick : ℕ) → IsBefore tick left
        → IsShownFrom (Some entry) tick (view_at listening.profile listening.anchor tick (reading_of here.come ∷ past))
        (authored_view listening.script tick)
    shows tick early = (
      λ soon. (let sooner : tick
          < set.pts = omega (arith, soon, time) in subst IsClear (sym (shown.before tick sooner))
          (wait.idle.clear tick)),
      λ from. (let later : set.pts ≤ tick = omega (arith, from, time) in
          subst (λ (view : View). Agrees view (authored_view listening.script tick)) (sym (shown.from tick later))
          (run_shows listening.script listening.profile listening.sets plan left set here.come.contents
          (sets_since listening.profile listening.anchor past) listening.is_plan whole
          kept tick later early)),
    )

-- where no epoch is known none is
pub none_with : {profile : Profile} {anchor : ℕ} {past : List (Delivery Reading)} → IsIdle profile anchor past
    → (known : List (List Content)) → known_epoch profile anchor past ≡ Some known → ⊥
none_with idle known found = let unknown = idle.unknown in cc

-- the packets of all of these sets come
abbrev pub AreFrom : ℕ → Timetable → ℕ → List PlannedSet → Type 0
AreFrom missed table number [] = Unit {0}
AreFrom missed table number (set ∷ sets) =
    (is_from missed (sent_set table number set) ≡ true) × AreFrom missed table (number + 1) sets

-- an entry set among sets that are later is later
entry_later : (missed : ℕ) (table : Timetable) (number anchor time : ℕ) (left : List PlannedSet)
    → AreAheadOf anchor (Some time) left → IsFromEntry (entry_set missed (sent_from table number left)) time → ⊥
entry_later missed table number anchor time [] ahead from = from
entry_later missed table number anchor time (set ∷ left) ahead from =
    by (is_entry_state set.state && is_from missed (sent_set table number set)) from
    (λ later. entry_later missed table (number + 1) anchor set.pts left ahead.2
    (from_later (entry_set missed (sent_from table (number + 1) left)) later))
  where
    from_later : (entry : Option SentSet) → IsFromEntry entry time → IsFromEntry entry set.pts
    from_later None at = at
    from_later (Some entry) at = let rise = ahead.0.0 in omega (arith, at, rise)

    by : (b : Bool)
        → IsFromEntry
        (cond b (Some (sent_set table number set)) (entry_set missed (sent_from table (number + 1) left))) time
        → (IsFromEntry (entry_set missed (sent_from table (number + 1) left)) time → ⊥) → ⊥
    by true at again = let rise = ahead.0.0 in let no : set.pts ≤ time = at in absurd (omega (arith, rise, no))
    by false at again = again at

-- the sets of a plan that are left, where no epoch is known
pub wait_for : (listening : Listening) (missed : ℕ) (table : Timetable) (number : ℕ) (came : Came) (last : Option ℕ)
    (plan left : List PlannedSet) (sent : List TimedSet) → last_time listening.anchor came.past ≡ last
    → AreLeftOf listening last plan left sent → AreFrom missed table number left → Waits listening came.past
    → SoReceived listening came.past left (turned (map delivered sent) came.taken)
    (entry_set missed (sent_from table number left))
wait_for listening missed table number came last plan [] [] before are from wait = record {
  past = came.past;
  read = came.read;
  shows = λ tick. wait.idle.clear tick;
  holds = wait.holds;
  more = [];
  over = refl;
  kept = tt;
  painted = tt;
}
wait_for listening missed table number came last plan [] (one ∷ sent) before are from wait = absurd are.come
wait_for listening missed table number came last plan (set ∷ left) [] before are from wait = absurd are.come
wait_for listening missed table number came last plan (set ∷ left) (one ∷ sent) before are from wait =
    by (is_entry_state set.state) refl
    (λ normal. with_one listening (waiting normal)
    (wait_for listening missed table (number + 1) (with_set listening.script came set one come) (Some set.pts)
    (set ∷ plan) left sent (last_is anchor past come lifted)
    (left_behind listening last plan left set one sent are) from.1
    (record {
      idle = still_idle profile anchor past come wait.idle lifted normal;
      holds =
          holds_next listening.script profile anchor listening.sets (λ number set. Unit {0}) past plan left set
          (reading_of come) listening.is_plan are.parts lifted
          (λ own known found.
          absurd (none_with (still_idle profile anchor past come wait.idle lifted normal) known found)) wait.holds;
    })))
  where
    profile : Profile
    profile = listening.profile

    anchor : ℕ
    anchor = listening.anchor

    past : List (Delivery Reading)
    past = came.past

    come : SetComes listening.script set one
    come = are.come.0

    lifted : lifted_time anchor past (reading_of come) ≡ Some set.pts
    lifted = kept_at anchor last past come before are.ahead.0 are.ahead.1

    Behind : Option SentSet → Type 0
    Behind entry =
        SoReceived listening past (set ∷ left) (turned (map delivered sent) (delivered one ∷ came.taken)) entry

    waiting : is_entry_state set.state ≡ false
        → IsOnTop listening.script profile anchor (entry_set missed (sent_from table (number + 1) left))
        (reading_of come ∷ past) set
    waiting normal =
        let waits = waits_with profile anchor past come wait.idle.unknown lifted normal in
        record {
          delivery = reading_of come;
          before = past;
          placed = refl;
          lifted = lifted;
          shown = λ from. absurd
              (entry_later missed table (number + 1) anchor set.pts left are.ahead.2 from);
          kept = inr waits;
          painted = painted_as listening.script profile anchor past come lifted (inr waits);
        }

    by : (state : Bool) → is_entry_state set.state ≡ state
        → (is_entry_state set.state ≡ false → Behind (entry_set missed (sent_from table (number + 1) left)))
        → Behind (entry_set missed (sent_from table number (set ∷ left)))
    by false is behind =
        let entry : entry_set missed (sent_from table number (set ∷ left))
        ≡ entry_set missed (sent_from table (number + 1) left) =
        ap (λ b. cond (b && is_from missed (sent_set table number set)) (Some (sent_set table number set))
        (entry_set missed (sent_from table (number + 1) left))) is in
        subst Behind (sym entry) (behind is)
    by true is behind =
        let entry : entry_set missed (sent_from table number (set ∷ left)) ≡ Some (sent_set table number set) =
        ap (λ b. cond (b && is_from missed (sent_set table number set)) (Some (sent_set table number set))
        (entry_set missed (sent_from table (number + 1) left))) is
        ∙ ap (λ b. cond b (Some (sent_set table number set)) (entry_set missed (sent_from table (number + 1) left)))
        from.0 in
        subst Behind (sym entry)
        (let first = first_entered listening past plan left set (sent_set table number set)
        (comes_here listening past last plan left set one sent before are) wait is refl in
        with_one listening first.top
        (go_on listening (with_set listening.script came set one come) plan left sent set (sent_set table number set)
        (left_behind listening last plan left set one sent are) first))
