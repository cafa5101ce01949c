-- All sets of a plan of which some packets are lost, as a receiver gets them: at a good tick it shows what is authored.
use Rattle.std.proofs.Common.{◌≡◌, ◌∙◌, ℕ, ◌<◌, ◌≤◌, ◌⊎◌, inl, inr, Bool, true, false, ◌&&◌, ◌||◌, cond, List, [], ◌∷◌, ◌++◌, length, drop, reverse, refl, sym, ap, subst, arith, append-nil}
use Rattle.std.specs.Prelude.{nat_le}
use Rattle.std.specs.List.{AllByRecursion}
use Rattle.std.proofs.lemmas.Bool.{cases_lt}
use Rattle.std.proofs.lemmas.Bool.Decides.{nat_tests}
use Rattle.std.proofs.lemmas.List.{reverse-reverse}
use Rattle.sub_base.specs.declared.profile.Profile.{Profile}
use Rattle.cue_list.specs.declared.script.Script.{Script}
use Rattle.page_epoch.specs.Plan.{IsPlan}
use Rattle.page_epoch.specs.declared.planned_set.PlannedSet.{PlannedSet}
use Rattle.decoder_model.specs.Frames.{only}
use Rattle.decoder_model.specs.Arrivals.{Arrival}
use Rattle.decoder_model.specs.Readings.{Reading, AreDeliveriesRead}
use Rattle.decoder_model.specs.Sets.{Delivery, runs_of, sets_in}
use Rattle.decoder_model.specs.Shown.{View, Agrees, view_at}
use Rattle.shown_stream.specs.HoldsWhole.{HoldsWhole}
use Rattle.shown_stream.specs.Shows.{authored_view}
use Rattle.shown_stream.proofs.Shown.EnteredRuns.{turned}
use Rattle.shown_stream.proofs.Lost.LostKept.{AreKept}
use Rattle.shown_stream.proofs.Lost.LostRuns.{IsRunning}
use Rattle.shown_stream.proofs.Lost.LostStretches.{all_come, Bound}
use Rattle.shown_stream.proofs.Lost.LostKinds.{Kind, Joined, Arrive, none_arrive}
use Rattle.shown_stream.proofs.Lost.LostWalk.{Before, IsFit, After, after, turned-both}
use Rattle.shown_stream.proofs.Sent.PlannedTimes.{pts_of}
use Rattle.shown_stream.proofs.Shown.RunViews.{IsBefore}
use Rattle.stream_syntax.specs.Segments.{is_entry_state}
use Rattle.sent_sets.proofs.Units.{TimedSet}

-- from some set on, that is not normal, all sets up to a tick come whole: so far they do or do not
abbrev pub GoodFrom : ℕ → Bool → List PlannedSet → List TimedSet → List Bool → Type 0
GoodFrom tick streak [] sent come = streak ≡ true
GoodFrom tick streak (set ∷ left) [] come = ⊥
GoodFrom tick streak (set ∷ left) (one ∷ sent) come =
    cond (nat_le set.pts tick)
    (GoodFrom tick (all_come (length one.units) come && (streak || is_entry_state set.state)) left sent
    (drop (length one.units) come)) (streak ≡ true)

module _ (script : Script) (profile : Profile) (anchor origin page : ℕ) (sets : List PlannedSet)
    (ComesWhole : ℕ → PlannedSet → Type 0) where
  -- what is used of the sets that are left
  abbrev pub AreFit : List PlannedSet → List PlannedSet → List TimedSet → List Bool → Type 0
  AreFit plan [] [] come = Unit {0}
  AreFit plan [] (one ∷ sent) come = ⊥
  AreFit plan (set ∷ left) [] come = ⊥
  AreFit plan (set ∷ left) (one ∷ sent) come =
      IsFit script profile anchor origin page sets ComesWhole plan left set one sent come
      × AreFit (set ∷ plan) left sent (drop (length one.units) come)

  -- what is received in the end
  pub record Ends (deliveries taken : List (Delivery (List ℕ)))
      (IsSeen : List (Delivery Reading) → Type 0) : Type 0 where
    pub past : List (Delivery Reading)
    pub read : AreDeliveriesRead (turned deliveries taken) past
    pub holds : HoldsWhole script profile anchor sets ComesWhole past
    pub kept : AreKept profile anchor ComesWhole past (reverse sets)
    pub seen : IsSeen past

  abbrev pub StandsBefore : Kind → List (Delivery (List ℕ)) → List (Delivery Reading) → List PlannedSet
      → List PlannedSet → List TimedSet → List Bool → List (Delivery (List ℕ)) → Type 0
  StandsBefore = Before script profile anchor origin page sets ComesWhole

  kept_in_the_end : (past : List (Delivery Reading)) (plan : List PlannedSet) → sets ≡ reverse plan ++ []
      → AreKept profile anchor ComesWhole past plan → AreKept profile anchor ComesWhole past (reverse sets)
  kept_in_the_end past plan parts kept =
      subst (AreKept profile anchor ComesWhole past)
      (sym (ap reverse (parts ∙ append-nil (reverse plan)) ∙ reverse-reverse plan)) kept

  nothing_left : (kind : Kind) (come : List Bool) (deliveries : List (Delivery (List ℕ)))
      → Bound profile.coded (only page) kind [] come deliveries → deliveries ≡ []
  nothing_left kind come deliveries bound = bound.are ∙ by bound.arrive
    where
      by : {come : List Bool} {arrivals : List Arrival} → Arrive kind [] come arrivals
          → sets_in profile.coded true (runs_of arrivals) ≡ []
      by (none_arrive) = refl

  all_read : (front rest deliveries taken : List (Delivery (List ℕ))) (past : List (Delivery Reading))
      → deliveries ≡ front ++ rest → AreDeliveriesRead (turned rest (turned front taken)) past
      → AreDeliveriesRead (turned deliveries taken) past
  all_read front rest deliveries taken past are read =
      subst (λ (all : List (Delivery (List ℕ))). AreDeliveriesRead all past)
      (sym (ap (λ all. turned all taken) are
      ∙ turned-both script profile anchor origin page sets ComesWhole front rest taken)) read

  -- sets behind a tick change nothing that is shown at it
  rest_ends : (tick : ℕ) (kind : Kind) (taken : List (Delivery (List ℕ))) (past : List (Delivery Reading))
      (plan left : List PlannedSet) (sent : List TimedSet) (come : List Bool)
      (deliveries : List (Delivery (List ℕ))) → IsPlan script profile sets
      → StandsBefore kind taken past plan left sent come deliveries → AreFit plan left sent come
      → AllByRecursion (λ time. tick < time) (pts_of left)
      → Ends deliveries taken (λ final. view_at profile anchor tick final ≡ view_at profile anchor tick past)
  rest_ends tick kind taken past plan [] [] come deliveries is_plan stands fit later =
      record {
        past = past;
        read = subst
            (λ (all : List (Delivery (List ℕ))). AreDeliveriesRead (turned all taken) past)
            (sym (nothing_left kind come deliveries stands.bound)) stands.read;
        holds = stands.holds;
        kept = kept_in_the_end past plan stands.parts stands.kept;
        seen = refl;
      }
  rest_ends tick kind taken past plan [] (one ∷ sent) come deliveries is_plan stands fit later = absurd fit
  rest_ends tick kind taken past plan (set ∷ left) [] come deliveries is_plan stands fit later = absurd fit
  rest_ends tick kind taken past plan (set ∷ left) (one ∷ sent) come deliveries is_plan stands fit later =
      let on =
      after script profile anchor origin page sets ComesWhole kind taken past plan left set one sent come deliveries
      is_plan stands fit.0 in
      let more =
      rest_ends tick on.next (turned on.front taken) on.now (set ∷ plan) left sent (drop (length one.units) come)
      on.rest is_plan on.stands fit.1 later.1 in
      record {
        past = more.past;
        read = all_read on.front on.rest deliveries taken more.past on.are more.read;
        holds = more.holds;
        kept = more.kept;
        seen = more.seen ∙ on.view tick later.0;
      }

  -- all sets from one on are later
  from_later : (tick time : ℕ) (left : List PlannedSet) → tick < time
      → AllByRecursion (λ later. time < later) (pts_of left)
      → AllByRecursion (λ later. tick < later) (pts_of left)
  from_later tick time [] early above = tt
  from_later tick time (set ∷ left) early above =
      let here = above.0 in (omega arith, from_later tick time left early above.1)

  both : (a b c : Bool) → (a && (b || c)) ≡ true → (a ≡ true) × ((b ≡ true) ⊎ (c ≡ true))
  both true true c e = (refl, inl refl)
  both true false true e = (refl, inr refl)
  both true false false e = absurd (cc)
  both false b c e = absurd (cc)

  -- where all sets have come whole from one on that is not normal, the receiver is in a run, and shows what is authored
  -- until the next set
  abbrev pub IsStreak : ℕ → Bool → Kind → List (Delivery Reading) → List PlannedSet → List PlannedSet
      → Type 0
  IsStreak tick streak kind past plan left =
      streak ≡ true → (kind ≡ Joined) × IsRunning script profile anchor past plan
      × (IsBefore tick left → Agrees (view_at profile anchor tick past) (authored_view script tick))

  pub good_ends : (tick : ℕ) (streak : Bool) (kind : Kind) (taken : List (Delivery (List ℕ)))
      (past : List (Delivery Reading)) (plan left : List PlannedSet) (sent : List TimedSet) (come : List Bool)
      (deliveries : List (Delivery (List ℕ))) → IsPlan script profile sets
      → StandsBefore kind taken past plan left sent come deliveries → AreFit plan left sent come
      → IsStreak tick streak kind past plan left
      → Ends deliveries taken
      (λ final. GoodFrom tick streak left sent come
      → Agrees (view_at profile anchor tick final) (authored_view script tick))
  good_ends tick streak kind taken past plan [] [] come deliveries is_plan stands fit on_streak =
      record {
        past = past;
        read = subst
            (λ (all : List (Delivery (List ℕ))). AreDeliveriesRead (turned all taken) past)
            (sym (nothing_left kind come deliveries stands.bound)) stands.read;
        holds = stands.holds;
        kept = kept_in_the_end past plan stands.parts stands.kept;
        seen = λ good. (on_streak good).2 tt;
      }
  good_ends tick streak kind taken past plan [] (one ∷ sent) come deliveries is_plan stands fit on_streak = absurd fit
  good_ends tick streak kind taken past plan (set ∷ left) [] come deliveries is_plan stands fit on_streak = absurd fit
  good_ends tick streak kind taken past plan (set ∷ left) (one ∷ sent) come deliveries is_plan stands fit
      on_streak =
      by (cases_lt tick set.pts)
      (λ next front rest now behind more_streak.
      good_ends tick (all_come (length one.units) come && (streak || is_entry_state set.state)) next
      (turned front taken) now (set ∷ plan) left sent (drop (length one.units) come) rest is_plan behind fit.1
      more_streak)
    where
      New : Bool
      New = all_come (length one.units) come && (streak || is_entry_state set.state)

      Good : Bool → Type 0
      Good b =
          cond b (GoodFrom tick (all_come (length one.units) come && (streak || is_entry_state set.state)) left sent
          (drop (length one.units) come)) (streak ≡ true)

      by : (tick < set.pts) ⊎ (set.pts ≤ tick)
          → ((next : Kind) (front rest : List (Delivery (List ℕ))) (now : List (Delivery Reading))
          → StandsBefore next (turned front taken) now (set ∷ plan) left sent (drop (length one.units) come)
          rest
          → IsStreak tick (all_come (length one.units) come && (streak || is_entry_state set.state)) next now
          (set ∷ plan) left
          → Ends rest (turned front taken)
          (λ final. GoodFrom tick (all_come (length one.units) come && (streak || is_entry_state set.state)) left
          sent (drop (length one.units) come)
          → Agrees (view_at profile anchor tick final) (authored_view script tick)))
          → Ends deliveries taken
          (λ final. Good (nat_le set.pts tick)
          → Agrees (view_at profile anchor tick final) (authored_view script tick))
      by (inl early) onward =
          let test : nat_le set.pts tick ≡ false = grind (arith, nat_tests) in
          let rest =
          rest_ends tick kind taken past plan (set ∷ left) (one ∷ sent) come deliveries is_plan stands fit
          (early, from_later tick set.pts left early fit.0.above) in
          record {
            past = rest.past;
            read = rest.read;
            holds = rest.holds;
            kept = rest.kept;
            seen =
                λ good. subst (λ (view : View). Agrees view (authored_view script tick)) (sym rest.seen)
                ((on_streak (subst Good test good)).2 early);
          }
      by (inr come_now) onward =
          let test : nat_le set.pts tick ≡ true = grind (arith, nat_tests) in
          let on =
          after script profile anchor origin page sets ComesWhole kind taken past plan left set one sent come
          deliveries is_plan stands fit.0 in
          let more = onward on.next on.front on.rest on.now on.stands (streaks on) in
          record {
            past = more.past;
            read = all_read on.front on.rest deliveries taken more.past on.are more.read;
            holds = more.holds;
            kept = more.kept;
            seen = λ good. more.seen (subst Good test good);
          }
        where
          streaks : (on : After script profile anchor origin page sets ComesWhole kind taken past plan left set one sent
              come deliveries)
              → IsStreak tick (all_come (length one.units) come && (streak || is_entry_state set.state)) on.next
              on.now (set ∷ plan) left
          streaks on e =
              let parts = both (all_come (length one.units) come) streak (is_entry_state set.state) e in
              let runs = on.runs parts.0 (why parts.1) in
              (runs.0, runs.1, λ early. runs.2 tick come_now early)
            where
              why : (streak ≡ true) ⊎ (is_entry_state set.state ≡ true)
                  → ((kind ≡ Joined) × IsRunning script profile anchor past plan)
                  ⊎ (is_entry_state set.state ≡ true)
              why (inl so_far) = (let was = on_streak so_far in inl (was.0, was.1))
              why (inr whole) = inr whole
