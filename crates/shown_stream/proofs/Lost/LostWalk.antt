-- A set of the plan more of a stream of which some packets are lost, as a receiver gets it.
use Rattle.std.proofs.Common.{◌≡◌, ◌∙◌, ℕ, ◌<◌, ◌≤◌, ◌⊎◌, inl, inr, Bool, true, false, List, [], ◌∷◌, ◌++◌, length, drop, reverse, None, refl, sym, ap, subst, append-nil, append_assoc}
use Rattle.std.specs.List.{AllByRecursion}
use Rattle.sub_base.specs.declared.profile.Profile.{Profile}
use Rattle.cue_list.specs.Sound.{IsTick}
use Rattle.cue_list.specs.declared.script.Script.{Script}
use Rattle.page_epoch.specs.Plan.{IsPlan}
use Rattle.page_epoch.specs.declared.planned_set.PlannedSet.{PlannedSet}
use Rattle.decoder_model.specs.Frames.{only}
use Rattle.decoder_model.specs.Kept.{last_time}
use Rattle.decoder_model.specs.Readings.{Reading, AreDeliveriesRead}
use Rattle.decoder_model.specs.Sets.{Delivery}
use Rattle.decoder_model.specs.Shown.{Agrees, view_at}
use Rattle.decoder_model.proofs.Views.{view_before}
use Rattle.shown_stream.specs.HoldsWhole.{HoldsWhole}
use Rattle.shown_stream.specs.Shows.{authored_view}
use Rattle.shown_stream.proofs.Shown.ComingSets.{reading_of, is_read, turned_more}
use Rattle.shown_stream.proofs.Shown.EnteredRuns.{turned}
use Rattle.shown_stream.proofs.Shown.HeldSets.{holds_next}
use Rattle.shown_stream.proofs.Lost.LostKept.{HaveCome, AreKept, NoneBefore, kept_over, none_came}
use Rattle.shown_stream.proofs.Lost.LostRuns.{IsRunning, KnownBy, whole_after, none_known_of, LastBy, ahead_by, last_passed, known_pushed, known_before}
use Rattle.shown_stream.proofs.Lost.LostStretches.{losts, count_before, all_come, some_come, part_of_set, Bound, MissedOut, goes_by, stays_open}
use Rattle.shown_stream.proofs.Lost.LostSets.{SetOut, set_whole, set_missed, set_out, NothingOut, nothing_out}
use Rattle.shown_stream.proofs.Lost.LostSteps.{push_losts, SetSent, open_part, BrokenPart, later_part}
use Rattle.shown_stream.proofs.Lost.LostKinds.{Kind, Joined, Apart, missed_from}
use Rattle.shown_stream.proofs.Sent.PlannedTimes.{pts_of}
use Rattle.shown_stream.proofs.Shown.RunViews.{IsBefore}
use Rattle.shown_stream.proofs.Shown.ShownSets.{IsAheadOf, kept_at, last_is}
use Rattle.stream_syntax.specs.Segments.{is_entry_state}
use Rattle.stream_syntax.specs.declared.wire.TheConstants.{TICK_LIMIT}
use Rattle.sent_sets.proofs.Runs.{IsApart}
use Rattle.sent_sets.proofs.SetEnds.{delivered}
use Rattle.sent_sets.proofs.Units.{TimedSet, IsTimedSet}

module _ (script : Script) (profile : Profile) (anchor origin page : ℕ) (sets : List PlannedSet)
    (ComesWhole : ℕ → PlannedSet → Type 0) where
  -- where a receiver stands before a set: what it has got and kept, what is known, and what comes; where all sets have
  -- come whole from one on that is not normal, they are a run
  pub record Before (kind : Kind) (taken : List (Delivery (List ℕ))) (past : List (Delivery Reading))
      (plan left : List PlannedSet) (sent : List TimedSet) (come : List Bool)
      (deliveries : List (Delivery (List ℕ))) : Type 0 where
    pub parts : sets ≡ reverse plan ++ left
    pub bound : Bound profile.coded (only page) kind sent come deliveries
    pub read : AreDeliveriesRead taken past
    pub known : KnownBy script profile anchor kind past plan
    pub last : LastBy origin anchor past left
    pub holds : HoldsWhole script profile anchor sets ComesWhole past
    pub streak : HaveCome ComesWhole plan → (kind ≡ Joined) × IsRunning script profile anchor past plan
    pub kept : AreKept profile anchor ComesWhole past plan

  -- what is used of a set
  pub record IsFit (plan left : List PlannedSet) (set : PlannedSet) (one : TimedSet) (sent : List TimedSet)
      (come : List Bool) : Type 0 where
    pub its : SetSent script page set one
    pub timed : IsTimedSet profile.coded (only page) one
    pub any : 1 ≤ length one.units
    pub apart : IsApart one.time sent
    pub some : AllByRecursion (λ (other : TimedSet). 1 ≤ length other.units) sent
    pub within : IsTick origin set.pts
    pub above : AllByRecursion (λ time. set.pts < time) (pts_of left)
    pub low : set.pts < TICK_LIMIT
    pub suits : some_come (length one.units) come ≡ true → NoneBefore ComesWhole sets (length (reverse plan))
        → IsAheadOf anchor None set.pts
    pub told : ComesWhole (length (reverse plan)) set → all_come (length one.units) come ≡ true

  -- where it stands behind the set
  pub record After (kind : Kind) (taken : List (Delivery (List ℕ))) (past : List (Delivery Reading))
      (plan left : List PlannedSet) (set : PlannedSet) (one : TimedSet) (sent : List TimedSet) (come : List Bool)
      (deliveries : List (Delivery (List ℕ))) : Type 0 where
    pub next : Kind
    pub front : List (Delivery (List ℕ))
    pub rest : List (Delivery (List ℕ))
    pub are : deliveries ≡ front ++ rest
    pub now : List (Delivery Reading)
    pub stands : Before next (turned front taken) now (set ∷ plan) left sent (drop (length one.units) come) rest
    pub view : (tick : ℕ) → tick < set.pts → view_at profile anchor tick now ≡ view_at profile anchor tick past
    pub runs : all_come (length one.units) come ≡ true
        → ((kind ≡ Joined) × IsRunning script profile anchor past plan) ⊎ (is_entry_state set.state ≡ true)
        → (next ≡ Joined) × IsRunning script profile anchor now (set ∷ plan)
        × ((tick : ℕ) → set.pts ≤ tick → IsBefore tick left
        → Agrees (view_at profile anchor tick now) (authored_view script tick))

  pub turned-both : {X : Type 0} (xs ys there : List X) → turned (xs ++ ys) there ≡ turned ys (turned xs there)
  turned-both [] ys there = refl
  turned-both (x ∷ xs) ys there = turned-both xs ys (x ∷ there)

  moved : (plan left : List PlannedSet) (set : PlannedSet) → sets ≡ reverse plan ++ (set ∷ left)
      → sets ≡ reverse (set ∷ plan) ++ left
  moved plan left set parts = parts ∙ sym (turned_more plan left set)

  -- with losses and other sets behind them, the sets that are kept stay so
  kept_pushed : (past now more : List (Delivery Reading)) (plan : List PlannedSet)
      → now ≡ more ++ past → AreKept profile anchor ComesWhole past plan
      → AreKept profile anchor ComesWhole now plan
  kept_pushed past now more plan over kept =
      subst (λ (all : List (Delivery Reading)). AreKept profile anchor ComesWhole all plan) (sym over)
      (kept_over profile anchor ComesWhole more past plan kept)

  -- a set that comes whole misses no unit
  not_whole : {plan left : List PlannedSet} {set : PlannedSet} {one : TimedSet} {sent : List TimedSet}
      {come : List Bool} → IsFit plan left set one sent come → all_come (length one.units) come ≡ false
      → ComesWhole (length (reverse plan)) set → ⊥
  not_whole fit missing own = let no : true ≡ false = sym (fit.told own) ∙ missing in cc

  -- a set of which no unit comes whole
  nothing_after : (kind : Kind) (taken : List (Delivery (List ℕ))) (past : List (Delivery Reading))
      (plan left : List PlannedSet) (set : PlannedSet) (one : TimedSet) (sent : List TimedSet) (come : List Bool)
      (deliveries : List (Delivery (List ℕ)))
      → Before kind taken past plan (set ∷ left) (one ∷ sent) come deliveries
      → IsFit plan left set one sent come
      → NothingOut profile.coded (only page) kind one sent come deliveries
      → After kind taken past plan left set one sent come deliveries
  nothing_after kind taken past plan left set one sent come deliveries stands fit out =
      let pushed = push_losts script profile anchor sets ComesWhole out.n taken past stands.read stands.holds in
      record {
        next = out.next;
        front = losts out.n;
        rest = out.left;
        are = out.are;
        now = pushed.now;
        stands = record {
          parts = moved plan left set stands.parts;
          bound = out.bound;
          read = pushed.read;
          streak = λ come. absurd (not_whole fit out.not_all come.0);
          kept = (
            λ own. absurd (not_whole fit out.not_all own),
            kept_pushed past pushed.now pushed.more plan pushed.over stands.kept,
          );
          known =
              known_pushed script profile anchor out.n kind out.next past pushed.now plan (set ∷ plan) stands.known
              out.steps pushed.none pushed.some;
          last = last_passed origin anchor past pushed.now set left pushed.last stands.last;
          holds = pushed.holds;
        };
        view = λ tick early. pushed.view tick;
        runs = λ all why. absurd (let no : true ≡ false = sym all ∙ out.not_all in cc);
      }

  -- a set that comes whole
  set_after : (kind : Kind) (taken : List (Delivery (List ℕ))) (past : List (Delivery Reading))
      (plan left : List PlannedSet) (set : PlannedSet) (one : TimedSet) (sent : List TimedSet) (come : List Bool)
      (deliveries behind : List (Delivery (List ℕ))) → IsPlan script profile sets
      → Before kind taken past plan (set ∷ left) (one ∷ sent) come deliveries
      → IsFit plan left set one sent come → (last_time anchor past ≡ None → IsAheadOf anchor None set.pts)
      → Bound profile.coded (only page) Joined sent (drop (length one.units) come) behind
      → deliveries ≡ losts (count_before kind) ++ delivered one ∷ behind
      → After kind taken past plan left set one sent come deliveries
  set_after kind taken past plan left set one sent come deliveries behind is_plan stands fit suits bound are =
      let pushed =
      push_losts script profile anchor sets ComesWhole (count_before kind) taken past stands.read stands.holds in
      let known = known_before script profile anchor kind past pushed.now plan stands.known pushed.none pushed.some in
      let ahead = ahead_by origin anchor past set left stands.last fit.within suits in
      let comes = fit.its.comes in
      let lifted = kept_at anchor ahead.last pushed.now comes (pushed.last ∙ ahead.is_last) ahead.ahead fit.low in
      let after =
      whole_after script profile anchor sets pushed.now plan left set is_plan stands.parts comes lifted known in
      record {
        next = Joined;
        front = losts (count_before kind) ++ delivered one ∷ [];
        rest = behind;
        are = are ∙ sym (append_assoc (losts (count_before kind)) (delivered one ∷ []) behind);
        now = reading_of comes ∷ pushed.now;
        stands = record {
          parts = moved plan left set stands.parts;
          bound = bound;
          read =
              subst (λ (all : List (Delivery (List ℕ))). AreDeliveriesRead all (reading_of comes ∷ pushed.now))
              (sym (turned-both (losts (count_before kind)) (delivered one ∷ []) taken)) (is_read comes, pushed.read);
          streak = λ come. (refl, (after.runs (why_now kind (behind_streak come.1) pushed.none)).running);
          kept = (
            λ own. record {
              later = [];
              delivery = reading_of comes;
              before = pushed.now;
              placed = refl;
              lifted = lifted;
              shown = λ come. (after.runs (why_now kind (behind_streak come.1) pushed.none)).verdict;
              kept = after.verdict;
            },
            kept_pushed past (reading_of comes ∷ pushed.now) (reading_of comes ∷ pushed.more) plan
                (ap (λ all. reading_of comes ∷ all) pushed.over) stands.kept,
          );
          known = after.known;
          last = inr (set.pts, last_is anchor pushed.now comes lifted, fit.within, fit.above);
          holds =
              holds_next script profile anchor sets ComesWhole pushed.now plan left set (reading_of comes) is_plan
              stands.parts lifted (λ own. after.held) pushed.holds;
        };
        view =
            λ tick early. view_before profile anchor tick set.pts pushed.now (reading_of comes) lifted early
            ∙ pushed.view tick;
        runs = λ all why. (let on = after.runs (why_now kind why pushed.none) in (refl, on.running, on.shows));
      }
    where
      -- no loss comes between the pieces in turn
      why_now : {now : List (Delivery Reading)} (kind : Kind)
          → ((kind ≡ Joined) × IsRunning script profile anchor past plan) ⊎ (is_entry_state set.state ≡ true)
          → (count_before kind ≡ 0 → now ≡ past)
          → IsRunning script profile anchor now plan ⊎ (is_entry_state set.state ≡ true)
      why_now kind (inl running) same =
          inl (subst (λ (all : List (Delivery Reading)). IsRunning script profile anchor all plan)
          (sym (same (ap count_before running.0))) running.1)
      why_now kind (inr whole) same = inr whole

      -- with the set they have come whole: it is not normal, or the run goes on
      behind_streak : (is_entry_state set.state ≡ true) ⊎ HaveCome ComesWhole plan
          → ((kind ≡ Joined) × IsRunning script profile anchor past plan) ⊎ (is_entry_state set.state ≡ true)
      behind_streak (inl whole) = inr whole
      behind_streak (inr come) = inl (stands.streak come)

  -- a set of which a unit is missing
  missed_after : (kind : Kind) (taken : List (Delivery (List ℕ))) (past : List (Delivery Reading))
      (plan left : List PlannedSet) (set : PlannedSet) (one : TimedSet) (sent : List TimedSet) (come : List Bool)
      (deliveries : List (Delivery (List ℕ))) → IsPlan script profile sets
      → Before kind taken past plan (set ∷ left) (one ∷ sent) come deliveries
      → IsFit plan left set one sent come → (last_time anchor past ≡ None → IsAheadOf anchor None set.pts)
      → all_come (length one.units) come ≡ false
      → MissedOut profile.coded (only page) (missed_from kind) one sent (drop (length one.units) come) deliveries
      → After kind taken past plan left set one sent come deliveries
  missed_after kind taken past plan left set one sent come deliveries is_plan stands fit suits missing
      (goes_by next n [] rest steps is bound are) =
      let pushed = push_losts script profile anchor sets ComesWhole n taken past stands.read stands.holds in
      record {
        next = next;
        front = losts n;
        rest = rest;
        are = are;
        now = pushed.now;
        stands = record {
          parts = moved plan left set stands.parts;
          bound = bound;
          read = pushed.read;
          streak = λ come. absurd (not_whole fit missing come.0);
          kept = (
            λ own. absurd (not_whole fit missing own),
            kept_pushed past pushed.now pushed.more plan pushed.over stands.kept,
          );
          known =
              known_pushed script profile anchor n kind next past pushed.now plan (set ∷ plan) stands.known steps
              pushed.none pushed.some;
          last = last_passed origin anchor past pushed.now set left pushed.last stands.last;
          holds = pushed.holds;
        };
        view = λ tick early. pushed.view tick;
        runs = λ all why. absurd (let no : true ≡ false = sym all ∙ missing in cc);
      }
  missed_after kind taken past plan left set one sent come deliveries is_plan stands fit suits missing
      (goes_by next n (part ∷ []) rest steps is bound are) =
      let pushed = push_losts script profile anchor sets ComesWhole n taken past stands.read stands.holds in
      let ahead = ahead_by origin anchor past set left stands.last fit.within suits in
      let broken =
      subst (λ (sent_part : TimedSet). BrokenPart profile anchor set sent_part pushed.now) (sym is.4)
      (later_part profile anchor is.0 pushed.now ahead.last is.2 fit.its (pushed.last ∙ ahead.is_last) ahead.ahead
      fit.low) in
      let kept = broken.kept in
      record {
        next = Joined;
        front = losts n ++ delivered part ∷ [];
        rest = rest;
        are = are ∙ sym (append_assoc (losts n) (delivered part ∷ []) rest);
        now = kept.delivery ∷ pushed.now;
        stands = record {
          parts = moved plan left set stands.parts;
          bound =
              subst (λ (k : Kind). Bound profile.coded (only page) k sent (drop (length one.units) come) rest) is.1
              bound;
          read =
              subst (λ (all : List (Delivery (List ℕ))). AreDeliveriesRead all (kept.delivery ∷ pushed.now))
              (sym (turned-both (losts n) (delivered part ∷ []) taken)) (kept.is_read, pushed.read);
          streak = λ come. absurd (not_whole fit missing come.0);
          kept = (
            λ own. absurd (not_whole fit missing own),
            kept_pushed past (kept.delivery ∷ pushed.now) (kept.delivery ∷ pushed.more) plan
                (ap (λ all. kept.delivery ∷ all) pushed.over) stands.kept,
          );
          known = inl broken.unknown;
          last = inr (set.pts, kept.last, fit.within, fit.above);
          holds =
              holds_next script profile anchor sets ComesWhole pushed.now plan left set kept.delivery is_plan
              stands.parts kept.lifted
              (λ own known found. absurd
              (none_known_of profile anchor (kept.delivery ∷ pushed.now) broken.unknown known found))
              pushed.holds;
        };
        view =
            λ tick early. view_before profile anchor tick set.pts pushed.now kept.delivery kept.lifted early
            ∙ pushed.view tick;
        runs = λ all why. absurd (let no : true ≡ false = sym all ∙ missing in cc);
      }
  missed_after kind taken past plan left set one sent come deliveries is_plan stands fit suits missing
      (goes_by next n (part ∷ other ∷ more) rest steps is bound are) = absurd is
  missed_after kind taken past plan left set one sent come deliveries is_plan stands fit suits missing
      (stays_open n k p none are) =
      let pushed = push_losts script profile anchor sets ComesWhole n taken past stands.read stands.holds in
      let ahead = ahead_by origin anchor past set left stands.last fit.within suits in
      let kept =
      open_part anchor k p pushed.now ahead.last fit.its (pushed.last ∙ ahead.is_last) ahead.ahead fit.low in
      record {
        next = Apart;
        front = losts n ++ delivered (part_of_set k p one) ∷ [];
        rest = [];
        are = are ∙ sym (append-nil (losts n ++ delivered (part_of_set k p one) ∷ []));
        now = kept.delivery ∷ pushed.now;
        stands = record {
          parts = moved plan left set stands.parts;
          bound = record { arrivals = []; arrive = none; are = refl };
          read =
              subst (λ (all : List (Delivery (List ℕ))). AreDeliveriesRead all (kept.delivery ∷ pushed.now))
              (sym (turned-both (losts n) (delivered (part_of_set k p one) ∷ []) taken)) (kept.is_read, pushed.read);
          streak = λ come. absurd (not_whole fit missing come.0);
          kept = (
            λ own. absurd (not_whole fit missing own),
            kept_pushed past (kept.delivery ∷ pushed.now) (kept.delivery ∷ pushed.more) plan
                (ap (λ all. kept.delivery ∷ all) pushed.over) stands.kept,
          );
          known = tt;
          last = inr (set.pts, kept.last, fit.within, fit.above);
          holds =
              holds_next script profile anchor sets ComesWhole pushed.now plan left set kept.delivery is_plan
              stands.parts kept.lifted
              (λ own known found. absurd (let no : true ≡ false = sym (fit.told own) ∙ missing in cc))
              pushed.holds;
        };
        view =
            λ tick early. view_before profile anchor tick set.pts pushed.now kept.delivery kept.lifted early
            ∙ pushed.view tick;
        runs = λ all why. absurd (let no : true ≡ false = sym all ∙ missing in cc);
      }

  -- a set more
  pub after : (kind : Kind) (taken : List (Delivery (List ℕ))) (past : List (Delivery Reading))
      (plan left : List PlannedSet) (set : PlannedSet) (one : TimedSet) (sent : List TimedSet) (come : List Bool)
      (deliveries : List (Delivery (List ℕ))) → IsPlan script profile sets
      → Before kind taken past plan (set ∷ left) (one ∷ sent) come deliveries
      → IsFit plan left set one sent come → After kind taken past plan left set one sent come deliveries
  after kind taken past plan left set one sent come deliveries is_plan stands fit =
      by (some_come (length one.units) come) refl
    where
      by_all : (last_time anchor past ≡ None → IsAheadOf anchor None set.pts) → (all : Bool)
          → all_come (length one.units) come ≡ all
          → SetOut profile.coded (only page) kind one sent (drop (length one.units) come) deliveries all
          → After kind taken past plan left set one sent come deliveries
      by_all suits true e (set_whole behind bound are) =
          set_after kind taken past plan left set one sent come deliveries behind is_plan stands fit suits bound are
      by_all suits false e (set_missed out) =
          missed_after kind taken past plan left set one sent come deliveries is_plan stands fit suits e out

      by : (some : Bool) → some_come (length one.units) come ≡ some
          → After kind taken past plan left set one sent come deliveries
      by false none =
          nothing_after kind taken past plan left set one sent come deliveries stands fit
          (nothing_out profile.coded (only page) kind one sent come deliveries fit.any none stands.bound)
      by true some =
          by_all
          (λ none. fit.suits some
          (none_came profile anchor ComesWhole past sets plan (set ∷ left) stands.parts stands.kept none))
          (all_come (length one.units) come) refl
          (set_out profile.coded (only page) kind one sent come deliveries fit.timed fit.any fit.apart fit.some
          stands.bound)
