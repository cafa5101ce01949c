-- Each set of a plan in its epoch, and beside the set before it.
use Rattle.std.proofs.Common.{◌≡◌, ◌≢◌, ◌∙◌, ◌⊎◌, inl, inr, ℕ, zero, suc, ◌==◌, ◌<◌, ◌≤◌, nat_le, Bool, true, false, not, ◌||◌, cond, List, [], ◌∷◌, ◌++◌, length, map, take, reverse, get_or, Some, refl, sym, ap, subst, arith}
use Rattle.std.specs.Prelude.{All, slice_get, take_while}
use Rattle.std.specs.List.{AllPairs, Contains}
use Rattle.std.proofs.lemmas.Bool.Decides.{nat_tests}
use Rattle.std.proofs.lemmas.List.{map-append, reverse-append, take_all}
use Rattle.std.proofs.lemmas.List.Elements.{All-cons, Contains-append_left, Contains-append_right, Contains-append_cases, All-contains_itself}
use Rattle.std.proofs.lemmas.List.Kept.{AllPairs-from_increasing, AllPairs-cons}
use Rattle.std.proofs.lemmas.List.Sums.{take_while-cons}
use Rattle.sub_base.specs.declared.profile.Profile.{Profile}
use Rattle.stream_syntax.specs.declared.page.State.TheVariants.{Normal, Acquisition, ModeChange}
use Rattle.cue_list.specs.Sound.{ticks_of}
use Rattle.cue_list.specs.declared.epoch.Epoch.{Epoch}
use Rattle.cue_list.specs.declared.script.Script.{Script}
use Rattle.page_epoch.proofs.ListLaws.{All-none}
use Rattle.page_epoch.proofs.SendLaws.{sendable_all}
use Rattle.page_epoch.specs.Instants.{is_named, IsInstant}
use Rattle.page_epoch.specs.Needs.{pixel_need, node_need}
use Rattle.page_epoch.specs.Plan.{IsEpochAt, IsNextSet, Fits, AllBehind, ArePlanned, IsPlan}
use Rattle.page_epoch.specs.Sendable.{IsSendableIn, IsOfItsEpoch}
use Rattle.page_epoch.specs.States.{is_due, last_entry, state_of, seen_of}
use Rattle.page_epoch.specs.declared.planned_set.PlannedSet.{PlannedSet}
use Rattle.shown_plan.proofs.Steps.Fair.{IsFairEpoch, IsFair}
use Rattle.shown_plan.proofs.Steps.FaultFree.{HasRoom}
use Rattle.shown_plan.proofs.Steps.KeepsOn.{AreSeen, IsPlannedIn}
use Rattle.shown_plan.proofs.Segments.FallingTimes.{AreFalling, falling_tail, kept_from, kept_all, kept_falls, kept_late}
use Rattle.shown_plan.proofs.Segments.Lists.{all_at, piece_there}
use Rattle.shown_plan.proofs.Segments.SetView.{reverse_map, reversed_all, pairs_append}

-- the presentation times of sets
abbrev pub times_of : List PlannedSet → List ℕ
times_of sets = map (λ (set : PlannedSet). set.pts) sets

-- ---- a set of the plan

-- a set of a plan stands between those before it and those behind it
pub record IsParted (sets : List PlannedSet) (front : List PlannedSet) (set : PlannedSet)
    (back : List PlannedSet) : Type 0 where
  pub whole : sets ≡ front ++ set ∷ back

-- the set at the end of the front of a list
at_front : (front back : List PlannedSet) (set : PlannedSet)
    → slice_get (front ++ set ∷ back) (length front) ≡ Some set
at_front [] back set = refl
at_front (first ∷ front) back set = at_front front back set

front_taken : (front back : List PlannedSet) (set : PlannedSet)
    → take (length front) (front ++ set ∷ back) ≡ front
front_taken [] back set = refl
front_taken (first ∷ front) back set = ap (λ rest. first ∷ rest) (front_taken front back set)

-- what stands of each set of a plan stands of this one
pub stands_of : (P : List PlannedSet → PlannedSet → Type 0) (sets front back : List PlannedSet) (set : PlannedSet)
    → sets ≡ front ++ set ∷ back → AllBehind P sets → P (reverse front) set
stands_of P sets front back set whole stands =
    subst (λ (past : List PlannedSet). P (reverse past) set)
    (ap (take (length front)) whole ∙ front_taken front back set)
    (stands (length front) set
    (ap (λ (all : List PlannedSet). slice_get all (length front)) whole ∙ at_front front back set))

-- the times of a plan are the instants of its script, and rise
pub record HasTimes (script : Script) (sets : List PlannedSet) : Type 0 where
  pub rise : AllPairs (λ (before later : ℕ). before < later) (times_of sets)
  pub all : (tick : ℕ) → IsInstant script.epochs script.refresh tick → Contains (times_of sets) tick
  pub each : All (IsInstant script.epochs script.refresh) (times_of sets)

pub has_times : (script : Script) (profile : Profile) (sets : List PlannedSet)
    → ArePlanned script.epochs script.refresh profile sets → HasTimes script sets
has_times script profile sets planned =
    record {
      rise =
          subst (AllPairs (λ (before later : ℕ). before < later)) (sym same)
          (AllPairs-from_increasing planned.instants planned.are_instants.rise);
      all =
          λ tick is. subst (λ (times : List ℕ). Contains times tick) (sym same) (planned.are_instants.all tick is);
      each = subst (All (IsInstant script.epochs script.refresh)) (sym same) planned.are_instants.each;
    }
  where
    same : times_of sets ≡ planned.instants
    same = planned.first.times ∙ take_all (length sets) planned.instants (omega (arith, planned.all))

-- the times of the sets before one, the latest first, with its own
past_falls : (script : Script) (sets front back : List PlannedSet) (set : PlannedSet)
    → sets ≡ front ++ set ∷ back → HasTimes script sets → AreFalling (set.pts ∷ times_of (reverse front))
past_falls script sets front back set whole times =
    subst AreFalling (ap (λ rest. set.pts ∷ rest) (reverse_map (λ (s : PlannedSet). s.pts) front))
    (AllPairs-cons (λ (later before : ℕ). before < later) set.pts (reverse (times_of front))
    (reversed_all (λ time. time < set.pts) (times_of front) below) (reversed_pairs (times_of front) front_rises))
  where
    parts : times_of sets ≡ times_of front ++ set.pts ∷ times_of back
    parts = ap times_of whole ∙ map-append (λ (s : PlannedSet). s.pts) front (set ∷ back)

    rises : AllPairs (λ (before later : ℕ). before < later) (times_of front ++ set.pts ∷ times_of back)
    rises = subst (AllPairs (λ (before later : ℕ). before < later)) parts times.rise

    front_pairs : (xs ys : List ℕ) → AllPairs (λ (before later : ℕ). before < later) (xs ++ ys)
        → AllPairs (λ (before later : ℕ). before < later) xs
    front_pairs [] ys rise = λ i j d before within. absurd (omega arith)
    front_pairs (x ∷ xs) ys rise = AllPairs-cons (λ (before later : ℕ). before < later) x xs
        (λ k d within. all_at (λ y. x < y) (xs ++ ys) (get_or xs k d)
        (λ n e inside. rise 0 (suc n) e (omega arith) (omega arith))
        (Contains-append_left xs ys (get_or xs k d) (All-contains_itself xs k d within)))
        (front_pairs xs ys (λ i j d before within. rise (suc i) (suc j) d (omega arith) (omega arith)))

    front_below : (xs ys : List ℕ) (y : ℕ)
        → AllPairs (λ (before later : ℕ). before < later) (xs ++ y ∷ ys) → All (λ x. x < y) xs
    front_below [] ys y rise = All-none _
    front_below (x ∷ xs) ys y rise = All-cons (λ x. x < y) x xs
        (all_at (λ z. x < z) (xs ++ y ∷ ys) y (λ n e inside. rise 0 (suc n) e (omega arith) (omega arith))
        (Contains-append_right xs (y ∷ ys) y (0, omega arith, refl)))
        (front_below xs ys y (λ i j d before within. rise (suc i) (suc j) d (omega arith) (omega arith)))

    front_rises : AllPairs (λ (before later : ℕ). before < later) (times_of front)
    front_rises = front_pairs (times_of front) (set.pts ∷ times_of back) rises

    below : All (λ time. time < set.pts) (times_of front)
    below = front_below (times_of front) (times_of back) set.pts rises

    reversed_pairs : (xs : List ℕ) → AllPairs (λ (before later : ℕ). before < later) xs
        → AreFalling (reverse xs)
    reversed_pairs [] rise = λ i j d before within. absurd (omega arith)
    reversed_pairs (x ∷ xs) rise =
        subst AreFalling (sym (reverse-append (x ∷ []) xs))
        (pairs_append (λ (later before : ℕ). before < later) (reverse xs) (x ∷ [])
        (reversed_pairs xs (λ i j d before within. rise (suc i) (suc j) d (omega arith) (omega arith)))
        (λ i j d before within. absurd (omega arith))
        (reversed_all (λ later. All (λ before. before < later) (x ∷ [])) xs
        (λ k d within. All-cons (λ before. before < get_or xs k d) x []
        (rise 0 (suc k) d (omega arith) (omega arith)) (All-none _))))

-- the times up to one of a plan are among those of the sets before it, and its own
up_to : (script : Script) (sets front back : List PlannedSet) (set : PlannedSet) → sets ≡ front ++ set ∷ back
    → HasTimes script sets → (tick : ℕ) → Contains (times_of sets) tick → tick ≤ set.pts
    → (tick ≡ set.pts) ⊎ Contains (times_of (reverse front)) tick
up_to script sets front back set whole times tick there early =
    elim (Contains-append_cases (times_of front) (set.pts ∷ times_of back) tick
    (subst (λ (all : List ℕ). Contains all tick) parts there)) [
      | inl before ↦ inr
          (subst (λ (all : List ℕ). Contains all tick) (reverse_map (λ (s : PlannedSet). s.pts) front)
          (reversed_there (times_of front) tick before))
      | inr after ↦ by after
    ]
  where
    parts : times_of sets ≡ times_of front ++ set.pts ∷ times_of back
    parts = ap times_of whole ∙ map-append (λ (s : PlannedSet). s.pts) front (set ∷ back)

    behind : (xs ys : List ℕ) (y : ℕ) → AllPairs (λ (before later : ℕ). before < later) (xs ++ y ∷ ys)
        → All (λ z. y < z) ys
    behind [] ys y rise = λ k d within. rise 0 (suc k) d (omega arith) (omega arith)
    behind (x ∷ xs) ys y rise =
        behind xs ys y (λ i j d before within. rise (suc i) (suc j) d (omega arith) (omega arith))

    later : All (λ z. set.pts < z) (times_of back)
    later =
        behind (times_of front) (times_of back) set.pts
        (subst (AllPairs (λ (before later : ℕ). before < later)) parts times.rise)

    by : Contains (set.pts ∷ times_of back) tick → (tick ≡ set.pts) ⊎ Contains (times_of (reverse front)) tick
    by (zero, within, is) = inl (sym is)
    by (suc k, within, is) =
        absurd (let high = later k tick (omega (arith, within)) in let same : get_or (times_of back) k tick
        ≡ tick = is in omega (arith, high, same, early))

    reversed_there : (xs : List ℕ) (x : ℕ) → Contains xs x → Contains (reverse xs) x
    reversed_there [] x there = absurd (omega (arith, there.1))
    reversed_there (y ∷ xs) x (zero, within, is) =
        subst (λ (all : List ℕ). Contains all x) (sym (reverse-append (y ∷ []) xs))
        (Contains-append_right (reverse xs) (y ∷ []) x (0, omega arith, is))
    reversed_there (y ∷ xs) x (suc k, within, is) =
        subst (λ (all : List ℕ). Contains all x) (sym (reverse-append (y ∷ []) xs))
        (Contains-append_left (reverse xs) (y ∷ []) x (reversed_there xs x (k, omega (arith, within), is)))

-- ---- a set in its epoch

-- a set of the plan and the sets before it, the latest first: its epoch, the instants of the epoch before it, and
-- whether it is the first of them
pub record IsInEpoch (script : Script) (profile : Profile) (past : List PlannedSet) (set : PlannedSet) : Type 0 where
  pub epoch : Epoch
  pub place : IsEpochAt script.epochs set.pts set.epoch epoch
  pub fair : IsFairEpoch script.width script.height script.pictures epoch
  pub earlier : List ℕ
  pub before : earlier ≡ take_while (nat_le epoch.start) (times_of past)
  pub planned : IsPlannedIn epoch set earlier
  pub room : HasRoom script epoch set earlier profile
  pub first : earlier ≡ [] → set.state ≡ ModeChange
  pub further : (time : ℕ) (more : List ℕ) → earlier ≡ time ∷ more → set.state ≢ ModeChange

some_same : {X : Type 0} {a b : X} → Some a ≡ Some b → a ≡ b
some_same e = cc

pub there_at : {X : Type 0} (xs : List X) (k : ℕ) (x : X) → slice_get xs k ≡ Some x → Contains xs x
there_at [] k x is = absurd (cc)
there_at (y ∷ xs) zero x is = (0, omega arith, some_same is)
there_at (y ∷ xs) (suc k) x is = (let rest = there_at xs k x is in (suc rest.0, omega (arith, rest.1), rest.2))

-- a set of the plan of a script, between those before it and those behind it
record IsSetOf (script : Script) (profile : Profile) (sets front back : List PlannedSet)
    (set : PlannedSet) : Type 0 where
  fair : IsFair script
  plan : IsPlan script profile sets
  whole : sets ≡ front ++ set ∷ back
  times : HasTimes script sets
  next : IsNextSet script.epochs script.refresh (reverse front) set

-- the instants of its epoch before it, the latest first
abbrev earlier_of : {script : Script} {profile : Profile} {sets front back : List PlannedSet} {set : PlannedSet}
    → IsSetOf script profile sets front back set → List ℕ
earlier_of {front = front} is = take_while (nat_le is.next.epoch.start) (times_of (reverse front))

epoch_there : {script : Script} {profile : Profile} {sets front back : List PlannedSet} {set : PlannedSet}
    (is : IsSetOf script profile sets front back set) → Contains script.epochs is.next.epoch
epoch_there {script = script} {set = set} is =
    there_at script.epochs set.epoch is.next.epoch is.next.place.found

epoch_fair : {script : Script} {profile : Profile} {sets front back : List PlannedSet} {set : PlannedSet}
    (is : IsSetOf script profile sets front back set)
    → IsFairEpoch script.width script.height script.pictures is.next.epoch
epoch_fair {script = script} is =
    all_at (IsFairEpoch script.width script.height script.pictures) script.epochs is.next.epoch is.fair.epochs
    (epoch_there is)

-- what it carries is of its epoch
own_sendable : {script : Script} {profile : Profile} {sets front back : List PlannedSet} {set : PlannedSet}
    (is : IsSetOf script profile sets front back set) → IsSendableIn is.next.epoch set
own_sendable {script} {profile} {sets} {front} {back} {set} is =
    subst (λ (e : Epoch). IsSendableIn e set) (some_same (sym sendable.found ∙ is.next.place.found)) sendable.carried
  where
    here : Contains sets set
    here =
        subst (λ (all : List PlannedSet). Contains all set) (sym is.whole)
        (Contains-append_right front (set ∷ back) set (0, omega arith, refl))

    sendable : IsOfItsEpoch script set
    sendable =
        all_at (IsOfItsEpoch script) sets set (sendable_all script profile sets is.fair.plain is.plan.planned) here

-- the profile has what it needs
own_room : {script : Script} {profile : Profile} {sets front back : List PlannedSet} {set : PlannedSet}
    (is : IsSetOf script profile sets front back set) → HasRoom script is.next.epoch set (earlier_of is) profile
own_room {script} {profile} {sets} {front} {back} {set} is =
    record {
      display = is.plan.display;
      pixels =
          (let needs : fits.pixels ≡ pixel_need epoch.regions =
          fits.needs.pixels_are ∙ ap (λ (e : Epoch). pixel_need e.regions) need_epoch in
          let most = fits.has_pixels in omega (arith, needs, most));
      nodes =
          (let needs : fits.nodes ≡ node_need epoch (set.pts ∷ earlier_of is) (length set.shown) =
          fits.needs.nodes_are
          ∙ ap (λ (e : Epoch). node_need e (seen_of e.start (reverse front) set.pts) (length set.shown)) need_epoch
          in
          let most = fits.has_nodes in omega (arith, needs, most));
    }
  where
    epoch : Epoch
    epoch = is.next.epoch

    fits : Fits script.epochs profile (reverse front) set
    fits = stands_of (Fits script.epochs profile) sets front back set is.whole is.plan.planned.first.fit

    need_epoch : fits.needs.epoch ≡ epoch
    need_epoch = some_same (sym fits.needs.found ∙ is.next.place.found)

-- the times before it fall, and those of its epoch
times_fall : {script : Script} {profile : Profile} {sets front back : List PlannedSet} {set : PlannedSet}
    → IsSetOf script profile sets front back set → AreFalling (set.pts ∷ times_of (reverse front))
times_fall {script} {profile} {sets} {front} {back} {set} is =
    past_falls script sets front back set is.whole is.times

earlier_fall : {script : Script} {profile : Profile} {sets front back : List PlannedSet} {set : PlannedSet}
    (is : IsSetOf script profile sets front back set) → AreFalling (set.pts ∷ earlier_of is)
earlier_fall {script} {profile} {sets} {front} {back} {set} is =
    AllPairs-cons (λ (later before : ℕ). before < later) set.pts (earlier_of is)
    (kept_all (λ time. time < set.pts) is.next.epoch.start (times_of (reverse front))
    (λ k d within. times_fall is 0 (suc k) d (omega arith) (omega arith)))
    (kept_falls is.next.epoch.start (times_of (reverse front))
    (falling_tail set.pts (times_of (reverse front)) (times_fall is)))

-- a time of the epoch that is not later than the set is the set's, or that of a set of the epoch before it
is_among : {script : Script} {profile : Profile} {sets front back : List PlannedSet} {set : PlannedSet}
    (is : IsSetOf script profile sets front back set) (named : ℕ) → Contains (ticks_of is.next.epoch) named
    → named ≤ set.pts → (named ≡ set.pts) ⊎ Contains (earlier_of is) named
is_among {script} {profile} {sets} {front} {back} {set} is named there by_then =
    elim (up_to script sets front back set is.whole is.times named
    (is.times.all named (inl (piece_there ticks_of script.epochs is.next.epoch named (epoch_there is) there)))
    by_then) [
      | inl same ↦ inl same
      | inr past ↦ inr (kept_from is.next.epoch.start (times_of (reverse front)) named
          (falling_tail set.pts (times_of (reverse front)) (times_fall is)) past
          (all_at (λ tick. is.next.epoch.start ≤ tick) (ticks_of is.next.epoch) named (epoch_fair is).from there))
    ]

own_seen : {script : Script} {profile : Profile} {sets front back : List PlannedSet} {set : PlannedSet}
    (is : IsSetOf script profile sets front back set) → AreSeen is.next.epoch set.pts (earlier_of is)
own_seen {set = set} is =
    record {
      falls = earlier_fall is;
      all = λ named there by_then. elim (is_among is named there by_then) [
        | inl same ↦ (0, omega arith, sym same)
        | inr past ↦ (suc past.0, omega (arith, past.1), past.2)
      ];
    }

-- the first set of an epoch is a mode change
begins_epoch : {script : Script} {profile : Profile} {sets front back : List PlannedSet} {set : PlannedSet}
    (is : IsSetOf script profile sets front back set) → earlier_of is ≡ [] → set.state ≡ ModeChange
begins_epoch {script} {profile} {sets} {front} {back} {set} is none =
    by (is_among is is.next.epoch.start (0, omega arith, refl) is.next.place.started)
  where
    by : (is.next.epoch.start ≡ set.pts) ⊎ Contains (earlier_of is) is.next.epoch.start → set.state ≡ ModeChange
    by (inl same) =
        is.next.state
        ∙ ap (λ b. state_of b (is_named script.epochs set.pts)
        (is_due script.refresh set.pts (last_entry (reverse front))))
        (let t : (is.next.epoch.start == set.pts) ≡ true = grind (arith, nat_tests) in t)
    by (inr past) =
        absurd (let no : Contains {X = ℕ} [] is.next.epoch.start =
        subst (λ (all : List ℕ). Contains all is.next.epoch.start) none past in omega (arith, no.1))

-- and the others are none
begins_no_epoch : {script : Script} {profile : Profile} {sets front back : List PlannedSet} {set : PlannedSet}
    (is : IsSetOf script profile sets front back set) (time : ℕ) (more : List ℕ) → earlier_of is ≡ time ∷ more
    → set.state ≢ ModeChange
begins_no_epoch {script} {profile} {sets} {front} {back} {set} is time more some e =
    not_begun (is_named script.epochs set.pts) (is_due script.refresh set.pts (last_entry (reverse front)))
    (sym (ap (λ b. state_of b (is_named script.epochs set.pts)
    (is_due script.refresh set.pts (last_entry (reverse front)))) other) ∙ sym is.next.state ∙ e)
  where
    late : is.next.epoch.start ≤ get_or (earlier_of is) 0 time
    late =
        kept_late is.next.epoch.start (times_of (reverse front)) 0 time
        (subst (λ (all : List ℕ). 0 < length all) (sym some) (omega arith))

    less : get_or (earlier_of is) 0 time < set.pts
    less =
        earlier_fall is 0 1 time (omega arith)
        (subst (λ (all : List ℕ). 1 < length (set.pts ∷ all)) (sym some) (omega arith))

    other : (is.next.epoch.start == set.pts) ≡ false
    other = (let n : is.next.epoch.start < set.pts = omega (arith, late, less) in grind (arith, nat_tests))

    not_begun : (named due : Bool) → state_of false named due ≡ ModeChange → ⊥
    not_begun named due e = by (not named || due) e
      where
        by : (b : Bool) → cond b Acquisition Normal ≡ ModeChange → ⊥
        by true e = absurd (cc)
        by false e = absurd (cc)

pub in_epoch : (script : Script) (profile : Profile) (sets front back : List PlannedSet) (set : PlannedSet)
    → IsFair script → IsPlan script profile sets → sets ≡ front ++ set ∷ back
    → IsInEpoch script profile (reverse front) set
in_epoch script profile sets front back set is_fair plan whole =
    record {
      epoch = is.next.epoch;
      place = is.next.place;
      fair = epoch_fair is;
      earlier = earlier_of is;
      before = refl;
      planned = record { seen = own_seen is; carried = is.next.carried; sendable = own_sendable is };
      room = own_room is;
      first = begins_epoch is;
      further = begins_no_epoch is;
    }
  where
    is : IsSetOf script profile sets front back set
    is =
        record {
          fair = is_fair;
          plan = plan;
          whole = whole;
          times = has_times script profile sets plan.planned;
          next = stands_of (IsNextSet script.epochs script.refresh) sets front back set whole plan.planned.first.each;
        }

-- ---- two neighbours

-- a set that is no mode change goes on in the epoch of the set before it
pub record IsAfter {script : Script} {profile : Profile} {past later : List PlannedSet} {before set : PlannedSet}
    (first : IsInEpoch script profile past before) (second : IsInEpoch script profile later set) : Type 0 where
  pub epoch : second.epoch ≡ first.epoch
  pub earlier : second.earlier ≡ before.pts ∷ first.earlier

pub goes_after : (script : Script) (profile : Profile) (past : List PlannedSet) (before set : PlannedSet)
    (first : IsInEpoch script profile past before) (second : IsInEpoch script profile (before ∷ past) set)
    → before.pts < set.pts → set.state ≢ ModeChange
    → IsAfter first second
goes_after script profile past before set first second rise still = by (nat_le second.epoch.start before.pts) refl
  where
    kept : (b : Bool) → nat_le second.epoch.start before.pts ≡ b
        → second.earlier ≡ cond b (before.pts ∷ take_while (nat_le second.epoch.start) (times_of past)) []
    kept b e =
        second.before ∙ take_while-cons (nat_le second.epoch.start) before.pts (times_of past)
        ∙ ap (λ b. cond b (before.pts ∷ take_while (nat_le second.epoch.start) (times_of past)) []) e

    by : (b : Bool) → nat_le second.epoch.start before.pts ≡ b → IsAfter first second
    by false e = absurd (still (second.first (kept false e)))
    by true e =
        (let started : second.epoch.start ≤ before.pts = grind (arith, nat_tests) in
        let one : first.epoch.start ≤ before.pts = first.place.started in
        let same_place : before.epoch ≡ set.epoch = places started (grind arith) in
        let same : second.epoch ≡ first.epoch =
        some_same (sym second.place.found ∙ ap (slice_get script.epochs) (sym same_place) ∙ first.place.found)
        in
        record {
          epoch = same;
          earlier =
              kept true e ∙ ap (λ (e : Epoch). before.pts ∷ take_while (nat_le e.start) (times_of past)) same
              ∙ ap (λ rest. before.pts ∷ rest) (sym first.before);
        })
      where
        places : second.epoch.start ≤ before.pts → (before.epoch ≡ set.epoch)
            ⊎ ((before.epoch < set.epoch) ⊎ (set.epoch < before.epoch)) → before.epoch ≡ set.epoch
        places started (inl same) = same
        places started (inr (inl less)) =
            absurd (let high = first.place.last set.epoch second.epoch less second.place.found in omega
            (arith, high, started))
        places started (inr (inr more)) =
            absurd (let high = second.place.last before.epoch first.epoch more first.place.found in
            let low = first.place.started in omega (arith, high, low, rise))
