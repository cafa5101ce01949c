-- Scripts that go on above a horizon: what lies below it stays.
use Rattle.std.proofs.Common.{◌≡◌, ◌∙◌, ◌⊎◌, inl, inr, refl, sym, ap, subst, ℕ, suc, ◌+◌, ◌<◌, ◌≤◌, nat_le, nat_lt, Bool, true, false, ◌||◌, ◌&&◌, List, [], ◌∷◌, ◌++◌, map, get_or, All, arith}
use Rattle.std.specs.List.{flat_map, list_any, Contains}
use Rattle.std.proofs.lemmas.Bool.{cases_lt}
use Rattle.std.proofs.lemmas.Bool.Decides.{nat_tests}
use Rattle.std.proofs.lemmas.Grind.{flat_map-append}
use Rattle.std.proofs.lemmas.List.{map-append}
use Rattle.std.proofs.lemmas.List.Elements.{All-append, All-contains, Contains-append_cases, Contains-append_left, Contains-append_right}
use Rattle.std.proofs.lemmas.List.Folds.{list_any-append}
use Rattle.cue_records.specs.declared.row_values.ColourRow.{ColourRow}
use Rattle.cue_list.specs.declared.epoch.Cue.{Cue}
use Rattle.cue_list.specs.declared.epoch.Epoch.{Epoch}
use Rattle.cue_list.specs.Authored.{is_live}
use Rattle.cue_list.specs.Sound.{ticks_of, ticks_of_cue}
use Rattle.page_epoch.specs.declared.instants.TheConstants.{REFRESH_ROOM}
use Rattle.grown_script_laws.specs.Growth.{AreAbove, EpochGrows, EpochsGrow}
use Rattle.page_epoch.specs.Instants.{named_ticks, shows_cue, AreNeighbours, IsInstant, IsRefresh}
use Rattle.page_epoch.proofs.LiveLaws.{late_live}
use Rattle.page_epoch.proofs.ListLaws.{All-none, All-one}

-- ---- ticks that stay

-- a tick as its own tick
abbrev pub own : ℕ → ℕ
own tick = tick

-- all that was there is there, and all that is there up to the horizon was there
pub record Stay {X : Type 0} (tick_of : X → ℕ) (horizon : ℕ) (old new : List X) : Type 0 where
  pub kept : (x : X) → Contains old x → Contains new x
  pub back : (x : X) → tick_of x ≤ horizon → Contains new x → Contains old x

pub stay_same : {X : Type 0} (tick_of : X → ℕ) (horizon : ℕ) (xs : List X) → Stay tick_of horizon xs xs
stay_same tick_of horizon xs = record { kept = λ x there. there; back = λ x early there. there }

not_below : {X : Type 0} (tick_of : X → ℕ) (horizon : ℕ) (more : List X) (x : X)
    → All (λ x. horizon < tick_of x) more → tick_of x ≤ horizon → Contains more x → ⊥
not_below tick_of horizon more x above early there =
    let high = All-contains (λ x. horizon < tick_of x) more x above there in absurd (omega (arith, high, early))

pub stay_more : {X : Type 0} (tick_of : X → ℕ) (horizon : ℕ) (xs more : List X)
    → All (λ x. horizon < tick_of x) more → Stay tick_of horizon xs (xs ++ more)
stay_more tick_of horizon xs more above = record {
  kept = λ x there. Contains-append_left xs more x there;
  back = λ x early there. elim (Contains-append_cases xs more x there) [
    | inl here ↦ here
    | inr later ↦ absurd (not_below tick_of horizon more x above early later)
  ];
}

pub stay_both : {X : Type 0} (tick_of : X → ℕ) (horizon : ℕ) (a b c d : List X) → Stay tick_of horizon a b
    → Stay tick_of horizon c d → Stay tick_of horizon (a ++ c) (b ++ d)
stay_both tick_of horizon a b c d first second = record {
  kept = λ x there. elim (Contains-append_cases a c x there) [
    | inl here ↦ Contains-append_left b d x (first.kept x here)
    | inr later ↦ Contains-append_right b d x (second.kept x later)
  ];
  back = λ x early there. elim (Contains-append_cases b d x there) [
    | inl here ↦ Contains-append_left a c x (first.back x early here)
    | inr later ↦ Contains-append_right a c x (second.back x early later)
  ];
}

colours_stay : (horizon : ℕ) (old new : Epoch) → EpochGrows horizon old new
    → Stay own horizon (map (λ (row : ColourRow). row.tick) old.colours)
    (map (λ (row : ColourRow). row.tick) new.colours)
colours_stay horizon old new grows =
    let tick_of : ColourRow → ℕ = λ row. row.tick in
    subst (Stay own horizon (map tick_of old.colours))
    (sym (ap (map tick_of) grows.colours ∙ map-append tick_of old.colours grows.more_colours))
    (stay_more own horizon (map tick_of old.colours) (map tick_of grows.more_colours) grows.colours_above)

cues_stay : (horizon : ℕ) (old new : Epoch) → EpochGrows horizon old new
    → Stay own horizon (flat_map ticks_of_cue old.cues) (flat_map ticks_of_cue new.cues)
cues_stay horizon old new grows =
    subst (Stay own horizon (flat_map ticks_of_cue old.cues))
    (sym (ap (λ (cues : List Cue). flat_map ticks_of_cue cues) grows.cues
    ∙ flat_map-append ticks_of_cue old.cues grows.more_cues))
    (stay_more own horizon (flat_map ticks_of_cue old.cues) (flat_map ticks_of_cue grows.more_cues) grows.cues_above)

start_stays : (horizon : ℕ) (old new : Epoch) → EpochGrows horizon old new
    → Stay own horizon (old.start ∷ []) (new.start ∷ [])
start_stays horizon old new grows =
    subst (λ (start : ℕ). Stay own horizon (old.start ∷ []) (start ∷ [])) (sym grows.start)
    (stay_same own horizon (old.start ∷ []))

epoch_stays : (horizon : ℕ) (old new : Epoch) → EpochGrows horizon old new
    → Stay own horizon (ticks_of old) (ticks_of new)
epoch_stays horizon old new grows =
    let tick_of : ColourRow → ℕ = λ row. row.tick in
    stay_both own horizon (old.start ∷ []) (new.start ∷ [])
    (map tick_of old.colours ++ flat_map ticks_of_cue old.cues)
    (map tick_of new.colours ++ flat_map ticks_of_cue new.cues) (start_stays horizon old new grows)
    (stay_both own horizon (map tick_of old.colours) (map tick_of new.colours) (flat_map ticks_of_cue old.cues)
    (flat_map ticks_of_cue new.cues) (colours_stay horizon old new grows) (cues_stay horizon old new grows))

pub named_stay : (horizon : ℕ) (old new : List Epoch) → EpochsGrow horizon old new
    → Stay own horizon (named_ticks old) (named_ticks new)
named_stay horizon [] later grow = stay_more own horizon [] (named_ticks later) grow
named_stay horizon (old ∷ olds) [] grow = absurd grow
named_stay horizon (old ∷ olds) (new ∷ news) grow =
    stay_both own horizon (ticks_of old) (ticks_of new) (named_ticks olds) (named_ticks news)
    (epoch_stays horizon old new grow.0) (named_stay horizon olds news grow.1)

-- ---- cues that are shown

above_tail : (horizon tick : ℕ) (ticks : List ℕ) → AreAbove horizon (tick ∷ ticks) → AreAbove horizon ticks
above_tail horizon tick ticks above k d within = above (suc k) d (omega arith)

above_right : (horizon : ℕ) (ticks more : List ℕ) → AreAbove horizon (ticks ++ more) → AreAbove horizon more
above_right horizon [] more above = above
above_right horizon (tick ∷ ticks) more above =
    above_right horizon ticks more (above_tail horizon tick (ticks ++ more) above)

none_live : (horizon last : ℕ) (cues : List Cue) → AreAbove horizon (flat_map ticks_of_cue cues) → last ≤ horizon
    → list_any (is_live last) cues ≡ false
none_live horizon last [] above early = refl
none_live horizon last (cue ∷ cues) above early =
    let start = above 0 0 (omega arith) in
    let late : nat_le cue.start last ≡ false = grind (arith, nat_tests) in
    ap (λ live. live || list_any (is_live last) cues) (late_live cue.start cue.end last late)
    ∙ none_live horizon last cues
    (above_right horizon (ticks_of_cue cue) (flat_map ticks_of_cue cues) above) early

cues_of_above : (horizon : ℕ) (epoch : Epoch) (rest : List ℕ) → AreAbove horizon (ticks_of epoch ++ rest)
    → AreAbove horizon (flat_map ticks_of_cue epoch.cues)
cues_of_above horizon epoch rest above k d within =
    let inner = above_left horizon (ticks_of epoch) rest above in
    above_right horizon (map (λ (row : ColourRow). row.tick) epoch.colours) (flat_map ticks_of_cue epoch.cues)
    (above_tail horizon epoch.start
    (map (λ (row : ColourRow). row.tick) epoch.colours ++ flat_map ticks_of_cue epoch.cues) inner) k d within
  where
    above_left : (horizon : ℕ) (ticks more : List ℕ) → AreAbove horizon (ticks ++ more) → AreAbove horizon ticks
    above_left horizon [] more above = All-none (λ tick. horizon < tick)
    above_left horizon (tick ∷ ticks) more above =
        All-append (λ tick. horizon < tick) (tick ∷ []) ticks
        (All-one (λ tick. horizon < tick) tick (above 0 0 (omega arith)))
        (above_left horizon ticks more (above_tail horizon tick (ticks ++ more) above))

none_shown : (horizon last : ℕ) (later : List Epoch) → AreAbove horizon (flat_map ticks_of later) → last ≤ horizon
    → shows_cue later last ≡ false
none_shown horizon last [] above early = refl
none_shown horizon last (epoch ∷ later) above early =
    ap (λ live. live || shows_cue later last)
    (none_live horizon last epoch.cues (cues_of_above horizon epoch (flat_map ticks_of later) above) early)
    ∙ none_shown horizon last later (above_right horizon (ticks_of epoch) (flat_map ticks_of later) above) early

or_nothing : (a b : Bool) → b ≡ false → (a || b) ≡ a
or_nothing true b none = refl
or_nothing false b none = none

epoch_shows : (horizon last : ℕ) (old new : Epoch) → EpochGrows horizon old new → last ≤ horizon
    → list_any (is_live last) new.cues ≡ list_any (is_live last) old.cues
epoch_shows horizon last old new grows early =
    ap (λ (cues : List Cue). list_any (is_live last) cues) grows.cues
    ∙ list_any-append (is_live last) old.cues grows.more_cues
    ∙ or_nothing (list_any (is_live last) old.cues) (list_any (is_live last) grows.more_cues)
    (none_live horizon last grows.more_cues grows.cues_above early)

pub shows_stay : (horizon last : ℕ) (old new : List Epoch) → EpochsGrow horizon old new → last ≤ horizon
    → shows_cue new last ≡ shows_cue old last
shows_stay horizon last [] later grow early = none_shown horizon last later grow early
shows_stay horizon last (old ∷ olds) [] grow early = absurd grow
shows_stay horizon last (old ∷ olds) (new ∷ news) grow early =
    ap (λ live. live || shows_cue news last) (epoch_shows horizon last old new grow.0 early)
    ∙ ap (λ more. list_any (is_live last) old.cues || more) (shows_stay horizon last olds news grow.1 early)

-- ---- a cue that is shown ends at a named tick

abbrev pub HasLater : List ℕ → ℕ → Type 0
HasLater ticks last = (tick : ℕ) × Contains ticks tick × (last < tick)

pub either_true : (a b : Bool) → (a || b) ≡ true → (a ≡ true) ⊎ (b ≡ true)
either_true true b is = inl refl
either_true false b is = inr is

later_left : (ticks more : List ℕ) (last : ℕ) → HasLater ticks last → HasLater (ticks ++ more) last
later_left ticks more last (tick, there, after) = (tick, Contains-append_left ticks more tick there, after)

later_right : (ticks more : List ℕ) (last : ℕ) → HasLater more last → HasLater (ticks ++ more) last
later_right ticks more last (tick, there, after) = (tick, Contains-append_right ticks more tick there, after)

live_ends : (start end last : ℕ) → (nat_le start last && nat_lt last end) ≡ true → last < end
live_ends start end last live = grind (arith, nat_tests)

cue_ends : (cues : List Cue) (last : ℕ) → list_any (is_live last) cues ≡ true
    → HasLater (flat_map ticks_of_cue cues) last
cue_ends [] last live = absurd (let no : false ≡ true = live in cc)
cue_ends (cue ∷ cues) last live =
    elim (either_true (is_live last cue) (list_any (is_live last) cues) live) [
      | inl here ↦ later_left (ticks_of_cue cue) (flat_map ticks_of_cue cues) last
          (cue.end, (1, omega arith, refl), live_ends cue.start cue.end last here)
      | inr more ↦ later_right (ticks_of_cue cue) (flat_map ticks_of_cue cues) last (cue_ends cues last more)
    ]

pub shown_ends : (epochs : List Epoch) (last : ℕ) → shows_cue epochs last ≡ true → HasLater (named_ticks epochs) last
shown_ends [] last shown = absurd (let no : false ≡ true = shown in cc)
shown_ends (epoch ∷ epochs) last shown =
    let tick_of : ColourRow → ℕ = λ row. row.tick in
    elim (either_true (list_any (is_live last) epoch.cues) (shows_cue epochs last) shown) [
      | inl here ↦ later_left (ticks_of epoch) (named_ticks epochs) last
          (later_right (epoch.start ∷ []) (map tick_of epoch.colours ++ flat_map ticks_of_cue epoch.cues) last
          (later_right (map tick_of epoch.colours) (flat_map ticks_of_cue epoch.cues) last
          (cue_ends epoch.cues last here)))
      | inr more ↦ later_right (ticks_of epoch) (named_ticks epochs) last (shown_ends epochs last more)
    ]

-- ---- the next named tick

record IsClosest (ticks : List ℕ) (last bound next : ℕ) : Type 0 where
  among : Contains ticks next ⊎ (next ≡ bound)
  after : last < next
  between : All (λ tick. (tick ≤ last) ⊎ (next ≤ tick)) ticks
  most : next ≤ bound

closest : (ticks : List ℕ) (last bound : ℕ) → last < bound → (next : ℕ) × IsClosest ticks last bound next
closest [] last bound above = (
  bound,
  record {
    among = inr refl;
    after = above;
    between = All-none (λ tick. (tick ≤ last) ⊎ (bound ≤ tick));
    most = omega arith;
  },
)
closest (tick ∷ ticks) last bound above =
    let rest = closest ticks last bound above in
    one_more tick ticks last bound rest.0 rest.1
  where
    with_first : (tick : ℕ) (ticks : List ℕ) (last next : ℕ) → (tick ≤ last) ⊎ (next ≤ tick)
        → All (λ tick. (tick ≤ last) ⊎ (next ≤ tick)) ticks → All (λ tick. (tick ≤ last) ⊎ (next ≤ tick)) (tick ∷ ticks)
    with_first tick ticks last next first others =
        All-append (λ tick. (tick ≤ last) ⊎ (next ≤ tick)) (tick ∷ []) ticks
        (All-one (λ tick. (tick ≤ last) ⊎ (next ≤ tick)) tick first) others

    still : (tick : ℕ) (ticks : List ℕ) (bound next : ℕ) → Contains ticks next ⊎ (next ≡ bound)
        → Contains (tick ∷ ticks) next ⊎ (next ≡ bound)
    still tick ticks bound next (inl there) = inl (Contains-append_right (tick ∷ []) ticks next there)
    still tick ticks bound next (inr same) = inr same

    sooner : (last next later tick : ℕ) → next ≤ later → (tick ≤ last) ⊎ (later ≤ tick)
        → (tick ≤ last) ⊎ (next ≤ tick)
    sooner last next later tick less (inl before) = inl before
    sooner last next later tick less (inr behind) = inr (omega (arith, less, behind))

    one_more : (tick : ℕ) (ticks : List ℕ) (last bound next : ℕ) → IsClosest ticks last bound next
        → (other : ℕ) × IsClosest (tick ∷ ticks) last bound other
    one_more tick ticks last bound next found =
        elim (cases_lt last tick) [
          | inl behind ↦ elim (cases_lt tick next) [
            | inl less ↦ (
              tick,
              record {
                among = inl (0, omega arith, refl);
                after = behind;
                between = with_first tick ticks last tick (inr (omega arith))
                    (λ k d within. sooner last tick next (get_or ticks k d) (omega (arith, less))
                    (found.between k d within));
                most = omega (arith, less, found.most);
              },
            )
            | inr more ↦ (
              next,
              record {
                among = still tick ticks bound next found.among;
                after = found.after;
                between = with_first tick ticks last next (inr more) found.between;
                most = found.most;
              },
            )
          ]
          | inr before ↦ (
            next,
            record {
              among = still tick ticks bound next found.among;
              after = found.after;
              between = with_first tick ticks last next (inl before) found.between;
              most = found.most;
            },
          )
        ]

among_them : (ticks : List ℕ) (bound next : ℕ) → Contains ticks bound → Contains ticks next ⊎ (next ≡ bound)
    → Contains ticks next
among_them ticks bound next there (inl here) = here
among_them ticks bound next there (inr same) = subst (λ (tick : ℕ). Contains ticks tick) (sym same) there

-- a named tick with a later one has a neighbour
neighbour : (ticks : List ℕ) (last : ℕ) → Contains ticks last → HasLater ticks last
    → (next : ℕ) × AreNeighbours ticks last next
neighbour ticks last there (bound, later, after) =
    let found = closest ticks last bound after in (
      found.0,
      record {
        has_first = there;
        has_second = among_them ticks bound found.0 later found.1.among;
        order = found.1.after;
        between = found.1.between;
      },
    )

-- ---- instants that stay

-- the next named tick is no nearer than the bound that all nearer ones have
beyond : (ticks : List ℕ) (last next tick : ℕ) → AreNeighbours ticks last next → Contains ticks tick → last < tick
    → next ≤ tick
beyond ticks last next tick beside there after =
    elim (All-contains (λ tick. (tick ≤ last) ⊎ (next ≤ tick)) ticks tick beside.between there) [
      | inl before ↦ absurd (omega (arith, before, after))
      | inr behind ↦ behind
    ]

refresh_goes_on : (horizon : ℕ) (old new : List Epoch) (refresh time : ℕ) → EpochsGrow horizon old new
    → time + REFRESH_ROOM ≤ horizon → IsRefresh old refresh time → IsRefresh new refresh time
refresh_goes_on horizon old new refresh time grow early is =
    let stay = named_stay horizon old new grow in
    let its = is.neighbours in
    let last_early : is.last ≤ horizon = omega (arith, its.order, is.room, is.after, early) in
    let next =
    neighbour (named_ticks new) is.last (stay.kept is.last its.has_first)
    (is.next, stay.kept is.next its.has_second, its.order) in
    record {
      last = is.last;
      next = next.0;
      times = is.times;
      neighbours = next.1;
      shown = shows_stay horizon is.last old new grow last_early ∙ is.shown;
      some = is.some;
      after = is.after;
      room = elim (cases_lt horizon next.0) [
        | inl high ↦ omega (arith, high, early)
        | inr low ↦ omega (
          arith,
          is.room,
          beyond (named_ticks old) is.last is.next next.0 its (stay.back next.0 low next.1.has_second) next.1.order,
        )
      ];
    }

refresh_was_there : (horizon : ℕ) (old new : List Epoch) (refresh time : ℕ) → EpochsGrow horizon old new
    → time + REFRESH_ROOM ≤ horizon → IsRefresh new refresh time → IsRefresh old refresh time
refresh_was_there horizon old new refresh time grow early is =
    let stay = named_stay horizon old new grow in
    let its = is.neighbours in
    let last_early : is.last ≤ horizon = omega (arith, is.after, early) in
    let shown = sym (shows_stay horizon is.last old new grow last_early) ∙ is.shown in
    let next =
    neighbour (named_ticks old) is.last (stay.back is.last last_early its.has_first)
    (shown_ends old is.last shown) in
    record {
      last = is.last;
      next = next.0;
      times = is.times;
      neighbours = next.1;
      shown = shown;
      some = is.some;
      after = is.after;
      room = omega (
        arith,
        is.room,
        beyond (named_ticks new) is.last is.next next.0 its (stay.kept next.0 next.1.has_second) next.1.order,
      );
    }

-- a script that goes on above a horizon keeps its instants up to the room of a refresh below the horizon
pub instants_stay : (horizon : ℕ) (old new : List Epoch) (refresh time : ℕ)
    → EpochsGrow horizon old new → time + REFRESH_ROOM ≤ horizon
    → (IsInstant old refresh time → IsInstant new refresh time)
    × (IsInstant new refresh time → IsInstant old refresh time)
instants_stay horizon old new refresh time grow early = (onward, back)
  where
    onward : IsInstant old refresh time → IsInstant new refresh time
    onward (inl named) = inl ((named_stay horizon old new grow).kept time named)
    onward (inr is) = inr (refresh_goes_on horizon old new refresh time grow early is)

    back : IsInstant new refresh time → IsInstant old refresh time
    back (inl named) = inl ((named_stay horizon old new grow).back time (omega (arith, early)) named)
    back (inr is) = inr (refresh_was_there horizon old new refresh time grow early is)
