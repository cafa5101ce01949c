-- The plan of the script with two regions: its sets at 1, 2, 4 and 5 s, of which the third sends the page again.
use Rattle.std.proofs.Common.{◌≡◌, ◌∙◌, ◌⊎◌, ℕ, zero, suc, ◌+◌, ◌*◌, ◌<◌, ◌≤◌, inl, inr, Bool, true, false, cond, List, [], ◌∷◌, length, filter, sum_by, Some, None, refl, sym, ap, subst, arith}
use Rattle.std.specs.Prelude.{slice_get}
use Rattle.std.specs.List.{Contains, flat_map, range_with_len}
use Rattle.std.specs.List.Sorted.{IsNonDecreasingBy, IsStrictlyIncreasing}
use Rattle.std.proofs.lemmas.List.Elements.{All-from_recursion}
use Rattle.std.proofs.lemmas.List.Sorted.{IsNonDecreasingBy-short, IsPermutation-refl}
use Rattle.sub_base.specs.Profile.{profile_of}
use Rattle.sub_base.specs.declared.profile.ProfileName.TheVariants.{Sd}
use Rattle.stream_syntax.specs.declared.page.State.TheVariants.{Acquisition, ModeChange, Normal}
use Rattle.cue_list.specs.declared.epoch.Epoch.{Epoch}
use Rattle.page_epoch.specs.Instants.{AreInstants, IsInstant, IsRefresh, named_ticks}
use Rattle.page_epoch.specs.Needs.{clut_nodes, pixel_need, node_need}
use Rattle.page_epoch.specs.Plan.{AllBehind, Fits, IsEpochAt, IsNextSet, IsPlan, Needs}
use Rattle.page_epoch.specs.Rows.{IsLeastRow, events_of}
use Rattle.page_epoch.specs.SentRegions.{AreOrdered, drawn_count, filled}
use Rattle.page_epoch.specs.SentCluts.{clut_count, sent_clut, sent_cluts}
use Rattle.page_epoch.specs.States.{seen_of}
use Rattle.page_epoch.specs.declared.events.Event.{Event}
use Rattle.page_epoch.specs.declared.planned_set.PlannedSet.{PlannedSet}
use Rattle.shown_plan.proofs.TwoRegions.Example.{epoch, region_at, script}

-- ---- the sets

-- both regions are shown, and sent with their cues
abbrev pub first_set : PlannedSet
first_set = record {
  pts = 90000;
  state = ModeChange;
  row = 4;
  epoch = 0;
  page_version = 0;
  shown = 0 ∷ 1 ∷ [];
  regions = filled 0 0 (0 ∷ []) ∷ filled 1 0 (1 ∷ []) ∷ [];
  cluts = [];
  cues = 0 ∷ 1 ∷ [];
}

-- region 0 is shown no more
abbrev pub second_set : PlannedSet
second_set = record {
  pts = 180000;
  state = Normal;
  row = 8;
  epoch = 0;
  page_version = 1;
  shown = 1 ∷ [];
  regions = [];
  cluts = [];
  cues = [];
}

-- the page is sent again: both regions with a fill, and region 1 with its cue
abbrev pub third_set : PlannedSet
third_set = record {
  pts = 360000;
  state = Acquisition;
  row = 8;
  epoch = 0;
  page_version = 1;
  shown = 1 ∷ [];
  regions = filled 0 0 [] ∷ filled 1 0 (1 ∷ []) ∷ [];
  cluts = [];
  cues = 1 ∷ [];
}

-- no region is shown
abbrev pub last_set : PlannedSet
last_set = record {
  pts = 450000;
  state = Normal;
  row = 9;
  epoch = 0;
  page_version = 2;
  shown = [];
  regions = [];
  cluts = [];
  cues = [];
}

abbrev pub sets : List PlannedSet
sets = first_set ∷ second_set ∷ third_set ∷ last_set ∷ []

-- ---- instants

abbrev epochs : List Epoch
epochs = epoch ∷ []

abbrev instants : List ℕ
instants = 90000 ∷ 180000 ∷ 360000 ∷ 450000 ∷ []

instants_rise : IsStrictlyIncreasing instants
instants_rise zero inside = omega arith
instants_rise (suc zero) inside = omega arith
instants_rise (suc (suc zero)) inside = omega arith
instants_rise (suc (suc (suc k))) inside = absurd (omega (arith, inside))

-- the ticks that the script names
named : (tick : ℕ) → Contains (named_ticks epochs) tick → (tick ≡ 90000) ⊎ ((tick ≡ 180000) ⊎ (tick ≡ 450000))
named tick (zero, inside, is) = inl (sym is)
named tick (suc zero, inside, is) = inl (sym is)
named tick (suc (suc zero), inside, is) = inr (inl (sym is))
named tick (suc (suc (suc zero)), inside, is) = inl (sym is)
named tick (suc (suc (suc (suc zero))), inside, is) = inr (inr (sym is))
named tick (suc (suc (suc (suc (suc k)))), inside, is) = absurd (omega (arith, inside))

-- between two neighbouring ones of them there is room for one refresh
one_refresh : (last next times tick : ℕ) → last < next → (180000 ≤ last) ⊎ (next ≤ 180000) → 1 ≤ times
    → tick ≡ last + times * 180000 → tick + 3600 < next
    → (last ≡ 90000) ⊎ ((last ≡ 180000) ⊎ (last ≡ 450000)) → (next ≡ 90000) ⊎ ((next ≡ 180000) ⊎ (next ≡ 450000))
    → tick ≡ 360000
one_refresh last next times tick order (inl behind) some after room (inl a) other = absurd (omega (arith, behind, a))
one_refresh last next times tick order (inr before) some after room (inl a) other =
    absurd (omega (arith, some, after, room, before, a))
one_refresh last next times tick order between some after room (inr (inl a)) (inl b) =
    absurd (omega (arith, order, a, b))
one_refresh last next times tick order between some after room (inr (inl a)) (inr (inl b)) =
    absurd (omega (arith, order, a, b))
one_refresh last next times tick order between some after room (inr (inl a)) (inr (inr b)) =
    let few : times ≡ 1 = omega (arith, some, after, room, a, b) in
    after ∙ (λ i. a i + few i * 180000)
one_refresh last next times tick order between some after room (inr (inr a)) (inl b) =
    absurd (omega (arith, order, a, b))
one_refresh last next times tick order between some after room (inr (inr a)) (inr (inl b)) =
    absurd (omega (arith, order, a, b))
one_refresh last next times tick order between some after room (inr (inr a)) (inr (inr b)) =
    absurd (omega (arith, order, a, b))

the_refresh : IsRefresh epochs 180000 360000
the_refresh = record {
  last = 180000;
  next = 450000;
  times = 1;
  neighbours = record {
    has_first = (2, omega arith, refl);
    has_second = (4, omega arith, refl);
    order = omega arith;
    between = All-from_recursion (λ tick. (tick ≤ 180000) ⊎ (450000 ≤ tick)) (named_ticks epochs)
        (inl (omega arith), (inl (omega arith), (inl (omega arith), (inl (omega arith), (inr (omega arith), tt)))));
  };
  shown = refl;
  some = omega arith;
  after = refl;
  room = omega arith;
}

are_instants : AreInstants epochs 180000 instants
are_instants = record {
  rise = instants_rise;
  each = All-from_recursion (IsInstant epochs 180000) instants
      (inl (0, omega arith, refl), (inl (2, omega arith, refl), (inr the_refresh, (inl (4, omega arith, refl), tt))));
  all = found;
}
  where
    at_named : (tick : ℕ) → (tick ≡ 90000) ⊎ ((tick ≡ 180000) ⊎ (tick ≡ 450000)) → Contains instants tick
    at_named tick (inl is) = (0, omega arith, sym is)
    at_named tick (inr (inl is)) = (1, omega arith, sym is)
    at_named tick (inr (inr is)) = (3, omega arith, sym is)

    found : (tick : ℕ) → IsInstant epochs 180000 tick → Contains instants tick
    found tick (inl there) = at_named tick (named tick there)
    found tick (inr again) = (
      2,
      omega arith,
      sym (one_refresh again.last again.next again.times tick again.neighbours.order
          (again.neighbours.between 2 0 (omega arith)) again.some again.after again.room
          (named again.last again.neighbours.has_first) (named again.next again.neighbours.has_second)),
    )

-- ---- each set

none_of : {X Y : Type 0} (f : X → List Y) (test : X → Bool) (xs : List X) → ((x : X) → test x ≡ false)
    → flat_map f (filter test xs) ≡ []
none_of f test [] fails = refl
none_of f test (x ∷ xs) fails =
    ap (λ (b : Bool). flat_map f (cond b (x ∷ filter test xs) (filter test xs))) (fails x) ∙ none_of f test xs fails

-- an epoch without colours has no CLUTs
no_cluts : (whole : Bool) (seen : List ℕ) → sent_cluts [] whole seen ≡ []
no_cluts whole seen =
    none_of (sent_clut [] whole seen) (λ clut. false) (range_with_len 0 clut_count) (λ clut. refl)

rising : {X : Type 0} (number : X → ℕ) (a b : X) → number a ≤ number b → IsNonDecreasingBy number (a ∷ b ∷ [])
rising number a b h zero zero d less inside = omega arith
rising number a b h zero (suc zero) d less inside = h
rising number a b h zero (suc (suc j)) d less inside = absurd (omega (arith, inside))
rising number a b h (suc i) zero d less inside = absurd (omega (arith, less))
rising number a b h (suc zero) (suc zero) d less inside = omega arith
rising number a b h (suc (suc i)) (suc zero) d less inside = absurd (omega (arith, less))
rising number a b h (suc i) (suc (suc j)) d less inside = absurd (omega (arith, inside))

by_id : AreOrdered (λ region. region.id) epoch.regions epoch.regions
by_id = record {
  same = IsPermutation-refl epoch.regions;
  rise = rising (λ region. region.id) (region_at 0 0) (region_at 1 1) (omega arith);
}

by_y : AreOrdered (λ region. region.y) epoch.regions epoch.regions
by_y = record {
  same = IsPermutation-refl epoch.regions;
  rise = rising (λ region. region.y) (region_at 0 0) (region_at 1 1) (omega arith);
}

at_epoch : (tick : ℕ) → 90000 ≤ tick → IsEpochAt epochs tick 0 epoch
at_epoch tick started = record { found = refl; started = started; last = only }
  where
    only : (later : ℕ) (other : Epoch) → 0 < later → slice_get epochs later ≡ Some other → tick < other.start
    only zero other behind found = absurd (omega (arith, behind))
    only (suc later) other behind found = absurd (let no : None ≡ Some other = found in cc)

abbrev events : List Event
events = flat_map events_of epochs

least_first : IsLeastRow events 90000 4
least_first = record {
  among = (0, omega arith, refl);
  least = All-from_recursion (λ (other : Event). other.tick ≡ 90000 → 4 ≤ other.row) events
      (λ is. omega arith, (λ is. omega arith, (λ is. omega arith, (λ is. omega arith, (λ is. omega arith, tt)))));
}

least_second : IsLeastRow events 180000 8
least_second = record {
  among = (2, omega arith, refl);
  least = All-from_recursion (λ (other : Event). other.tick ≡ 180000 → 8 ≤ other.row) events (
    λ is. absurd
        (omega (arith, is)),
    (λ is. omega arith, (λ is. omega arith, (λ is. omega arith, (λ is. omega arith, tt)))),
  );
}

least_last : IsLeastRow events 450000 9
least_last = record {
  among = (4, omega arith, refl);
  least = All-from_recursion (λ (other : Event). other.tick ≡ 450000 → 9 ≤ other.row) events (
    λ is. absurd (omega (arith, is)),
    (
      λ is. absurd
          (omega (arith, is)),
      (λ is. absurd (omega (arith, is)), (λ is. omega arith, (λ is. omega arith, tt))),
    ),
  );
}

first_next : IsNextSet epochs 180000 [] first_set
first_next = record {
  epoch = epoch;
  place = at_epoch 90000 (omega arith);
  row =
      record {
        of_named = λ is. least_first;
        of_refresh = λ not_named. absurd
            (let no : true ≡ false = not_named in cc);
      };
  state = refl;
  version = refl;
  carried = record {
    shown = record { by_y = epoch.regions; ordered = by_y; is = refl };
    regions = record { by_id = epoch.regions; ordered = by_id; is = refl };
    cluts = sym (no_cluts true (90000 ∷ []));
    cues = IsPermutation-refl (0 ∷ 1 ∷ []);
    in_order = rising (λ place. place) 0 1 (omega arith);
  };
}

second_next : IsNextSet epochs 180000 (first_set ∷ []) second_set
second_next = record {
  epoch = epoch;
  place = at_epoch 180000 (omega arith);
  row =
      record {
        of_named = λ is. least_second;
        of_refresh = λ not_named. absurd
            (let no : true ≡ false = not_named in cc);
      };
  state = refl;
  version = refl;
  carried = record {
    shown = record { by_y = epoch.regions; ordered = by_y; is = refl };
    regions = record { by_id = epoch.regions; ordered = by_id; is = refl };
    cluts = sym (no_cluts false (180000 ∷ 90000 ∷ []));
    cues = IsPermutation-refl [];
    in_order = IsNonDecreasingBy-short (λ place. place) [] (omega arith);
  };
}

third_next : IsNextSet epochs 180000 (second_set ∷ first_set ∷ []) third_set
third_next = record {
  epoch = epoch;
  place = at_epoch 360000 (omega arith);
  row = record { of_named = λ is. absurd (let no : false ≡ true = is in cc); of_refresh = λ not_named. refl };
  state = refl;
  version = refl;
  carried = record {
    shown = record { by_y = epoch.regions; ordered = by_y; is = refl };
    regions = record { by_id = epoch.regions; ordered = by_id; is = refl };
    cluts = sym (no_cluts true (360000 ∷ 180000 ∷ 90000 ∷ []));
    cues = IsPermutation-refl (1 ∷ []);
    in_order = IsNonDecreasingBy-short (λ place. place) (1 ∷ []) (omega arith);
  };
}

last_next : IsNextSet epochs 180000 (third_set ∷ second_set ∷ first_set ∷ []) last_set
last_next = record {
  epoch = epoch;
  place = at_epoch 450000 (omega arith);
  row =
      record {
        of_named = λ is. least_last;
        of_refresh = λ not_named. absurd
            (let no : true ≡ false = not_named in cc);
      };
  state = refl;
  version = refl;
  carried = record {
    shown = record { by_y = epoch.regions; ordered = by_y; is = refl };
    regions = record { by_id = epoch.regions; ordered = by_id; is = refl };
    cluts = sym (no_cluts false (450000 ∷ 360000 ∷ 180000 ∷ 90000 ∷ []));
    cues = IsPermutation-refl [];
    in_order = IsNonDecreasingBy-short (λ place. place) [] (omega arith);
  };
}

-- what holds of each set behind those before it
all_behind : (P : List PlannedSet → PlannedSet → Type 0) → P [] first_set → P (first_set ∷ []) second_set
    → P (second_set ∷ first_set ∷ []) third_set → P (third_set ∷ second_set ∷ first_set ∷ []) last_set
    → AllBehind P sets
all_behind P a b c d zero set found = let same : first_set ≡ set = cc in subst (P []) same a
all_behind P a b c d (suc zero) set found = let same : second_set ≡ set = cc in subst (P (first_set ∷ [])) same b
all_behind P a b c d (suc (suc zero)) set found =
    let same : third_set ≡ set = cc in subst (P (second_set ∷ first_set ∷ [])) same c
all_behind P a b c d (suc (suc (suc zero))) set found =
    let same : last_set ≡ set = cc in subst (P (third_set ∷ second_set ∷ first_set ∷ [])) same d
all_behind P a b c d (suc (suc (suc (suc n)))) set found = absurd (let no : None ≡ Some set = found in cc)

needs : (past : List PlannedSet) (set : PlannedSet) → set.epoch ≡ 0
    → Needs epochs past set (pixel_need epoch.regions) (node_need epoch (seen_of 90000 past set.pts) (length set.shown))
needs past set is = record {
  epoch = epoch;
  found = ap (slice_get epochs) is;
  pixels_are = refl;
  nodes_are = refl;
}

fits : (past : List PlannedSet) (set : PlannedSet) → set.epoch ≡ 0
    → length set.shown + sum_by (λ region. drawn_count epoch.cues region.id (seen_of 90000 past set.pts)) epoch.regions
    ≤ 10
    → Fits epochs (profile_of Sd) past set
fits past set is few = record {
  pixels = pixel_need epoch.regions;
  nodes = node_need epoch (seen_of 90000 past set.pts) (length set.shown);
  needs = needs past set is;
  has_pixels = omega arith;
  has_nodes = omega (arith, few, ap clut_nodes (no_cluts true (seen_of 90000 past set.pts)));
}

pub is_plan : IsPlan script (profile_of Sd) sets
is_plan = record {
  display = record { across = omega arith; down = omega arith };
  planned = record {
    instants = instants;
    are_instants = are_instants;
    first = record {
      times = refl;
      few = omega arith;
      each = all_behind (IsNextSet epochs 180000) first_next second_next third_next last_next;
      fit = all_behind (Fits epochs (profile_of Sd)) (fits [] first_set refl (omega arith))
          (fits (first_set ∷ []) second_set refl (omega arith))
          (fits (second_set ∷ first_set ∷ []) third_set refl (omega arith))
          (fits (third_set ∷ second_set ∷ first_set ∷ []) last_set refl (omega arith));
    };
    all = refl;
  };
}
