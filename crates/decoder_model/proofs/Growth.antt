-- More packets only add sets and losses at the end, while the stream has not ended.
use Rattle.std.proofs.Common.{◌≡◌, ◌∙◌, ℕ, ◌+◌, Bool, true, false, ◌||◌, cond, eqb, ltb, List, [], ◌∷◌, ◌++◌, length, map, Option, Some, None, refl, sym, ap, arith, append_assoc}
use Rattle.std.specs.Prelude.{find, flat_map, unwrap_or}
use Rattle.std.specs.Bool.{if◌then◌else◌}
use Rattle.std.specs.List.{sum_by, list_any}
use Rattle.std.specs.Option.{option_map, option_or, is_some}
use Rattle.std.proofs.lemmas.Bool.Decides.{nat_tests}
use Rattle.std.proofs.lemmas.List.Sums.{sum_by-append}
use Rattle.stream_syntax.specs.Units.{each_after}
use Rattle.decoder_model.specs.declared.pages.Pages.{Pages}
use Rattle.decoder_model.specs.Arrivals.{PesUnit, Arrival, loss, refused_unit, aside, unit, arrivals_at, packets_taken, arrivals_of}
use Rattle.stream_syntax.specs.DataField.{Frame, segment, broken}
use Rattle.decoder_model.specs.Frames.{segments_in, bytes_in, is_end, fault_of}
use Rattle.sub_base.specs.Lists.{prefixes}
use Rattle.decoder_model.specs.Sets.{Stretch, loss_between, run, runs_of, joined_to, Delivery, lost, has_ended, sets_of, is_ended, frames_in, size_in, units_to_end, set_of, handed, first_fault_in, excess_in, is_followed, sets_in}
use Rattle.decoder_model.proofs.Lists.{find-map}
use Rattle.decoder_model.proofs.SentUnits.{each_after-append}

-- ---- runs grow at their end

-- of two lists of runs the second goes on where the first ends: with more units of its last run, and more runs
pub data Grows : List Stretch → List Stretch → Type 0 where
  none_yet : {rest : List Stretch} → Grows [] rest
  loss_too : {some all : List Stretch} → Grows some all → Grows (loss_between ∷ some) (loss_between ∷ all)
  run_last : {first : PesUnit} {units : List PesUnit} {rest : List Stretch} (further : List PesUnit)
      → Grows (run first units ∷ []) (run first (units ++ further) ∷ rest)
  run_too : {first : PesUnit} {units : List PesUnit} {next : Stretch} {some all : List Stretch}
      → Grows (next ∷ some) all → Grows (run first units ∷ next ∷ some) (run first units ∷ all)

alone : (one : PesUnit) (all : List Stretch) → Grows (run one [] ∷ []) (joined_to one all)
alone one [] = run_last []
alone one (loss_between ∷ rest) = run_last []
alone one (run next units ∷ rest) = by (eqb one.time next.time)
  where
    by : (same : Bool)
        → Grows (run one [] ∷ [])
        (if same then run one (next ∷ units) ∷ rest else run one [] ∷ run next units ∷ rest)
    by true = run_last (next ∷ units)
    by false = run_last []

joined_grows : (one : PesUnit) (some all : List Stretch) → Grows some all
    → Grows (joined_to one some) (joined_to one all)
joined_grows one some all (none_yet) = alone one all
joined_grows one some all (loss_too more) = run_too (loss_too more)
joined_grows one some all (run_last {first = next} {units = units} {rest = rest} further) = by (eqb one.time next.time)
  where
    by : (same : Bool)
        → Grows (if same then run one (next ∷ units) ∷ [] else run one [] ∷ run next units ∷ [])
        (if same then run one (next ∷ (units ++ further)) ∷ rest
        else run one [] ∷ run next (units ++ further) ∷ rest)
    by true = run_last further
    by false = run_too (run_last further)
joined_grows one some all
    (run_too {first = next} {units = units} {next = after} {some = behind} {all = more} grows) = by
    (eqb one.time next.time)
  where
    by : (same : Bool)
        → Grows (if same then run one (next ∷ units) ∷ after ∷ behind
        else run one [] ∷ run next units ∷ after ∷ behind)
        (if same then run one (next ∷ units) ∷ more else run one [] ∷ run next units ∷ more)
    by true = run_too grows
    by false = run_too (run_too grows)

pub runs_grow : (arrivals more : List Arrival) → Grows (runs_of arrivals) (runs_of (arrivals ++ more))
runs_grow [] more = none_yet
runs_grow (loss ∷ arrivals) more = loss_too (runs_grow arrivals more)
runs_grow (refused_unit ∷ arrivals) more = loss_too (runs_grow arrivals more)
runs_grow (aside ∷ arrivals) more = runs_grow arrivals more
runs_grow (unit one ∷ arrivals) more =
    joined_grows one (runs_of arrivals) (runs_of (arrivals ++ more)) (runs_grow arrivals more)

-- ---- what has ended stays so

-- what is found among the prefixes of a list is found among those of a longer one
pub found_more : {X : Type 0} (test : List X → Bool) (xs ys : List X) (front : List X)
    → find test (prefixes xs) ≡ Some front → find test (prefixes (xs ++ ys)) ≡ Some front
found_more test [] ys front e = absurd (cc)
found_more {X} test (x ∷ xs) ys front e =
    by (test (x ∷ [])) (found_more (λ (behind : List X). test (x ∷ behind)) xs ys) e
  where
    moved : (zs : List X)
        → find test (map (λ (behind : List X). x ∷ behind) (prefixes zs))
        ≡ option_map (λ (behind : List X). x ∷ behind)
        (find (λ (behind : List X). test (x ∷ behind)) (prefixes zs))
    moved zs = find-map test (λ (behind : List X). x ∷ behind) (prefixes zs)

    behind_first : ((rest : List X) → find (λ (behind : List X). test (x ∷ behind)) (prefixes xs) ≡ Some rest
        → find (λ (behind : List X). test (x ∷ behind)) (prefixes (xs ++ ys)) ≡ Some rest)
        → (found : Option (List X)) → find (λ (behind : List X). test (x ∷ behind)) (prefixes xs) ≡ found
        → option_map (λ (behind : List X). x ∷ behind) found ≡ Some front
        → option_map (λ (behind : List X). x ∷ behind)
        (find (λ (behind : List X). test (x ∷ behind)) (prefixes (xs ++ ys))) ≡ Some front
    behind_first again None is e = absurd (cc)
    behind_first again (Some rest) is e = ap (option_map (λ (behind : List X). x ∷ behind)) (again rest is) ∙ e

    by : (b : Bool)
        → ((rest : List X) → find (λ (behind : List X). test (x ∷ behind)) (prefixes xs) ≡ Some rest
        → find (λ (behind : List X). test (x ∷ behind)) (prefixes (xs ++ ys)) ≡ Some rest)
        → cond b (Some (x ∷ [])) (find test (map (λ (behind : List X). x ∷ behind) (prefixes xs))) ≡ Some front
        → cond b (Some (x ∷ [])) (find test (map (λ (behind : List X). x ∷ behind) (prefixes (xs ++ ys))))
        ≡ Some front
    by true again e = e
    by false again e =
        moved (xs ++ ys)
        ∙ behind_first again (find (λ (behind : List X). test (x ∷ behind)) (prefixes xs)) refl
        (sym (moved xs) ∙ e)

-- ---- ended prefixes

pub any_front : {X : Type 0} (test : X → Bool) (xs ys : List X) → list_any test xs ≡ true
    → list_any test (xs ++ ys) ≡ true
any_front test [] ys e = absurd (cc)
any_front {X} test (x ∷ xs) ys e = by (test x) (any_front test xs ys) e
  where
    by : (b : Bool) → (list_any test xs ≡ true → list_any test (xs ++ ys) ≡ true)
        → (b || list_any test xs) ≡ true → (b || list_any test (xs ++ ys)) ≡ true
    by true again e = refl
    by false again e = again e

pub segments-append : (xs ys : List Frame) → segments_in (xs ++ ys) ≡ segments_in xs ++ segments_in ys
segments-append [] ys = refl
segments-append (segment bytes ∷ xs) ys = ap (λ rest. bytes ∷ rest) (segments-append xs ys)
segments-append (broken fault ∷ xs) ys = segments-append xs ys

or_true : (a b c : Bool) → b ≡ true → (a || b || c) ≡ true
or_true true b c e = refl
or_true false b c e = rw e refl

or_last : (a b c : Bool) → c ≡ true → (a || b || c) ≡ true
or_last true b c e = refl
or_last false true c e = refl
or_last false false c e = e

-- an ended front makes what it begins ended
pub ended_more : (coded : ℕ) (xs ys : List Frame) → is_ended coded xs ≡ true
    → is_ended coded (xs ++ ys) ≡ true
ended_more coded xs ys e =
    by (list_any is_end xs) (list_any (λ frame. is_some (fault_of frame)) xs) (ltb coded (bytes_in xs))
    (any_front is_end xs ys) (any_front (λ frame. is_some (fault_of frame)) xs ys) more e
  where
    more : ltb coded (bytes_in xs) ≡ true → ltb coded (bytes_in (xs ++ ys)) ≡ true
    more full =
        let sum : bytes_in (xs ++ ys) ≡ bytes_in xs + bytes_in ys = ap (sum_by length) (segments-append xs ys)
        ∙ sum_by-append length (segments_in xs) (segments_in ys) in grind (arith, nat_tests)

    by : (a b c : Bool) → (a ≡ true → list_any is_end (xs ++ ys) ≡ true)
        → (b ≡ true → list_any (λ frame. is_some (fault_of frame)) (xs ++ ys) ≡ true)
        → (c ≡ true → ltb coded (bytes_in (xs ++ ys)) ≡ true)
        → (a || b || c) ≡ true → is_ended coded (xs ++ ys) ≡ true
    by true b c ha hb hc e = rw (ha refl) refl
    by false true c ha hb hc e =
        or_true (list_any is_end (xs ++ ys)) (list_any (λ frame. is_some (fault_of frame)) (xs ++ ys))
        (ltb coded (bytes_in (xs ++ ys))) (hb refl)
    by false false true ha hb hc e =
        or_last (list_any is_end (xs ++ ys)) (list_any (λ frame. is_some (fault_of frame)) (xs ++ ys))
        (ltb coded (bytes_in (xs ++ ys))) (hc refl)
    by false false false ha hb hc e = absurd (cc)

pub frames-append : (xs ys : List PesUnit) → frames_in (xs ++ ys) ≡ frames_in xs ++ frames_in ys
frames-append [] ys = refl
frames-append (one ∷ xs) ys =
    ap (λ rest. one.frames ++ rest) (frames-append xs ys)
    ∙ sym (append_assoc one.frames (frames_in xs) (frames_in ys))

-- where a prefix is found, it passes
pub found_passes : {X : Type 0} (test : X → Bool) (xs : List X) (found : X) → find test xs ≡ Some found
    → test found ≡ true
found_passes test [] found e = absurd (cc)
found_passes {X} test (x ∷ xs) found e = by (test x) refl (found_passes test xs found) e
  where
    by : (b : Bool) → test x ≡ b → (find test xs ≡ Some found → test found ≡ true)
        → cond b (Some x) (find test xs) ≡ Some found → test found ≡ true
    by true is again e = let same : x ≡ found = cc in ap test (sym same) ∙ is
    by false is again e = again e

-- and it is a prefix
pub found_is_front : {X : Type 0} (test : List X → Bool) (xs front : List X)
    → find test (prefixes xs) ≡ Some front → (rest : List X) × (xs ≡ front ++ rest)
found_is_front test [] front e = absurd (cc)
found_is_front {X} test (x ∷ xs) front e =
    by (test (x ∷ [])) (found_is_front (λ (behind : List X). test (x ∷ behind)) xs) e
  where
    moved : find test (map (λ (behind : List X). x ∷ behind) (prefixes xs))
        ≡ option_map (λ (behind : List X). x ∷ behind)
        (find (λ (behind : List X). test (x ∷ behind)) (prefixes xs))
    moved = find-map test (λ (behind : List X). x ∷ behind) (prefixes xs)

    behind_first : ((front : List X) → find (λ (behind : List X). test (x ∷ behind)) (prefixes xs) ≡ Some front
        → (rest : List X) × (xs ≡ front ++ rest)) → (found : Option (List X))
        → find (λ (behind : List X). test (x ∷ behind)) (prefixes xs) ≡ found
        → option_map (λ (behind : List X). x ∷ behind) found ≡ Some front → (rest : List X)
        × (x ∷ xs ≡ front ++ rest)
    behind_first again None is e = absurd (cc)
    behind_first again (Some first) is e =
        let there = again first is in
        let same : x ∷ first ≡ front = cc in
        (there.0, ap (λ all. x ∷ all) there.1 ∙ ap (λ all. all ++ there.0) same)

    by : (b : Bool)
        → ((front : List X) → find (λ (behind : List X). test (x ∷ behind)) (prefixes xs) ≡ Some front
        → (rest : List X) × (xs ≡ front ++ rest))
        → cond b (Some (x ∷ [])) (find test (map (λ (behind : List X). x ∷ behind) (prefixes xs)))
        ≡ Some front → (rest : List X) × (x ∷ xs ≡ front ++ rest)
    by true again e = let same : x ∷ [] ≡ front = cc in (xs, ap (λ all. all ++ xs) same)
    by false again e =
        behind_first again (find (λ (behind : List X). test (x ∷ behind)) (prefixes xs)) refl (sym moved ∙ e)

-- where the whole list passes, some front is found
pub whole_is_found : {X : Type 0} (test : List X → Bool) (x : X) (xs : List X) → test (x ∷ xs) ≡ true
    → (front : List X) × (find test (prefixes (x ∷ xs)) ≡ Some front)
whole_is_found {X} test x [] e = (x ∷ [], ap (λ passes. cond passes (Some (x ∷ [])) None) e)
whole_is_found {X} test x (y ∷ ys) e =
    by (test (x ∷ [])) (whole_is_found (λ (behind : List X). test (x ∷ behind)) y ys e)
  where
    by : (b : Bool) → (front : List X)
        × (find (λ (behind : List X). test (x ∷ behind)) (prefixes (y ∷ ys)) ≡ Some front)
        → (front : List X)
        × (cond b (Some (x ∷ [])) (find test (map (λ (behind : List X). x ∷ behind) (prefixes (y ∷ ys))))
        ≡ Some front)
    by true there = (x ∷ [], refl)
    by false there = (
      x ∷ there.0,
      find-map test (λ (behind : List X). x ∷ behind) (prefixes (y ∷ ys))
          ∙ ap (option_map (λ (behind : List X). x ∷ behind)) there.1,
    )

-- ---- sets

-- a run that has its end keeps the units up to it
pub same_units : (coded : ℕ) (first : PesUnit) (units further : List PesUnit) (front : List Frame)
    → find (is_ended coded) (prefixes (frames_in (first ∷ units))) ≡ Some front
    → units_to_end coded (first ∷ (units ++ further)) ≡ units_to_end coded (first ∷ units)
same_units coded first units further front e =
    let there = found_is_front (is_ended coded) (frames_in (first ∷ units)) front e in
    let passes = found_passes (is_ended coded) (prefixes (frames_in (first ∷ units))) front e in
    let all : is_ended coded (frames_in (first ∷ units)) ≡ true =
    ap (is_ended coded) there.1 ∙ ended_more coded front there.0 passes in
    let found = whole_is_found (λ (front : List PesUnit). is_ended coded (frames_in front)) first units all in
    ap (λ one. unwrap_or one (first ∷ (units ++ further)))
    (found_more (λ (front : List PesUnit). is_ended coded (frames_in front)) (first ∷ units) further found.0
    found.1)
    ∙ sym (ap (λ one. unwrap_or one (first ∷ units)) found.1)

same_follow : (next : Stretch) (some all : List Stretch) → Grows (next ∷ some) all
    → is_followed false (next ∷ some) ≡ is_followed false all
same_follow next some all (loss_too more) = refl
same_follow next some all (run_last further) = refl
same_follow next some all (run_too more) = refl

-- a run that has its end gives the same set with more units behind it, whatever follows
pub ended_run : (coded : ℕ) (first : PesUnit) (units further : List PesUnit) (front : List Frame)
    (followed after : Bool) → find (is_ended coded) (prefixes (frames_in (first ∷ units))) ≡ Some front
    → set_of coded first.time (first ∷ (units ++ further)) after
    (find (is_ended coded) (prefixes (frames_in (first ∷ (units ++ further)))))
    ≡ set_of coded first.time (first ∷ units) followed (Some front)
ended_run coded first units further front followed after e =
    let longer : frames_in (first ∷ (units ++ further)) ≡ frames_in (first ∷ units) ++ frames_in further =
    frames-append (first ∷ units) further in
    ap (λ frames. set_of coded first.time (first ∷ (units ++ further)) after
    (find (is_ended coded) (prefixes frames))) longer
    ∙ ap (set_of coded first.time (first ∷ (units ++ further)) after)
    (found_more (is_ended coded) (frames_in (first ∷ units)) (frames_in further) front e)
    ∙ ap (λ ends. handed first.time (size_in ends) front (option_or (first_fault_in front) (excess_in coded front))
    ∷ []) (same_units coded first units further front e)

-- the last run, with more units behind it
last_grows : (coded : ℕ) (first : PesUnit) (units further : List PesUnit) (rest : List Stretch)
    (found : Option (List Frame)) → find (is_ended coded) (prefixes (frames_in (first ∷ units))) ≡ found
    → (more : List (Delivery (List ℕ)))
    × (sets_in coded false (run first (units ++ further) ∷ rest)
    ≡ (set_of coded first.time (first ∷ units) false found ++ []) ++ more)
last_grows coded first units further rest None e = (sets_in coded false (run first (units ++ further) ∷ rest), refl)
last_grows coded first units further rest (Some front) e = (
  sets_in coded false rest,
  ap (λ sets. sets ++ sets_in coded false rest)
      (ended_run coded first units further front false (is_followed false rest) e),
)

sets_grow : (coded : ℕ) (some all : List Stretch) → Grows some all → (more : List (Delivery (List ℕ)))
    × (sets_in coded false all ≡ sets_in coded false some ++ more)
sets_grow coded some all (none_yet) = (sets_in coded false all, refl)
sets_grow coded some all (loss_too {some = behind} {all = behind_all} grows) =
    let rest = sets_grow coded behind behind_all grows in (rest.0, ap (λ sets. lost ∷ sets) rest.1)
sets_grow coded some all (run_last {first = first} {units = units} {rest = rest} further) = last_grows coded first units
    further rest (find (is_ended coded) (prefixes (frames_in (first ∷ units)))) refl
sets_grow coded some all
    (run_too {first = first} {units = units} {next = next} {some = behind} {all = behind_all} grows) =
    let rest = sets_grow coded (next ∷ behind) behind_all grows in
    let here =
    set_of coded first.time (first ∷ units) (is_followed false (next ∷ behind))
    (find (is_ended coded) (prefixes (frames_in (first ∷ units)))) in (
      rest.0,
      ap (λ followed. set_of coded first.time (first ∷ units) followed
          (find (is_ended coded) (prefixes (frames_in (first ∷ units)))) ++ sets_in coded false behind_all)
          (sym (same_follow next behind behind_all grows))
          ∙ ap (λ sets. here ++ sets) rest.1
          ∙ sym (append_assoc here (sets_in coded false (next ∷ behind)) rest.0),
    )

-- with more arrivals
pub arrivals_add : (coded : ℕ) (arrivals more : List Arrival) → (added : List (Delivery (List ℕ)))
    × (sets_in coded false (runs_of (arrivals ++ more)) ≡ sets_in coded false (runs_of arrivals) ++ added)
arrivals_add coded arrivals more =
    sets_grow coded (runs_of arrivals) (runs_of (arrivals ++ more)) (runs_grow arrivals more)

-- ---- packets

pub flat-append : {X : Type 0} (xs ys : List (List X))
    → flat_map (λ (x : List X). x) (xs ++ ys) ≡ flat_map (λ (x : List X). x) xs
    ++ flat_map (λ (x : List X). x) ys
flat-append [] ys = refl
flat-append {X} (x ∷ xs) ys =
    ap {B = List X} (λ rest. x ++ rest) (flat-append xs ys)
    ∙ sym (append_assoc x (flat_map (λ (x : List X). x) xs) (flat_map (λ (x : List X). x) ys))

-- behind packets that are all taken, more packets, all taken too, only add sets and losses at the end
pub packets_add : (coded pid : ℕ) (pages : Pages) (packets more : List (List ℕ))
    → packets_taken pid packets ≡ packets → packets_taken pid (packets ++ more) ≡ packets ++ more
    → (added : List (Delivery (List ℕ)))
    × (sets_of coded pid pages false (packets ++ more) ≡ sets_of coded pid pages false packets ++ added)
unfolding sets_of arrivals_of has_ended
packets_add coded pid pages packets more taken all =
    let each = each_after-append (arrivals_at coded pid pages) [] packets more in
    let front = each_after (arrivals_at coded pid pages) [] packets in
    let behind = each_after (arrivals_at coded pid pages) packets more in
    let grown =
    arrivals_add coded (flat_map (λ (arrivals : List Arrival). arrivals) front)
    (flat_map (λ (arrivals : List Arrival). arrivals) behind) in (
      grown.0,
      ap (λ found. sets_in coded false
          (runs_of (flat_map (λ (arrivals : List Arrival). arrivals)
          (each_after (arrivals_at coded pid pages) [] found)))) all
          ∙ ap (λ found. sets_in coded false (runs_of (flat_map (λ (arrivals : List Arrival). arrivals) found)))
          each
          ∙ ap (λ found. sets_in coded false (runs_of found)) (flat-append front behind)
          ∙ grown.1
          ∙ ap (λ found. sets_in coded false
          (runs_of (flat_map (λ (arrivals : List Arrival). arrivals)
          (each_after (arrivals_at coded pid pages) [] found))) ++ grown.0) (sym taken),
    )
