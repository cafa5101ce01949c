-- With one packet come losses and then at most two sets: that of a run in hand, which a unit of another time makes
-- ready, and that which the unit ends.
use Rattle.std.proofs.Common.{◌≡◌, ◌∙◌, ℕ, ◌+◌, ◌≤◌, Bool, true, false, eqb, List, [], ◌∷◌, ◌++◌, length, Option, Some, None, refl, sym, ap, subst, arith, append-nil, append_assoc, length-append}
use Rattle.std.specs.Prelude.{find, flat_map}
use Rattle.std.specs.Bool.{if◌then◌else◌}
use Rattle.std.specs.List.{AllByRecursion}
use Rattle.stream_syntax.specs.Units.{each_after, event_at, unit_at, is_loss}
use Rattle.decoder_model.specs.declared.pages.Pages.{Pages}
use Rattle.decoder_model.specs.Arrivals.{PesUnit, Arrival, loss, refused_unit, aside, unit, arrival_of_unit, units_at, arrivals_at, packets_taken, arrivals_of}
use Rattle.stream_syntax.specs.DataField.{Frame}
use Rattle.sub_base.specs.Lists.{prefixes}
use Rattle.decoder_model.specs.Sets.{Stretch, loss_between, run, runs_of, joined_to, Delivery, lost, whole, refused, has_ended, sets_of, is_ended, frames_in, set_of, handed, is_followed, sets_in}
use Rattle.decoder_model.specs.declared.set_fault.SetFault.{SetFault}
use Rattle.decoder_model.proofs.Growth.{ended_run, flat-append}
use Rattle.decoder_model.proofs.Lists.{all-append}
use Rattle.decoder_model.proofs.SentUnits.{each_after-append}

-- ---- what a set is, and how many

abbrev pub IsSet : Delivery (List ℕ) → Type 0
IsSet lost = ⊥
IsSet (whole time size segments) = Unit {0}
IsSet (refused time size fault) = Unit {0}

-- what comes is sets, at most so many
pub record AreFew (most : ℕ) (sets : List (Delivery (List ℕ))) : Type 0 where
  pub each : AllByRecursion IsSet sets
  pub few : length sets ≤ most

handed_is_set : (time size : ℕ) (front : List Frame) (fault : Option SetFault)
    → IsSet (handed time size front fault)
handed_is_set time size front None = tt
handed_is_set time size front (Some fault) = tt

set_of_few : (coded time : ℕ) (units : List PesUnit) (followed : Bool) (found : Option (List Frame))
    → AreFew 1 (set_of coded time units followed found)
set_of_few coded time units followed (Some front) =
    record { each = (handed_is_set time _ front _, tt); few = omega arith }
set_of_few coded time units true None = record { each = (tt, tt); few = omega arith }
set_of_few coded time units false None = record { each = tt; few = omega arith }

few_both : (m n : ℕ) (xs ys : List (Delivery (List ℕ))) → AreFew m xs → AreFew n ys
    → AreFew (m + n) (xs ++ ys)
few_both m n xs ys h k =
    let one = h.few in let two = k.few in
    record { each = all-append IsSet xs ys h.each k.each; few = omega (arith, length-append xs ys) }

few_none : (n : ℕ) → AreFew n []
few_none n = record { each = tt; few = omega arith }

few_more : (m n : ℕ) (xs : List (Delivery (List ℕ))) → m ≤ n → AreFew m xs → AreFew n xs
few_more m n xs le h = let few = h.few in record { each = h.each; few = omega arith }

-- ---- a unit more

-- the runs with one unit more: it begins them, is one more of the last run, or begins a run behind it
pub data AddsUnit (one : PesUnit) : List Stretch → List Stretch → Type 0 where
  begins : AddsUnit one [] (run one [] ∷ [])
  same_run : {first : PesUnit} {units : List PesUnit}
      → AddsUnit one (run first units ∷ []) (run first (units ++ one ∷ []) ∷ [])
  other_run : {first : PesUnit} {units : List PesUnit}
      → AddsUnit one (run first units ∷ []) (run first units ∷ run one [] ∷ [])
  behind_loss : {some all : List Stretch} → AddsUnit one some all
      → AddsUnit one (loss_between ∷ some) (loss_between ∷ all)
  behind_run : {first : PesUnit} {units : List PesUnit} {next : Stretch} {some all : List Stretch}
      → AddsUnit one (next ∷ some) all
      → AddsUnit one (run first units ∷ next ∷ some) (run first units ∷ all)

joined_adds : (one ahead : PesUnit) (some all : List Stretch) → AddsUnit one some all
    → AddsUnit one (joined_to ahead some) (joined_to ahead all)
joined_adds one ahead some all (begins) = by (eqb ahead.time one.time)
  where
    by : (same : Bool)
        → AddsUnit one (run ahead [] ∷ [])
        (if same then run ahead (one ∷ []) ∷ [] else run ahead [] ∷ run one [] ∷ [])
    by true = same_run
    by false = other_run
joined_adds one ahead some all (same_run {first = first} {units = units}) = by (eqb ahead.time first.time)
  where
    by : (same : Bool)
        → AddsUnit one (if same then run ahead (first ∷ units) ∷ [] else run ahead [] ∷ run first units ∷ [])
        (if same then run ahead (first ∷ (units ++ one ∷ [])) ∷ []
        else run ahead [] ∷ run first (units ++ one ∷ []) ∷ [])
    by true = same_run
    by false = behind_run same_run
joined_adds one ahead some all (other_run {first = first} {units = units}) = by (eqb ahead.time first.time)
  where
    by : (same : Bool)
        → AddsUnit one (if same then run ahead (first ∷ units) ∷ [] else run ahead [] ∷ run first units ∷ [])
        (if same then run ahead (first ∷ units) ∷ run one [] ∷ []
        else run ahead [] ∷ run first units ∷ run one [] ∷ [])
    by true = other_run
    by false = behind_run other_run
joined_adds one ahead some all (behind_loss more) = behind_run (behind_loss more)
joined_adds one ahead some all
    (behind_run {first = first} {units = units} {next = next} {some = behind} {all = rest} more) = by
    (eqb ahead.time first.time)
  where
    by : (same : Bool)
        → AddsUnit one
        (if same then run ahead (first ∷ units) ∷ next ∷ behind
        else run ahead [] ∷ run first units ∷ next ∷ behind)
        (if same then run ahead (first ∷ units) ∷ rest else run ahead [] ∷ run first units ∷ rest)
    by true = behind_run more
    by false = behind_run (behind_run more)

unit_adds : (arrivals : List Arrival) (one : PesUnit)
    → AddsUnit one (runs_of arrivals) (runs_of (arrivals ++ unit one ∷ []))
unit_adds [] one = begins
unit_adds (loss ∷ arrivals) one = behind_loss (unit_adds arrivals one)
unit_adds (refused_unit ∷ arrivals) one = behind_loss (unit_adds arrivals one)
unit_adds (aside ∷ arrivals) one = unit_adds arrivals one
unit_adds (unit ahead ∷ arrivals) one =
    joined_adds one ahead (runs_of arrivals) (runs_of (arrivals ++ unit one ∷ [])) (unit_adds arrivals one)

-- what comes with it
pub record FewSets (some all : List (Delivery (List ℕ))) : Type 0 where
  pub sets : List (Delivery (List ℕ))
  pub are : all ≡ some ++ sets
  pub few : AreFew 2 sets

pub same_follow : (one : PesUnit) (next : Stretch) (some all : List Stretch) → AddsUnit one (next ∷ some) all
    → is_followed false (next ∷ some) ≡ is_followed false all
same_follow one next some all (same_run) = refl
same_follow one next some all (other_run) = refl
same_follow one next some all (behind_loss more) = refl
same_follow one next some all (behind_run more) = refl

abbrev pub first_end : ℕ → List PesUnit → Option (List Frame)
first_end coded units = find (is_ended coded) (prefixes (frames_in units))

in_same_run : (coded : ℕ) (one first : PesUnit) (units : List PesUnit) (found : Option (List Frame))
    → first_end coded (first ∷ units) ≡ found
    → FewSets (set_of coded first.time (first ∷ units) false found ++ [])
    (sets_in coded false (run first (units ++ one ∷ []) ∷ []))
in_same_run coded one first units None e = record {
  sets = sets_in coded false (run first (units ++ one ∷ []) ∷ []);
  are = refl;
  few =
      few_more 1 2 _ (omega arith)
      (few_both 1 0
      (set_of coded first.time (first ∷ (units ++ one ∷ [])) false
      (first_end coded (first ∷ (units ++ one ∷ [])))) []
      (set_of_few coded first.time (first ∷ (units ++ one ∷ [])) false
      (first_end coded (first ∷ (units ++ one ∷ [])))) (few_none 0));
}
in_same_run coded one first units (Some front) e = record {
  sets = [];
  are =
      ap (λ sets. sets ++ []) (ended_run coded first units (one ∷ []) front false false e)
      ∙ sym (append-nil (set_of coded first.time (first ∷ units) false (Some front) ++ []));
  few = few_none 2;
}

behind_other : (coded : ℕ) (one first : PesUnit) (units : List PesUnit) (found : Option (List Frame))
    → FewSets (set_of coded first.time (first ∷ units) false found ++ [])
    (set_of coded first.time (first ∷ units) true found
    ++ (set_of coded one.time (one ∷ []) false (first_end coded (one ∷ [])) ++ []))
behind_other coded one first units None =
    let last = set_of coded one.time (one ∷ []) false (first_end coded (one ∷ [])) in
    record {
      sets = set_of coded first.time (first ∷ units) true None ++ (last ++ []);
      are = refl;
      few =
          few_both 1 1 (set_of coded first.time (first ∷ units) true None) (last ++ [])
          (set_of_few coded first.time (first ∷ units) true None)
          (few_both 1 0 last [] (set_of_few coded one.time (one ∷ []) false (first_end coded (one ∷ [])))
          (few_none 0));
    }
behind_other coded one first units (Some front) =
    let last = set_of coded one.time (one ∷ []) false (first_end coded (one ∷ [])) in
    record {
      sets = last ++ [];
      are = refl;
      few =
          few_more 1 2 (last ++ []) (omega arith)
          (few_both 1 0 last [] (set_of_few coded one.time (one ∷ []) false (first_end coded (one ∷ [])))
          (few_none 0));
    }

sets_add : (coded : ℕ) (one : PesUnit) (some all : List Stretch) → AddsUnit one some all
    → FewSets (sets_in coded false some) (sets_in coded false all)
sets_add coded one some all (begins) = record {
  sets = set_of coded one.time (one ∷ []) false (first_end coded (one ∷ [])) ++ [];
  are = refl;
  few =
      few_more 1 2 _ (omega arith)
      (few_both 1 0 (set_of coded one.time (one ∷ []) false (first_end coded (one ∷ []))) []
      (set_of_few coded one.time (one ∷ []) false (first_end coded (one ∷ []))) (few_none 0));
}
sets_add coded one some all (same_run {first = first} {units = units}) = in_same_run coded one first units
    (first_end coded (first ∷ units)) refl
sets_add coded one some all (other_run {first = first} {units = units}) = behind_other coded one first units
    (first_end coded (first ∷ units))
sets_add coded one some all (behind_loss {some = behind} {all = rest} more) =
    let there =
    sets_add coded one behind rest more in
    record { sets = there.sets; are = ap (λ sets. lost ∷ sets) there.are; few = there.few }
sets_add coded one some all
    (behind_run {first = first} {units = units} {next = next} {some = behind} {all = rest} more) =
    let there = sets_add coded one (next ∷ behind) rest more in
    let here =
    set_of coded first.time (first ∷ units) (is_followed false (next ∷ behind))
    (first_end coded (first ∷ units)) in
    record {
      sets = there.sets;
      are =
          ap (λ followed. set_of coded first.time (first ∷ units) followed (first_end coded (first ∷ units))
          ++ sets_in coded false rest) (sym (same_follow one next behind rest more))
          ∙ ap (λ sets. here ++ sets) there.are
          ∙ sym (append_assoc here (sets_in coded false (next ∷ behind)) there.sets);
      few = there.few;
    }

-- ---- a loss more

pub joined_loss : (ahead : PesUnit) (stretches : List Stretch)
    → joined_to ahead (stretches ++ loss_between ∷ []) ≡ joined_to ahead stretches ++ loss_between ∷ []
joined_loss ahead [] = refl
joined_loss ahead (loss_between ∷ rest) = refl
joined_loss ahead (run first units ∷ rest) = by (eqb ahead.time first.time)
  where
    by : (same : Bool)
        → (if same then run ahead (first ∷ units) ∷ (rest ++ loss_between ∷ [])
        else run ahead [] ∷ run first units ∷ (rest ++ loss_between ∷ []))
        ≡ (if same then run ahead (first ∷ units) ∷ rest else run ahead [] ∷ run first units ∷ rest)
        ++ loss_between ∷ []
    by true = refl
    by false = refl

-- an arrival that is a loss
abbrev pub IsLossArrival : Arrival → Type 0
IsLossArrival loss = Unit {0}
IsLossArrival refused_unit = Unit {0}
IsLossArrival aside = ⊥
IsLossArrival (unit one) = ⊥

pub runs_loss : (arrivals : List Arrival) (last : Arrival) → IsLossArrival last
    → runs_of (arrivals ++ last ∷ []) ≡ runs_of arrivals ++ loss_between ∷ []
runs_loss [] loss h = refl
runs_loss [] refused_unit h = refl
runs_loss [] aside h = absurd h
runs_loss [] (unit one) h = absurd h
runs_loss (loss ∷ arrivals) last h = ap (λ runs. loss_between ∷ runs) (runs_loss arrivals last h)
runs_loss (refused_unit ∷ arrivals) last h = ap (λ runs. loss_between ∷ runs) (runs_loss arrivals last h)
runs_loss (aside ∷ arrivals) last h = runs_loss arrivals last h
runs_loss (unit one ∷ arrivals) last h =
    ap (joined_to one) (runs_loss arrivals last h) ∙ joined_loss one (runs_of arrivals)

pub loss_adds : (coded : ℕ) (stretches : List Stretch)
    → sets_in coded false (stretches ++ loss_between ∷ []) ≡ sets_in coded false stretches ++ lost ∷ []
loss_adds coded [] = refl
loss_adds coded (loss_between ∷ rest) = ap (λ sets. lost ∷ sets) (loss_adds coded rest)
loss_adds coded (run first units ∷ []) =
    sym (append_assoc (set_of coded first.time (first ∷ units) false (first_end coded (first ∷ units))) []
    (lost ∷ []))
loss_adds coded (run first units ∷ loss_between ∷ rest) =
    let here = set_of coded first.time (first ∷ units) false (first_end coded (first ∷ units)) in
    ap (λ sets. here ++ sets) (loss_adds coded (loss_between ∷ rest))
    ∙ sym (append_assoc here (sets_in coded false (loss_between ∷ rest)) (lost ∷ []))
loss_adds coded (run first units ∷ run next more ∷ rest) =
    let here = set_of coded first.time (first ∷ units) true (first_end coded (first ∷ units)) in
    ap (λ sets. here ++ sets) (loss_adds coded (run next more ∷ rest))
    ∙ sym (append_assoc here (sets_in coded false (run next more ∷ rest)) (lost ∷ []))

pub runs_aside : (arrivals : List Arrival) → runs_of (arrivals ++ aside ∷ []) ≡ runs_of arrivals
runs_aside [] = refl
runs_aside (loss ∷ arrivals) = ap (λ runs. loss_between ∷ runs) (runs_aside arrivals)
runs_aside (refused_unit ∷ arrivals) = ap (λ runs. loss_between ∷ runs) (runs_aside arrivals)
runs_aside (aside ∷ arrivals) = runs_aside arrivals
runs_aside (unit one ∷ arrivals) = ap (joined_to one) (runs_aside arrivals)

-- ---- a packet

-- all come with a packet: losses, and then at most two sets
pub record ComeWith (some all : List (Delivery (List ℕ))) : Type 0 where
  pub losses : List (Delivery (List ℕ))
  pub sets : List (Delivery (List ℕ))
  pub are : all ≡ some ++ (losses ++ sets)
  pub each : AllByRecursion (λ delivery. delivery ≡ lost) losses
  pub few : AreFew 2 sets

abbrev handed_by : ℕ → List Arrival → List (Delivery (List ℕ))
handed_by coded arrivals = sets_in coded false (runs_of arrivals)

one_arrival : (coded : ℕ) (arrivals : List Arrival) (last : Arrival)
    → ComeWith (handed_by coded arrivals) (handed_by coded (arrivals ++ last ∷ []))
one_arrival coded arrivals loss = record {
  losses = lost ∷ [];
  sets = [];
  are = ap (sets_in coded false) (runs_loss arrivals loss tt) ∙ loss_adds coded (runs_of arrivals);
  each = (refl, tt);
  few = few_none 2;
}
one_arrival coded arrivals refused_unit = record {
  losses = lost ∷ [];
  sets = [];
  are = ap (sets_in coded false) (runs_loss arrivals refused_unit tt) ∙ loss_adds coded (runs_of arrivals);
  each = (refl, tt);
  few = few_none 2;
}
one_arrival coded arrivals aside = record {
  losses = [];
  sets = [];
  are = ap (sets_in coded false) (runs_aside arrivals) ∙ sym (append-nil (handed_by coded arrivals));
  each = tt;
  few = few_none 2;
}
one_arrival coded arrivals (unit one) =
    let there =
    sets_add coded one (runs_of arrivals) (runs_of (arrivals ++ unit one ∷ [])) (unit_adds arrivals one) in
    record { losses = []; sets = there.sets; are = there.are; each = tt; few = there.few }

-- a loss, and then what comes
behind_a_loss : (some middle all : List (Delivery (List ℕ))) → middle ≡ some ++ lost ∷ []
    → ComeWith middle all → ComeWith some all
behind_a_loss some middle all is come = record {
  losses = lost ∷ come.losses;
  sets = come.sets;
  are =
      come.are ∙ ap (λ front. front ++ (come.losses ++ come.sets)) is
      ∙ append_assoc some (lost ∷ []) (come.losses ++ come.sets);
  each = (refl, come.each);
  few = come.few;
}

nothing_comes : (some : List (Delivery (List ℕ))) → ComeWith some some
nothing_comes some = record { losses = []; sets = []; are = sym (append-nil some); each = tt; few = few_none 2 }

few_arrivals : (coded : ℕ) (pages : Pages) (place : ℕ) (arrivals : List Arrival) (lossy : Bool)
    (ended : Option (List ℕ))
    → ComeWith (handed_by coded arrivals)
    (handed_by coded (arrivals ++ ((if lossy then loss ∷ [] else []) ++ units_at pages place ended)))
few_arrivals coded pages place arrivals false None =
    subst (λ (all : List Arrival). ComeWith (handed_by coded arrivals) (handed_by coded all))
    (sym (append-nil arrivals)) (nothing_comes (handed_by coded arrivals))
few_arrivals coded pages place arrivals false (Some bytes) =
    one_arrival coded arrivals (arrival_of_unit pages place bytes)
few_arrivals coded pages place arrivals true None = one_arrival coded arrivals loss
few_arrivals coded pages place arrivals true (Some bytes) =
    subst (λ (all : List Arrival). ComeWith (handed_by coded arrivals) (handed_by coded all))
    (append_assoc arrivals (loss ∷ []) (arrival_of_unit pages place bytes ∷ []))
    (behind_a_loss (handed_by coded arrivals) (handed_by coded (arrivals ++ loss ∷ []))
    (handed_by coded ((arrivals ++ loss ∷ []) ++ arrival_of_unit pages place bytes ∷ []))
    (ap (sets_in coded false) (runs_loss arrivals loss tt) ∙ loss_adds coded (runs_of arrivals))
    (one_arrival coded (arrivals ++ loss ∷ []) (arrival_of_unit pages place bytes)))

-- behind packets that are all taken comes with one more: losses, and then at most two sets
pub come_with_a_packet : (coded pid : ℕ) (pages : Pages) (packets : List (List ℕ)) (packet : List ℕ)
    → packets_taken pid packets ≡ packets
    → packets_taken pid (packets ++ packet ∷ []) ≡ packets ++ packet ∷ []
    → ComeWith (sets_of coded pid pages false packets) (sets_of coded pid pages false (packets ++ packet ∷ []))
unfolding sets_of arrivals_of has_ended
come_with_a_packet coded pid pages packets packet taken all =
    let arrivals =
    flat_map (λ (arrivals : List Arrival). arrivals) (each_after (arrivals_at coded pid pages) [] packets) in
    let here = arrivals_at coded pid pages packets packet in
    let split : flat_map (λ (arrivals : List Arrival). arrivals)
    (each_after (arrivals_at coded pid pages) [] (packets ++ packet ∷ [])) ≡ arrivals ++ here =
    ap (flat_map (λ (arrivals : List Arrival). arrivals))
    (each_after-append (arrivals_at coded pid pages) [] packets (packet ∷ []))
    ∙ flat-append (each_after (arrivals_at coded pid pages) [] packets) (here ∷ [])
    ∙ ap (λ last. arrivals ++ last) (append-nil here) in
    subst (λ (found : List (List ℕ)). ComeWith
    (handed_by coded
    (flat_map (λ (arrivals : List Arrival). arrivals) (each_after (arrivals_at coded pid pages) [] found)))
    (handed_by coded
    (flat_map (λ (arrivals : List Arrival). arrivals)
    (each_after (arrivals_at coded pid pages) [] (packets_taken pid (packets ++ packet ∷ [])))))) (sym taken)
    (subst (λ (found : List (List ℕ)). ComeWith (handed_by coded arrivals)
    (handed_by coded
    (flat_map (λ (arrivals : List Arrival). arrivals) (each_after (arrivals_at coded pid pages) [] found))))
    (sym all)
    (subst (λ (found : List Arrival). ComeWith (handed_by coded arrivals) (handed_by coded found)) (sym split)
    (few_arrivals coded pages (length packets) arrivals (is_loss (event_at pid coded packets packet))
    (unit_at pid coded packets packet))))
