-- The sets among arrivals do not depend on the places of their units.
use Rattle.std.proofs.Common.{◌≡◌, ◌∙◌, ℕ, ◌+◌, Bool, true, false, eqb, List, [], ◌∷◌, ◌++◌, length, map, Option, Some, None, Ok, Err, refl, sym, ap}
use Rattle.std.specs.Prelude.{find, unwrap_or, Result}
use Rattle.std.specs.Bool.{if◌then◌else◌}
use Rattle.std.specs.Option.{option_map, option_or}
use Rattle.std.proofs.lemmas.List.{map-append}
use Rattle.std.proofs.lemmas.List.Sums.{sum_by-cons}
use Rattle.stream_syntax.specs.DataField.{Frame}
use Rattle.stream_syntax.specs.Pes.{pes_of}
use Rattle.stream_syntax.specs.declared.pes.PesFault.{PesFault}
use Rattle.stream_syntax.specs.declared.transport.Event.{Event}
use Rattle.sub_base.specs.Lists.{prefixes}
use Rattle.decoder_model.specs.declared.pages.Pages.{Pages}
use Rattle.decoder_model.specs.Arrivals.{PesUnit, Arrival, loss, refused_unit, aside, unit, unit_with, unit_from, losses_at, units_at}
use Rattle.decoder_model.specs.Frames.{segments_in}
use Rattle.decoder_model.specs.Sets.{Stretch, loss_between, run, runs_of, joined_to, lost, whole, is_ended, frames_in, size_in, units_to_end, set_of, handed, first_fault_in, excess_in, is_followed, sets_in}
use Rattle.decoder_model.proofs.Lists.{find-map}

-- ---- without places

-- a unit as if the first packet of all ended it
abbrev at_first : PesUnit → PesUnit
at_first one = record one { place = 0 }

abbrev pub unplaced : Arrival → Arrival
unplaced loss = loss
unplaced refused_unit = refused_unit
unplaced aside = aside
unplaced (unit one) = unit (at_first one)

abbrev unplaced_run : Stretch → Stretch
unplaced_run loss_between = loss_between
unplaced_run (run first more) = run (at_first first) (map at_first more)

-- ---- what a packet brings

with_frames : (place other size time : ℕ) (frames : List Frame) → unplaced (unit_with place size time frames)
    ≡ unplaced (unit_with other size time frames)
with_frames place other size time [] = refl
with_frames place other size time (frame ∷ frames) = refl

-- what a unit is does not depend on the packet that ends it, but for its place
units_unplaced : (pages : Pages) (place other : ℕ) (ended : Option (List ℕ))
    → map unplaced (units_at pages place ended)
    ≡ map unplaced (units_at pages other ended)
units_unplaced pages place other None = refl
units_unplaced pages place other (Some bytes) = ap (λ arrival. arrival ∷ []) (by (pes_of bytes))
  where
    by : (pes : Result (ℕ × List ℕ) PesFault) → unplaced (unit_from pages place (length bytes) pes)
        ≡ unplaced (unit_from pages other (length bytes) pes)
    by (Ok pes) = with_frames place other (length bytes) pes.0 _
    by (Err fault) = refl

pub arrivals_unplaced : (pages : Pages) (place other : ℕ) (event : Event) (ended : Option (List ℕ))
    → map unplaced (losses_at event ++ units_at pages place ended)
    ≡ map unplaced (losses_at event ++ units_at pages other ended)
arrivals_unplaced pages place other event ended =
    map-append unplaced (losses_at event) (units_at pages place ended)
    ∙ ap (λ units. map unplaced (losses_at event) ++ units) (units_unplaced pages place other ended)
    ∙ sym (map-append unplaced (losses_at event) (units_at pages other ended))

-- ---- runs

joined_unplaced : (one : PesUnit) (runs : List Stretch) → joined_to (at_first one) (map unplaced_run runs)
    ≡ map unplaced_run (joined_to one runs)
joined_unplaced one [] = refl
joined_unplaced one (loss_between ∷ rest) = refl
joined_unplaced one (run next more ∷ rest) = by (eqb one.time next.time)
  where
    by : (same : Bool)
        → (if same then run (at_first one) (at_first next ∷ map at_first more) ∷ map unplaced_run rest
        else run (at_first one) [] ∷ run (at_first next) (map at_first more) ∷ map unplaced_run rest)
        ≡ map unplaced_run (if same then run one (next ∷ more) ∷ rest else run one [] ∷ run next more ∷ rest)
    by true = refl
    by false = refl

runs_unplaced : (arrivals : List Arrival) → runs_of (map unplaced arrivals) ≡ map unplaced_run (runs_of arrivals)
runs_unplaced [] = refl
runs_unplaced (loss ∷ arrivals) = ap (λ rest. loss_between ∷ rest) (runs_unplaced arrivals)
runs_unplaced (refused_unit ∷ arrivals) = ap (λ rest. loss_between ∷ rest) (runs_unplaced arrivals)
runs_unplaced (aside ∷ arrivals) = runs_unplaced arrivals
runs_unplaced (unit one ∷ arrivals) =
    ap (joined_to (at_first one)) (runs_unplaced arrivals) ∙ joined_unplaced one (runs_of arrivals)

-- ---- sets

frames_unplaced : (units : List PesUnit) → frames_in (map at_first units) ≡ frames_in units
frames_unplaced [] = refl
frames_unplaced (one ∷ units) = ap (λ rest. one.frames ++ rest) (frames_unplaced units)

size_unplaced : (units : List PesUnit) → size_in (map at_first units) ≡ size_in units
size_unplaced [] = refl
size_unplaced (one ∷ units) =
    sum_by-cons (λ (one : PesUnit). one.size) (at_first one) (map at_first units)
    ∙ ap (λ rest. one.size + rest) (size_unplaced units)
    ∙ sym (sum_by-cons (λ (one : PesUnit). one.size) one units)

prefixes_map : {X Y : Type 0} (f : X → Y) (xs : List X) → prefixes (map f xs) ≡ map (map f) (prefixes xs)
prefixes_map f [] = refl
prefixes_map {X} {Y} f (x ∷ xs) =
    ap (λ fronts. (f x ∷ []) ∷ map (λ (front : List Y). f x ∷ front) fronts) (prefixes_map f xs)
    ∙ ap (λ rest. (f x ∷ []) ∷ rest) (moved (prefixes xs))
  where
    moved : (fronts : List (List X)) → map (λ (front : List Y). f x ∷ front) (map (map f) fronts)
        ≡ map (map f) (map (λ (front : List X). x ∷ front) fronts)
    moved [] = refl
    moved (front ∷ fronts) = ap (λ rest. (f x ∷ map f front) ∷ rest) (moved fronts)

to_end_unplaced : (coded : ℕ) (units : List PesUnit) → units_to_end coded (map at_first units)
    ≡ map at_first (units_to_end coded units)
to_end_unplaced coded units =
    ap (λ fronts. unwrap_or (find (λ (front : List PesUnit). is_ended coded (frames_in front)) fronts)
    (map at_first units)) (prefixes_map at_first units)
    ∙ ap (λ found. unwrap_or found (map at_first units))
    (find-map (λ (front : List PesUnit). is_ended coded (frames_in front)) (map at_first) (prefixes units))
    ∙ ap (λ (test : List PesUnit → Bool). unwrap_or (option_map (map at_first) (find test (prefixes units)))
    (map at_first units)) same_test
    ∙ by (find (λ (front : List PesUnit). is_ended coded (frames_in front)) (prefixes units))
  where
    same_test : ◌≡◌ {A = List PesUnit → Bool}
        (λ (front : List PesUnit). is_ended coded (frames_in (map at_first front)))
        (λ (front : List PesUnit). is_ended coded (frames_in front))
    same_test = λ i. λ front. is_ended coded (frames_unplaced front i)

    by : (found : Option (List PesUnit)) → unwrap_or (option_map (map at_first) found) (map at_first units)
        ≡ map at_first (unwrap_or found units)
    by None = refl
    by (Some front) = refl

set_unplaced : (coded time : ℕ) (units : List PesUnit) (followed : Bool) (found : Option (List Frame))
    → set_of coded time (map at_first units) followed found ≡ set_of coded time units followed found
set_unplaced coded time units followed (Some front) =
    ap (λ size. handed time size front (option_or (first_fault_in front) (excess_in coded front)) ∷ [])
    (ap size_in (to_end_unplaced coded units) ∙ size_unplaced (units_to_end coded units))
set_unplaced coded time units true None =
    λ i. whole time (size_unplaced units i) (segments_in (frames_unplaced units i)) ∷ []
set_unplaced coded time units false None = refl

followed_unplaced : (ended : Bool) (rest : List Stretch) → is_followed ended (map unplaced_run rest)
    ≡ is_followed ended rest
followed_unplaced ended [] = refl
followed_unplaced ended (loss_between ∷ rest) = refl
followed_unplaced ended (run next more ∷ rest) = refl

sets_unplaced : (coded : ℕ) (ended : Bool) (runs : List Stretch) → sets_in coded ended (map unplaced_run runs)
    ≡ sets_in coded ended runs
sets_unplaced coded ended [] = refl
sets_unplaced coded ended (loss_between ∷ rest) = ap (λ sets. lost ∷ sets) (sets_unplaced coded ended rest)
sets_unplaced coded ended (run first more ∷ rest) =
    let units = first ∷ more in
    let behind = sets_in coded ended (map unplaced_run rest) in
    ap (λ followed. set_of coded first.time (map at_first units) followed
    (find (is_ended coded) (prefixes (frames_in (map at_first units)))) ++ behind) (followed_unplaced ended rest)
    ∙ ap (λ frames. set_of coded first.time (map at_first units) (is_followed ended rest)
    (find (is_ended coded) (prefixes frames)) ++ behind) (frames_unplaced units)
    ∙ ap (λ set. set ++ behind) (set_unplaced coded first.time units (is_followed ended rest)
    (find (is_ended coded) (prefixes (frames_in units))))
    ∙ ap (λ sets. set_of coded first.time units (is_followed ended rest)
    (find (is_ended coded) (prefixes (frames_in units))) ++ sets) (sets_unplaced coded ended rest)

-- arrivals that are the same but for places are the same sets and losses
pub same_sets : (coded : ℕ) (ended : Bool) (one other : List Arrival) → map unplaced one ≡ map unplaced other
    → sets_in coded ended (runs_of one) ≡ sets_in coded ended (runs_of other)
same_sets coded ended one other e =
    sym (sets_unplaced coded ended (runs_of one))
    ∙ ap (sets_in coded ended) (sym (runs_unplaced one))
    ∙ ap (λ arrivals. sets_in coded ended (runs_of arrivals)) e
    ∙ ap (sets_in coded ended) (runs_unplaced other)
    ∙ sets_unplaced coded ended (runs_of other)
