-- Units that are the PES packets of display sets, one or several of each set, and what arrives of each at a receiver.
use Rattle.std.proofs.Common.{◌≡◌, ◌∙◌, ℕ, ◌≤◌, Bool, true, false, cond, eqb, List, [], ◌∷◌, ◌++◌, length, map, filter, Option, Some, None, Ok, refl, sym, ap, subst, arith}
use Rattle.std.specs.Prelude.{filter_map, flat_map}
use Rattle.std.specs.Bool.{if◌then◌else◌}
use Rattle.std.specs.List.{AllByRecursion, AllZip, concat, sum_by, cons_option}
use Rattle.std.proofs.lemmas.List.Elements.{filter-append}
use Rattle.stream_syntax.specs.Pes.{pes_of}
use Rattle.stream_syntax.specs.Tests.{byte_at}
use Rattle.stream_syntax.specs.Cutting.{units_behind, events_behind}
use Rattle.stream_syntax.specs.Units.{each_after, unit_at, is_loss}
use Rattle.decoder_model.specs.declared.pages.Pages.{Pages}
use Rattle.decoder_model.specs.Arrivals.{PesUnit, Arrival, loss, unit, unit_with, unit_from, arrival_of_unit, units_at, arrivals_at}
use Rattle.stream_syntax.specs.DataField.{segment}
use Rattle.decoder_model.specs.Frames.{counts_for}
use Rattle.sent_sets.proofs.FieldFrames.{IsHead, IsHeaded, heads_of, frames_of_field}
use Rattle.decoder_model.specs.Frames.{is_of_pages}
use Rattle.sub_base.specs.Lists.{has_some}

-- ---- sets and their units

-- a unit of a set: how many bytes its PES packet has, and its segments
pub record SetUnit : Type 0 where
  pub size : ℕ
  pub segments : List (List ℕ)

-- a set: its time and its units
pub record TimedSet : Type 0 where
  pub time : ℕ
  pub units : List SetUnit

-- a unit with the time of its set
pub record TimedUnit : Type 0 where
  pub time : ℕ
  pub unit : SetUnit

abbrev pub timed : ℕ → SetUnit → TimedUnit
timed set_time one = record { time = set_time; unit = one }

-- the units of sets, in order, each with its set's time
abbrev pub timed_units : List TimedSet → List TimedUnit
timed_units sets = flat_map (λ (set : TimedSet). map (timed set.time) set.units) sets

-- the segments of units, in order, and how many bytes their PES packets have
abbrev pub segments_of_units : List SetUnit → List (List ℕ)
segments_of_units units = flat_map (λ (one : SetUnit). one.segments) units

abbrev pub size_of_units : List SetUnit → ℕ
size_of_units units = sum_by (λ (one : SetUnit). one.size) units

abbrev pub all_segments : TimedSet → List (List ℕ)
all_segments set = segments_of_units set.units

-- a segment of these pages that is no end segment
pub record IsBefore (pages : Pages) (bytes : List ℕ) : Type 0 where
  pub headed : IsHeaded pages bytes
  pub no_end : eqb (byte_at 1 bytes) 0x80 ≡ false

-- segments of these pages, of which the last is an end segment, and no other one
pub record DoEnd (pages : Pages) (segments : List (List ℕ)) : Type 0 where
  pub front : List (List ℕ)
  pub end : List ℕ
  pub are : segments ≡ front ++ end ∷ []
  pub each : AllByRecursion (IsBefore pages) front
  pub end_headed : IsHeaded pages end
  pub is_end : eqb (byte_at 1 end) 0x80 ≡ true

-- the units of a set: the last one ends with the set's end segment, and each before it has segments
abbrev pub AreSetUnits : Pages → List SetUnit → Type 0
AreSetUnits pages [] = ⊥
AreSetUnits pages (one ∷ []) = DoEnd pages one.segments
AreSetUnits pages (one ∷ next ∷ units) = (1 ≤ length one.segments)
    × AllByRecursion (IsBefore pages) one.segments × AreSetUnits pages (next ∷ units)

-- a set that a coded data buffer of so many bytes can hold
pub record IsTimedSet (coded : ℕ) (pages : Pages) (set : TimedSet) : Type 0 where
  pub units : AreSetUnits pages set.units
  pub fits : sum_by length (all_segments set) ≤ coded

-- the unit is a PES packet of segments of these pages
pub record IsUnitOf (pages : Pages) (bytes : List ℕ) (one : TimedUnit) : Type 0 where
  pub each : AllByRecursion (IsHeaded pages) one.unit.segments
  pub some : 1 ≤ length one.unit.segments
  pub size : length bytes ≡ one.unit.size
  pub packet : pes_of bytes ≡ Ok (one.time, concat one.unit.segments ++ 0xFF ∷ [])

-- the unit is a PES packet of segments, of which those that count for these pages are the unit's
pub record CarriesUnit (pages : Pages) (bytes : List ℕ) (one : TimedUnit) : Type 0 where
  pub all : List (List ℕ)
  pub each : AllByRecursion IsHead all
  pub counted : one.unit.segments ≡ filter (is_of_pages pages) all
  pub size : length bytes ≡ one.unit.size
  pub packet : pes_of bytes ≡ Ok (one.time, concat all ++ 0xFF ∷ [])

-- these units, one after another, are those of the sets
pub record AreUnitsOf (coded : ℕ) (pages : Pages) (units : List (List ℕ)) (sets : List TimedSet) : Type 0 where
  pub each : AllZip (IsUnitOf pages) units (timed_units sets)
  pub whole : AllByRecursion (IsTimedSet coded pages) sets

-- ---- a unit

-- segments that all count are those that do
pub all_count : (pages : Pages) (segments : List (List ℕ)) → AllByRecursion (IsHeaded pages) segments
    → segments ≡ filter (is_of_pages pages) segments
all_count pages [] h = refl
all_count pages (bytes ∷ segments) h =
    ap (λ counted. bytes ∷ counted) (all_count pages segments h.1)
    ∙ ap (λ counts. cond counts (bytes ∷ filter (is_of_pages pages) segments)
    (filter (is_of_pages pages) segments))
    (sym h.0.of_pages)

pub carried : (pages : Pages) (bytes : List ℕ) (one : TimedUnit) → IsUnitOf pages bytes one
    → CarriesUnit pages bytes one
carried pages bytes one h = record {
  all = one.unit.segments;
  each = heads_of pages one.unit.segments h.each;
  counted = all_count pages one.unit.segments h.each;
  size = h.size;
  packet = h.packet;
}

pub all_carried : (pages : Pages) (units : List (List ℕ)) (all : List TimedUnit) → AllZip (IsUnitOf pages) units all
    → AllZip (CarriesUnit pages) units all
all_carried pages [] [] h = tt
all_carried pages [] (one ∷ all) h = absurd h
all_carried pages (bytes ∷ units) [] h = absurd h
all_carried pages (bytes ∷ units) (one ∷ all) h = (carried pages bytes one h.0, all_carried pages units all h.1)

-- the frames of segments that count are those segments
counted_frames : (pages : Pages) (segments : List (List ℕ))
    → filter (counts_for pages) (map segment segments) ≡ map segment (filter (is_of_pages pages) segments)
counted_frames pages [] = refl
counted_frames pages (bytes ∷ segments) = by (is_of_pages pages bytes) (counted_frames pages segments)
  where
    by : (b : Bool)
        → filter (counts_for pages) (map segment segments) ≡ map segment (filter (is_of_pages pages) segments)
        → cond b (segment bytes ∷ filter (counts_for pages) (map segment segments))
        (filter (counts_for pages) (map segment segments))
        ≡ map segment (cond b (bytes ∷ filter (is_of_pages pages) segments) (filter (is_of_pages pages) segments))
    by true e = ap (λ frames. segment bytes ∷ frames) e
    by false e = e

-- the unit arrives with its segments, and is passed over where it has none
pub arrives_so : (pages : Pages) (place : ℕ) (bytes : List ℕ) (one : TimedUnit) → CarriesUnit pages bytes one
    → arrival_of_unit pages place bytes ≡ unit_with place one.unit.size one.time (map segment one.unit.segments)
arrives_so pages place bytes one h =
    ap (unit_from pages place (length bytes)) h.packet
    ∙ ap (λ frames. unit_with place (length bytes) one.time (filter (counts_for pages) frames))
    (frames_of_field h.all [] h.each)
    ∙ ap (unit_with place (length bytes) one.time)
    (counted_frames pages h.all ∙ ap (map segment) (sym h.counted))
    ∙ ap (λ size. unit_with place size one.time (map segment one.unit.segments)) h.size

-- a unit that ends with the packet of that place
abbrev pub unit_of : ℕ → ℕ → SetUnit → PesUnit
unit_of place set_time one =
    record { place = place; size = one.size; time = set_time; frames = map segment one.segments }

some_frames : (place size time : ℕ) (segments : List (List ℕ)) → 1 ≤ length segments
    → unit_with place size time (map segment segments)
    ≡ unit (record { place = place; size = size; time = time; frames = map segment segments })
some_frames place size time [] some = absurd (omega arith)
some_frames place size time (bytes ∷ segments) some = refl

pub arrives : (pages : Pages) (place : ℕ) (bytes : List ℕ) (one : TimedUnit) → IsUnitOf pages bytes one
    → arrival_of_unit pages place bytes ≡ unit (unit_of place one.time one.unit)
arrives pages place bytes one h =
    arrives_so pages place bytes one (carried pages bytes one h)
    ∙ some_frames place one.unit.size one.time one.unit.segments h.some

-- what arrives is that unit, whatever its place
abbrev pub IsArrivalOf : Arrival → TimedUnit → Type 0
IsArrivalOf arrival one = (place : ℕ) × (arrival ≡ unit (unit_of place one.time one.unit))

-- what arrives is that unit, or nothing that counts where it has no segment
abbrev pub IsArrivalWith : Arrival → TimedUnit → Type 0
IsArrivalWith arrival one =
    (place : ℕ) × (arrival ≡ unit_with place one.unit.size one.time (map segment one.unit.segments))

-- what arrives with a packet without a loss that ends a unit or none, and with those behind it
one_packet : (pages : Pages) (place : ℕ) (found : Option (List ℕ)) (units : List (List ℕ))
    (arrivals : List Arrival) (all : List TimedUnit)
    → ((more : List TimedUnit) → AllZip (CarriesUnit pages) units more → AllZip IsArrivalWith arrivals more)
    → AllZip (CarriesUnit pages) (cons_option found units) all
    → AllZip IsArrivalWith (units_at pages place found ++ arrivals) all
one_packet pages place None units arrivals all behind are = behind all are
one_packet pages place (Some bytes) units arrivals [] behind are = absurd are
one_packet pages place (Some bytes) units arrivals (one ∷ more) behind are =
    ((place, arrives_so pages place bytes one are.0), behind more are.1)

-- what arrives with packets behind others
pub all_arrive : (pid size : ℕ) (pages : Pages) (before packets : List (List ℕ))
    → AllByRecursion (λ event. is_loss event ≡ false) (events_behind pid size before packets)
    → (all : List TimedUnit)
    → AllZip (CarriesUnit pages) (filter_map (λ found. found) (units_behind pid size before packets)) all
    → AllZip IsArrivalWith
    (flat_map (λ (arrivals : List Arrival). arrivals) (each_after (arrivals_at size pid pages) before packets)) all
all_arrive pid size pages before [] h [] are = tt
all_arrive pid size pages before [] h (one ∷ all) are = absurd are
all_arrive pid size pages before (packet ∷ packets) h all are =
    subst (λ (lost : Bool). AllZip IsArrivalWith
    (((if lost then loss ∷ [] else []) ++ units_at pages (length before) (unit_at pid size before packet))
    ++ flat_map (λ (arrivals : List Arrival). arrivals)
    (each_after (arrivals_at size pid pages) (before ++ packet ∷ []) packets)) all) (sym h.0)
    (one_packet pages (length before) (unit_at pid size before packet)
    (filter_map (λ found. found) (units_behind pid size (before ++ packet ∷ []) packets))
    (flat_map (λ (arrivals : List Arrival). arrivals)
    (each_after (arrivals_at size pid pages) (before ++ packet ∷ []) packets)) all
    (λ more each. all_arrive pid size pages (before ++ packet ∷ []) packets h.1 more each) are)

-- ---- units that count

abbrev pub has_segments : SetUnit → Bool
has_segments one = has_some one.segments

-- the units of a set that have segments
abbrev pub counted_set : TimedSet → TimedSet
counted_set set = record { time = set.time; units = filter has_segments set.units }

-- the sets that have such units, with these
abbrev pub counted_sets : List TimedSet → List TimedSet
counted_sets [] = []
counted_sets (set ∷ sets) =
    if has_some (filter has_segments set.units) then counted_set set ∷ counted_sets sets else counted_sets sets

abbrev pub counted_units : List TimedUnit → List TimedUnit
counted_units all = filter (λ (one : TimedUnit). has_segments one.unit) all

of_one_set : (time : ℕ) (units : List SetUnit)
    → counted_units (map (timed time) units) ≡ map (timed time) (filter has_segments units)
of_one_set time [] = refl
of_one_set time (one ∷ units) = by (has_segments one) (of_one_set time units)
  where
    by : (b : Bool) → counted_units (map (timed time) units) ≡ map (timed time) (filter has_segments units)
        → cond b (timed time one ∷ counted_units (map (timed time) units)) (counted_units (map (timed time) units))
        ≡ map (timed time) (cond b (one ∷ filter has_segments units) (filter has_segments units))
    by true e = ap (λ rest. timed time one ∷ rest) e
    by false e = e

-- the units of these sets are the units that have segments
pub of_counted_sets : (sets : List TimedSet) → counted_units (timed_units sets) ≡ timed_units (counted_sets sets)
of_counted_sets [] = refl
of_counted_sets (set ∷ sets) =
    filter-append (λ (one : TimedUnit). has_segments one.unit) (map (timed set.time) set.units) (timed_units sets)
    ∙ ap (λ front. front ++ counted_units (timed_units sets)) (of_one_set set.time set.units)
    ∙ ap (λ rest. map (timed set.time) (filter has_segments set.units) ++ rest) (of_counted_sets sets)
    ∙ by (filter has_segments set.units)
  where
    by : (units : List SetUnit) → map (timed set.time) units ++ timed_units (counted_sets sets)
        ≡ timed_units (if has_some units then record { time = set.time; units = units } ∷ counted_sets sets
        else counted_sets sets)
    by [] = refl
    by (one ∷ units) = refl
