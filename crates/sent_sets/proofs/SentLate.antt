-- A stream of sets that is entered late gives all sets whose packets all come, whole; before them at most later units
-- of a set of which a packet comes.
use Rattle.std.proofs.Common.{◌≡◌, ◌∙◌, ℕ, zero, suc, ◌+◌, ◌-◌, ◌<◌, ◌≤◌, true, false, List, [], ◌∷◌, ◌++◌, length, map, take, drop, get_or, refl, sym, ap, subst, arith, length-append}
use Rattle.std.specs.Prelude.{nat_le, sum, All}
use Rattle.std.proofs.lemmas.List.Elements.{recursion_from_All}
use Rattle.std.specs.List.{AllByRecursion, AllZip, list_all, list_any}
use Rattle.sub_base.specs.Lists.{all_of}
use Rattle.sub_base.specs.declared.load.WriteLoad.{WriteLoad}
use Rattle.sub_base.specs.declared.pace.Pace.{Pace}
use Rattle.stream_syntax.specs.Cutting.{IsUnit}
use Rattle.schedule.specs.Packets.{first_packet}
use Rattle.schedule.specs.Slots.{Timetable, IsLoad, IsSchedule, slots_of}
use Rattle.decoder_model.specs.Sets.{sets_of}
use Rattle.decoder_model.specs.declared.pages.Pages.{Pages}
use Rattle.slot_stream.specs.SlotStream.{all_pieces}
use Rattle.slot_stream.proofs.LaidPackets.{IsAhead}
use Rattle.slot_stream.proofs.SentPieces.{IsFree}
use Rattle.sent_sets.specs.SentStream.{AreSizedAs}
use Rattle.sent_sets.proofs.LateSets.{units_before, IsRest, SetsLeft, sets_left, late_counted, open_sets}
use Rattle.sent_sets.proofs.LateStream.{passed, pieces_left, first_number, units_that_come}
use Rattle.sent_sets.proofs.PacketCounts.{as_many}
use Rattle.sent_sets.proofs.RawUnits.{IsOpen}
use Rattle.sent_sets.proofs.Runs.{HaveDifferentTimes}
use Rattle.sent_sets.proofs.SentPackets.{stream_packets, AreSentPackets}
use Rattle.sent_sets.proofs.SetEnds.{delivered}
use Rattle.sent_sets.proofs.SlotPlaces.{HavePackets, unit_inside, first_of_set, some_bytes, places_from, pieces_rise, next_piece, some_from}
use Rattle.sent_sets.proofs.Units.{TimedSet, timed_units, CarriesUnit, AreUnitsOf, all_carried, counted_sets}
use Rattle.sent_sets.proofs.SetsCome.{all_ended, all_count}

-- ---- how many units

-- each set has as many units as PES packets
abbrev pub HaveAsMany : List (List (List ℕ)) → List TimedSet → Type 0
HaveAsMany units sent = AllZip (λ packets (one : TimedSet). length one.units ≡ length packets) units sent

-- so the first so many sets have as many units as PES packets
pub count_units : (units : List (List (List ℕ))) (sent : List TimedSet) → HaveAsMany units sent → (i : ℕ)
    → units_before i sent ≡ length (all_of (take i units))
count_units [] [] many zero = refl
count_units [] [] many (suc i) = refl
count_units [] (one ∷ sent) many i = absurd many
count_units (packets ∷ units) [] many i = absurd many
count_units (packets ∷ units) (one ∷ sent) many zero = refl
count_units (packets ∷ units) (one ∷ sent) many (suc i) =
    omega (arith, many.0, count_units units sent many.1 i, length-append packets (all_of (take i units)))

pub count_sent : (units : List (List (List ℕ))) (sent : List TimedSet) → HaveAsMany units sent
    → length sent ≡ length units
count_sent [] [] many = refl
count_sent [] (one ∷ sent) many = absurd many
count_sent (packets ∷ units) [] many = absurd many
count_sent (packets ∷ units) (one ∷ sent) many = ap suc (count_sent units sent many.1)

-- a set has units, and no more than all
units_rise : (i : ℕ) (sent : List TimedSet) → AllByRecursion (λ (one : TimedSet). 1 ≤ length one.units) sent
    → i < length sent → units_before i sent < units_before (suc i) sent
units_rise i [] some inside = absurd (omega arith)
units_rise zero (one ∷ sent) some inside = omega (arith, some.0)
units_rise (suc i) (one ∷ sent) some inside = omega (arith, units_rise i sent some.1 (omega arith))

later_units : (i : ℕ) (units : List (List (List ℕ))) → length (all_of (take i units)) ≤ length (all_of units)
later_units zero units = omega arith
later_units (suc i) [] = omega arith
later_units (suc i) (packets ∷ units) =
    omega (
      arith,
      later_units i units,
      length-append packets (all_of (take i units)),
      length-append packets (all_of units),
    )

some_units : (units : List (List (List ℕ))) (sent : List TimedSet) → HaveAsMany units sent → HavePackets units
    → AllByRecursion (λ (one : TimedSet). 1 ≤ length one.units) sent
some_units [] [] many some = tt
some_units [] (one ∷ sent) many some = absurd many
some_units (packets ∷ units) [] many some = absurd many
some_units (packets ∷ units) (one ∷ sent) many some =
    (omega (arith, many.0, some.0), some_units units sent many.1 some.1)

-- ---- PES packets

-- a set that can be scheduled has a PES packet
pub have_packets : (loads : List WriteLoad) (units : List (List (List ℕ))) → AllByRecursion IsLoad loads
    → AreSizedAs loads units → HavePackets units
have_packets [] [] each sized = tt
have_packets [] (packets ∷ units) each sized = absurd sized
have_packets (load ∷ loads) [] each sized = absurd sized
have_packets (load ∷ loads) (packets ∷ units) each sized =
    (by packets sized.0, have_packets loads units each.1 sized.1)
  where
    by : (packets : List (List ℕ)) → map length packets ≡ load.units → 1 ≤ length packets
    by [] same =
        absurd (let some = each.0.some in let size = each.0.size in omega (arith, ap sum same))
    by (packet ∷ packets) same = omega arith

-- ---- what comes

-- sets that are sent, as a receiver of some pages gets them
pub record AreSentSets (coded : ℕ) (pages : Pages) (loads : List WriteLoad) (units : List (List (List ℕ)))
    (pace : Pace) (table : Timetable) (sent : List TimedSet) : Type 0 where
  pub units_are : AllByRecursion (IsUnit coded) (all_of units)
  pub sized : AreSizedAs loads units
  pub schedule : IsSchedule loads (length loads) pace table
  pub some : HavePackets units
  pub many : HaveAsMany units sent
  pub carry : AllZip (CarriesUnit pages) (all_of units) (timed_units sent)
  pub opens : AllByRecursion (IsOpen coded) sent
  pub apart : HaveDifferentTimes (counted_sets sent)

-- where all of their segments count and each ends with an end segment
pub sent_sets_of : (coded : ℕ) (pages : Pages) (loads : List WriteLoad) (units : List (List (List ℕ))) (pace : Pace)
    (table : Timetable) (sent : List TimedSet) → All IsLoad loads → AreSizedAs loads units
    → IsSchedule loads (length loads) pace table → AllByRecursion (IsUnit coded) (all_of units)
    → AreUnitsOf coded pages (all_of units) sent → HaveDifferentTimes sent → HaveAsMany units sent
    → AreSentSets coded pages loads units pace table sent
sent_sets_of coded pages loads units pace table sent each sized schedule units_are are apart many = record {
  units_are = units_are;
  sized = sized;
  schedule = schedule;
  some = have_packets loads units (recursion_from_All IsLoad loads each) sized;
  many = many;
  carry = all_carried pages (all_of units) (timed_units sent) are.each;
  opens = open_sets coded pages sent are.whole;
  apart = subst HaveDifferentTimes
      (sym (all_count coded true sent (all_ended coded pages true sent are.whole))) apart;
}

-- what a receiver gets of them that enters behind so many packets
pub record ComeLate (coded pid : ℕ) (pages : Pages) (units : List (List (List ℕ))) (table : Timetable)
    (sent : List TimedSet) (missed : ℕ) : Type 0 where
  pub first : ℕ
  pub few : first ≤ length sent
  pub rest : List TimedSet
  pub is_rest : IsRest sent first rest
  pub come : sets_of coded pid pages true (drop missed (stream_packets pid units table))
      ≡ map delivered (counted_sets (rest ++ drop first sent))
  pub whole : (i : ℕ) → i < length sent
      → (i < first → list_all (λ at. nat_le missed at) (slots_of table i) ≡ false)
      × (first ≤ i → list_all (λ at. nat_le missed at) (slots_of table i) ≡ true)
  pub reached : (number : ℕ) → first ≡ suc number → 1 ≤ length rest
      → list_any (λ at. nat_le missed at) (slots_of table number) ≡ true

pub come_late : (coded pid : ℕ) (pages : Pages) (loads : List WriteLoad) (units : List (List (List ℕ)))
    (pace : Pace) (table : Timetable) (sent : List TimedSet) → IsFree pid → AreSentPackets coded pid units table
    → AreSentSets coded pages loads units pace table sent → (missed : ℕ)
    → ComeLate coded pid pages units table sent missed
come_late coded pid pages loads units pace table sent free stream known missed = record {
  first = left.first;
  few = left.few;
  rest = left.rest;
  is_rest = left.is_rest;
  come =
      late_counted coded pid pages missed (all_of units) sent slots free known.units_are known.carry known.opens
      known.apart same ahead
      ∙ ap (λ sets. map delivered (counted_sets sets)) left.are;
  whole = λ i inside. whole_by i inside;
  reached = λ number next some. reached_by number next some;
}
  where
    slots : List ℕ
    slots = table.slots

    ahead : IsAhead 0 slots
    ahead = stream.ahead

    same : length (all_pieces (all_of units)) ≡ length slots
    same = stream.same

    each_some : AllByRecursion (λ (one : TimedSet). 1 ≤ length one.units) sent
    each_some = some_units units sent known.many known.some

    all : length sent ≡ length units
    all = count_sent units sent known.many

    cut : ℕ
    cut = (pieces_left coded (passed (0 + missed) slots) (all_of units) known.units_are).cut

    left : SetsLeft cut sent
    left = sets_left cut sent each_some

    whole_by : (i : ℕ) → i < length sent
        → (i < left.first → list_all (λ at. nat_le missed at) (slots_of table i) ≡ false)
        × (left.first ≤ i → list_all (λ at. nat_le missed at) (slots_of table i) ≡ true)
    whole_by i inside =
        let as_loads = as_many loads units known.sized in
        let count = count_units units sent known.many i in
        let begun = left.begun i (omega arith) in
        let number = length (all_of (take i units)) in
        let come =
        units_that_come coded missed (all_of units) slots known.units_are same ahead number
        (unit_inside i units (omega (arith, all)) known.some) in
        let begins : first_number (all_of units) number ≡ first_packet loads i =
        first_of_set i loads units (omega (arith, as_loads, all)) known.sized in
        let places =
        places_from loads (length loads) pace table known.schedule ahead missed i (omega (arith, as_loads, all))
        (some_bytes coded loads units known.sized known.some known.units_are i (omega (arith, as_loads, all))) in (
          λ early. places.0
              (subst (λ (k : ℕ). get_or slots k 0 < missed) begins
              (come.0 (omega (arith, count, begun.0 early)))),
          λ late. places.1
              (subst (λ (k : ℕ). missed ≤ get_or slots k 0) begins
              (come.1 (omega (arith, count, begun.1 late)))),
        )

    -- the last unit of a set comes, where not all units up to there are missed
    some_come : (number : ℕ) → number < length sent → cut < units_before (suc number) sent
        → list_any (λ at. nat_le missed at) (slots_of table number) ≡ true
    some_come number inside behind =
        let as_loads = as_many loads units known.sized in
        let before = count_units units sent known.many number in
        let after = count_units units sent known.many (suc number) in
        let most = later_units (suc number) units in
        let last = units_before (suc number) sent - 1 in
        let more = units_rise number sent each_some inside in
        let here : last < length (all_of units) = omega arith in
        let comes =
        (units_that_come coded missed (all_of units) slots known.units_are same ahead last here).1 (omega arith) in
        let begins : first_number (all_of units) (units_before number sent) ≡ first_packet loads number =
        ap (first_number (all_of units)) before
        ∙ first_of_set number loads units (omega (arith, as_loads, all)) known.sized in
        let ends : first_number (all_of units) (units_before (suc number) sent) ≡ first_packet loads (suc number) =
        ap (first_number (all_of units)) after
        ∙ first_of_set (suc number) loads units (omega (arith, as_loads, all)) known.sized in
        let low = pieces_rise (units_before number sent) last (all_of units) (omega arith) in
        let high = next_piece coded last (all_of units) known.units_are here in
        let same_unit : suc last ≡ units_before (suc number) sent = omega arith in
        let next : first_number (all_of units) (suc last)
        ≡ first_number (all_of units) (units_before (suc number) sent) =
        ap (first_number (all_of units)) same_unit in
        some_from loads (length loads) pace table known.schedule missed number (first_number (all_of units) last)
        (omega (arith, as_loads, all)) (omega (arith, begins, low)) (omega (arith, ends, next, high)) comes

    reached_by : (number : ℕ) → left.first ≡ suc number → 1 ≤ length left.rest
        → list_any (λ at. nat_le missed at) (slots_of table number) ≡ true
    reached_by number next some =
        let few = left.few in
        let ends : cut < units_before (suc number) sent =
        subst (λ (n : ℕ). cut < units_before n sent) next (left.ends some) in
        some_come number (omega arith) ends
