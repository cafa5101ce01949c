-- A receiver that enters a compiled stream behind any number of its packets keeps its coded data buffer, has each set
-- decoded by its time, and is never worse off than one that gets the whole stream, whose levels are those of the
-- schedule.
use Rattle.std.proofs.Common.{◌≡◌, ◌∙◌, inl, inr, ℕ, zero, suc, ◌+◌, ◌-◌, ◌<◌, ◌≤◌, true, false, ◌&&◌, cond, ltb, min, Some, None, List, [], ◌∷◌, length, map, take, drop, reverse, get_or, refl, sym, ap, subst, arith, take_all}
use Rattle.std.specs.Prelude.{All, nat_le, slice_get}
use Rattle.std.specs.List.{list_all}
use Rattle.std.proofs.lemmas.Bool.{cases_lt}
use Rattle.std.proofs.lemmas.Bool.Decides.{nat_tests}
use Rattle.std.proofs.lemmas.List.{length-map}
use Rattle.std.proofs.lemmas.Option.{slice_get_within}
use Rattle.std.proofs.lemmas.List.Elements.{recursion_from_All}
use Rattle.sub_base.specs.Pace.{pace_of}
use Rattle.sub_base.specs.Profile.{profile_of}
use Rattle.sub_base.specs.declared.load.WriteLoad.{WriteLoad}
use Rattle.sub_base.specs.declared.pace.Pace.{Pace}
use Rattle.page_epoch.specs.declared.planned_set.PlannedSet.{PlannedSet}
use Rattle.buffer_model.specs.Calls.{Call, level_at}
use Rattle.buffer_model.specs.Within.{AreWithin}
use Rattle.schedule.specs.Packets.{load_of, packets_of}
use Rattle.schedule.specs.Slots.{IsLoad, slots_of}
use Rattle.decoder_model.specs.Frames.{only}
use Rattle.decoder_model.specs.Arrivals.{packets_taken}
use Rattle.decoder_model.specs.Readings.{AreDeliveriesRead}
use Rattle.decoder_model.specs.Received.{HasReceived}
use Rattle.decoder_model.specs.Sets.{Delivery}
use Rattle.decoder_model.specs.Streams.{is_from, entered_at}
use Rattle.scheduled_level_laws.specs.DoneSets.{DoneSet, done_sets, AreDoneNoLater, IsDecodedBy}
use Rattle.scheduled_level_laws.specs.EnteredCalls.{Entry, is_whole, entered_calls, whole_entry, planned_painting}
use Rattle.scheduled_level_laws.proofs.EnteredDone.{dones_no_later, set_decoded, all_dones, all_times}
use Rattle.scheduled_level_laws.proofs.EnteredLevels.{IsEntry}
use Rattle.scheduled_level_laws.proofs.EnteredSums.{last_packet}
use Rattle.scheduled_level_laws.proofs.EnteredWithin.{Holds, no_higher, level_within, entered_within}
use Rattle.scheduled_level_laws.proofs.WholeLevels.{one_level}
use Rattle.shown_stream.specs.Compiled.{all_units, IsCompiledTo, Compiling, received_by}
use Rattle.shown_stream.specs.SentSets.{sent_set, sent_sets, first_times_from}
use Rattle.shown_stream.specs.Shows.{IsAnchorOf}
use Rattle.shown_stream.specs.StaysWithin.{AreCallsBefore, IsKeptCall, StaysWithin, IsAsScheduled}
use Rattle.received_level_laws.specs.StreamCalls.{itself, set_calls, calls_from, AreCallsOf}
use Rattle.shown_stream.proofs.Calls.CompiledCalls.{compiled_stream, compiled_entry}
use Rattle.shown_stream.proofs.Calls.CompiledHeard.{compiled_read, ended_sets, heard_calls, before_slot, packet_inside}
use Rattle.shown_stream.proofs.Calls.CompiledTimes.{cut_units, entry_before}
use Rattle.shown_stream.proofs.Sent.CompiledPackets.{packets_in, ArePackets}
use Rattle.shown_stream.proofs.Sent.CompiledWithin.{compiled_holds, compiled_is_entry}
use Rattle.shown_stream.proofs.Calls.LateCalls.{entry_behind}
use Rattle.shown_stream.proofs.Calls.NoneDropped.{none_dropped}
use Rattle.sent_sets.proofs.SentLate.{have_packets}
use Rattle.shown_stream.proofs.Late.LateCompiled.{IsEnteredLate, compiled_late}
use Rattle.shown_stream.proofs.Late.LatePlaces.{count_sets}
use Rattle.shown_stream.proofs.Sent.PlannedTimes.{pts_of}
use Rattle.shown_stream.proofs.Calls.ReceivedLoads.{heard_painting, heard_from, heard_most, planned_times}
use Rattle.shown_stream.specs.SentPlan.{sent_plan}
use Rattle.slot_stream.proofs.SentPieces.{IsFree}
use Rattle.sent_sets.proofs.LateStream.{passed, pieces_left}
use Rattle.sent_sets.proofs.PacketCounts.{as_many}
use Rattle.sent_sets.proofs.SlotPlaces.{HavePackets}

-- ---- the whole stream

none_passed : (slots : List ℕ) → passed (0 + 0) slots ≡ 0
none_passed [] = refl
none_passed (slot ∷ slots) =
    ap (λ b. cond b (suc (passed (0 + 0) slots)) 0)
    (let t : ltb slot (0 + 0) ≡ false = grind (arith, nat_tests) in t)

entry_at_first : (groups : List (List (List ℕ))) → HavePackets groups → entry_behind 0 0 groups ≡ whole_entry
entry_at_first [] some = refl
entry_at_first (group ∷ groups) some =
    let first = some.0 in ap (λ b. cond b whole_entry (entry_behind (0 - length group) 1 groups))
    (let t : ltb 0 (length group) ≡ true = grind (arith, nat_tests) in t)

all_from : (places : List ℕ) → list_all (λ at. nat_le 0 at) places ≡ true
all_from [] = refl
all_from (place ∷ places) =
    ap (λ b. b && list_all (λ at. nat_le 0 at) places)
    (let t : nat_le 0 place ≡ true = grind (arith, nat_tests) in t) ∙ all_from places

first_of : (sets : List PlannedSet) → 0 < length sets → PlannedSet
first_of [] some = absurd (omega arith)
first_of (set ∷ sets) some = set

-- where no packet is missed, the stream is entered at its first packet
whole_entered : (compiling : Compiling) (bytes : List ℕ)
    (compiled : IsCompiledTo compiling bytes) (known : ArePackets compiling bytes compiled)
    (loads_are : All IsLoad compiled.loads)
    → compiled_entry compiling bytes compiled known loads_are 0 ≡ whole_entry
whole_entered compiling bytes compiled known loads_are =
    let coded = (profile_of compiling.profile).coded in
    let is = compiled_stream compiling bytes compiled known loads_are in
    let units = all_units compiled.units in
    let none : cut_units compiling bytes compiled known loads_are 0 ≡ 0 =
    (pieces_left coded (passed (0 + 0) compiled.table.slots) units is.whole).none (none_passed compiled.table.slots)
    in
    ap (λ n. entry_behind n 0 compiled.units) none
    ∙ entry_at_first compiled.units
    (have_packets compiled.loads compiled.units (recursion_from_All IsLoad compiled.loads compiled.each)
    compiled.sized)

-- and no set is cut
none_cut : (compiling : Compiling) (bytes : List ℕ)
    (compiled : IsCompiledTo compiling bytes) (known : ArePackets compiling bytes compiled)
    → (late : IsEnteredLate compiling bytes compiled known.sent 0) → late.first ≡ 0
none_cut compiling bytes compiled known late = elim (cases_lt 0 late.first) [
  | inl some ↦
      let many : 0 < length compiled.sets =
      omega (
        arith,
        some,
        late.few,
        (count_sets compiling.script compiling.page compiled.sets compiled.units known.sent
            known.are.are).0,
      ) in
      let cut = (late.whole 0 (first_of compiled.sets many) many).0 some in
      absurd (let no : true ≡ false = sym (all_from (slots_of compiled.table 0)) ∙ cut in cc)
  | inr none ↦ omega (arith, none)
]

-- the calls of the whole stream are those of the schedule
whole_calls : (compiling : Compiling) (bytes : List ℕ) → IsFree compiling.pid
    → (compiled : IsCompiledTo compiling bytes) (known : ArePackets compiling bytes compiled)
    (loads_are : All IsLoad compiled.loads)
    → (anchor slot : ℕ) → IsAnchorOf (first_times_from 0 (sent_sets compiled.table compiled.sets)) anchor
    → (calls : List Call)
    → AreCallsBefore slot (received_by compiling anchor) 0 (packets_in compiling bytes compiled) calls
    → calls ≡ entered_calls compiled.loads compiled.table.slots slot (planned_painting compiled.loads) whole_entry
    (length compiled.loads)
whole_calls compiling bytes free compiled known loads_are anchor slot suits calls given =
    let loads = compiled.loads in
    let late = compiled_late compiling bytes free compiled known 0 in
    let none = none_cut compiling bytes compiled known late in
    let painted : heard_painting loads late.first ≡ planned_painting loads =
    (λ k i. heard_from loads late.first i (omega (arith, none)) k) in
    heard_calls compiling bytes free compiled known loads_are anchor 0 slot suits late calls given
    ∙ ap (λ paintings. entered_calls loads compiled.table.slots slot paintings
    (compiled_entry compiling bytes compiled known loads_are 0) (length loads)) painted
    ∙ ap (λ entry. entered_calls loads compiled.table.slots slot (planned_painting loads) entry (length loads))
    (whole_entered compiling bytes compiled known loads_are)

-- the slot behind a slot
next_slot : (slot : ℕ) → slot + 1 ≡ suc slot
next_slot slot = omega arith

-- each set is whole by the end of the stream
all_whole : (compiling : Compiling) (bytes : List ℕ)
    (compiled : IsCompiledTo compiling bytes) (known : ArePackets compiling bytes compiled)
    → All IsLoad compiled.loads → (i : ℕ) → i < length compiled.loads
    → is_whole compiled.loads compiled.table.slots (length (packets_in compiling bytes compiled)) i
    ≡ true
all_whole compiling bytes compiled known loads_are i inside =
    let last =
    last_packet compiled.loads compiled.table.slots i
    (compiled_stream compiling bytes compiled known loads_are).are inside in
    let before =
    packet_inside compiling bytes compiled known loads_are i (packets_of compiled.loads i - 1) inside
    last in
    grind (arith, nat_tests)

-- its levels and done ticks are those of the schedule
pub compiled_scheduled : (compiling : Compiling) (bytes : List ℕ) → IsFree compiling.pid
    → (compiled : IsCompiledTo compiling bytes) (known : ArePackets compiling bytes compiled)
    → (anchor : ℕ)
    → IsAnchorOf (first_times_from 0 (sent_sets compiled.table compiled.sets)) anchor
    → IsAsScheduled (sent_plan compiling compiled.sets compiled.table) compiled.loads
    (packets_in compiling bytes compiled) anchor
compiled_scheduled compiling bytes free compiled known anchor suits = record {
  level =
      λ slot calls given. ap (level_at pace slot 0)
      (are (slot + 1) calls given
      ∙ ap (λ bound. entered_calls loads compiled.table.slots bound (planned_painting loads) whole_entry
      (length loads)) (next_slot slot)) ∙ one_level loads pace compiled.table slot holds;
  times =
      λ calls given. ap (λ found. map (λ (set : DoneSet). set.time) (done_sets pace found))
      (are (length packets) calls given)
      ∙ all_times loads pace compiled.table (length packets) (length loads) (pts_of sets) holds
      (omega (arith, many, length-map sets (λ (set : PlannedSet). set.pts)))
      (λ i inside. sym
      (planned_times compiling.script sets loads compiled.planned.asked i (omega (arith, inside, many))))
      (omega arith) whole
      ∙ ap reverse
      (take_all (length loads) (pts_of sets)
      (omega (arith, many, length-map sets (λ (set : PlannedSet). set.pts))));
  kept =
      λ calls given. subst (All IsKeptCall) (sym (are (length packets) calls given))
      (none_dropped loads compiled.table.slots (length packets) (planned_painting loads) whole_entry (length loads));
  dones =
      λ calls given. ap (λ found. map (λ (set : DoneSet). set.done) (done_sets pace found))
      (are (length packets) calls given)
      ∙ all_dones loads pace compiled.table (length packets) (length loads) holds compiled.schedule.sets.1
      (omega arith) whole
      ∙ ap reverse (take_all (length loads) compiled.table.dones (omega (arith, compiled.schedule.sets.1)));
}
  where
    loads : List WriteLoad
    loads = compiled.loads

    sets : List PlannedSet
    sets = compiled.sets

    pace : Pace
    pace = pace_of compiling.script.origin (profile_of compiling.profile)

    packets : List (List ℕ)
    packets = packets_in compiling bytes compiled

    many : length loads ≡ length sets
    many =
        as_many loads compiled.units compiled.sized
        ∙ (count_sets compiling.script compiling.page sets compiled.units known.sent known.are.are).1

    holds : Holds loads pace compiled.table
    holds = compiled_holds compiling bytes compiled known compiled.each

    are : (slot : ℕ) (calls : List Call) → AreCallsBefore slot (received_by compiling anchor) 0 packets calls
        → calls ≡ entered_calls loads compiled.table.slots slot (planned_painting loads) whole_entry (length loads)
    are slot calls given =
        whole_calls compiling bytes free compiled known compiled.each anchor slot suits calls given

    whole : (i : ℕ) → i < length loads → is_whole loads compiled.table.slots (length packets) i ≡ true
    whole i inside = all_whole compiling bytes compiled known compiled.each i inside

-- ---- a receiver that enters late

time_found : (sets : List PlannedSet) (i : ℕ) (set : PlannedSet) → slice_get sets i ≡ Some set
    → get_or (pts_of sets) i 0 ≡ set.pts
time_found [] i set found = absurd (let no : None ≡ Some set = found in cc)
time_found (first ∷ sets) zero set found = let same : first ≡ set = cc in ap (λ (one : PlannedSet). one.pts) same
time_found (first ∷ sets) (suc i) set found = time_found sets i set found

pub compiled_stays : (compiling : Compiling) (bytes : List ℕ) → IsFree compiling.pid
    → (compiled : IsCompiledTo compiling bytes) (known : ArePackets compiling bytes compiled)
    → (missed anchor : ℕ)
    → IsAnchorOf (first_times_from missed (sent_sets compiled.table compiled.sets)) anchor
    → StaysWithin (sent_plan compiling compiled.sets compiled.table)
    (packets_in compiling bytes compiled) missed anchor
compiled_stays compiling bytes free compiled known missed anchor suits = record {
  given = given_before;
  within =
      λ slot calls given. subst (AreWithin pace) (sym (heard slot calls given))
      (entered_within loads pace compiled.table slot painted entry (length loads) holds is_entry (omega arith));
  level =
      λ slot calls given. subst
      (λ (found : List Call). level_at pace slot 0 found ≤ (profile_of compiling.profile).coded)
      (sym (at_slot slot calls given))
      (omega (
        arith,
        no_higher loads pace compiled.table painted entry slot holds is_entry,
        level_within loads pace
            compiled.table slot holds,
      ));
  decoded = is_decoded;
  ended = is_ended;
  no_worse = not_worse;
}
  where
    loads : List WriteLoad
    loads = compiled.loads

    sets : List PlannedSet
    sets = compiled.sets

    pace : Pace
    pace = pace_of compiling.script.origin (profile_of compiling.profile)

    packets : List (List ℕ)
    packets = packets_in compiling bytes compiled

    entry : Entry
    entry = compiled_entry compiling bytes compiled known compiled.each missed

    late : IsEnteredLate compiling bytes compiled known.sent missed
    late = compiled_late compiling bytes free compiled known missed

    painted : ℕ → ℕ
    painted = heard_painting loads late.first

    many : length loads ≡ length sets
    many =
        as_many loads compiled.units compiled.sized
        ∙ (count_sets compiling.script compiling.page sets compiled.units known.sent known.are.are).1

    holds : Holds loads pace compiled.table
    holds = compiled_holds compiling bytes compiled known compiled.each

    is_entry : IsEntry loads compiled.table.slots painted entry
    is_entry =
        compiled_is_entry compiling bytes compiled known compiled.each painted missed
        (λ i inside. heard_most loads late.first i)

    heard : (slot : ℕ) (calls : List Call) → AreCallsBefore slot (received_by compiling anchor) missed packets calls
        → calls ≡ entered_calls loads compiled.table.slots slot painted entry (length loads)
    heard slot calls given =
        heard_calls compiling bytes free compiled known compiled.each anchor missed slot suits late calls
        given

    at_slot : (slot : ℕ) (calls : List Call)
        → AreCallsBefore (slot + 1) (received_by compiling anchor) missed packets calls
        → calls ≡ entered_calls loads compiled.table.slots (suc slot) painted entry (length loads)
    at_slot slot calls given =
        heard (slot + 1) calls given
        ∙ ap (λ bound. entered_calls loads compiled.table.slots bound painted entry (length loads)) (next_slot slot)

    given_before : (slot : ℕ) → (calls : List Call)
        × AreCallsBefore slot (received_by compiling anchor) missed packets calls
    given_before slot =
        let some =
        compiled_read compiling bytes free compiled known compiled.each anchor missed
        (min (slot - missed) (length (drop missed packets))) suits late in (
          reverse (calls_from itself (profile_of compiling.profile).coded compiling.pid (only compiling.page) missed []
              (packets_taken compiling.pid (drop missed (take slot packets)))
              (set_calls (profile_of compiling.profile) anchor (reverse some.0))),
          record {
            past = some.0;
            received = subst
                (λ (found : List (List ℕ)). HasReceived (received_by compiling anchor) false found some.0)
                (sym (before_slot missed slot packets)) some.1;
            are = refl;
          },
        )

    is_decoded : (calls : List Call)
        → AreCallsBefore (length packets) (received_by compiling anchor) missed packets calls
        → (number : ℕ) (set : PlannedSet)
        → slice_get sets number ≡ Some set → is_from missed (sent_set compiled.table number set) ≡ true
        → IsDecodedBy (done_sets pace calls) set.pts
    is_decoded calls given number set found from =
        let there = slice_get_within sets number set found in
        let inside : number < length loads = omega (arith, there, many) in
        let behind : entry.set ≤ number = elim (cases_lt number late.first) [
          | inl before ↦ absurd (let no : true ≡ false = sym from ∙ (late.whole number set there).0 before in cc)
          | inr later ↦ omega
              (arith, later, entry_before compiling bytes free compiled known compiled.each missed late)
        ] in
        let time : (load_of loads number).pts ≡ set.pts =
        sym (planned_times compiling.script sets loads compiled.planned.asked number there)
        ∙ time_found sets number set found in
        subst (IsDecodedBy (done_sets pace calls)) time
        (subst (λ (found : List Call). IsDecodedBy (done_sets pace found) (load_of loads number).pts)
        (sym (heard (length packets) calls given))
        (set_decoded loads pace compiled.table (length packets) painted entry (length loads) number holds is_entry
        (omega arith) behind inside
        (all_whole compiling bytes compiled known compiled.each number inside)))

    is_ended : (calls : List Call)
        → AreCallsOf (received_by compiling anchor) missed true (entered_at missed packets) calls
        → AreCallsBefore (length packets) (received_by compiling anchor) missed packets calls
    is_ended calls given =
        let all : take (length packets) packets ≡ packets = take_all (length packets) packets (omega arith) in
        subst (λ (found : List (List ℕ)). AreCallsOf (received_by compiling anchor) missed false
        (entered_at missed found) calls) (sym all) (record {
          past = given.past;
          received =
              subst (λ (found : List (Delivery (List ℕ))). AreDeliveriesRead (reverse found) given.past)
              (ended_sets compiling bytes free compiled known compiled.each missed) given.received;
          are = given.are;
        })

    not_worse : (slot other : ℕ) (calls whole : List Call)
        → IsAnchorOf (first_times_from 0 (sent_sets compiled.table sets)) other
        → AreCallsBefore (slot + 1) (received_by compiling anchor) missed packets calls
        → AreCallsBefore (slot + 1) (received_by compiling other) 0 packets whole
        → (level_at pace slot 0 calls ≤ level_at pace slot 0 whole)
        × AreDoneNoLater (done_sets pace calls) (done_sets pace whole)
    not_worse slot other calls whole suits_too given all =
        let some_are = at_slot slot calls given in
        let all_are =
        whole_calls compiling bytes free compiled known compiled.each other (slot + 1) suits_too whole
        all ∙ ap (λ bound. entered_calls loads compiled.table.slots bound (planned_painting loads) whole_entry
        (length loads)) (next_slot slot) in (
          omega (
            arith,
            ap (level_at pace slot 0) some_are,
            ap (level_at pace slot 0) all_are,
            no_higher loads pace compiled.table painted entry slot holds is_entry,
            one_level loads pace compiled.table slot holds,
          ),
          subst (λ (found : List Call). AreDoneNoLater (done_sets pace found) (done_sets pace whole)) (sym some_are)
              (subst (λ (found : List Call). AreDoneNoLater
              (done_sets pace (entered_calls loads compiled.table.slots (suc slot) painted entry (length loads)))
              (done_sets pace found)) (sym all_are)
              (dones_no_later loads pace compiled.table.slots (suc slot) painted entry (length loads) is_entry
              (omega arith))),
        )
