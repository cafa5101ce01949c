-- A receiver that takes the first packet that it gets for the first one of all, at the tick at which it comes, counts
-- as one that knows its slot.
use Rattle.std.proofs.Common.{◌≡◌, ◌∙◌, ℕ, zero, suc, ◌+◌, ◌-◌, ◌<◌, ◌≤◌, Bool, true, false, ◌||◌, Some, None, List, [], ◌∷◌, length, filter, drop, get_or, refl, sym, ap, subst, arith, length-drop, mul-le-mul_right}
use Rattle.std.specs.Prelude.{nat_le, slice_get, slice_index}
use Rattle.std.specs.Bool.{if◌then◌else◌}
use Rattle.std.specs.List.{AllByRecursion, list_any}
use Rattle.std.proofs.lemmas.Bool.Decides.{nat_tests}
use Rattle.std.proofs.lemmas.List.{get_or-take, get_or-drop, length-take-le}
use Rattle.std.proofs.lemmas.List.Elements.{All-from_recursion, All-map}
use Rattle.std.proofs.lemmas.Option.{slice_get_within}
use Rattle.sub_base.specs.Pace.{pace_of, tick_of}
use Rattle.sub_base.specs.Profile.{profile_of}
use Rattle.sub_base.specs.declared.load.WriteLoad.{WriteLoad}
use Rattle.sub_base.specs.declared.pace.Pace.{Pace}
use Rattle.cue_list.specs.Sound.{IsTick}
use Rattle.page_epoch.specs.declared.planned_set.PlannedSet.{PlannedSet}
use Rattle.buffer_model.specs.Calls.{Call, Arrived, SetWhole, Dropped}
use Rattle.buffer_model.specs.Within.{AreWithin, AllHeard, has_arrived, moved}
use Rattle.buffer_model.proofs.MovedLaws.{moved_within}
use Rattle.schedule.specs.Packets.{first_packet, load_of, packets_of}
use Rattle.schedule.specs.Slots.{Timetable, IsSchedule, slot_of, slots_of, start_of}
use Rattle.schedule.proofs.AnswerLaws.{rises}
use Rattle.schedule.proofs.EarliestLaws.{rise-le}
use Rattle.schedule.proofs.SumLaws.{sum_below-suc, sum_below-rises}
use Rattle.decoder_model.specs.Streams.{SentSet, entered_at}
use Rattle.scheduled_level_laws.specs.EnteredCalls.{Entry}
use Rattle.scheduled_level_laws.proofs.EnteredHeard.{entered_heard}
use Rattle.received_level_laws.specs.StreamCalls.{AreCallsOf}
use Rattle.received_level_laws.proofs.LaterSlots.{told_later}
use Rattle.sent_sets.proofs.PacketCounts.{as_many}
use Rattle.sent_sets.proofs.SlotPlaces.{start_is}
use Rattle.slot_stream.proofs.SentPieces.{IsFree}
use Rattle.shown_stream.specs.Compiled.{IsCompiledTo, sent_pace, Compiling, received_by}
use Rattle.shown_stream.specs.SentSets.{sent_set, sent_from, sent_sets, times_from, first_times_from}
use Rattle.shown_stream.proofs.Shown.FirstTimes.{first_of_all_times}
use Rattle.shown_stream.specs.Shows.{IsAnchorOf, Suits}
use Rattle.shown_stream.specs.StaysWithin.{AreCallsBefore, StaysWithin}
use Rattle.shown_stream.proofs.Calls.CompiledCalls.{compiled_entry}
use Rattle.shown_stream.proofs.Calls.CompiledHeard.{heard_calls}
use Rattle.shown_stream.proofs.Calls.CompiledStays.{compiled_stays}
use Rattle.shown_stream.proofs.Calls.ReceivedLoads.{heard_most, heard_painting, planned_times}
use Rattle.shown_stream.proofs.Late.LateCompiled.{IsEnteredLate, compiled_late}
use Rattle.shown_stream.proofs.Late.LatePlaces.{count_sets}
use Rattle.shown_stream.proofs.Sent.CompiledPackets.{packets_in, ArePackets}
use Rattle.shown_stream.proofs.Sent.CompiledWithin.{compiled_is_entry}
use Rattle.shown_stream.proofs.Sent.PlannedTimes.{pts_of, times_in_span}
use Rattle.shown_stream.specs.SentPlan.{sent_plan}

-- ---- an anchor: the tick of the first slot

some_place : (j : ℕ) (xs : List ℕ) → list_any (λ at. nat_le j at) xs ≡ true
    → (k : ℕ) × (k < length xs) × (j ≤ get_or xs k 0)
some_place j [] some = absurd (let no : false ≡ true = some in cc)
some_place j (x ∷ xs) some = by (some_place j xs) (nat_le j x) refl some
  where
    by : (list_any (λ at. nat_le j at) xs ≡ true → (k : ℕ) × (k < length xs) × (j ≤ get_or xs k 0)) → (b : Bool)
        → nat_le j x ≡ b → (b || list_any (λ at. nat_le j at) xs) ≡ true
        → (k : ℕ) × (k < length (x ∷ xs)) × (j ≤ get_or (x ∷ xs) k 0)
    by later true low there = (0, omega arith, let below : j ≤ x = grind (arith, nat_tests) in below)
    by later false high there =
        let behind = later there in (suc behind.0, omega (arith, behind.1), behind.2)

-- where a packet of a set stands from a slot on, its last one does
last_from : (loads : List WriteLoad) (n : ℕ) (pace : Pace) (table : Timetable) → IsSchedule loads n pace table
    → (j i : ℕ) → i < n → list_any (λ at. nat_le j at) (slots_of table i) ≡ true
    → j ≤ slot_of loads table.slots i (packets_of loads i - 1)
last_from loads n pace table schedule j i inside some =
    let place = some_place j (slots_of table i) some in
    let start = start_of table i in
    let many = slice_index table.ends i - start in
    let begins = start_is loads n pace table schedule i (omega arith) in
    let ends = start_is loads n pace table schedule (suc i) (omega arith) in
    let more = sum_below-suc (packets_of loads) i in
    let all = sum_below-rises (packets_of loads) (suc i) n (omega arith) in
    let packets = schedule.packets in
    let rest = length-drop start table.slots in
    let size = length-take-le many (drop start table.slots) (omega arith) in
    let within : place.0 < many = omega (arith, place.1, size) in
    let here : get_or (slots_of table i) place.0 0 ≡ slice_index table.slots (start + place.0) =
    get_or-take many (drop start table.slots) place.0 0 within ∙ get_or-drop start table.slots place.0 0 in
    let later =
    rise-le table.slots (start + place.0) (first_packet loads i + (packets_of loads i - 1))
    (rises loads n pace table schedule) (omega arith) (omega arith) in
    omega (arith, place.2, here, later)

time_found : (sets : List PlannedSet) (i : ℕ) (set : PlannedSet) → slice_get sets i ≡ Some set
    → get_or (pts_of sets) i 0 ≡ set.pts
time_found [] i set found = absurd (let no : None ≡ Some set = found in cc)
time_found (first ∷ sets) zero set found = let same : first ≡ set = cc in ap (λ (one : PlannedSet). one.pts) same
time_found (first ∷ sets) (suc i) set found = time_found sets i set found

ticks_found : (origin : ℕ) (sets : List PlannedSet) (i : ℕ) (set : PlannedSet)
    → AllByRecursion (IsTick origin) (pts_of sets) → slice_get sets i ≡ Some set → IsTick origin set.pts
ticks_found origin [] i set ticks found = absurd (let no : None ≡ Some set = found in cc)
ticks_found origin (first ∷ sets) zero set ticks found =
    let same : first ≡ set = cc in subst (λ (one : PlannedSet). IsTick origin one.pts) same ticks.0
ticks_found origin (first ∷ sets) (suc i) set ticks found = ticks_found origin sets i set ticks.1 found

abbrev some_there : ℕ → List ℕ → Bool
some_there missed places = list_any (λ at. nat_le missed at) places

-- what holds of the sets of which a packet comes
come_suit : (anchor missed number : ℕ) (table : Timetable) (sets : List PlannedSet)
    → ((i : ℕ) (set : PlannedSet) → slice_get sets i ≡ Some set
    → some_there missed (slots_of table (number + i)) ≡ true → Suits anchor set.pts)
    → AllByRecursion (λ (set : SentSet). Suits anchor set.time)
    (filter (λ (set : SentSet). some_there missed set.places) (sent_from table number sets))
come_suit anchor missed number table [] each = tt
come_suit anchor missed number table (set ∷ sets) each =
    by (come_suit anchor missed (number + 1) table sets
    (λ i one found there. each (suc i) one found
    (ap (λ n. some_there missed (slots_of table n)) (omega arith) ∙ there)))
    (some_there missed (slots_of table number)) refl
  where
    rest : List SentSet
    rest = filter (λ (set : SentSet). some_there missed set.places) (sent_from table (number + 1) sets)

    by : AllByRecursion (λ (set : SentSet). Suits anchor set.time) rest → (b : Bool)
        → some_there missed (slots_of table number) ≡ b
        → AllByRecursion (λ (set : SentSet). Suits anchor set.time)
        (if b then sent_set table number set ∷ rest else rest)
    by behind true there = (
      each 0 set refl (ap (λ n. some_there missed (slots_of table n)) (omega arith) ∙ there),
      behind,
    )
    by behind false none = behind

-- the tick of the first slot suits the sets of which a packet comes: none is shown before
slot_suits : (compiling : Compiling) (bytes : List ℕ)
    (compiled : IsCompiledTo compiling bytes) → ArePackets compiling bytes compiled
    → (missed : ℕ)
    → IsAnchorOf (times_from missed (sent_sets compiled.table compiled.sets))
    (tick_of (sent_pace compiling.profile compiling.script) missed)
slot_suits compiling bytes compiled known missed =
    All-map (Suits anchor) (λ (set : SentSet). set.time)
    (filter (λ (set : SentSet). some_there missed set.places) (sent_sets table sets))
    (All-from_recursion (λ (set : SentSet). Suits anchor set.time)
    (filter (λ (set : SentSet). some_there missed set.places) (sent_sets table sets))
    (come_suit anchor missed 0 table sets suits))
  where
    sets : List PlannedSet
    sets = compiled.sets

    loads : List WriteLoad
    loads = compiled.loads

    table : Timetable
    table = compiled.table

    pace : Pace
    pace = sent_pace compiling.profile compiling.script

    anchor : ℕ
    anchor = tick_of pace missed

    many : length loads ≡ length sets
    many =
        as_many loads compiled.units compiled.sized
        ∙ (count_sets compiling.script compiling.page sets compiled.units known.sent known.are.are).1

    suits : (i : ℕ) (set : PlannedSet) → slice_get sets i ≡ Some set
        → some_there missed (slots_of table (0 + i)) ≡ true → Suits anchor set.pts
    suits i set found some =
        let there = slice_get_within sets i set found in
        let inside : i < length loads = omega (arith, there, many) in
        let last =
        last_from loads (length loads) pace table compiled.schedule missed i inside
        (ap (λ n. some_there missed (slots_of table n)) (omega arith) ∙ some) in
        let late = mul-le-mul_right pace.step last in
        let done = compiled.schedule.dones i inside in
        let ready = compiled.on_time.ready i inside in
        let time : (load_of loads i).pts ≡ set.pts =
        sym (planned_times compiling.script sets loads compiled.planned.asked i there) ∙ time_found sets i set found in
        let tick =
        ticks_found compiling.script.origin sets i set
        (times_in_span compiling.script (profile_of compiling.profile) sets compiled.planned.plan)
        found in
        let early = tick.early in
        (omega (arith, late, done, ready, time), omega (arith, early))

-- ---- buffer and times

moved_heard : (by : ℕ) (past : List Call) → AllHeard (moved by past) → AllHeard past
moved_heard by [] h = tt
moved_heard by (Arrived slot bytes ∷ past) h = moved_heard by past h
moved_heard by (SetWhole load ∷ past) h = (sym (same_arrived past) ∙ h.0, moved_heard by past h.1)
  where
    same_arrived : (past : List Call) → has_arrived (moved by past) ≡ has_arrived past
    same_arrived [] = refl
    same_arrived (Arrived slot bytes ∷ past) = refl
    same_arrived (SetWhole load ∷ past) = same_arrived past
    same_arrived (Dropped ∷ past) = same_arrived past
moved_heard by (Dropped ∷ past) h = moved_heard by past h

-- of a stream that is entered behind any number of its packets, and whose first packet is taken for the first one of
-- all, at its own tick, the calls are within buffer and times
pub checked_calls : (compiling : Compiling) (bytes : List ℕ) → IsFree compiling.pid
    → (compiled : IsCompiledTo compiling bytes) (known : ArePackets compiling bytes compiled)
    → (missed : ℕ) (calls : List Call)
    → AreCallsOf (received_by compiling (tick_of (sent_pace compiling.profile compiling.script) missed)) 0 true
    (entered_at missed (packets_in compiling bytes compiled)) calls
    → AreWithin (pace_of (tick_of (sent_pace compiling.profile compiling.script) missed) (profile_of compiling.profile))
    calls
checked_calls compiling bytes free compiled known missed calls given =
    moved_within pace missed calls (moved_heard missed calls all_heard) (stays.within (length packets) later before)
  where
    packets : List (List ℕ)
    packets = packets_in compiling bytes compiled

    pace : Pace
    pace = sent_pace compiling.profile compiling.script

    anchor : ℕ
    anchor = tick_of pace missed

    later : List Call
    later = moved missed calls

    suits : IsAnchorOf (first_times_from missed (sent_sets compiled.table compiled.sets)) anchor
    suits =
        first_of_all_times anchor missed (sent_sets compiled.table compiled.sets)
        (slot_suits compiling bytes compiled known missed)

    stays : StaysWithin (sent_plan compiling compiled.sets compiled.table) packets missed anchor
    stays = compiled_stays compiling bytes free compiled known missed anchor suits

    before : AreCallsBefore (length packets) (received_by compiling anchor) missed packets later
    before =
        stays.ended later
        (told_later (received_by compiling anchor) missed true (entered_at missed packets) calls given)

    late : IsEnteredLate compiling bytes compiled known.sent missed
    late = compiled_late compiling bytes free compiled known missed

    painted : ℕ → ℕ
    painted = heard_painting compiled.loads late.first

    entry : Entry
    entry = compiled_entry compiling bytes compiled known compiled.each missed

    all_heard : AllHeard later
    all_heard =
        subst AllHeard
        (sym (heard_calls compiling bytes free compiled known compiled.each anchor missed (length packets)
        suits late later before))
        (entered_heard compiled.loads compiled.table.slots painted (length packets) entry (length compiled.loads)
        (compiled_is_entry compiling bytes compiled known compiled.each painted missed
        (λ i inside. heard_most compiled.loads late.first i)) (omega arith))
