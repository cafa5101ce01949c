-- The sets of a compiled stream stand in order in it; where it is entered late the good ticks are those from the entry
-- set on.
use Rattle.std.proofs.Common.{◌≡◌, ◌∙◌, ℕ, ◌+◌, ◌-◌, ◌<◌, ◌≤◌, List, [], ◌∷◌, length, replicate, Some, sym, subst, arith, length-append}
use Rattle.std.specs.List.{AllByRecursion}
use Rattle.std.proofs.lemmas.List.{length-replicate}
use Rattle.std.proofs.lemmas.List.Elements.{recursion_from_All}
use Rattle.sub_base.specs.Pace.{pace_of}
use Rattle.sub_base.specs.Profile.{profile_of}
use Rattle.stream_syntax.specs.TransportPackets.{null_packet}
use Rattle.schedule.specs.Slots.{IsLoad, IsSchedule}
use Rattle.decoder_model.specs.Streams.{SentSet, entry_set, IsGoodTick}
use Rattle.shown_stream.specs.Compiled.{all_units, IsCompiledTo, Compiling}
use Rattle.shown_stream.specs.SentSets.{sent_sets}
use Rattle.slot_stream.specs.SlotStream.{Piece, packet_of, all_pieces}
use Rattle.shown_stream.proofs.Sent.CompiledPackets.{packets_in, ArePackets}
use Rattle.slot_stream.proofs.LaidPackets.{laid, IsAhead}
use Rattle.sent_sets.proofs.SentLate.{have_packets}
use Rattle.shown_stream.specs.GoodTicks.{late_sendings}
use Rattle.shown_stream.proofs.Late.LatePlaces.{count_sets}
use Rattle.shown_stream.proofs.Late.LateTicks.{AreInOrder, good_from_entry, entry_from_good}
use Rattle.shown_stream.proofs.Sent.PlannedOrder.{sets_in_order}
use Rattle.sent_sets.proofs.PacketCounts.{as_many, count_pieces}
use Rattle.sent_sets.proofs.RisingSlots.{slots_rise}
use Rattle.sent_sets.proofs.SlotPlaces.{some_bytes}

-- ---- slots are places of packets

below_more : (least most : ℕ) (slots : List ℕ) → least ≤ most → AllByRecursion (λ slot. slot < least) slots
    → AllByRecursion (λ slot. slot < most) slots
below_more least most [] le h = tt
below_more least most (slot ∷ slots) le h = let first = h.0 in (omega arith, below_more least most slots le h.1)

slots_inside : (pid from number : ℕ) (pieces : List Piece) (slots : List ℕ) → IsAhead from slots
    → length pieces ≡ length slots
    → AllByRecursion (λ slot. slot < from + length (laid pid from number pieces slots)) slots
slots_inside pid from number pieces [] ahead same = tt
slots_inside pid from number [] (slot ∷ slots) ahead same = absurd (omega arith)
slots_inside pid from number (piece ∷ pieces) (slot ∷ slots) ahead same =
    let least = ahead.0 in
    let rest = laid pid (slot + 1) (number + 1) pieces slots in
    let long : from + length (laid pid from number (piece ∷ pieces) (slot ∷ slots)) ≡ slot + 1 + length rest =
    omega (
      arith,
      length-append (replicate (slot - from) null_packet)
          (packet_of pid number piece ∷ rest),
      length-replicate {A = List ℕ} (slot - from) null_packet,
    ) in (
      omega (arith, long),
      below_more (slot + 1 + length rest)
          (from + length (laid pid from number (piece ∷ pieces) (slot ∷ slots))) slots (omega (arith, long))
          (slots_inside pid (slot + 1) (number + 1) pieces slots ahead.1 (omega arith)),
    )

-- ---- order

-- the sets of a compiled stream stand in order: each has a packet, their places rise, and so do their times
pub compiled_in_order : (compiling : Compiling) (bytes : List ℕ)
    (compiled : IsCompiledTo compiling bytes) → ArePackets compiling bytes compiled
    → AreInOrder (length (packets_in compiling bytes compiled)) (sent_sets compiled.table compiled.sets)
compiled_in_order compiling bytes compiled known =
    let coded = (profile_of compiling.profile).coded in
    let loads = compiled.loads in
    let pace = pace_of compiling.script.origin (profile_of compiling.profile) in
    let units = all_units compiled.units in
    let slots = compiled.table.slots in
    let ahead = slots_rise loads (length loads) pace compiled.table compiled.schedule in
    let same : length (all_pieces units) ≡ length slots =
    sym (count_pieces loads compiled.units compiled.sized) ∙ sym compiled.schedule.packets in
    let some = have_packets loads compiled.units (recursion_from_All IsLoad loads compiled.each) compiled.sized in
    let many : length loads ≡ length compiled.sets =
    as_many loads compiled.units compiled.sized
    ∙ (count_sets compiling.script compiling.page compiled.sets compiled.units known.sent known.are.are).1 in
    sets_in_order compiling.script (profile_of compiling.profile) loads pace compiled.table compiled.sets
    (length (packets_in compiling bytes compiled)) compiled.planned.plan
    (subst (λ (n : ℕ). IsSchedule loads n pace compiled.table) many compiled.schedule)
    (λ i inside. some_bytes coded loads compiled.units compiled.sized some known.units i (omega (arith, many, inside)))
    (below_more (0 + length (packets_in compiling bytes compiled))
    (length (packets_in compiling bytes compiled)) slots (omega arith)
    (slots_inside compiling.pid 0 0 (all_pieces units) slots ahead same))

-- ---- good ticks

-- from the entry set's time on a tick is good
pub compiled_good : (compiling : Compiling) (bytes : List ℕ)
    (compiled : IsCompiledTo compiling bytes) → ArePackets compiling bytes compiled
    → (missed tick : ℕ) (entry : SentSet)
    → entry_set missed (sent_sets compiled.table compiled.sets) ≡ Some entry → entry.time ≤ tick
    → IsGoodTick (sent_sets compiled.table compiled.sets)
    (late_sendings missed (packets_in compiling bytes compiled)) tick
compiled_good compiling bytes compiled known missed tick entry found come =
    good_from_entry missed tick (packets_in compiling bytes compiled)
    (sent_sets compiled.table compiled.sets) entry (compiled_in_order compiling bytes compiled known)
    found come

-- and no other one is
pub good_compiled : (compiling : Compiling) (bytes : List ℕ)
    (compiled : IsCompiledTo compiling bytes) → ArePackets compiling bytes compiled
    → (missed tick : ℕ)
    → IsGoodTick (sent_sets compiled.table compiled.sets)
    (late_sendings missed (packets_in compiling bytes compiled)) tick
    → (entry : SentSet) × (entry_set missed (sent_sets compiled.table compiled.sets) ≡ Some entry)
    × (entry.time ≤ tick)
good_compiled compiling bytes compiled known missed tick good =
    entry_from_good missed tick (packets_in compiling bytes compiled)
    (sent_sets compiled.table compiled.sets) (compiled_in_order compiling bytes compiled known) good
