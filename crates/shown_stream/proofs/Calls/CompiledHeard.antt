-- The calls that a compiled stream gives to a receiver that enters it behind any number of packets, before any slot:
-- those of its scheduled sets.
use Rattle.std.proofs.Common.{◌≡◌, ◌∙◌, ℕ, zero, suc, ◌+◌, ◌-◌, ◌<◌, true, false, nat_lt, List, [], ◌∷◌, length, map, take, drop, reverse, get_or, replicate, min, refl, sym, ap, subst, arith, inl, inr, take_all, length-append, length-drop}
use Rattle.std.specs.Prelude.{All}
use Rattle.std.specs.List.{take-map}
use Rattle.std.proofs.lemmas.Bool.{cases_lt}
use Rattle.std.proofs.lemmas.Bool.Decides.{nat_tests}
use Rattle.std.proofs.lemmas.List.{length-map, length-reverse, length-replicate, drop_all, length-take, get_or-take, drop-take}
use Rattle.sub_base.specs.Profile.{profile_of}
use Rattle.sub_base.specs.declared.load.WriteLoad.{WriteLoad}
use Rattle.buffer_model.specs.Calls.{Call}
use Rattle.stream_syntax.specs.TransportPackets.{null_packet}
use Rattle.schedule.specs.Packets.{sum_below, load_of, size_of, packets_of, payload_of, first_packet}
use Rattle.schedule.specs.Slots.{IsLoad, slot_of}
use Rattle.decoder_model.specs.Frames.{only}
use Rattle.decoder_model.specs.Readings.{Reading, AreDeliveriesRead}
use Rattle.decoder_model.specs.Received.{HasReceived}
use Rattle.decoder_model.specs.Sets.{Delivery, sets_of}
use Rattle.decoder_model.specs.Streams.{entered_at}
use Rattle.scheduled_level_laws.specs.EnteredCalls.{Entry, from_of, entered_calls}
use Rattle.scheduled_level_laws.proofs.EnteredDone.{same_bound}
use Rattle.scheduled_level_laws.proofs.EnteredSums.{within_slots}
use Rattle.shown_stream.specs.Compiled.{IsCompiledTo, all_units, Compiling, received_by}
use Rattle.shown_stream.specs.SentSets.{sent_sets, first_times_from}
use Rattle.shown_stream.specs.Shows.{IsAnchorOf}
use Rattle.slot_stream.specs.SlotStream.{Piece, all_pieces, packet_of}
use Rattle.shown_stream.specs.StaysWithin.{AreCallsBefore}
use Rattle.received_level_laws.specs.StreamCalls.{set_calls, AreCallsOf}
use Rattle.shown_stream.proofs.Calls.CallsOfPieces.{AreLeft}
use Rattle.shown_stream.proofs.Calls.CompiledCalls.{compiled_stream, compiled_entry, compiled_calls}
use Rattle.shown_stream.proofs.Calls.CompiledKept.{AreWholeUpTo, compiled_kept, read_turned}
use Rattle.shown_stream.proofs.Calls.CompiledTimes.{cut_units}
use Rattle.shown_stream.proofs.Sent.CompiledPackets.{packets_in, ArePackets}
use Rattle.shown_stream.proofs.Calls.EnteredSlots.{IsNotBegun, nothing_yet}
use Rattle.shown_stream.proofs.Calls.EntrySizes.{heard_sizes, count_behind}
use Rattle.shown_stream.proofs.Calls.KeptCalls.{IsWholeAt, are_left}
use Rattle.slot_stream.proofs.LaidPackets.{laid, IsAhead}
use Rattle.shown_stream.proofs.Calls.LateCalls.{IsSentStream, entry_not_begun}
use Rattle.shown_stream.proofs.Late.LateCompiled.{IsEnteredLate}
use Rattle.shown_stream.proofs.Late.LatePlaces.{count_sets}
use Rattle.shown_stream.proofs.Calls.ReceivedLoads.{heard_painting, AreAllHeard, all_heard, first_of_all, planned_times, drop_times, calls_of_first, count_calls, read_first}
use Rattle.slot_stream.proofs.SentPieces.{IsFree}
use Rattle.shown_stream.proofs.Shown.SetPaintings.{painting_in}
use Rattle.shown_stream.proofs.Calls.SetsUpTo.{sets_up_to}
use Rattle.sent_sets.proofs.LateSets.{sets_behind, units_behind, apart_behind}
use Rattle.sent_sets.proofs.LateStream.{entered_late}
use Rattle.sent_sets.proofs.SetEnds.{delivered}
use Rattle.sent_sets.proofs.SetsCome.{sets_come_whole}
use Rattle.sent_sets.proofs.Units.{TimedSet, size_of_units}

-- ---- the calls of sets

many_read : (deliveries : List (Delivery (List ℕ))) (past : List (Delivery Reading))
    → AreDeliveriesRead deliveries past
    → length past ≡ length deliveries
many_read [] [] h = refl
many_read [] (one ∷ past) h = absurd h
many_read (delivery ∷ deliveries) [] h = absurd h
many_read (delivery ∷ deliveries) (one ∷ past) h = ap suc (many_read deliveries past h.1)

-- up to any packet the calls of sets are those of the scheduled sets from the entry on
pub compiled_left : (compiling : Compiling) (bytes : List ℕ) → IsFree compiling.pid
    → (compiled : IsCompiledTo compiling bytes) (known : ArePackets compiling bytes compiled)
    (loads_are : All IsLoad compiled.loads)
    → (anchor missed m : ℕ) → IsAnchorOf (first_times_from missed (sent_sets compiled.table compiled.sets)) anchor
    → (late : IsEnteredLate compiling bytes compiled known.sent missed)
    → (past : List (Delivery Reading))
    → HasReceived (received_by compiling anchor) false
    (take m (entered_at missed (packets_in compiling bytes compiled))) past
    → AreLeft compiled.loads (heard_painting compiled.loads late.first)
    (compiled_entry compiling bytes compiled known loads_are missed)
    (compiled_entry compiling bytes compiled known loads_are missed).set
    (set_calls (profile_of compiling.profile) anchor (reverse past))
compiled_left compiling bytes free compiled known loads_are anchor missed m suits late past received =
    are_left compiled.loads (heard_painting compiled.loads late.first) entry
    (set_calls (profile_of compiling.profile) anchor (reverse past)) whole painted
  where
    entry : Entry
    entry = compiled_entry compiling bytes compiled known loads_are missed

    behind : List TimedSet
    behind = sets_behind (cut_units compiling bytes compiled known loads_are missed) known.sent

    some : AreWholeUpTo (profile_of compiling.profile) anchor (drop entry.set compiled.sets) behind past
    some = compiled_kept compiling bytes free compiled known loads_are anchor missed m suits past received

    all : AreAllHeard compiling bytes compiled known loads_are missed anchor late.first
    all = all_heard compiling bytes free compiled known loads_are missed anchor suits late

    few : (j : ℕ) → j < length (set_calls (profile_of compiling.profile) anchor (reverse past)) → (j < length past)
        × (j < some.count) × (j < length behind)
    few j inside =
        let many = many_read (map delivered (take some.count behind)) (reverse past) some.read in
        let bound : j < min some.count (length behind) =
        omega (
          arith,
          inside,
          count_calls (profile_of compiling.profile) anchor [] (reverse past),
          many,
          length-map
              (take some.count behind) delivered,
          length-take some.count behind,
        ) in (
          omega (
            arith,
            inside,
            count_calls (profile_of compiling.profile) anchor [] (reverse past),
            length-reverse
                past,
          ),
          omega
              (arith, bound),
          omega (arith, bound),
        )

    sizes : List TimedSet → List ℕ
    sizes sets = map (λ (one : TimedSet). size_of_units one.units) sets

    whole : (j : ℕ) → j < length (set_calls (profile_of compiling.profile) anchor (reverse past))
        → IsWholeAt (set_calls (profile_of compiling.profile) anchor (reverse past)) j
        (load_of compiled.loads (entry.set + j)).pts
        (size_of compiled.loads (entry.set + j) - sum_below (payload_of compiled.loads (entry.set + j))
        (from_of entry (entry.set + j)))
    whole j inside =
        let bounds = few j inside in
        let found = some.each j bounds.0 in
        let sent = (compiled_stream compiling bytes compiled known loads_are).sent in
        let n = cut_units compiling bytes compiled known loads_are missed in
        let place : entry.set + j < length compiled.sets =
        omega (
          arith,
          bounds.2,
          count_behind (profile_of compiling.profile).coded (only compiling.page) compiled.loads n 0 compiled.units
              known.sent sent,
          (count_sets compiling.script compiling.page compiled.sets compiled.units known.sent known.are.are).0,
        ) in
        record {
          load = found.load;
          is = found.is;
          at =
              found.at ∙ drop_times entry.set compiled.sets j
              ∙ planned_times compiling.script compiled.sets compiled.loads compiled.planned.asked (entry.set + j)
              place;
          many =
              found.many
              ∙ ap (λ found_sizes. get_or found_sizes j 0)
              (sym (take-map (λ (one : TimedSet). size_of_units one.units) some.count behind))
              ∙ get_or-take some.count (sizes behind) j 0 bounds.1
              ∙ heard_sizes (profile_of compiling.profile).coded (only compiling.page) compiled.loads n 0 compiled.units
              known.sent sent j
              bounds.2;
        }

    painted : (j : ℕ) → j < length (set_calls (profile_of compiling.profile) anchor (reverse past))
        → painting_in (get_or (set_calls (profile_of compiling.profile) anchor (reverse past)) j [])
        ≡ heard_painting compiled.loads late.first (entry.set + j)
    painted j inside =
        let bounds = few j inside in
        ap (λ found. painting_in (get_or (set_calls (profile_of compiling.profile) anchor found) j []))
        (first_of_all compiling bytes compiled known loads_are missed anchor late.first
        (drop entry.set compiled.sets) past all some)
        ∙ ap (λ found. painting_in (get_or found j []))
        (calls_of_first (profile_of compiling.profile) anchor some.count [] all.received)
        ∙ ap painting_in
        (get_or-take some.count (set_calls (profile_of compiling.profile) anchor all.received) j [] bounds.1)
        ∙ all.painted j
        (omega (
          arith,
          bounds.2,
          many_read (map delivered behind) all.received all.read,
          length-map behind
              delivered,
        ))

-- and what is received so far can be read
pub compiled_read : (compiling : Compiling) (bytes : List ℕ) → IsFree compiling.pid
    → (compiled : IsCompiledTo compiling bytes) (known : ArePackets compiling bytes compiled)
    (loads_are : All IsLoad compiled.loads)
    → (anchor missed m : ℕ) → IsAnchorOf (first_times_from missed (sent_sets compiled.table compiled.sets)) anchor
    → (late : IsEnteredLate compiling bytes compiled known.sent missed)
    → (past : List (Delivery Reading))
    × HasReceived (received_by compiling anchor) false
    (take m (entered_at missed (packets_in compiling bytes compiled))) past
compiled_read compiling bytes free compiled known loads_are anchor missed m suits late =
    let coded = (profile_of compiling.profile).coded in
    let is = compiled_stream compiling bytes compiled known loads_are in
    let n = cut_units compiling bytes compiled known loads_are missed in
    let all = all_heard compiling bytes free compiled known loads_are missed anchor suits late in
    let up_to =
    sets_up_to coded compiling.pid (only compiling.page) missed m (all_units compiled.units) known.sent
    compiled.table.slots free
    is.whole known.are.carry known.apart is.pieces is.ahead in (
      reverse (take up_to.0 all.received),
      read_turned
          (sets_of coded compiling.pid (only compiling.page) false
          (take m (entered_at missed (packets_in compiling bytes compiled)))) (take up_to.0 all.received)
          (subst (λ (found : List (Delivery (List ℕ))). AreDeliveriesRead found (take up_to.0 all.received))
          (take-map delivered up_to.0 (sets_behind n known.sent) ∙ sym up_to.1)
          (read_first up_to.0 (map delivered (sets_behind n known.sent)) all.received all.read)),
    )

-- the end of the stream makes no set ready
pub ended_sets : (compiling : Compiling) (bytes : List ℕ) → IsFree compiling.pid
    → (compiled : IsCompiledTo compiling bytes) (known : ArePackets compiling bytes compiled)
    → All IsLoad compiled.loads
    → (missed : ℕ)
    → sets_of (profile_of compiling.profile).coded compiling.pid (only compiling.page) true
    (entered_at missed (packets_in compiling bytes compiled))
    ≡ sets_of (profile_of compiling.profile).coded compiling.pid (only compiling.page) false
    (entered_at missed (packets_in compiling bytes compiled))
ended_sets compiling bytes free compiled known loads_are missed =
    let coded = (profile_of compiling.profile).coded in
    let is = compiled_stream compiling bytes compiled known loads_are in
    let packets = entered_at missed (packets_in compiling bytes compiled) in
    let units = all_units compiled.units in
    let n = cut_units compiling bytes compiled known loads_are missed in
    let come = entered_late compiling.pid coded missed units compiled.table.slots free is.whole is.pieces is.ahead in
    let are = units_behind coded (only compiling.page) n units known.sent known.are.carry in
    let apart = apart_behind n known.sent known.apart in
    sets_come_whole coded compiling.pid (only compiling.page) true packets (drop n units) (sets_behind n known.sent)
    come are apart
    ∙ sym (sets_come_whole coded compiling.pid (only compiling.page) false packets (drop n units)
    (sets_behind n known.sent) come are
    apart)

-- ---- before any slot

-- packets stand before the end of their stream
laid_inside : (pid from number k : ℕ) (pieces : List Piece) (slots : List ℕ) → IsAhead from slots
    → length pieces ≡ length slots → k < length slots
    → get_or slots k 0 < from + length (laid pid from number pieces slots)
laid_inside pid from number k pieces [] ahead same inside = absurd (omega arith)
laid_inside pid from number k [] (slot ∷ slots) ahead same inside = absurd (omega arith)
laid_inside pid from number zero (piece ∷ pieces) (slot ∷ slots) ahead same inside =
    let least = ahead.0 in
    omega (
      arith,
      length-append (replicate (slot - from) null_packet)
          (packet_of pid number piece ∷ laid pid (slot + 1) (number + 1) pieces slots),
      length-replicate {A = List ℕ}
          (slot - from) null_packet,
    )
laid_inside pid from number (suc k) (piece ∷ pieces) (slot ∷ slots) ahead same inside =
    let least = ahead.0 in
    let rest = laid_inside pid (slot + 1) (number + 1) k pieces slots ahead.1 (omega arith) (omega arith) in
    omega (
      arith,
      rest,
      length-append (replicate (slot - from) null_packet)
          (packet_of pid number piece ∷ laid pid (slot + 1) (number + 1) pieces slots),
      length-replicate {A = List ℕ}
          (slot - from) null_packet,
    )

pub packet_inside : (compiling : Compiling) (bytes : List ℕ)
    (compiled : IsCompiledTo compiling bytes) (known : ArePackets compiling bytes compiled)
    → All IsLoad compiled.loads → (i k : ℕ) → i < length compiled.loads
    → k < packets_of compiled.loads i
    → slot_of compiled.loads compiled.table.slots i k < length (packets_in compiling bytes compiled)
packet_inside compiling bytes compiled known loads_are i k inside within =
    let is = compiled_stream compiling bytes compiled known loads_are in
    omega (
      arith,
      laid_inside compiling.pid 0 0 (first_packet compiled.loads i + k) (all_pieces (all_units compiled.units))
          compiled.table.slots is.ahead is.pieces
          (within_slots compiled.loads compiled.table.slots i k is.are inside within),
    )

-- what comes before a slot is the first so many of what comes
pub before_slot : (missed slot : ℕ) (packets : List (List ℕ))
    → drop missed (take slot packets)
    ≡ take (min (slot - missed) (length (drop missed packets))) (drop missed packets)
before_slot missed slot packets = elim (cases_lt slot missed) [
  | inl early ↦
      let none : min (slot - missed) (length (drop missed packets)) ≡ 0 = omega arith in
      drop_all missed (take slot packets) (omega (arith, length-take slot packets))
      ∙ ap (λ n. take n (drop missed packets)) (sym none)
  | inr late ↦
      let split : slot ≡ missed + (slot - missed) = omega arith in
      ap (λ n. drop missed (take n packets)) split ∙ drop-take missed (slot - missed) packets
      ∙ cut_at (slot - missed) (drop missed packets)
]
  where
    cut_at : (n : ℕ) (xs : List (List ℕ)) → take n xs ≡ take (min n (length xs)) xs
    cut_at n xs = elim (cases_lt n (length xs)) [
      | inl few ↦ (let same : min n (length xs) ≡ n = omega arith in ap (λ k. take k xs) (sym same))
      | inr most ↦
          (let same : min n (length xs) ≡ length xs = omega arith in take_all n xs most
          ∙ sym (take_all (length xs) xs (omega arith)) ∙ ap (λ k. take k xs) (sym same))
    ]

-- the calls before a slot
pub heard_calls : (compiling : Compiling) (bytes : List ℕ) → IsFree compiling.pid
    → (compiled : IsCompiledTo compiling bytes) (known : ArePackets compiling bytes compiled)
    (loads_are : All IsLoad compiled.loads)
    → (anchor missed slot : ℕ) → IsAnchorOf (first_times_from missed (sent_sets compiled.table compiled.sets)) anchor
    → (late : IsEnteredLate compiling bytes compiled known.sent missed) → (calls : List Call)
    → AreCallsBefore slot (received_by compiling anchor) missed (packets_in compiling bytes compiled) calls
    → calls ≡ entered_calls compiled.loads compiled.table.slots slot (heard_painting compiled.loads late.first)
    (compiled_entry compiling bytes compiled known loads_are missed) (length compiled.loads)
heard_calls compiling bytes free compiled known loads_are anchor missed slot suits late calls given =
    compiled_calls compiling bytes free compiled known loads_are painted anchor missed m calls (omega arith)
    some (compiled_left compiling bytes free compiled known loads_are anchor missed m suits late
    some.past some.received) ∙ moved
  where
    packets : List (List ℕ)
    packets = packets_in compiling bytes compiled

    loads : List WriteLoad
    loads = compiled.loads

    entry : Entry
    entry = compiled_entry compiling bytes compiled known loads_are missed

    painted : ℕ → ℕ
    painted = heard_painting compiled.loads late.first

    m : ℕ
    m = min (slot - missed) (length (drop missed packets))

    some : AreCallsOf (received_by compiling anchor) missed false (take m (entered_at missed packets)) calls
    some =
        subst (λ (found : List (List ℕ)). AreCallsOf (received_by compiling anchor) missed false found
        calls) (before_slot missed slot packets) given

    is : IsSentStream (profile_of compiling.profile).coded (only compiling.page) loads compiled.table.slots
        compiled.units known.sent
    is = compiled_stream compiling bytes compiled known loads_are

    not_begun : IsNotBegun loads compiled.table.slots entry missed
    not_begun =
        entry_not_begun (profile_of compiling.profile).coded (only compiling.page) loads compiled.table.slots
        compiled.units known.sent missed
        is

    inside : (i k : ℕ) → i < length loads → k < packets_of loads i
        → slot_of loads compiled.table.slots i k < length packets
    inside i k within part = packet_inside compiling bytes compiled known loads_are i k within part

    moved : entered_calls loads compiled.table.slots (missed + m) painted entry (length loads)
        ≡ entered_calls loads compiled.table.slots slot painted entry (length loads)
    moved = elim (cases_lt slot missed) [
      | inl early ↦
          let none : missed + m ≡ missed = omega arith in
          ap (λ bound. entered_calls loads compiled.table.slots bound painted entry (length loads)) none
          ∙ nothing_yet loads compiled.table.slots painted entry missed (length loads) is.are (omega arith) not_begun
          ∙ sym (nothing_yet loads compiled.table.slots painted entry slot (length loads) is.are (omega arith)
          (λ there. ((not_begun there).0, (let later = (not_begun there).1 in omega (arith, later, early)))))
      | inr late_slot ↦ elim (cases_lt (length packets) slot) [
        | inl past ↦
            same_bound loads compiled.table.slots (missed + m) slot painted entry (length loads) is.are (omega arith)
            (λ i k within part. (let before = inside i k within part in
            let first : nat_lt (slot_of loads compiled.table.slots i k) (missed + m) ≡ true =
            (let low : slot_of loads compiled.table.slots i k
            < missed + m = omega (arith, before, late_slot, past, length-drop missed packets) in grind
            (arith, nat_tests)) in
            let second : nat_lt (slot_of loads compiled.table.slots i k) slot ≡ true =
            (let low : slot_of loads compiled.table.slots i k
            < slot = omega (arith, before, past) in grind (arith, nat_tests)) in
            first ∙ sym second))
        | inr within ↦
            (let same : missed + m
            ≡ slot = omega (arith, late_slot, within, length-drop missed packets) in ap
            (λ bound. entered_calls loads compiled.table.slots bound painted entry (length loads)) same)
      ]
    ]
