-- The packets of two joined streams, one by one, and how sending them ends.
use Rattle.std.proofs.Common.{◌≡◌, ◌∙◌, refl, sym, ap, subst, zero, suc, ℕ, ◌+◌, ◌-◌, ◌*◌, ◌<◌, ◌≤◌, ◌^◌, List, [], ◌∷◌, length, get_or, map, drop, Option, Some, None, All, arith, length-append}
use Rattle.std.specs.List.{AllByRecursion, AllZip, concat, range_with_len}
use Rattle.std.proofs.lemmas.List.{get_or_default, length-replicate, length-take}
use Rattle.std.proofs.lemmas.List.Elements.{All-from_recursion}
use Rattle.sub_base.specs.Endpoints.{HasWriteFault, Received, Wrote, WroteNothing, WrotePrefix}
use Rattle.sub_base.specs.Lists.{all_of}
use Rattle.sub_base.specs.declared.load.TheConstants.{UNIT_ROOM}
use Rattle.sub_base.specs.declared.load.WriteLoad.{WriteLoad}
use Rattle.sub_base.specs.declared.pace.Pace.{Pace}
use Rattle.stream_syntax.specs.TransportPackets.{adaptation_field, packet_count}
use Rattle.decoder_model.proofs.Lists.{all-append}
use Rattle.schedule.specs.Packets.{no_load}
use Rattle.schedule.specs.Refusals.{IsScheduleCause}
use Rattle.schedule.specs.Slots.{IsOnTime, Timetable}
use Rattle.schedule.specs.declared.fault.ScheduleFault.{ScheduleFault}
use Rattle.schedule.specs.declared.fault.ScheduleFault.TheVariants as schedule
use Rattle.sent_sets.specs.RawSets.{RawSet}
use Rattle.sent_sets.specs.SentStream.{AreSizedAs}
use Rattle.sent_sets.proofs.PacketCounts.{count_pieces}
use Rattle.slot_stream.specs.SlotStream.{Piece, all_pieces, no_piece, packet_at, packet_of, piece_of, place_from, slot_count, slot_packet, stream_of}
use Rattle.slot_stream.proofs.LaidPackets.{joined_map}
use Rattle.splice.specs.SpliceOutcome.{IsSplicedUnscheduled}
use Rattle.splice.specs.SplicedSets.{IsLoadOf, Streams, splice_pace, spliced_sets}
use Rattle.splice.specs.SplicedStream.{CanBeJoined, IsSplicedTo}
use Rattle.splice.specs.Private.JoinedSets.{AreCut, HaveRoom, IsJoinedOf}
use Rattle.splice.specs.Private.Sent.{AreInTime, AreSent, AreSentInPart, HaveSlots, IsSendEnd, unscheduled}
use Rattle.splice.specs.declared.joined.Joined.{Joined}
use Rattle.splice.specs.declared.splice_words.Splicing.{Splicing}

-- ---- each packet has 188 bytes

-- a piece that has room in a packet
abbrev IsShort : Piece → Type 0
IsShort piece = length piece.bytes ≤ 184

length-adaptation : (k : ℕ) → length (adaptation_field k) ≡ k
length-adaptation zero = refl
length-adaptation (suc zero) = refl
length-adaptation (suc (suc stuffing)) = omega (arith, length-replicate {A = ℕ} stuffing 0xFF)

packet_whole : (pid number : ℕ) (piece : Piece) → IsShort piece → length (packet_of pid number piece) ≡ 188
packet_whole pid number piece short =
    omega (
      arith,
      short,
      length-append (adaptation_field (184 - length piece.bytes)) piece.bytes,
      length-adaptation (184 - length piece.bytes),
    )

short_pieces_of : (unit : List ℕ) (from n : ℕ) → AllByRecursion IsShort (map (piece_of unit) (range_with_len from n))
short_pieces_of unit from zero = tt
short_pieces_of unit from (suc n) =
    (omega (arith, length-take 184 (drop (184 * from) unit)), short_pieces_of unit (from + 1) n)

short_pieces : (units : List (List ℕ)) → AllByRecursion IsShort (all_pieces units)
short_pieces [] = tt
short_pieces (unit ∷ units) =
    all-append IsShort (map (piece_of unit) (range_with_len 0 (packet_count (length unit)))) (all_pieces units)
    (short_pieces_of unit 0 (packet_count (length unit))) (short_pieces units)

short_at : (pieces : List Piece) (number : ℕ) → AllByRecursion IsShort pieces → IsShort (get_or pieces number no_piece)
short_at [] number short = omega arith
short_at (piece ∷ pieces) zero short = short.0
short_at (piece ∷ pieces) (suc number) short = short_at pieces number short.1

slot_whole : (pid : ℕ) (pieces : List Piece) (place : Option ℕ) → AllByRecursion IsShort pieces
    → length (packet_at pid pieces place) ≡ 188
slot_whole pid pieces None short = refl
slot_whole pid pieces (Some number) short =
    packet_whole pid number (get_or pieces number no_piece) (short_at pieces number short)

slots_whole : (pid : ℕ) (pieces : List Piece) (slots taken : List ℕ) → AllByRecursion IsShort pieces
    → AllByRecursion (λ packet. length packet ≡ 188) (map (slot_packet pid pieces slots) taken)
slots_whole pid pieces slots [] short = tt
slots_whole pid pieces slots (slot ∷ taken) short =
    (slot_whole pid pieces (place_from 0 slot slots) short, slots_whole pid pieces slots taken short)

-- the packets at all slots, one by one
abbrev slot_packets : ℕ → List (List ℕ) → List ℕ → List (List ℕ)
slot_packets pid units slots =
    map (slot_packet pid (all_pieces units) slots) (range_with_len 0 (slot_count slots))

each_whole : (pid : ℕ) (units : List (List ℕ)) (slots : List ℕ)
    → All (λ packet. length packet ≡ 188) (slot_packets pid units slots)
each_whole pid units slots =
    All-from_recursion (λ packet. length packet ≡ 188) (slot_packets pid units slots)
    (slots_whole pid (all_pieces units) slots (range_with_len 0 (slot_count slots)) (short_pieces units))

-- ---- what is lent

-- what is lent is cut alike
pub lent_cut : (loads given : List WriteLoad) (written lent : List (List ℕ)) (units : List (List (List ℕ)))
    → given ≡ loads → lent ≡ written → AreCut loads written units → AreCut given lent units
lent_cut loads given written lent units same is cut =
    subst (λ (l : List WriteLoad). AreCut l lent units) (sym same)
    (subst (λ (w : List (List ℕ)). AreCut loads w units) (sym is) cut)

-- one slot a piece
pub slots_pair : (loads : List WriteLoad) (units : List (List (List ℕ))) (table : Timetable) (all : List ℕ)
    (pieces lent : List Piece) → all ≡ table.slots → lent ≡ pieces → HaveSlots loads table → AreSizedAs loads units
    → pieces ≡ all_pieces (all_of units) → length all ≡ length lent
slots_pair loads units table all pieces lent all_is lent_is have sized are =
    ap length all_is ∙ have.packets ∙ count_pieces loads units sized ∙ ap length (sym are)
    ∙ ap length (sym lent_is)

-- there are fewer than 2 ^ 64 slots up to the last one
pub slot_count-small : (slots all : List ℕ) → all ≡ slots → All (λ slot. slot < 2 ^ 56) slots
    → slot_count all < 2 ^ 64
slot_count-small slots all same small = subst (λ (s : List ℕ). slot_count s < 2 ^ 64) (sym same) (below slots small)
  where
    below : (slots : List ℕ) → All (λ slot. slot < 2 ^ 56) slots → slot_count slots < 2 ^ 64
    below [] small = omega arith
    below (slot ∷ slots) small =
        let last : get_or (slot ∷ slots) (length slots) 0
        < 2 ^ 56 = small (length slots) 0 (omega arith) in omega arith

-- the bytes of the pieces that are lent, in the slots that are lent
pub lent_bytes : (pid : ℕ) (units : List (List (List ℕ))) (slots all : List ℕ) (pieces lent : List Piece)
    → pieces ≡ all_pieces (all_of units) → lent ≡ pieces → all ≡ slots
    → stream_of pid lent all ≡ stream_of pid (all_pieces (all_of units)) slots
lent_bytes pid units slots all pieces lent are lent_is all_is =
    ap (stream_of pid lent) all_is
    ∙ ap (λ (own : List Piece). stream_of pid own slots) (lent_is ∙ are)

-- ---- the joined streams

same_times : (sets : List RawSet) (loads : List WriteLoad) → AllZip IsLoadOf sets loads
    → map (λ (load : WriteLoad). load.load.pts) loads ≡ map (λ (set : RawSet). set.time) sets
same_times [] [] asked = refl
same_times [] (load ∷ loads) asked = absurd asked
same_times (set ∷ sets) [] asked = absurd asked
same_times (set ∷ sets) (load ∷ loads) asked = λ i. asked.0.time i ∷ same_times sets loads asked.1 i

-- sets that are on time have room, so their PES packets are kept
pub kept_cut : (sets : List RawSet) (joined : Joined) (pace : Pace) (table : Timetable)
    → (is : IsJoinedOf sets joined) → IsOnTime joined.loads.items (length joined.loads.items) pace table
    → AreCut joined.loads.items joined.written.items is.units
kept_cut sets joined pace table is on_time = record { whole = is.written room; sized = is.sized }
  where
    room : HaveRoom joined.loads.items
    room k d inside =
        subst (λ (load : WriteLoad). load.longest ≤ UNIT_ROOM)
        (get_or_default joined.loads.items k no_load d inside) (on_time.short k inside)

module _ (splicing : Splicing) (streams : Streams) (joined : Joined) (table : Timetable)
    (can : CanBeJoined splicing streams) (is : IsJoinedOf (spliced_sets splicing streams) joined)
    (in_time : AreInTime (splice_pace splicing) joined.loads.items table) where
  -- the packets at the slots of the sets are those of the joined streams
  abbrev its_bytes : List ℕ
  its_bytes = stream_of splicing.pid (all_pieces (all_of is.units)) table.slots

  abbrev its_packets : List (List ℕ)
  its_packets = slot_packets splicing.pid (all_of is.units) table.slots

  its_cut : AreCut joined.loads.items joined.written.items is.units
  its_cut = kept_cut (spliced_sets splicing streams) joined (splice_pace splicing) table is in_time.on_time

  is_spliced : IsSplicedTo splicing streams its_bytes
  is_spliced = record {
    joined = can;
    loads = joined.loads.items;
    asked = is.asked;
    table = table;
    sent = record {
      each = is.each;
      units = is.units;
      carried = is.carried;
      sized = is.sized;
      times = same_times (spliced_sets splicing streams) joined.loads.items is.asked;
      schedule = in_time.schedule;
      on_time = in_time.on_time;
      sent = refl;
    };
    held = in_time.held;
  }

  one_by_one : its_bytes ≡ concat its_packets
  one_by_one =
      joined_map (slot_packet splicing.pid (all_pieces (all_of is.units)) table.slots)
      (range_with_len 0 (slot_count table.slots))

  pub all_sent : (before now : Received)
      → ((units : List (List (List ℕ))) → AreCut joined.loads.items joined.written.items units
      → Wrote before now (stream_of splicing.pid (all_pieces (all_of units)) table.slots))
      → AreSent splicing streams before now
  all_sent before now wrote = record {
    packets = its_packets;
    each = each_whole splicing.pid (all_of is.units) table.slots;
    sent = subst (IsSplicedTo splicing streams) one_by_one is_spliced;
    written = subst (Wrote before now) one_by_one (wrote is.units its_cut);
  }

  pub sent_in_part : (before now : Received)
      → ((units : List (List (List ℕ))) → AreCut joined.loads.items joined.written.items units
      → WrotePrefix before now (stream_of splicing.pid (all_pieces (all_of units)) table.slots))
      → HasWriteFault before now → AreSentInPart splicing streams before now
  sent_in_part before now wrote failed =
      record { bytes = its_bytes; sent = is_spliced; written = wrote is.units its_cut; failed = failed }

-- ---- sets without slots

module _ (splicing : Splicing) (streams : Streams) (joined : Joined) (can : CanBeJoined splicing streams)
    (is : IsJoinedOf (spliced_sets splicing streams) joined) (before now : Received)
    (nothing : WroteNothing before now) where
  unscheduled_for : (fault : ScheduleFault) → IsScheduleCause joined.loads.items (splice_pace splicing) fault
      → (fault ≡ schedule.Memory → ⊥) → IsSplicedUnscheduled splicing streams fault
  unscheduled_for fault cause found =
      record { joined = can; loads = joined.loads.items; asked = is.asked; cause = cause; found = found }

  pub no_slots : (fault : ScheduleFault) → IsScheduleCause joined.loads.items (splice_pace splicing) fault
      → IsSendEnd splicing streams before now (unscheduled fault)
  no_slots schedule.Memory cause = nothing
  no_slots (schedule.CodedFull set size) cause =
      (unscheduled_for (schedule.CodedFull set size) cause (λ same. cc), nothing)
  no_slots (schedule.Late set done pts) cause =
      (unscheduled_for (schedule.Late set done pts) cause (λ same. cc), nothing)
  no_slots (schedule.SegmentFull set longest) cause =
      (unscheduled_for (schedule.SegmentFull set longest) cause (λ same. cc), nothing)
