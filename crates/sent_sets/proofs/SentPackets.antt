-- The packets that sets are sent in: joined they are the stream, each has 188 bytes, and a demultiplexer hands out all
-- units of all sets, each whole.
use Rattle.std.proofs.Common.{◌≡◌, ◌∙◌, ℕ, zero, suc, ◌+◌, ◌-◌, ◌<◌, ◌≤◌, List, [], ◌∷◌, ◌++◌, length, map, take, drop, replicate, inl, refl, sym, ap, subst, arith, length-append}
use Rattle.std.specs.Prelude.{sum}
use Rattle.std.specs.List.{AllByRecursion, concat}
use Rattle.std.proofs.Math.Seq.{take-append_seam, drop-append_seam}
use Rattle.std.proofs.lemmas.List.{length-replicate}
use Rattle.sub_base.specs.Lists.{all_of}
use Rattle.sub_base.specs.declared.load.WriteLoad.{WriteLoad}
use Rattle.sub_base.specs.declared.pace.Pace.{Pace}
use Rattle.stream_syntax.specs.Cutting.{IsUnit}
use Rattle.stream_syntax.specs.TransportPackets.{adaptation_field, null_packet}
use Rattle.decoder_model.proofs.Lists.{all-append}
use Rattle.decoder_model.proofs.SentUnits.{sent_come_whole, ComeWhole}
use Rattle.ts_packets.proofs.AnyCuttingLemmas.{any_cutting, nothing_lost}
use Rattle.schedule.specs.Packets.{size_of}
use Rattle.schedule.specs.Slots.{Timetable, IsSchedule}
use Rattle.slot_stream.specs.SlotStream.{Piece, all_pieces, packet_of, IsPiece, stream_of}
use Rattle.slot_stream.proofs.LaidPackets.{laid, IsAhead, stream_is_laid}
use Rattle.slot_stream.proofs.SentPieces.{IsFree, all-replicate, none_refused}
use Rattle.slot_stream.proofs.SentStream.{pieces_are, sent_units}
use Rattle.sent_sets.specs.SentStream.{AreSizedAs}
use Rattle.sent_sets.proofs.LateStream.{no_counter}
use Rattle.sent_sets.proofs.PacketCounts.{count_pieces}
use Rattle.sent_sets.proofs.RisingSlots.{slots_rise}

-- ---- how long they are

length-adaptation : (k : ℕ) → length (adaptation_field k) ≡ k
length-adaptation zero = refl
length-adaptation (suc zero) = refl
length-adaptation (suc (suc stuffing)) = omega (arith, length-replicate {A = ℕ} stuffing 0xFF)

packet_whole : (pid number : ℕ) (piece : Piece) → IsPiece piece → length (packet_of pid number piece) ≡ 188
packet_whole pid number piece is =
    omega (
      arith,
      is.1,
      length-append (adaptation_field (184 - length piece.bytes)) piece.bytes,
      length-adaptation
          (184 - length piece.bytes),
    )

null_whole : length null_packet ≡ 188
null_whole = refl

laid_whole : (pid from number : ℕ) (pieces : List Piece) (slots : List ℕ) → AllByRecursion IsPiece pieces
    → AllByRecursion (λ packet. length packet ≡ 188) (laid pid from number pieces slots)
laid_whole pid from number [] slots are = tt
laid_whole pid from number (piece ∷ pieces) [] are = tt
laid_whole pid from number (piece ∷ pieces) (slot ∷ slots) are =
    all-append (λ packet. length packet ≡ 188) (replicate (slot - from) null_packet)
    (packet_of pid number piece ∷ laid pid (slot + 1) (number + 1) pieces slots)
    (all-replicate (λ packet. length packet ≡ 188) null_packet (slot - from) null_whole)
    (packet_whole pid number piece are.0, laid_whole pid (slot + 1) (number + 1) pieces slots are.1)

-- bytes are packets of 188 bytes in one way
pub one_cutting : (xs ys : List (List ℕ)) → AllByRecursion (λ packet. length packet ≡ 188) xs
    → AllByRecursion (λ packet. length packet ≡ 188) ys → concat xs ≡ concat ys → xs ≡ ys
one_cutting [] [] h k e = refl
one_cutting [] (y ∷ ys) h k e = absurd (omega (arith, ap length e, k.0, length-append y (concat ys)))
one_cutting (x ∷ xs) [] h k e = absurd (omega (arith, ap length e, h.0, length-append x (concat xs)))
one_cutting (x ∷ xs) (y ∷ ys) h k e =
    let long : length x ≡ length y = h.0 ∙ sym k.0 in
    let first : x ≡ y =
    sym (take-append_seam x (concat xs)) ∙ ap (take (length x)) e
    ∙ ap (λ n. take n (y ++ concat ys)) long ∙ take-append_seam y (concat ys) in
    let rest : concat xs ≡ concat ys =
    sym (drop-append_seam x (concat xs)) ∙ ap (drop (length x)) e
    ∙ ap (λ n. drop n (y ++ concat ys)) long ∙ drop-append_seam y (concat ys) in
    ap (λ one. one ∷ xs) first ∙ ap (λ all. y ∷ all) (one_cutting xs ys h.1 k.1 rest)

-- ---- the packets

-- the packets, one by one
abbrev pub stream_packets : ℕ → List (List (List ℕ)) → Timetable → List (List ℕ)
stream_packets pid units table = laid pid 0 0 (all_pieces (all_of units)) table.slots

-- what is known of them
pub record AreSentPackets (coded pid : ℕ) (units : List (List (List ℕ))) (table : Timetable) : Type 0 where
  pub ahead : IsAhead 0 table.slots
  pub same : length (all_pieces (all_of units)) ≡ length table.slots
  pub joined : stream_of pid (all_pieces (all_of units)) table.slots ≡ concat (stream_packets pid units table)
  pub whole : AllByRecursion (λ packet. length packet ≡ 188) (stream_packets pid units table)
  pub handed_out : ComeWhole pid coded (stream_packets pid units table) (all_of units)

pub sent_packets : (coded pid : ℕ) (pace : Pace) (loads : List WriteLoad) (units : List (List (List ℕ)))
    (table : Timetable) → IsFree pid → AllByRecursion (IsUnit coded) (all_of units) → AreSizedAs loads units
    → IsSchedule loads (length loads) pace table → AreSentPackets coded pid units table
sent_packets coded pid pace loads units table free are sized schedule =
    let slots = table.slots in
    let packets = stream_packets pid units table in
    let ahead = slots_rise loads (length loads) pace table schedule in
    let same : length (all_pieces (all_of units)) ≡ length slots =
    sym (count_pieces loads units sized) ∙ sym schedule.packets in
    let pieces = pieces_are coded (all_of units) are in
    record {
      ahead = ahead;
      same = same;
      joined = stream_is_laid pid (all_pieces (all_of units)) slots ahead same;
      whole = laid_whole pid 0 0 (all_pieces (all_of units)) slots pieces;
      handed_out =
          sent_come_whole coded pid packets (all_of units) (any_cutting pid coded) (nothing_lost pid coded)
          (none_refused pid 0 0 (all_pieces (all_of units)) slots free pieces)
          (sent_units pid coded 0 0 [] (all_of units) slots free are same (inl (no_counter pid)));
    }

-- the PES packets of each set have room in a buffer that its load has room in
pub all_room : (coded : ℕ) (loads : List WriteLoad) (units : List (List (List ℕ))) → AreSizedAs loads units
    → ((i : ℕ) → i < length loads → size_of loads i ≤ coded)
    → AllByRecursion (λ (packets : List (List ℕ)). sum (map length packets) ≤ coded) units
all_room coded loads [] sized fits = tt
all_room coded [] (packets ∷ units) sized fits = absurd sized
all_room coded (load ∷ loads) (packets ∷ units) sized fits = (
  subst (λ (lengths : List ℕ). sum lengths ≤ coded) (sym sized.0) (fits 0 (omega arith)),
  all_room coded loads units sized.1 (λ i within. fits (suc i) (omega arith)),
)
