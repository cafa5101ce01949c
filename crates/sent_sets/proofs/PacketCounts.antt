-- How many packets the sets before one have, and what the pieces of a set's units are among those of all.
use Rattle.std.proofs.Common.{◌≡◌, ◌∙◌, ℕ, zero, suc, ◌+◌, ◌<◌, ◌≤◌, List, [], ◌∷◌, ◌++◌, length, map, take, drop, get_or, refl, sym, ap, arith, length-append, take_all}
use Rattle.std.specs.List.{flat_map}
use Rattle.std.proofs.Math.Seq.{drop-append-add}
use Rattle.std.proofs.lemmas.Grind.{flat_map-append}
use Rattle.std.proofs.lemmas.List.FromFn.{length-map-range_with_len}
use Rattle.sub_base.specs.declared.load.WriteLoad.{WriteLoad}
use Rattle.schedule.specs.Packets.{first_packet, packets_of, payloads_of, unit_payloads}
use Rattle.schedule.proofs.PacketLaws.{unit_count}
use Rattle.schedule.proofs.SumLaws.{sum_below-zero, sum_below-suc}
use Rattle.slot_stream.specs.SlotStream.{all_pieces, pieces_of, piece_of, piece_count}
use Rattle.sub_base.specs.Lists.{all_of}
use Rattle.sent_sets.specs.SentStream.{AreSizedAs}

-- ---- how many packets there are

-- how many pieces a unit has
pub length-pieces_of : (unit : List ℕ) → length (pieces_of unit) ≡ piece_count unit
length-pieces_of unit = length-map-range_with_len (piece_of unit) 0 (piece_count unit)

-- the packets of the first load, and of the others
first_packet-cons : (load : WriteLoad) (loads : List WriteLoad) (n : ℕ)
    → first_packet (load ∷ loads) (suc n) ≡ length (payloads_of load.units) + first_packet loads n
first_packet-cons load loads zero =
    sum_below-suc (packets_of (load ∷ loads)) 0
    ∙ omega (arith, sum_below-zero (packets_of (load ∷ loads)), sum_below-zero (packets_of loads))
first_packet-cons load loads (suc n) =
    sum_below-suc (packets_of (load ∷ loads)) (suc n)
    ∙ omega (arith, first_packet-cons load loads n, sum_below-suc (packets_of loads) n)

-- the packets of a set are the pieces of its units
pub pieces_of_set : (packets : List (List ℕ))
    → length (payloads_of (map length packets)) ≡ length (all_pieces packets)
unfolding payloads_of
pieces_of_set [] = refl
pieces_of_set (packet ∷ packets) =
    let own : length (unit_payloads (length packet)) ≡ length (pieces_of packet) =
    unit_count (length packet) ∙ sym (length-pieces_of packet) in
    omega (
      arith,
      own,
      pieces_of_set packets,
      length-append (unit_payloads (length packet)) (flat_map unit_payloads (map length packets)),
      length-append (pieces_of packet) (all_pieces packets),
    )

-- the pieces of all units are those of the first set's, and then those of the others
pieces-append : (packets : List (List ℕ)) (units : List (List (List ℕ)))
    → all_pieces (all_of (packets ∷ units)) ≡ all_pieces packets ++ all_pieces (all_of units)
pieces-append packets units = flat_map-append pieces_of packets (all_of units)

-- the sets before one have as many packets as their units have pieces
pub count_before : (i : ℕ) (loads : List WriteLoad) (units : List (List (List ℕ))) → i ≤ length loads
    → AreSizedAs loads units → first_packet loads i ≡ length (all_pieces (all_of (take i units)))
count_before zero loads units within sized = sum_below-zero (packets_of loads)
count_before (suc i) [] units within sized = absurd (omega arith)
count_before (suc i) (load ∷ loads) [] within sized = absurd sized
count_before (suc i) (load ∷ loads) (packets ∷ units) within sized =
    let here : length (payloads_of load.units) ≡ length (all_pieces packets) =
    ap (λ lengths. length (payloads_of lengths)) (sym sized.0) ∙ pieces_of_set packets in
    first_packet-cons load loads i
    ∙ omega (
      arith,
      here,
      count_before i loads units (omega arith) sized.1,
      ap length
          (pieces-append packets (take i units)),
      length-append (all_pieces packets)
          (all_pieces (all_of (take i units))),
    )

pub as_many : (loads : List WriteLoad) (units : List (List (List ℕ))) → AreSizedAs loads units
    → length loads ≡ length units
as_many [] [] sized = refl
as_many [] (packets ∷ units) sized = absurd sized
as_many (load ∷ loads) [] sized = absurd sized
as_many (load ∷ loads) (packets ∷ units) sized = ap suc (as_many loads units sized.1)

-- all sets have as many packets as their units have pieces
pub count_pieces : (loads : List WriteLoad) (units : List (List (List ℕ))) → AreSizedAs loads units
    → first_packet loads (length loads) ≡ length (all_pieces (all_of units))
count_pieces loads units sized =
    count_before (length loads) loads units (omega arith) sized
    ∙ ap (λ all. length (all_pieces (all_of all)))
    (take_all (length loads) units (omega (arith, as_many loads units sized)))

-- a set has as many packets as its units have pieces
pub count_of_set : (i : ℕ) (loads : List WriteLoad) (units : List (List (List ℕ))) → i < length loads
    → AreSizedAs loads units → packets_of loads i ≡ length (all_pieces (get_or units i []))
count_of_set i [] units within sized = absurd (omega arith)
count_of_set i (load ∷ loads) [] within sized = absurd sized
count_of_set zero (load ∷ loads) (packets ∷ units) within sized =
    ap (λ lengths. length (payloads_of lengths)) (sym sized.0) ∙ pieces_of_set packets
count_of_set (suc i) (load ∷ loads) (packets ∷ units) within sized =
    count_of_set i loads units (omega arith) sized.1

-- from the first packet of a set on come the pieces of its units, and then those of the units of later sets
pub pieces_from : (i : ℕ) (loads : List WriteLoad) (units : List (List (List ℕ))) → i < length loads
    → AreSizedAs loads units
    → drop (first_packet loads i) (all_pieces (all_of units)) ≡ all_pieces (get_or units i [])
    ++ all_pieces (all_of (drop (suc i) units))
pieces_from i [] units within sized = absurd (omega arith)
pieces_from i (load ∷ loads) [] within sized = absurd sized
pieces_from zero (load ∷ loads) (packets ∷ units) within sized =
    ap (λ n. drop n (all_pieces (all_of (packets ∷ units)))) (sum_below-zero (packets_of (load ∷ loads)))
    ∙ pieces-append packets units
pieces_from (suc i) (load ∷ loads) (packets ∷ units) within sized =
    let here : length (payloads_of load.units) ≡ length (all_pieces packets) =
    ap (λ lengths. length (payloads_of lengths)) (sym sized.0) ∙ pieces_of_set packets in
    ap (λ n. drop n (all_pieces (all_of (packets ∷ units))))
    (first_packet-cons load loads i ∙ ap (λ n. n + first_packet loads i) here)
    ∙ ap (drop (length (all_pieces packets) + first_packet loads i)) (pieces-append packets units)
    ∙ drop-append-add (all_pieces packets) (all_pieces (all_of units)) (first_packet loads i)
    ∙ pieces_from i loads units (omega arith) sized.1
