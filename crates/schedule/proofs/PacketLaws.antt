-- The packets of units: how many there are, and how their bytes sum.
use Rattle.std.proofs.Common.{◌≡◌, ℕ, zero, suc, min, ◌+◌, ◌*◌, ◌<◌, ◌≤◌, inl, inr, List, [], ◌∷◌, ◌++◌, length, take, ap, sym, ◌∙◌, refl, arith, length-append}
use Rattle.std.specs.Prelude.{slice_index, slice_index_or, sum, All}
use Rattle.std.specs.List.{flat_map}
use Rattle.std.proofs.lemmas.Bool.{cases_lt}
use Rattle.std.proofs.lemmas.List.{take_more, take_all, get_or_default}
use Rattle.std.proofs.lemmas.Grind.{flat_map-append}
use Rattle.std.proofs.lemmas.List.Elements.{All-get_or}
use Rattle.std.proofs.lemmas.List.Concat.{get_or-flat_map}
use Rattle.std.proofs.lemmas.List.Folds.{length-flat_map-take}
use Rattle.std.proofs.lemmas.List.FromFn.{length-map-range_with_len, get_or-map-range_with_len, fill_by_all}
use Rattle.std.proofs.lemmas.List.Sums.{sum_by-append, sum_by-cons}
use Rattle.sub_base.specs.declared.load.WriteLoad.{WriteLoad}
use Rattle.schedule.specs.Packets.{sum_below, no_load, size_of, units_of, packets_of, payload_of, payload_in, unit_payloads, payloads_of}
use Rattle.schedule.specs.Slots.{IsLoad}
use Rattle.schedule.proofs.SumLaws.{sum_below-suc, sum_below-zero, sum_below-rises}
use Rattle.stream_syntax.specs.TransportPackets.{packet_count}

-- the packets of one unit
pub unit_count : (size : ℕ) → length (unit_payloads size) ≡ packet_count size
unit_count size = length-map-range_with_len (payload_in size) 0 (packet_count size)

pub unit_at : (size k : ℕ) → k < packet_count size → slice_index (unit_payloads size) k ≡ payload_in size k
unit_at size k within = get_or-map-range_with_len (payload_in size) 0 (packet_count size) k k 0 within (omega arith)

unit_front : (size k : ℕ) → sum_below (payload_in size) k ≡ min (184 * k) size
unit_front size zero = omega (arith, sum_below-zero (payload_in size))
unit_front size (suc k) = omega (arith, sum_below-suc (payload_in size) k, unit_front size k)

unit_whole : (size : ℕ) → sum_below (payload_in size) (packet_count size) ≡ size
unit_whole size = omega (arith, unit_front size (packet_count size))

-- their bytes are the unit's
unit_sum : (size : ℕ) → sum (unit_payloads size) ≡ size
unfolding sum_below
unit_sum size = unit_whole size

-- the bytes of the packets of all units are those of the units
all_sum : (units : List ℕ) → sum (payloads_of units) ≡ sum units
unfolding payloads_of
all_sum [] = refl
all_sum (size ∷ units) =
    let joined : sum (unit_payloads size ++ flat_map unit_payloads units)
    ≡ sum (unit_payloads size) + sum (flat_map unit_payloads units) =
    sum_by-append (λ (x : ℕ). x) (unit_payloads size) (flat_map unit_payloads units) in
    let own = sum_by-cons (λ (x : ℕ). x) size units in
    omega (arith, joined, own, unit_sum size, all_sum units)

-- units have no more packets than bytes
all_count : (units : List ℕ) → length (payloads_of units) ≤ sum units
unfolding payloads_of
all_count [] = omega arith
all_count (size ∷ units) =
    let joined : length (unit_payloads size ++ flat_map unit_payloads units)
    ≡ length (unit_payloads size) + length (flat_map unit_payloads units) =
    length-append (unit_payloads size) (flat_map unit_payloads units) in
    let own = sum_by-cons (λ (x : ℕ). x) size units in
    omega (arith, joined, own, unit_count size, all_count units)

-- the sum over the places of a list is that of the list
sum_places : (xs : List ℕ) → sum_below (slice_index xs) (length xs) ≡ sum xs
unfolding sum_below
sum_places xs = ap sum (sym (fill_by_all (slice_index xs) xs (length xs) 0 refl (λ k below. refl)))

-- the payloads of all packets of a set are its bytes
pub payloads : (loads : List WriteLoad) (i : ℕ)
    → sum_below (payload_of loads i) (packets_of loads i) ≡ size_of loads i
payloads loads i = sum_places (payloads_of (units_of loads i)) ∙ all_sum (units_of loads i)

-- those of the first of them are no more
pub payloads-most : (loads : List WriteLoad) (i k : ℕ) → k ≤ packets_of loads i
    → sum_below (payload_of loads i) k ≤ size_of loads i
payloads-most loads i k within =
    omega (arith, payloads loads i, sum_below-rises (payload_of loads i) k (packets_of loads i) within)

-- a set has no more packets than bytes
pub packets-most : (loads : List WriteLoad) (i : ℕ) → packets_of loads i ≤ size_of loads i
packets-most loads i = all_count (units_of loads i)

-- a set of at least one byte has a packet
pub some_packets : (loads : List WriteLoad) (i : ℕ) → 1 ≤ size_of loads i → 1 ≤ packets_of loads i
some_packets loads i some =
    elim (cases_lt 0 (packets_of loads i)) [
      | inl any ↦ any
      | inr none ↦
          let no : packets_of loads i ≡ 0 = omega arith in
          absurd (omega
          (arith, payloads loads i, ap (sum_below (payload_of loads i)) no, sum_below-zero (payload_of loads i)))
    ]

-- the packets of the first so many units
abbrev pub packets_before : List ℕ → ℕ → ℕ
packets_before units count = length (payloads_of (take count units))

pub packets_before-none : (units : List ℕ) → packets_before units 0 ≡ 0
unfolding payloads_of
packets_before-none units = refl

pub packets_before-more : (units : List ℕ) (count : ℕ) → count < length units →
    packets_before units (count + 1) ≡ packets_before units count + packet_count (slice_index units count)
unfolding payloads_of
packets_before-more units count below =
    let size = slice_index units count in
    let grown = ap (λ front. length (flat_map unit_payloads front)) (take_more units count 0 below) in
    let split = ap length (flat_map-append unit_payloads (take count units) (size ∷ [])) in
    let joined = length-append (flat_map unit_payloads (take count units)) (unit_payloads size ++ []) in
    let one = length-append (unit_payloads size) [] in
    omega (arith, grown, split, joined, one, unit_count size)

pub packets_before-all : (units : List ℕ) (count : ℕ) → length units ≤ count
    → packets_before units count ≡ length (payloads_of units)
packets_before-all units count all = ap (λ front. length (payloads_of front)) (take_all count units all)

-- with one unit more there are no more than in all
pub packets_before-within : (units : List ℕ) (count : ℕ) → count < length units →
    packets_before units count + packet_count (slice_index units count) ≤ length (payloads_of units)
unfolding payloads_of
packets_before-within units count below =
    omega (arith, length-flat_map-take unit_payloads units count 0 below, unit_count (slice_index units count))

-- the packets of a unit stand behind those of the units before
pub payload_at : (units : List ℕ) (count k : ℕ) → count < length units
    → k < packet_count (slice_index units count) →
    slice_index (payloads_of units) (packets_before units count + k) ≡ payload_in (slice_index units count) k
unfolding payloads_of
payload_at units count k below within =
    get_or-flat_map unit_payloads units count k 0 0 below (omega (arith, within, unit_count (slice_index units count)))
    ∙ unit_at (slice_index units count) k within

-- each of the loads can be scheduled
pub load_at : (loads : List WriteLoad) (i : ℕ) → All IsLoad loads → i < length loads
    → IsLoad (slice_index_or loads i no_load)
load_at loads i each below = All-get_or IsLoad loads i no_load below each

-- each set has bytes
pub some_bytes : (loads : List WriteLoad) (i : ℕ) → All IsLoad loads → i < length loads → 1 ≤ size_of loads i
some_bytes loads i each below = let load = load_at loads i each below in omega (arith, load.some, load.size)

-- the bytes of a set are those that its load says
pub bytes_at : (loads : List WriteLoad) (i : ℕ) (other : WriteLoad) → All IsLoad loads → i < length loads
    → (slice_index_or loads i other).load.size ≡ size_of loads i
bytes_at loads i other each below =
    ap (λ (load : WriteLoad). load.load.size) (get_or_default loads i other no_load below)
    ∙ (load_at loads i each below).size

-- what is read of a list within it is one of the loads
pub read_at : (loads : List WriteLoad) (i : ℕ) (load : WriteLoad) → i < length loads
    → load ≡ slice_index_or loads i load → load ≡ slice_index_or loads i no_load
read_at loads i load below is = is ∙ get_or_default loads i load no_load below
