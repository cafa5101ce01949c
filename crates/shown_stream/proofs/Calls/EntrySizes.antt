-- The sizes of the sets that come of a stream that is entered behind any number of its units: all bytes of their
-- packets, and of the first those from the first unit on that comes.
use Rattle.std.proofs.Common.{◌≡◌, ◌∙◌, ◌⊎◌, inl, inr, ℕ, zero, suc, ◌+◌, ◌-◌, ◌==◌, ◌<◌, ◌≤◌, Bool, true, false, cond, ltb, List, [], ◌∷◌, ◌++◌, length, map, take, drop, get_or, refl, sym, ap, subst, arith, append-nil}
use Rattle.std.specs.Prelude.{slice_index, sum}
use Rattle.std.specs.List.{AllZip}
use Rattle.std.proofs.Math.ListN.{get_or-append}
use Rattle.std.proofs.lemmas.Bool.{cases_lt}
use Rattle.std.proofs.lemmas.Bool.Decides.{nat_tests}
use Rattle.std.proofs.lemmas.Grind.{flat_map-append}
use Rattle.std.proofs.lemmas.List.{length-map, map-append, take-append-drop, drop-map}
use Rattle.std.proofs.lemmas.List.FromFn.{fill_by_all}
use Rattle.std.proofs.lemmas.List.Sums.{sum_by-append, sum_by-cons}
use Rattle.sub_base.specs.declared.load.WriteLoad.{WriteLoad}
use Rattle.schedule.proofs.PacketLaws.{payloads}
use Rattle.schedule.proofs.SumLaws.{sum_below-same, sum_below-zero}
use Rattle.schedule.specs.Packets.{sum_below, units_of, size_of, packets_of, payload_of, payloads_of}
use Rattle.decoder_model.specs.declared.pages.Pages.{Pages}
use Rattle.scheduled_level_laws.specs.EnteredCalls.{Entry, from_of}
use Rattle.slot_stream.specs.SlotStream.{all_pieces, pieces_of}
use Rattle.shown_stream.proofs.Calls.CallsOfPieces.{IsSentSet, AreSentSets}
use Rattle.shown_stream.proofs.Calls.LateCalls.{same_lengths, entry_behind}
use Rattle.shown_stream.proofs.Sent.SetPackets.{bytes_in, all_bytes}
use Rattle.sent_sets.proofs.LateSets.{rest_of_set, sets_behind, zip_behind}
use Rattle.sent_sets.proofs.Units.{SetUnit, TimedSet, timed, size_of_units, IsUnitOf}

-- ---- the bytes of the packets of units

-- the sum over the places of a list is that of the list
sum_places : (xs : List ℕ) → sum_below (slice_index xs) (length xs) ≡ sum xs
unfolding sum_below
sum_places xs = ap sum (sym (fill_by_all (slice_index xs) xs (length xs) 0 refl (λ k below. refl)))

-- the packets of units have their bytes
units_sum : (lengths : List ℕ) → sum (payloads_of lengths) ≡ sum lengths
units_sum lengths =
    sym (sum_places (payloads_of lengths))
    ∙ payloads (record { load = record { pts = 0; size = 0; painted = 0 }; longest = 0; units = lengths } ∷ []) 0

pieces_sum : (group : List (List ℕ)) → sum (map bytes_in (all_pieces group)) ≡ sum (map length group)
pieces_sum group = ap sum (sym (all_bytes group)) ∙ units_sum (map length group)

-- the packets of the first units of a set have their bytes
front_sum : (loads : List WriteLoad) (i : ℕ) (front back : List (List ℕ))
    → payloads_of (units_of loads i) ≡ map bytes_in (all_pieces (front ++ back))
    → sum_below (payload_of loads i) (length (all_pieces front)) ≡ sum (map length front)
front_sum loads i front back are =
    let xs = map bytes_in (all_pieces front) in
    let ys = map bytes_in (all_pieces back) in
    let parts : payloads_of (units_of loads i) ≡ xs ++ ys =
    are ∙ ap (map bytes_in) (flat_map-append pieces_of front back)
    ∙ map-append bytes_in (all_pieces front) (all_pieces back) in
    let many : length xs ≡ length (all_pieces front) = length-map (all_pieces front) bytes_in in
    ap (sum_below (payload_of loads i)) (sym many)
    ∙ sum_below-same (payload_of loads i) (slice_index xs) (length xs)
    (λ k within. ap (λ found. slice_index found k) parts ∙ get_or-append xs ys 0 k within)
    ∙ sum_places xs ∙ pieces_sum front

units_size : (pages : Pages) (time : ℕ) (group : List (List ℕ)) (units : List SetUnit)
    → AllZip (IsUnitOf pages) group (map (timed time) units)
    → sum (map length group) ≡ size_of_units units
units_size pages time [] [] are = refl
units_size pages time [] (one ∷ units) are = absurd are
units_size pages time (unit ∷ group) [] are = absurd are
units_size pages time (unit ∷ group) (one ∷ units) are =
    omega (
      arith,
      sum_by-cons (λ (n : ℕ). n) (length unit) (map length group),
      sum_by-cons
          (λ (one : SetUnit). one.size) one units,
      are.0.size,
      units_size pages time group units are.1,
    )

-- ---- a set

whole_sum : (coded : ℕ) (pages : Pages) (loads : List WriteLoad) (i : ℕ) (group : List (List ℕ))
    (one : TimedSet) → IsSentSet coded pages loads i group one
    → size_of loads i ≡ sum (map length group)
whole_sum coded pages loads i group one sent =
    let many : packets_of loads i ≡ length (all_pieces group) =
    ap length sent.bytes ∙ length-map (all_pieces group) bytes_in in
    sym (payloads loads i) ∙ ap (sum_below (payload_of loads i)) many
    ∙ front_sum loads i group []
    (sent.bytes ∙ ap (λ found. map bytes_in (all_pieces found)) (sym (append-nil group)))

-- all of it
whole_size : (coded : ℕ) (pages : Pages) (loads : List WriteLoad) (i : ℕ) (group : List (List ℕ))
    (one : TimedSet) → IsSentSet coded pages loads i group one
    → size_of_units one.units ≡ size_of loads i
whole_size coded pages loads i group one sent =
    sym (units_size pages one.time group one.units sent.units) ∙ sym (whole_sum coded pages loads i group one sent)

-- its units behind the first so many
cut_size : (coded : ℕ) (pages : Pages) (n : ℕ) (loads : List WriteLoad) (i : ℕ) (group : List (List ℕ))
    (one : TimedSet) → IsSentSet coded pages loads i group one
    → size_of_units (drop n one.units)
    ≡ size_of loads i - sum_below (payload_of loads i) (length (all_pieces (take n group)))
cut_size coded pages n loads i group one sent =
    let parts : take n group ++ drop n group ≡ group = take-append-drop n group in
    let front =
    front_sum loads i (take n group) (drop n group)
    (sent.bytes ∙ ap (λ found. map bytes_in (all_pieces found)) (sym parts)) in
    let back =
    units_size pages one.time (drop n group) (drop n one.units)
    (subst (AllZip (IsUnitOf pages) (drop n group)) (drop-map (timed one.time) n one.units)
    (zip_behind (IsUnitOf pages) n group (map (timed one.time) one.units) sent.units)) in
    let joined : map length group ≡ map length (take n group) ++ map length (drop n group) =
    ap (map length) (sym parts) ∙ map-append length (take n group) (drop n group) in
    omega (
      arith,
      whole_sum coded pages loads i group one sent,
      front,
      back,
      ap sum joined,
      sum_by-append
          (λ (n : ℕ). n) (map length (take n group)) (map length (drop n group)),
    )

-- ---- the sets that come

abbrev sizes_of : List TimedSet → List ℕ
sizes_of sets = map (λ (one : TimedSet). size_of_units one.units) sets

-- the bytes of a set from its first packet on that counts
abbrev heard_bytes : List WriteLoad → Entry → ℕ → ℕ
heard_bytes loads entry i = size_of loads i - sum_below (payload_of loads i) (from_of entry i)

-- sets behind the one of the entry count with all of their bytes
all_heard : (loads : List WriteLoad) (entry : Entry) (i : ℕ) → entry.set < i
    → heard_bytes loads entry i ≡ size_of loads i
all_heard loads entry i later =
    ap (λ b. size_of loads i - sum_below (payload_of loads i) (cond b entry.packet 0))
    (let t : (i == entry.set) ≡ false = grind (arith, nat_tests) in t)
    ∙ omega (arith, sum_below-zero (payload_of loads i))

own_heard : (loads : List WriteLoad) (entry : Entry)
    → heard_bytes loads entry entry.set
    ≡ size_of loads entry.set - sum_below (payload_of loads entry.set) entry.packet
own_heard loads entry =
    ap (λ b. size_of loads entry.set - sum_below (payload_of loads entry.set) (cond b entry.packet 0))
    (let t : (entry.set == entry.set) ≡ true = grind (arith, nat_tests) in t)

whole_sizes : (coded : ℕ) (pages : Pages) (loads : List WriteLoad) (i : ℕ) (groups : List (List (List ℕ)))
    (sets : List TimedSet)
    → AreSentSets coded pages loads i groups sets → (j : ℕ) → j < length sets
    → get_or (sizes_of sets) j 0 ≡ size_of loads (i + j)
whole_sizes coded pages loads i [] [] sent j inside = absurd (omega arith)
whole_sizes coded pages loads i [] (one ∷ sets) sent j inside = absurd sent
whole_sizes coded pages loads i (group ∷ groups) [] sent j inside = absurd sent
whole_sizes coded pages loads i (group ∷ groups) (one ∷ sets) sent zero inside =
    let same : i ≡ i + 0 = omega arith in whole_size coded pages loads i group one sent.0 ∙ ap (size_of loads) same
whole_sizes coded pages loads i (group ∷ groups) (one ∷ sets) sent (suc j) inside =
    let same : suc i + j
    ≡ i + suc j = omega arith in whole_sizes coded pages loads (suc i) groups sets sent.1 j (omega arith)
    ∙ ap (size_of loads) same

-- the sets that come have the bytes that count
pub heard_sizes : (coded : ℕ) (pages : Pages) (loads : List WriteLoad) (n i : ℕ) (groups : List (List (List ℕ)))
    (sets : List TimedSet)
    → AreSentSets coded pages loads i groups sets → (j : ℕ) → j < length (sets_behind n sets)
    → get_or (sizes_of (sets_behind n sets)) j 0
    ≡ heard_bytes loads (entry_behind n i groups) ((entry_behind n i groups).set + j)
heard_sizes coded pages loads n i [] [] sent j inside = absurd (omega arith)
heard_sizes coded pages loads n i [] (one ∷ sets) sent j inside = absurd sent
heard_sizes coded pages loads n i (group ∷ groups) [] sent j inside = absurd sent
heard_sizes coded pages loads n i (group ∷ groups) (one ∷ sets) sent j inside =
    by (cases_lt n (length group)) (heard_sizes coded pages loads (n - length group) (suc i) groups sets sent.1) j
    inside
  where
    units : length group ≡ length one.units
    units =
        same_lengths (IsUnitOf pages) group (map (timed one.time) one.units) sent.0.units
        ∙ length-map one.units (timed one.time)

    Claim : Entry → List TimedSet → Type 0
    Claim entry left =
        (j : ℕ) → j < length left → get_or (sizes_of left) j 0 ≡ heard_bytes loads entry (entry.set + j)

    Goal : Bool → Bool → Type 0
    Goal a b =
        Claim (cond a (record { set = i; packet = length (all_pieces (take n group)) })
        (entry_behind (n - length group) (suc i) groups))
        (cond b (rest_of_set n one ∷ sets) (sets_behind (n - length one.units) sets))

    entry : Entry
    entry = record { set = i; packet = length (all_pieces (take n group)) }

    here : Claim entry (rest_of_set n one ∷ sets)
    here zero within =
        let same : i ≡ i + 0 = omega arith in
        cut_size coded pages n loads i group one sent.0 ∙ sym (own_heard loads entry)
        ∙ ap (heard_bytes loads entry) same
    here (suc k) within =
        let same : suc i + k ≡ i + suc k = omega arith in
        whole_sizes coded pages loads (suc i) groups sets sent.1 k (omega arith)
        ∙ sym (all_heard loads entry (suc i + k) (omega arith)) ∙ ap (heard_bytes loads entry) same

    by : (n < length group) ⊎ (length group ≤ n)
        → Claim (entry_behind (n - length group) (suc i) groups) (sets_behind (n - length group) sets)
        → Goal (ltb n (length group)) (ltb n (length one.units))
    by (inl within) rest =
        let same = units in
        let first : true ≡ ltb n (length group) = grind (arith, nat_tests) in
        let second : true ≡ ltb n (length one.units) = grind (arith, nat_tests) in
        subst (λ (b : Bool). Goal (ltb n (length group)) b) second (subst (λ (a : Bool). Goal a true) first here)
    by (inr past) rest =
        let same = units in
        let first : false ≡ ltb n (length group) = grind (arith, nat_tests) in
        let second : false ≡ ltb n (length one.units) = grind (arith, nat_tests) in
        let left : n - length group ≡ n - length one.units = omega arith in
        subst (λ (b : Bool). Goal (ltb n (length group)) b) second (subst (λ (a : Bool). Goal a false) first
        (subst (λ (k : ℕ). Claim (entry_behind (n - length group) (suc i) groups) (sets_behind k sets)) left rest))

-- with those before the entry they are all sets
pub count_behind : (coded : ℕ) (pages : Pages) (loads : List WriteLoad) (n i : ℕ) (groups : List (List (List ℕ)))
    (sets : List TimedSet)
    → AreSentSets coded pages loads i groups sets
    → (entry_behind n i groups).set + length (sets_behind n sets) ≡ i + length sets
count_behind coded pages loads n i [] [] sent = refl
count_behind coded pages loads n i [] (one ∷ sets) sent = absurd sent
count_behind coded pages loads n i (group ∷ groups) [] sent = absurd sent
count_behind coded pages loads n i (group ∷ groups) (one ∷ sets) sent =
    by (cases_lt n (length group)) (count_behind coded pages loads (n - length group) (suc i) groups sets sent.1)
  where
    units : length group ≡ length one.units
    units =
        same_lengths (IsUnitOf pages) group (map (timed one.time) one.units) sent.0.units
        ∙ length-map one.units (timed one.time)

    Goal : Bool → Bool → Type 0
    Goal a b =
        (cond a (record { set = i; packet = length (all_pieces (take n group)) })
        (entry_behind (n - length group) (suc i) groups)).set
        + length (cond b (rest_of_set n one ∷ sets) (sets_behind (n - length one.units) sets))
        ≡ i + suc (length sets)

    by : (n < length group) ⊎ (length group ≤ n)
        → (entry_behind (n - length group) (suc i) groups).set + length (sets_behind (n - length group) sets)
        ≡ suc i + length sets
        → Goal (ltb n (length group)) (ltb n (length one.units))
    by (inl within) rest =
        let same = units in
        let first : true ≡ ltb n (length group) = grind (arith, nat_tests) in
        let second : true ≡ ltb n (length one.units) = grind (arith, nat_tests) in
        subst (λ (b : Bool). Goal (ltb n (length group)) b) second (subst (λ (a : Bool). Goal a true) first refl)
    by (inr past) rest =
        let same = units in
        let first : false ≡ ltb n (length group) = grind (arith, nat_tests) in
        let second : false ≡ ltb n (length one.units) = grind (arith, nat_tests) in
        let left : n - length group ≡ n - length one.units = omega arith in
        subst (λ (b : Bool). Goal (ltb n (length group)) b) second (subst (λ (a : Bool). Goal a false) first
        (subst (λ (k : ℕ). (entry_behind (n - length group) (suc i) groups).set + length (sets_behind k sets)
        ≡ i + suc (length sets)) left (omega (arith, rest))))
