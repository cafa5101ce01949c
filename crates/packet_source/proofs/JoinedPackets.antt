-- Packets that are joined are cut into the same packets.
use Rattle.std.proofs.Common.{◌≡◌, ◌∙◌, ℕ, ◌*◌, ◌<◌, List, [], ◌∷◌, ◌++◌, length, take, drop, All, append-nil, length-append, refl, sym, ap, arith}
use Rattle.std.specs.List.{AllByRecursion, concat}
use Rattle.std.specs.Simd.{first_chunks}
use Rattle.std.proofs.Math.Seq.{take-append_seam, drop-append_seam}
use Rattle.std.proofs.lemmas.List.Elements.{recursion_from_All}
use Rattle.packet_source.specs.InHand.{whole_packets}

-- each of these is a packet
abbrev AreWhole : List (List ℕ) → Type 0
AreWhole packets = AllByRecursion (λ packet. length packet ≡ 188) packets

joined_length : (packets : List (List ℕ)) → AreWhole packets → length (concat packets) ≡ 188 * length packets
joined_length [] whole = refl
joined_length (packet ∷ packets) whole =
    omega (arith, length-append packet (concat packets), whole.0, joined_length packets whole.1)

first_packet : (packet rest : List ℕ) → length packet ≡ 188 → take 188 (packet ++ rest) ≡ packet
first_packet packet rest long = ap (λ (n : ℕ). take n (packet ++ rest)) (sym long) ∙ take-append_seam packet rest

other_packets : (packet rest : List ℕ) → length packet ≡ 188 → drop 188 (packet ++ rest) ≡ rest
other_packets packet rest long = ap (λ (n : ℕ). drop n (packet ++ rest)) (sym long) ∙ drop-append_seam packet rest

joined_chunks : (packets : List (List ℕ)) → AreWhole packets
    → first_chunks 188 (length packets) (concat packets) ≡ packets
joined_chunks [] whole = refl
joined_chunks (packet ∷ packets) whole =
    (λ i. first_packet packet (concat packets) whole.0 i
    ∷ first_chunks 188 (length packets) (other_packets packet (concat packets) whole.0 i))
    ∙ ap (λ (rest : List (List ℕ)). packet ∷ rest) (joined_chunks packets whole.1)

-- the whole packets of the bytes of packets are these
pub whole_packets-concat : (packets : List (List ℕ)) → All (λ packet. length packet ≡ 188) packets
    → whole_packets (concat packets) ≡ packets
whole_packets-concat packets all =
    let whole : AreWhole packets = recursion_from_All (λ (packet : List ℕ). length packet ≡ 188) packets all in
    ap (λ (k : ℕ). first_chunks 188 k (concat packets)) (omega (arith, joined_length packets whole))
    ∙ joined_chunks packets whole

empty : (bytes : List ℕ) → length bytes ≡ 0 → bytes ≡ []
empty [] none = refl
empty (byte ∷ bytes) none = absurd (omega (arith, none))

-- bytes are packets in one way: whatever packets they are, with less than a packet behind them
pub one_stream : (packets sent : List (List ℕ)) (rest : List ℕ) → All (λ packet. length packet ≡ 188) packets
    → All (λ packet. length packet ≡ 188) sent → length rest < 188 → concat packets ++ rest ≡ concat sent
    → packets ≡ sent
one_stream packets sent rest all each short same =
    let own = joined_length packets (recursion_from_All (λ (packet : List ℕ). length packet ≡ 188) packets all) in
    let its = joined_length sent (recursion_from_All (λ (packet : List ℕ). length packet ≡ 188) sent each) in
    let none : rest ≡ [] =
    empty rest (omega (arith, length-append (concat packets) rest, ap length same, own, its, short)) in
    let joined : concat packets ≡ concat sent =
    sym (append-nil (concat packets)) ∙ ap (λ (end : List ℕ). concat packets ++ end) (sym none) ∙ same in
    sym (whole_packets-concat packets all) ∙ ap whole_packets joined ∙ whole_packets-concat sent each
