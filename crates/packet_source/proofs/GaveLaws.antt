-- Packets that a source gave, and those that stand in the bytes behind them.
use Rattle.std.proofs.Common.{◌≡◌, ℕ, zero, suc, ◌+◌, ◌*◌, ◌/◌, ◌<◌, ◌≤◌, List, [], ◌∷◌, ◌++◌, length, take, drop, get_or, All, append-nil, append_assoc, length-append, length-drop, length-take-le, refl, sym, ap, subst, ◌∙◌, arith}
use Rattle.std.specs.List.{flat_map}
use Rattle.std.specs.Simd.{first_chunks}
use Rattle.std.specs.Io.KnownBytes.{Consumes}
use Rattle.std.proofs.lemmas.List.{take-append-drop, take_more, drop-drop}
use Rattle.std.proofs.lemmas.List.Elements.{All-append, All-cons, All-nil, All-take}
use Rattle.std.proofs.lemmas.Grind.{flat_map-append}
use Rattle.sub_base.specs.Counts.{counted}
use Rattle.sub_base.specs.Endpoints.{Supplied}
use Rattle.packet_source.specs.InHand.{rest_of, whole_packets}
use Rattle.packet_source.specs.Packets.{Gave, stream_length}

-- the bytes of packets, one after the other
abbrev pub bytes_of : List (List ℕ) → List ℕ
bytes_of packets = flat_map (λ (packet : List ℕ). packet) packets

-- each of these is a packet
abbrev pub AreLong : List (List ℕ) → Type 0
AreLong packets = All (λ packet. length packet ≡ 188) packets

-- ---- the whole packets of bytes

chunk_count : (k : ℕ) (bytes : List ℕ) → length (first_chunks 188 k bytes) ≡ k
chunk_count zero bytes = refl
chunk_count (suc k) bytes = ap (λ (n : ℕ). suc n) (chunk_count k (drop 188 bytes))

chunks_long : (k : ℕ) (bytes : List ℕ) → k * 188 ≤ length bytes → AreLong (first_chunks 188 k bytes)
chunks_long zero bytes h = All-nil (λ (packet : List ℕ). length packet ≡ 188)
chunks_long (suc k) bytes h =
    All-cons (λ (packet : List ℕ). length packet ≡ 188) (take 188 bytes) (first_chunks 188 k (drop 188 bytes))
    (length-take-le 188 bytes (omega arith)) (chunks_long k (drop 188 bytes) (omega (arith, length-drop 188 bytes)))

chunks_whole : (k : ℕ) (bytes : List ℕ) → bytes_of (first_chunks 188 k bytes) ++ drop (k * 188) bytes ≡ bytes
chunks_whole zero bytes = refl
chunks_whole (suc k) bytes =
    let ahead : suc k * 188 ≡ k * 188 + 188 = omega arith in
    let later : drop (suc k * 188) bytes ≡ drop (k * 188) (drop 188 bytes) =
    ap (λ (n : ℕ). drop n bytes) ahead
    ∙ sym (drop-drop (k * 188) 188 bytes ∙ ap (λ (n : ℕ). drop n bytes) (omega arith)) in
    append_assoc (take 188 bytes) (bytes_of (first_chunks 188 k (drop 188 bytes))) (drop (suc k * 188) bytes)
    ∙ (ap (λ (tail : List ℕ). take 188 bytes ++ (bytes_of (first_chunks 188 k (drop 188 bytes)) ++ tail)) later
    ∙ (ap (λ (tail : List ℕ). take 188 bytes ++ tail) (chunks_whole k (drop 188 bytes))
    ∙ take-append-drop 188 bytes))

-- how many whole packets bytes begin with
pub length-whole_packets : (bytes : List ℕ) → length (whole_packets bytes) ≡ length bytes / 188
length-whole_packets bytes = chunk_count (length bytes / 188) bytes

-- each of them has 188 bytes
pub whole_packets_long : (bytes : List ℕ) → AreLong (whole_packets bytes)
whole_packets_long bytes = chunks_long (length bytes / 188) bytes (omega arith)

-- they and the bytes behind them are all
pub whole_packets-rest_of : (bytes : List ℕ) → bytes_of (whole_packets bytes) ++ rest_of bytes ≡ bytes
whole_packets-rest_of bytes = chunks_whole (length bytes / 188) bytes

-- a list of packets, its packet at a place, and the bytes behind that one
at_place : (packets : List (List ℕ)) (i : ℕ) → i < length packets
    → bytes_of packets ≡ bytes_of (take i packets) ++ (get_or packets i [] ++ bytes_of (drop (i + 1) packets))
at_place packets i within =
    let P : List (List ℕ) = take i packets in
    let packet : List ℕ = get_or packets i [] in
    let D : List (List ℕ) = drop (i + 1) packets in
    let cut : packets ≡ (P ++ packet ∷ []) ++ D =
    sym (take-append-drop (i + 1) packets)
    ∙ ap (λ (front : List (List ℕ)). front ++ D) (take_more packets i [] within) in
    ap bytes_of cut
    ∙ (flat_map-append (λ (p : List ℕ). p) (P ++ packet ∷ []) D
    ∙ (ap (λ (front : List ℕ). front ++ bytes_of D)
    (flat_map-append (λ (p : List ℕ). p) P (packet ∷ [])
    ∙ ap (λ (p : List ℕ). bytes_of P ++ p) (append-nil packet))
    ∙ append_assoc (bytes_of P) packet (bytes_of D)))

bytes_count : (packets : List (List ℕ)) → AreLong packets → length (bytes_of packets) ≡ 188 * length packets
bytes_count [] each = refl
bytes_count (packet ∷ packets) each =
    let first : length packet ≡ 188 = each 0 [] (omega arith) in
    let others : AreLong packets = λ i d h. each (suc i) d (omega arith) in
    omega (arith, length-append packet (bytes_of packets), bytes_count packets others)

-- ---- what a source gave

-- packets that the bytes begin with are counted among the packets: there are as many bytes as before
pub stream_length-more : (packets more : List (List ℕ)) (bytes rest : List ℕ) → AreLong more
    → bytes ≡ bytes_of more ++ rest
    → stream_length packets bytes ≡ stream_length (packets ++ more) rest
stream_length-more packets more bytes rest each whole =
    omega (
      arith,
      ap (λ (l : List ℕ). length l) whole,
      length-append (bytes_of more) rest,
      bytes_count more
          each,
      length-append packets more,
    )

-- packets that the bytes begin with are counted among the packets
pub Gave-more : (before now : Supplied) (packets more : List (List ℕ)) (bytes rest : List ℕ)
    → Gave before now packets bytes → AreLong more → bytes ≡ bytes_of more ++ rest
    → Gave before now (packets ++ more) rest
Gave-more before now packets more bytes rest gave each whole =
    let all_is : bytes_of packets ++ bytes ≡ bytes_of (packets ++ more) ++ rest =
    ap (λ (t : List ℕ). bytes_of packets ++ t) whole
    ∙ (sym (append_assoc (bytes_of packets) (bytes_of more) rest)
    ∙ ap (λ (t : List ℕ). t ++ rest) (sym (flat_map-append (λ (p : List ℕ). p) packets more))) in
    record {
      each = All-append (λ (packet : List ℕ). length packet ≡ 188) packets more gave.each each;
      bytes = subst (λ (all : List ℕ). Consumes before.left now.left all) all_is gave.bytes;
      count =
          gave.count
          ∙ ap (λ (n : ℕ). counted before.given n) (stream_length-more packets more bytes rest each whole);
    }

-- all whole packets of the bytes are counted among the packets
pub Gave-whole_packets : (before now : Supplied) (packets : List (List ℕ)) (bytes : List ℕ)
    → Gave before now packets bytes → Gave before now (packets ++ whole_packets bytes) (rest_of bytes)
Gave-whole_packets before now packets bytes gave =
    Gave-more before now packets (whole_packets bytes) bytes (rest_of bytes) gave (whole_packets_long bytes)
    (sym (whole_packets-rest_of bytes))

-- the bytes up to one of their whole packets are counted among the packets: that one and the bytes behind it are left
pub record IsUpTo (before now : Supplied) (packets : List (List ℕ)) (bytes : List ℕ) (k : ℕ) : Type 0 where
  pub rest : List ℕ
  pub long : length (get_or (whole_packets bytes) k []) ≡ 188
  pub gave : Gave before now (packets ++ take k (whole_packets bytes)) (get_or (whole_packets bytes) k [] ++ rest)
  pub same : stream_length packets bytes
      ≡ stream_length (packets ++ take k (whole_packets bytes)) (get_or (whole_packets bytes) k [] ++ rest)

pub Gave-up_to : (before now : Supplied) (packets : List (List ℕ)) (bytes : List ℕ) (k : ℕ)
    → Gave before now packets bytes → k < length (whole_packets bytes) → IsUpTo before now packets bytes k
Gave-up_to before now packets bytes k gave within =
    let chunks : List (List ℕ) = whole_packets bytes in
    let packet : List ℕ = get_or chunks k [] in
    let behind : List ℕ = bytes_of (drop (k + 1) chunks) ++ rest_of bytes in
    let each : AreLong (take k chunks) =
    All-take (λ (packet : List ℕ). length packet ≡ 188) k chunks (whole_packets_long bytes) in
    let whole : bytes ≡ bytes_of (take k chunks) ++ (packet ++ behind) =
    sym (whole_packets-rest_of bytes) ∙ (ap (λ (t : List ℕ). t ++ rest_of bytes) (at_place chunks k within)
    ∙ (append_assoc (bytes_of (take k chunks)) (packet ++ bytes_of (drop (k + 1) chunks)) (rest_of bytes)
    ∙ ap (λ (t : List ℕ). bytes_of (take k chunks) ++ t)
    (append_assoc packet (bytes_of (drop (k + 1) chunks)) (rest_of bytes)))) in
    record {
      rest = behind;
      long = whole_packets_long bytes k [] within;
      gave = Gave-more before now packets (take k chunks) bytes (packet ++ behind) gave each whole;
      same = stream_length-more packets (take k chunks) bytes (packet ++ behind) each whole;
    }
