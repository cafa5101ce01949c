-- The first packets of those that a source gave, with the others as bytes behind them.
use Rattle.std.proofs.Common.{◌≡◌, ◌∙◌, ℕ, ◌+◌, List, ◌++◌, length, All, None, append_assoc, refl, sym, ap, subst, arith}
use Rattle.std.specs.Io.KnownBytes.{Consumes}
use Rattle.std.proofs.Math.Seq.{take-append_seam}
use Rattle.std.proofs.lemmas.Grind.{flat_map-append}
use Rattle.std.proofs.lemmas.List.{get_or-append-add, length-append}
use Rattle.std.proofs.lemmas.List.Elements.{All-take}
use Rattle.packet_source.specs.Packets.{IsWithin, stream_length}
use Rattle.packet_source.proofs.GaveLaws.{AreLong, bytes_of, stream_length-more}
use Rattle.packet_walk.specs.Taken.{AreTaken}
use Rattle.stream_syntax.specs.TransportPackets.{packet_fault}
use Rattle.sub_base.specs.Counts.{counted}
use Rattle.sub_base.specs.Endpoints.{Supplied}

-- what holds of all holds of the first, and of those behind them
all_first : (P : List ℕ → Type 0) (front others : List (List ℕ)) → All P (front ++ others) → All P front
all_first P front others all =
    subst (All P) (take-append_seam front others) (All-take P (length front) (front ++ others) all)

all_behind : (P : List ℕ → Type 0) (front others : List (List ℕ)) → All P (front ++ others) → All P others
all_behind P front others all k d within =
    subst P (get_or-append-add front others k d)
    (all (length front + k) d (omega (arith, within, length-append front others)))

-- as many bytes stand in them and behind them
same_length : (front others : List (List ℕ)) (rest : List ℕ) → AreLong (front ++ others)
    → stream_length (front ++ others) rest ≡ stream_length front (bytes_of others ++ rest)
same_length front others rest each =
    sym (stream_length-more front others (bytes_of others ++ rest) rest
    (all_behind (λ (packet : List ℕ). length packet ≡ 188) front others each) refl)

pub front_taken : (pid : ℕ) (before now : Supplied) (front others : List (List ℕ)) (rest : List ℕ)
    → AreTaken pid before now (front ++ others) rest → AreTaken pid before now front (bytes_of others ++ rest)
front_taken pid before now front others rest taken = record {
  gave = record {
    each = all_first (λ (packet : List ℕ). length packet ≡ 188) front others taken.gave.each;
    bytes =
        subst (λ (all : List ℕ). Consumes before.left now.left all)
        (ap (λ (all : List ℕ). all ++ rest) (flat_map-append (λ (packet : List ℕ). packet) front others)
        ∙ append_assoc (bytes_of front) (bytes_of others) rest)
        taken.gave.bytes;
    count = taken.gave.count
        ∙ ap (λ (n : ℕ). counted before.given n) (same_length front others rest taken.gave.each);
  };
  passed = all_first (λ (packet : List ℕ). packet_fault pid packet ≡ None) front others taken.passed;
}

pub front_within : (pid : ℕ) (before now : Supplied) (front others : List (List ℕ)) (rest : List ℕ)
    → AreTaken pid before now (front ++ others) rest → IsWithin (front ++ others) rest
    → IsWithin front (bytes_of others ++ rest)
front_within pid before now front others rest taken within =
    omega (arith, within, same_length front others rest taken.gave.each)
