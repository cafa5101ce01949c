-- The bytes of a set's segments, cut into those of its units.
use Rattle.std.proofs.Common.{◌≡◌, ℕ, ◌+◌, ◌-◌, ◌%◌, ◌≤◌, inl, inr, List, [], ◌∷◌, ◌++◌, length, map, sum_by, get_or, take, drop, refl, sym, ap, subst, ◌∙◌, append_assoc, length-append, arith}
use Rattle.std.specs.Prelude.{All}
use Rattle.std.specs.List.{concat, flat_map}
use Rattle.std.proofs.lemmas.Grind.{flat_map-append}
use Rattle.std.proofs.lemmas.List.Elements.{All-head, All-tail, All-cons, All-nil}
use Rattle.std.proofs.lemmas.List.Sums.{sum_by-cons}
use Rattle.std.proofs.Math.Seq.{take-append_seam, drop-append_seam}
use Rattle.sub_base.specs.declared.load.TheConstants.{UNIT_ROOM}
use Rattle.stream_syntax.specs.Segments.{SegmentValue, spelled}
use Rattle.stream_syntax.specs.declared.wire.TheConstants.{TIME_ROUND}
use Rattle.pes_packets.specs.Units.{IsOneUnit, AreUnits, IsSharedOut, unit_length}
use Rattle.pes_packets.specs.declared.units.TheConstants.{OTHER_BYTES}
use Rattle.set_coder.specs.SetSegments.{segment_bytes, unit_packet}
use Rattle.set_coder.specs.Private.UnitParts.{AreUnitParts, part_packet}
use Rattle.set_coder.proofs.WrittenSizes.{All_front, All_back}

-- ---- one part after the other

head_same : (n m : ℕ) (ns ms : List ℕ) → n ∷ ns ≡ m ∷ ms → n ≡ m
head_same n m ns ms e = ap (λ xs. get_or xs 0 0) e

tail_same : (n m : ℕ) (ns ms : List ℕ) → n ∷ ns ≡ m ∷ ms → ns ≡ ms
tail_same n m ns ms e = ap (drop 1) e

-- the first part, and those behind it
pub record IsFirstPart (bytes lengths : List ℕ) (size : ℕ) (parts : List (List ℕ)) : Type 0 where
  pub part : List ℕ
  pub rest : List (List ℕ)
  pub are : parts ≡ part ∷ rest
  pub size_is : size ≡ OTHER_BYTES + length part
  pub fits : length part ≤ UNIT_ROOM
  pub whole : bytes ≡ part ++ concat rest
  pub behind : AreUnitParts (concat rest) lengths rest

pub first_part : (bytes lengths : List ℕ) (size : ℕ) (parts : List (List ℕ))
    → AreUnitParts bytes (size ∷ lengths) parts → IsFirstPart bytes lengths size parts
first_part bytes lengths size [] p = absurd (let e : [] ≡ size ∷ lengths = p.each in cc)
first_part bytes lengths size (part ∷ rest) p = record {
  part = part;
  rest = rest;
  are = refl;
  size_is =
      sym (head_same (OTHER_BYTES + length part) size (map (λ part. OTHER_BYTES + length part) rest) lengths p.each);
  fits = All-head (λ part. length part ≤ UNIT_ROOM) part rest p.few;
  whole = sym p.whole;
  behind = record {
    whole = refl;
    each = tail_same (OTHER_BYTES + length part) size (map (λ part. OTHER_BYTES + length part) rest) lengths p.each;
    few = All-tail (λ part. length part ≤ UNIT_ROOM) part rest p.few;
  };
}

pub no_part : (bytes : List ℕ) (parts : List (List ℕ)) → AreUnitParts bytes [] parts → parts ≡ []
no_part bytes [] p = refl
no_part bytes (part ∷ rest) p =
    absurd (let e : (OTHER_BYTES + length part) ∷ map (λ part. OTHER_BYTES + length part) rest ≡ [] = p.each in cc)

-- what stands once the packet of the first part is put out: the others are left, and all packets are as before
pub next_packet : (time : ℕ) (start out new left unit behind lengths : List ℕ) (size : ℕ)
    (parts : List (List ℕ)) → AreUnitParts left (size ∷ lengths) parts
    → unit ≡ take (size - OTHER_BYTES) left → behind ≡ drop (size - OTHER_BYTES) left
    → new ≡ out ++ part_packet time unit → start ≡ out ++ concat (map (part_packet time) parts)
    → (rest : List (List ℕ)) × AreUnitParts behind lengths rest
    × (start ≡ new ++ concat (map (part_packet time) rest))
next_packet time start out new left unit behind lengths size parts p u b n s =
    let first = first_part left lengths size parts p in
    let count : size - OTHER_BYTES ≡ length first.part = omega (arith, first.size_is) in
    let unit_is : unit ≡ first.part =
    u ∙ ap (λ (k : ℕ). take k left) count ∙ ap (take (length first.part)) first.whole
    ∙ take-append_seam first.part (concat first.rest) in
    let behind_is : behind ≡ concat first.rest =
    b ∙ ap (λ (k : ℕ). drop k left) count ∙ ap (drop (length first.part)) first.whole
    ∙ drop-append_seam first.part (concat first.rest) in
    let others = concat (map (part_packet time) first.rest) in (
      first.rest,
      subst (λ (bytes : List ℕ). AreUnitParts bytes lengths first.rest) (sym behind_is) first.behind,
      s ∙ ap (λ (ps : List (List ℕ)). out ++ concat (map (part_packet time) ps)) first.are
          ∙ sym (append_assoc out (part_packet time first.part) others)
          ∙ ap (λ (xs : List ℕ). xs ++ others)
          (sym (n ∙ ap (λ (bytes : List ℕ). out ++ part_packet time bytes) unit_is)),
    )

-- ---- the parts of units

spelled_sum : (page : ℕ) (unit : List SegmentValue)
    → length (flat_map (spelled page) unit) ≡ sum_by (segment_bytes page) unit
spelled_sum page [] = refl
spelled_sum page (segment ∷ unit) =
    omega (
      arith,
      length-append (spelled page segment) (flat_map (spelled page) unit),
      spelled_sum page
          unit,
      sum_by-cons (segment_bytes page) segment unit,
    )

concat_units : (page : ℕ) (units : List (List SegmentValue))
    → concat (map (flat_map (spelled page)) units) ≡ flat_map (spelled page) (flat_map (λ unit. unit) units)
concat_units page [] = refl
concat_units page (unit ∷ units) =
    ap (λ (xs : List ℕ). flat_map (spelled page) unit ++ xs) (concat_units page units)
    ∙ sym (flat_map-append (spelled page) unit (flat_map (λ unit. unit) units))

part_lengths : (page : ℕ) (units : List (List SegmentValue))
    → map (λ part. OTHER_BYTES + length part) (map (flat_map (spelled page)) units)
    ≡ map (unit_length (segment_bytes page)) units
part_lengths page [] = refl
part_lengths page (unit ∷ units) =
    ap (λ (n : ℕ). (OTHER_BYTES + n)
    ∷ map (λ part. OTHER_BYTES + length part) (map (flat_map (spelled page)) units)) (spelled_sum page unit)
    ∙ ap (λ (ns : List ℕ). unit_length (segment_bytes page) unit ∷ ns) (part_lengths page units)

-- a unit has room for its segments, where there is room for each
one_fits : (page : ℕ) (unit : List SegmentValue) → IsOneUnit (segment_bytes page) unit
    → All (λ segment. segment_bytes page segment ≤ UNIT_ROOM) unit
    → length (flat_map (spelled page) unit) ≤ UNIT_ROOM
one_fits page [] one each = omega arith
one_fits page (segment ∷ []) one each =
    omega (
      arith,
      spelled_sum page (segment ∷ []),
      sum_by-cons (segment_bytes page) segment [],
      All-head
          (λ segment. segment_bytes page segment ≤ UNIT_ROOM) segment [] each,
    )
one_fits page (segment ∷ next ∷ unit) one each = elim one.1 [
  | inl single ↦ absurd (omega (arith, single))
  | inr fits ↦ omega (arith, spelled_sum page (segment ∷ next ∷ unit), fits)
]

units_fit : (page : ℕ) (units : List (List SegmentValue)) → AreUnits (segment_bytes page) units
    → All (λ segment. segment_bytes page segment ≤ UNIT_ROOM) (flat_map (λ unit. unit) units)
    → All (λ part. length part ≤ UNIT_ROOM) (map (flat_map (spelled page)) units)
units_fit page [] are each = All-nil (λ part. length part ≤ UNIT_ROOM)
units_fit page (unit ∷ units) are each =
    let fits = λ (segment : SegmentValue). segment_bytes page segment ≤ UNIT_ROOM in
    All-cons (λ part. length part ≤ UNIT_ROOM) (flat_map (spelled page) unit) (map (flat_map (spelled page)) units)
    (one_fits page unit are.0 (All_front fits unit (flat_map (λ unit. unit) units) each))
    (units_fit page units are.2 (All_back fits unit (flat_map (λ unit. unit) units) each))

pub parts_are : (page : ℕ) (segments : List SegmentValue) (units : List (List SegmentValue)) (lengths : List ℕ)
    → IsSharedOut (segment_bytes page) segments units
    → All (λ segment. segment_bytes page segment ≤ UNIT_ROOM) segments
    → lengths ≡ map (unit_length (segment_bytes page)) units
    → AreUnitParts (flat_map (spelled page) segments) lengths (map (flat_map (spelled page)) units)
parts_are page segments units lengths shared each are = record {
  whole = concat_units page units ∙ ap (flat_map (spelled page)) shared.whole;
  each = part_lengths page units ∙ sym are;
  few =
      units_fit page units shared.each
      (subst (All (λ segment. segment_bytes page segment ≤ UNIT_ROOM)) (sym shared.whole) each);
}

-- ---- their packets

-- the packets of the parts are those of the units
pub packets_are : (page time : ℕ) (units : List (List SegmentValue))
    → map (part_packet (time % TIME_ROUND)) (map (flat_map (spelled page)) units)
    ≡ map (unit_packet page time) units
packets_are page time [] = refl
packets_are page time (unit ∷ units) =
    ap (λ (packets : List (List ℕ)). unit_packet page time unit ∷ packets) (packets_are page time units)

packet_length : (time : ℕ) (part : List ℕ) → length (part_packet time part) ≡ OTHER_BYTES + length part
packet_length time part = omega (arith, length-append part (0xFF ∷ []))

-- and have their lengths
pub packets_sized : (time : ℕ) (parts : List (List ℕ))
    → map length (map (part_packet time) parts) ≡ map (λ part. OTHER_BYTES + length part) parts
packets_sized time [] = refl
packets_sized time (part ∷ parts) =
    ap (λ (n : ℕ). n ∷ map length (map (part_packet time) parts)) (packet_length time part)
    ∙ ap (λ (ns : List ℕ). (OTHER_BYTES + length part) ∷ ns) (packets_sized time parts)
