-- The PES packets in which a set is sent, and their lengths.
use Rattle.std.proofs.Common.{◌≡◌, ◌∙◌, ℕ, ◌+◌, ◌-◌, ◌*◌, ◌<◌, ◌≤◌, ◌||◌, inl, inr, max, true, false, eqb, Bool, List, [], ◌∷◌, ◌++◌, length, map, take, drop, get_or, refl, sym, ap, subst, arith, length-append, append_assoc}
use Rattle.std.specs.Prelude.{All, sum}
use Rattle.std.specs.List.{AllByRecursion, concat, list_any, sum_by}
use Rattle.std.proofs.Math.Seq.{take-append_seam, drop-append_seam}
use Rattle.std.proofs.lemmas.Bool.Decides.{nat_tests}
use Rattle.std.proofs.lemmas.List.{length-map, take_more}
use Rattle.std.proofs.lemmas.List.Elements.{All-head, All-tail, All-cons, All-nil, All-push, All-weaker, recursion_from_All}
use Rattle.std.proofs.lemmas.List.Sums.{sum_by-cons}
use Rattle.sub_base.specs.Lists.{all_of}
use Rattle.sub_base.specs.declared.load.TheConstants.{UNIT_ROOM}
use Rattle.pes_packets.specs.Units.{IsOneUnit, AreUnits, IsSharedOut, unit_length}
use Rattle.pes_packets.specs.declared.units.TheConstants.{OTHER_BYTES}
use Rattle.pes_packets.proofs.Filling.{own}
use Rattle.pes_packets.proofs.SharingLaws.{same_lengths, shared_back, shared_sum}
use Rattle.decoder_model.specs.Received.{IsFramed}
use Rattle.display_sets.specs.Filling.{AreBytes}
use Rattle.sent_sets.specs.RawSets.{RawSet, raw_packet}
use Rattle.sent_sets.proofs.RawUnits.{raw_size, sum_of_lengths}
use Rattle.splice.specs.SplicedSets.{IsLongest}
use Rattle.splice.specs.Private.Sendings.{AreCutTo, IsGreatest, IsSendingOf, packet_at}
use Rattle.splice.specs.declared.sending.Sending.{Sending}

-- ---- the longest

any_front : (p : ℕ → Bool) (xs ys : List ℕ) → list_any p xs ≡ true → list_any p (xs ++ ys) ≡ true
any_front p [] ys e = absurd (let never : false ≡ true = e in cc)
any_front p (x ∷ xs) ys e = by (p x) e (any_front p xs ys)
  where
    by : (b : Bool) → (b || list_any p xs) ≡ true
        → (list_any p xs ≡ true → list_any p (xs ++ ys) ≡ true) → (b || list_any p (xs ++ ys)) ≡ true
    by true e more = refl
    by false e more = more e

any_last : (p : ℕ → Bool) (xs : List ℕ) (x : ℕ) → p x ≡ true → list_any p (xs ++ x ∷ []) ≡ true
any_last p [] x e = ap (λ (b : Bool). b || false) e
any_last p (y ∷ xs) x e =
    ap (λ (b : Bool). p y || b) (any_last p xs x e) ∙ by (p y)
  where
    by : (b : Bool) → (b || true) ≡ true
    by true = refl
    by false = refl

same_number : (n : ℕ) → eqb n n ≡ true
same_number n = grind (arith, nat_tests)

pub greatest_none : IsGreatest [] 0
greatest_none = record { all = All-nil (λ (n : ℕ). n ≤ 0); one = inl refl }

pub greatest_more : (xs : List ℕ) (n x most : ℕ) → most ≡ max n x → IsGreatest xs n
    → IsGreatest (xs ++ x ∷ []) most
greatest_more xs n x most is so = by (eqb most x) refl
  where
    all_of_them : All (λ (m : ℕ). m ≤ most) (xs ++ x ∷ [])
    all_of_them =
        All-push (λ (m : ℕ). m ≤ most) xs x
        (All-weaker (λ (m : ℕ). m ≤ n) (λ (m : ℕ). m ≤ most) (λ m few. omega (arith, is, few)) xs so.all)
        (omega (arith, is))

    by : (b : Bool) → eqb most x ≡ b → IsGreatest (xs ++ x ∷ []) most
    by true same =
        let one : x ≡ most = grind (arith, nat_tests) in
        record {
          all = all_of_them;
          one = inr (any_last (λ (m : ℕ). eqb m most) xs x
              (subst (λ (m : ℕ). eqb x m ≡ true) one (same_number x)));
        }
    by false other =
        let front : most ≡ n = grind (arith, nat_tests) in
        record {
          all = all_of_them;
          one = elim so.one [
            | inl none ↦ inl (front ∙ none)
            | inr some ↦ inr (any_front (λ (m : ℕ). eqb m most) xs (x ∷ [])
                (subst (λ (m : ℕ). list_any (λ (other : ℕ). eqb other m) xs ≡ true) (sym front) some))
          ];
        }

pub greatest_step : (xs : List ℕ) (k n most : ℕ) → k < length xs → most ≡ max n (get_or xs k 0)
    → IsGreatest (take k xs) n → IsGreatest (take (k + 1) xs) most
greatest_step xs k n most inside is so =
    subst (λ (all : List ℕ). IsGreatest all most) (sym (take_more xs k 0 inside))
    (greatest_more (take k xs) n (get_or xs k 0) most is so)

-- ---- one unit after the other

pub concat_joined : (xs ys : List (List ℕ)) → concat (xs ++ ys) ≡ concat xs ++ concat ys
concat_joined [] ys = refl
concat_joined (x ∷ xs) ys =
    ap (λ (rest : List ℕ). x ++ rest) (concat_joined xs ys) ∙ sym (append_assoc x (concat xs) (concat ys))

head_same : (n m : ℕ) (ns ms : List ℕ) → n ∷ ns ≡ m ∷ ms → n ≡ m
head_same n m ns ms e = ap (λ xs. get_or xs 0 0) e

tail_same : (n m : ℕ) (ns ms : List ℕ) → n ∷ ns ≡ m ∷ ms → ns ≡ ms
tail_same n m ns ms e = ap (drop 1) e

-- the first unit, and those behind it
pub record IsFirstUnit (bytes lengths : List ℕ) (size : ℕ) (units : List (List (List ℕ))) : Type 0 where
  pub unit : List (List ℕ)
  pub rest : List (List (List ℕ))
  pub are : units ≡ unit ∷ rest
  pub size_is : size ≡ OTHER_BYTES + length (concat unit)
  pub fits : length (concat unit) ≤ UNIT_ROOM
  pub whole : bytes ≡ concat unit ++ concat (all_of rest)
  pub behind : AreCutTo (concat (all_of rest)) lengths rest

pub first_unit : (bytes lengths : List ℕ) (size : ℕ) (units : List (List (List ℕ)))
    → AreCutTo bytes (size ∷ lengths) units → IsFirstUnit bytes lengths size units
first_unit bytes lengths size [] cut = absurd (let e : [] ≡ size ∷ lengths = cut.are in cc)
first_unit bytes lengths size (unit ∷ rest) cut = record {
  unit = unit;
  rest = rest;
  are = refl;
  size_is =
      omega (
        arith,
        head_same (unit_length length unit) size (map (unit_length length) rest) lengths cut.are,
        sum_of_lengths unit,
      );
  fits =
      omega (
        arith,
        All-head (λ (one : List (List ℕ)). sum_by length one ≤ UNIT_ROOM) unit rest cut.fit,
        sum_of_lengths unit,
      );
  whole = sym cut.whole ∙ concat_joined unit (all_of rest);
  behind = record {
    whole = refl;
    are = tail_same (unit_length length unit) size (map (unit_length length) rest) lengths cut.are;
    fit = All-tail (λ (one : List (List ℕ)). sum_by length one ≤ UNIT_ROOM) unit rest cut.fit;
  };
}

pub no_unit : (bytes : List ℕ) (units : List (List (List ℕ))) → AreCutTo bytes [] units → units ≡ []
no_unit bytes [] cut = refl
no_unit bytes (unit ∷ rest) cut =
    absurd (let e : unit_length length unit ∷ map (unit_length length) rest ≡ [] = cut.are in cc)

-- what stands once the packet of the first unit is put out: the others are left, and all packets are as before
pub next_unit : (time : ℕ) (start out new left unit behind lengths : List ℕ) (size : ℕ)
    (units : List (List (List ℕ))) → AreCutTo left (size ∷ lengths) units
    → (at : ℕ) → (size ≤ OTHER_BYTES + length left → size ≤ OTHER_BYTES + UNIT_ROOM → at ≡ size - OTHER_BYTES)
    → unit ≡ take at left → behind ≡ drop at left
    → ((one : List (List ℕ)) → unit ≡ concat one → new ≡ out ++ packet_at time one)
    → start ≡ out ++ concat (map (packet_at time) units)
    → (rest : List (List (List ℕ))) × AreCutTo behind lengths rest
    × (start ≡ new ++ concat (map (packet_at time) rest))
next_unit time start out new left unit behind lengths size units p at exact u b n s =
    let first = first_unit left lengths size units p in
    let inside =
    ap length first.whole ∙ length-append (concat first.unit) (concat (all_of first.rest)) in
    let count : at ≡ length (concat first.unit) =
    omega (
      arith,
      exact (omega (arith, first.size_is, inside)) (omega (arith, first.size_is, first.fits)),
      first.size_is,
    ) in
    let unit_is : unit ≡ concat first.unit =
    u ∙ ap (λ (k : ℕ). take k left) count ∙ ap (take (length (concat first.unit))) first.whole
    ∙ take-append_seam (concat first.unit) (concat (all_of first.rest)) in
    let behind_is : behind ≡ concat (all_of first.rest) =
    b ∙ ap (λ (k : ℕ). drop k left) count ∙ ap (drop (length (concat first.unit))) first.whole
    ∙ drop-append_seam (concat first.unit) (concat (all_of first.rest)) in
    let others = concat (map (packet_at time) first.rest) in (
      first.rest,
      subst (λ (bytes : List ℕ). AreCutTo bytes lengths first.rest) (sym behind_is) first.behind,
      s ∙ ap (λ (all : List (List (List ℕ))). out ++ concat (map (packet_at time) all)) first.are
          ∙ sym (append_assoc out (packet_at time first.unit) others)
          ∙ ap (λ (xs : List ℕ). xs ++ others) (sym (n first.unit unit_is)),
    )

-- there are no more units than segments
pub few_units : (units : List (List ℕ)) → AreUnits own units → length units ≤ length (all_of units)
few_units [] are = omega arith
few_units (unit ∷ units) are =
    omega (arith, are.0.0, few_units units are.2, length-append unit (all_of units))

-- ---- the units of a set

pub All_of_map : {X Y : Type 0} (P : Y → Type 0) (f : X → Y) (xs : List X) → All P (map f xs)
    → All (λ x. P (f x)) xs
All_of_map P f [] all = All-nil (λ x. P (f x))
All_of_map P f (x ∷ xs) all =
    All-cons (λ x. P (f x)) x xs (All-head P (f x) (map f xs) all)
    (All_of_map P f xs (All-tail P (f x) (map f xs) all))

any_of_map : (most : ℕ) (segments : List (List ℕ))
    → list_any (λ (n : ℕ). eqb n most) (map length segments)
    ≡ list_any (λ (segment : List ℕ). eqb (length segment) most) segments
any_of_map most [] = refl
any_of_map most (segment ∷ segments) =
    ap (λ (b : Bool). eqb (length segment) most || b) (any_of_map most segments)

-- a set has a byte where it has a segment
pub some_bytes : (bytes : List ℕ) (segments : List (List ℕ)) → AreBytes segments bytes → 1 ≤ length segments
    → 6 ≤ length bytes
some_bytes bytes [] are some = absurd (omega (arith, some))
some_bytes bytes (one ∷ segments) are some =
    let own = are.framed.0.whole in
    omega (arith, own, ap length are.joined, length-append one (concat segments))

pub is_longest : (segments : List (List ℕ)) (lengths : List ℕ) (longest : ℕ) → lengths ≡ map length segments
    → IsGreatest lengths longest → AllByRecursion IsFramed segments → 1 ≤ length segments
    → IsLongest segments longest
is_longest [] lengths longest are greatest framed some = absurd (omega (arith, some))
is_longest (one ∷ segments) lengths longest are greatest framed some =
    let own = subst (λ (all : List ℕ). IsGreatest all longest) are greatest in
    let each = All_of_map (λ (n : ℕ). n ≤ longest) length (one ∷ segments) own.all in
    let long = framed.0.whole in
    let above = All-head (λ (segment : List ℕ). length segment ≤ longest) one segments each in
    record {
      one = elim own.one [
        | inl none ↦ absurd (omega (arith, none, above, long))
        | inr found ↦ sym (any_of_map longest (one ∷ segments)) ∙ found
      ];
      greatest = each;
    }

one_fits : (unit : List (List ℕ)) → IsOneUnit length unit
    → AllByRecursion (λ (segment : List ℕ). length segment ≤ UNIT_ROOM) unit → sum_by length unit ≤ UNIT_ROOM
one_fits [] one each = omega arith
one_fits (segment ∷ []) one each = omega (arith, sum_by-cons (λ (s : List ℕ). length s) segment [], each.0)
one_fits (segment ∷ next ∷ unit) one each = elim one.1 [
  | inl single ↦ absurd (omega (arith, single))
  | inr fits ↦ fits
]

parts_of : {X : Type 0} (P : X → Type 0) (xs ys : List X) → AllByRecursion P (xs ++ ys)
    → AllByRecursion P xs × AllByRecursion P ys
parts_of P [] ys h = (tt, h)
parts_of P (x ∷ xs) ys h = let more = parts_of P xs ys h.1 in ((h.0, more.0), more.1)

units_fit : (units : List (List (List ℕ))) → AreUnits length units
    → AllByRecursion (λ (segment : List ℕ). length segment ≤ UNIT_ROOM) (all_of units)
    → All (λ (unit : List (List ℕ)). sum_by length unit ≤ UNIT_ROOM) units
units_fit [] are each = All-nil (λ (unit : List (List ℕ)). sum_by length unit ≤ UNIT_ROOM)
units_fit (unit ∷ units) are each =
    let parts = parts_of (λ (segment : List ℕ). length segment ≤ UNIT_ROOM) unit (all_of units) each in
    All-cons (λ (one : List (List ℕ)). sum_by length one ≤ UNIT_ROOM) unit units
    (one_fits unit are.0 parts.0) (units_fit units are.2 parts.1)

-- the units that segments are shared out to by their lengths
pub record AreUnitsBy (segments : List (List ℕ)) (lengths : List ℕ) : Type 0 where
  pub units : List (List (List ℕ))
  pub shared : IsSharedOut length segments units
  pub are : map (unit_length length) units ≡ lengths

pub units_by : (segments : List (List ℕ)) (sizes lengths : List ℕ) (shares : List (List ℕ))
    → sizes ≡ map length segments → IsSharedOut own sizes shares → lengths ≡ map (unit_length own) shares
    → AreUnitsBy segments lengths
units_by segments sizes lengths shares sizes_are shared are =
    let back = shared_back length segments shares (subst (λ (ns : List ℕ). IsSharedOut own ns shares) sizes_are shared)
    in
    record {
      units = back.0;
      shared = back.1;
      are = sym (are ∙ ap (map (unit_length own)) (sym back.2) ∙ same_lengths length back.0);
    }

pub cut_by : (bytes : List ℕ) (segments : List (List ℕ)) (lengths : List ℕ) (by : AreUnitsBy segments lengths)
    → AreBytes segments bytes → (longest : ℕ) → IsLongest segments longest → longest ≤ UNIT_ROOM
    → AreCutTo bytes lengths by.units
cut_by bytes segments lengths by are longest is few = record {
  whole = ap concat by.shared.whole ∙ sym are.joined;
  are = by.are;
  fit =
      units_fit by.units by.shared.each
      (subst (λ (all : List (List ℕ)). AllByRecursion (λ (segment : List ℕ). length segment ≤ UNIT_ROOM) all)
      (sym by.shared.whole)
      (recursion_from_All (λ (segment : List ℕ). length segment ≤ UNIT_ROOM) segments
      (All-weaker (λ (segment : List ℕ). length segment ≤ longest) (λ (segment : List ℕ). length segment ≤ UNIT_ROOM)
      (λ segment short. omega (arith, short, few)) segments is.greatest)));
}

packets_sized : (time : ℕ) (units : List (List (List ℕ)))
    → map length (map (raw_packet time) units) ≡ map (unit_length length) units
packets_sized time [] = refl
packets_sized time (unit ∷ units) =
    ap (λ (n : ℕ). n ∷ map length (map (raw_packet time) units)) (raw_size time unit)
    ∙ ap (λ (ns : List ℕ). unit_length length unit ∷ ns) (packets_sized time units)

pub is_sending : (set : RawSet) (sending : Sending) (bytes sizes : List ℕ)
    → AreBytes set.segments bytes → 1 ≤ length set.segments → sizes ≡ map length set.segments
    → IsGreatest sizes sending.longest → (by : AreUnitsBy set.segments sending.units.items)
    → sending.size ≡ length bytes + OTHER_BYTES * length sending.units.items
    → (sending.longest ≤ UNIT_ROOM → sending.bytes.items ≡ concat (map (raw_packet set.time) by.units))
    → IsSendingOf set sending
is_sending set sending bytes sizes are some sizes_are greatest by size written =
    let packets = map (raw_packet set.time) by.units in
    let many = ap length (sym by.are) ∙ length-map by.units (unit_length length) in
    record {
      packets = packets;
      carried = record { units = by.units; shared = by.shared; are = refl };
      units = sym by.are ∙ sym (packets_sized set.time by.units);
      size =
          omega (
            arith,
            size,
            many,
            ap sum (sym by.are),
            shared_sum length set.segments by.units by.shared,
            sum_of_lengths set.segments,
            ap length are.joined,
          );
      some = omega (arith, size, some_bytes bytes set.segments are some);
      longest = is_longest set.segments sizes sending.longest sizes_are greatest are.framed some;
      bytes = written;
    }

-- the units of segments whose lengths were measured
pub units_are : (segments : List (List ℕ)) (sizes old out : List ℕ) (shares : List (List ℕ))
    → sizes ≡ map length segments → old ≡ [] → IsSharedOut own sizes shares
    → out ≡ old ++ map (unit_length own) shares → AreUnitsBy segments out
units_are segments sizes old out shares sizes_are none shared is =
    units_by segments sizes out shares sizes_are shared
    (is ∙ ap (λ (front : List ℕ). front ++ map (unit_length own) shares) none)

-- are as few as these
pub units_few : (sizes old out : List ℕ) (shares : List (List ℕ)) → old ≡ [] → IsSharedOut own sizes shares
    → out ≡ old ++ map (unit_length own) shares → length out ≤ length sizes
units_few sizes old out shares none shared is =
    omega (
      arith,
      ap length is,
      ap length none,
      length-append old (map (unit_length own) shares),
      length-map shares (unit_length own),
      few_units shares shared.each,
      ap length shared.whole,
    )
