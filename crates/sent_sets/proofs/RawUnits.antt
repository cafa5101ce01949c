-- The PES packets of a set that is sent are units of the set, each with the segments that count for a receiver's pages.
use Rattle.std.proofs.Common.{◌≡◌, ◌∙◌, ℕ, ◌+◌, ◌%◌, ◌^◌, ◌<◌, ◌≤◌, inl, inr, Bool, true, false, cond, List, [], ◌∷◌, ◌++◌, length, map, filter, Ok, refl, sym, ap, subst, arith, length-append}
use Rattle.std.specs.Prelude.{sum, flat_map}
use Rattle.std.specs.List.{AllByRecursion, AllZip, concat, sum_by}
use Rattle.std.proofs.lemmas.List.{length-map}
use Rattle.std.proofs.lemmas.List.Elements.{recursion_from_All, filter-append}
use Rattle.std.proofs.lemmas.List.Sums.{sum_by-append, sum_by-cons}
use Rattle.sub_base.specs.declared.load.TheConstants.{UNIT_ROOM}
use Rattle.stream_syntax.specs.Cutting.{IsUnit}
use Rattle.stream_syntax.specs.DataField.{segment, data_field}
use Rattle.stream_syntax.specs.Pes.{written_pes, pes_of}
use Rattle.stream_syntax.specs.declared.wire.TheConstants.{TIME_ROUND}
use Rattle.pes_packets.specs.Units.{IsOneUnit, AreUnits, IsSharedOut}
use Rattle.pes_packets.proofs.PesLayout.{pes_is_read}
use Rattle.pes_packets.proofs.Written.{written_is_pes, written_is_unit}
use Rattle.decoder_model.specs.Frames.{is_end, is_of_pages}
use Rattle.decoder_model.specs.Received.{IsFramed}
use Rattle.decoder_model.specs.declared.pages.Pages.{Pages}
use Rattle.sent_sets.specs.RawSets.{RawSet, raw_packet, AreRawPackets, IsSendable, counted_in, EndsLast}
use Rattle.sent_sets.proofs.FieldFrames.{IsHead, head_of_framed}
use Rattle.sent_sets.proofs.SetEnds.{EndsAtLast}
use Rattle.sent_sets.proofs.Units.{SetUnit, TimedSet, timed, segments_of_units, all_segments, CarriesUnit}

-- ---- lists

pub parts_of_all : {X : Type 0} (P : X → Type 0) (xs ys : List X) → AllByRecursion P (xs ++ ys)
    → AllByRecursion P xs × AllByRecursion P ys
parts_of_all P [] ys h = (tt, h)
parts_of_all P (x ∷ xs) ys h = let more = parts_of_all P xs ys h.1 in ((h.0, more.0), more.1)

pub both_zip : {A B : Type 0} (R : A → B → Type 0) (xs others : List A) (ys more : List B) → AllZip R xs ys
    → AllZip R others more → AllZip R (xs ++ others) (ys ++ more)
both_zip R [] others [] more h k = k
both_zip R [] others (y ∷ ys) more h k = absurd h
both_zip R (x ∷ xs) others [] more h k = absurd h
both_zip R (x ∷ xs) others (y ∷ ys) more h k = (h.0, both_zip R xs others ys more h.1 k)

pub sum_of_lengths : (segments : List (List ℕ)) → sum_by length segments ≡ length (concat segments)
sum_of_lengths [] = refl
sum_of_lengths (bytes ∷ segments) =
    omega (
      arith,
      sum_by-append length (bytes ∷ []) segments,
      sum_of_lengths segments,
      length-append bytes (concat segments),
    )

filtered_less : (p : List ℕ → Bool) (segments : List (List ℕ))
    → sum_by length (filter p segments) ≤ sum_by length segments
filtered_less p [] = omega arith
filtered_less p (bytes ∷ segments) = by (p bytes) (filtered_less p segments)
  where
    by : (b : Bool) → sum_by length (filter p segments) ≤ sum_by length segments
        → sum_by length (cond b (bytes ∷ filter p segments) (filter p segments))
        ≤ sum_by length (bytes ∷ segments)
    by true less =
        omega (
          arith,
          less,
          sum_by-append length (bytes ∷ []) (filter p segments),
          sum_by-append length (bytes ∷ []) segments,
        )
    by false less = omega (arith, less, sum_by-append length (bytes ∷ []) segments)

-- ---- one PES packet

packet_size : (time : ℕ) (field : List ℕ) → length (written_pes time field) ≡ 14 + length field
packet_size time field = omega arith

-- it has the bytes of its segments and 17 more
pub raw_size : (time : ℕ) (unit : List (List ℕ)) → length (raw_packet time unit) ≡ 17 + sum_by length unit
raw_size time unit =
    omega (
      arith,
      packet_size (time % TIME_ROUND) (data_field (concat unit)),
      length-append (concat unit) (0xFF ∷ []),
      sum_of_lengths unit,
    )

below_round : (time : ℕ) → time % TIME_ROUND < 2 ^ 33
below_round time = omega arith

-- it is read as its time and its segments
pub raw_is_read : (time : ℕ) (unit : List (List ℕ)) → length (raw_packet time unit) ≤ 65541
    → pes_of (raw_packet time unit) ≡ Ok (time % TIME_ROUND, concat unit ++ 0xFF ∷ [])
raw_is_read time unit short =
    let size = packet_size (time % TIME_ROUND) (data_field (concat unit)) in
    pes_is_read (raw_packet time unit) (time % TIME_ROUND) (concat unit ++ 0xFF ∷ [])
    (written_is_pes (time % TIME_ROUND) (data_field (concat unit)) (below_round time) (omega arith) refl)

-- and a demultiplexer that has room for it hands it out whole
pub raw_is_unit : (size time : ℕ) (unit : List (List ℕ)) → length (raw_packet time unit) ≤ size
    → length (raw_packet time unit) ≤ 65541 → IsUnit size (raw_packet time unit)
raw_is_unit size time unit fits short =
    let whole = packet_size (time % TIME_ROUND) (data_field (concat unit)) in
    written_is_unit (time % TIME_ROUND) (data_field (concat unit)) (omega arith) size (omega arith)

-- a unit with those of its segments that count
abbrev pub counted_unit : Pages → ℕ → List (List ℕ) → SetUnit
counted_unit pages time unit =
    record { size = length (raw_packet time unit); segments = filter (is_of_pages pages) unit }

pub carries_unit : (pages : Pages) (time : ℕ) (unit : List (List ℕ)) → AllByRecursion IsHead unit
    → length (raw_packet time unit) ≤ 65541
    → CarriesUnit pages (raw_packet time unit) (timed (time % TIME_ROUND) (counted_unit pages time unit))
carries_unit pages time unit heads short =
    record { all = unit; each = heads; counted = refl; size = refl; packet = raw_is_read time unit short }

-- ---- the PES packets of a set

-- each packet is of a length that can be told
abbrev pub AreShort : List (List ℕ) → Type 0
AreShort packets = AllByRecursion (λ (packet : List ℕ). length packet ≤ 65541) packets

one_short : (time : ℕ) (unit : List (List ℕ)) → AllByRecursion (λ bytes. length bytes ≤ UNIT_ROOM) unit
    → IsOneUnit length unit → length (raw_packet time unit) ≤ 65541
one_short time [] room one = absurd (omega (arith, one.0))
one_short time (bytes ∷ []) room one =
    omega (arith, room.0, raw_size time (bytes ∷ []), sum_by-cons (λ (segment : List ℕ). length segment) bytes [])
one_short time (bytes ∷ next ∷ unit) room one =
    elim one.1 [
      | inl single ↦ absurd (omega (arith, single))
      | inr small ↦ omega (arith, small, raw_size time (bytes ∷ next ∷ unit))
    ]

all_short : (time : ℕ) (units : List (List (List ℕ)))
    → AllByRecursion (λ bytes. length bytes ≤ UNIT_ROOM) (flat_map (λ unit. unit) units) → AreUnits length units
    → AreShort (map (raw_packet time) units)
all_short time [] room are = tt
all_short time (unit ∷ units) room are =
    let parts = parts_of_all (λ bytes. length bytes ≤ UNIT_ROOM) unit (flat_map (λ unit. unit) units) room in
    (one_short time unit parts.0 are.0, all_short time units parts.1 are.2)

each_fits : (coded : ℕ) (packets : List (List ℕ)) → sum (map length packets) ≤ coded
    → AllByRecursion (λ packet. length packet ≤ coded) packets
each_fits coded [] room = tt
each_fits coded (packet ∷ packets) room =
    let all = sum_by-cons (λ (n : ℕ). n) (length packet) (map length packets) in
    (omega arith, each_fits coded packets (omega arith))

all_units : (coded time : ℕ) (units : List (List (List ℕ)))
    → AllByRecursion (λ packet. length packet ≤ coded) (map (raw_packet time) units)
    → AreShort (map (raw_packet time) units) → AllByRecursion (IsUnit coded) (map (raw_packet time) units)
all_units coded time [] fit short = tt
all_units coded time (unit ∷ units) fit short =
    (raw_is_unit coded time unit fit.0 short.0, all_units coded time units fit.1 short.1)

-- those that carry these units, where each has room in the buffer and a length that can be told
pub packets_are_units : (coded time : ℕ) (units : List (List (List ℕ)))
    → sum (map length (map (raw_packet time) units)) ≤ coded → AreShort (map (raw_packet time) units)
    → AllByRecursion (IsUnit coded) (map (raw_packet time) units)
packets_are_units coded time units room short =
    all_units coded time units (each_fits coded (map (raw_packet time) units) room) short

carry_units : (pages : Pages) (time : ℕ) (units : List (List (List ℕ)))
    → AllByRecursion IsHead (flat_map (λ unit. unit) units) → AreShort (map (raw_packet time) units)
    → AllZip (CarriesUnit pages) (map (raw_packet time) units)
    (map (timed (time % TIME_ROUND)) (map (counted_unit pages time) units))
carry_units pages time [] heads short = tt
carry_units pages time (unit ∷ units) heads short =
    let parts = parts_of_all IsHead unit (flat_map (λ unit. unit) units) heads in
    (carries_unit pages time unit parts.0 short.0, carry_units pages time units parts.1 short.1)

-- the segments of its units are the set's that count
pub counted_of_units : (pages : Pages) (time : ℕ) (units : List (List (List ℕ)))
    → segments_of_units (map (counted_unit pages time) units)
    ≡ filter (is_of_pages pages) (flat_map (λ unit. unit) units)
counted_of_units pages time [] = refl
counted_of_units pages time (unit ∷ units) =
    ap (λ rest. filter (is_of_pages pages) unit ++ rest) (counted_of_units pages time units)
    ∙ sym (filter-append (is_of_pages pages) unit (flat_map (λ unit. unit) units))

-- and have no more bytes than the PES packets
pub bytes_of_packets : (time : ℕ) (units : List (List (List ℕ)))
    → sum_by length (flat_map (λ unit. unit) units) ≤ sum (map length (map (raw_packet time) units))
bytes_of_packets time [] = omega arith
bytes_of_packets time (unit ∷ units) =
    omega (
      arith,
      bytes_of_packets time units,
      raw_size time unit,
      sum_by-append length unit (flat_map (λ unit. unit) units),
      sum_by-cons (λ (n : ℕ). n) (length (raw_packet time unit)) (map length (map (raw_packet time) units)),
    )

-- ---- a set

-- the set as a receiver of these pages gets it in its PES packets, and its units
pub record IsRawSent (pages : Pages) (set : RawSet) (packets : List (List ℕ)) (sent : TimedSet) : Type 0 where
  pub units : List (List (List ℕ))
  pub shared : IsSharedOut length set.segments units
  pub written : packets ≡ map (raw_packet set.time) units
  pub time : sent.time ≡ set.time % TIME_ROUND
  pub each : sent.units ≡ map (counted_unit pages set.time) units

pub same_many : (pages : Pages) (set : RawSet) (packets : List (List ℕ)) (sent : TimedSet)
    → IsRawSent pages set packets sent → length sent.units ≡ length packets
same_many pages set packets sent is =
    ap length is.each ∙ length-map is.units (counted_unit pages set.time)
    ∙ sym (length-map is.units (raw_packet set.time)) ∙ sym (ap length is.written)

pub counted_segments : (pages : Pages) (set : RawSet) (packets : List (List ℕ)) (sent : TimedSet)
    → IsRawSent pages set packets sent → all_segments sent ≡ counted_in pages set
counted_segments pages set packets sent is =
    ap segments_of_units is.each ∙ counted_of_units pages set.time is.units
    ∙ ap (filter (is_of_pages pages)) is.shared.whole

-- where no segment but the last that counts is an end segment
ends_at_last : (segments : List (List ℕ))
    → ((before after : List (List ℕ)) (bytes : List ℕ) → segments ≡ before ++ bytes ∷ after
    → is_end (segment bytes) ≡ true → after ≡ [])
    → EndsAtLast segments
ends_at_last [] h = tt
ends_at_last (bytes ∷ []) h = tt
ends_at_last (bytes ∷ next ∷ segments) h = (
  by (is_end (segment bytes)) refl,
  ends_at_last (next ∷ segments) (λ before after one e is.
      h (bytes ∷ before) after one (ap (λ rest. bytes ∷ rest) e) is),
)
  where
    by : (b : Bool) → is_end (segment bytes) ≡ b → is_end (segment bytes) ≡ false
    by true is = absurd (omega (arith, ap length (h [] (next ∷ segments) bytes refl is)))
    by false is = is

-- a set that a coded data buffer of so many bytes can hold, and that none but its last segment ends
pub record IsOpen (coded : ℕ) (set : TimedSet) : Type 0 where
  pub ends : EndsAtLast (all_segments set)
  pub fits : sum_by length (all_segments set) ≤ coded

-- what is known of the PES packets of a set
pub record AreKnownPackets (coded : ℕ) (pages : Pages) (set : RawSet) (packets : List (List ℕ))
    (sent : TimedSet) : Type 0 where
  pub is : IsRawSent pages set packets sent
  pub open_set : IsOpen coded sent
  pub each : AllZip (CarriesUnit pages) packets (map (timed sent.time) sent.units)
  pub units : AllByRecursion (IsUnit coded) packets

all_heads : (segments : List (List ℕ)) → AllByRecursion IsFramed segments → AllByRecursion IsHead segments
all_heads [] h = tt
all_heads (bytes ∷ segments) h = (head_of_framed bytes h.0, all_heads segments h.1)

-- the set with these units
abbrev pub raw_timed : Pages → RawSet → List (List (List ℕ)) → TimedSet
raw_timed pages set its_units =
    record { time = set.time % TIME_ROUND; units = map (counted_unit pages set.time) its_units }

pub known_packets : (coded : ℕ) (pages : Pages) (set : RawSet) (packets : List (List ℕ))
    → (h : AreRawPackets set packets) → IsSendable set → EndsLast pages set → sum (map length packets) ≤ coded
    → AreKnownPackets coded pages set packets (raw_timed pages set h.units)
known_packets coded pages set packets h can ends room =
    let written = map (raw_packet set.time) h.units in
    let is : IsRawSent pages set packets (raw_timed pages set h.units) =
    record { units = h.units; shared = h.shared; written = h.are; time = refl; each = refl } in
    let segments = counted_segments pages set packets (raw_timed pages set h.units) is in
    let room_too : sum (map length written) ≤ coded =
    subst (λ (all : List (List ℕ)). sum (map length all) ≤ coded) h.are room in
    let heads : AllByRecursion IsHead (flat_map (λ unit. unit) h.units) =
    subst (AllByRecursion IsHead) (sym h.shared.whole)
    (all_heads set.segments (recursion_from_All IsFramed set.segments can.framed)) in
    let short : AreShort written =
    all_short set.time h.units
    (subst (AllByRecursion (λ bytes. length bytes ≤ UNIT_ROOM)) (sym h.shared.whole)
    (recursion_from_All (λ bytes. length bytes ≤ UNIT_ROOM) set.segments can.room)) h.shared.each in
    record {
      is = is;
      open_set = record {
        ends = subst EndsAtLast (sym segments) (ends_at_last (counted_in pages set) ends);
        fits = omega (
          arith,
          ap (sum_by length) segments,
          filtered_less (is_of_pages pages) set.segments,
          ap (sum_by length) h.shared.whole,
          bytes_of_packets set.time h.units,
          room_too,
        );
      };
      each = subst (λ (all : List (List ℕ)). AllZip (CarriesUnit pages) all
          (map (timed (set.time % TIME_ROUND)) (map (counted_unit pages set.time) h.units))) (sym h.are)
          (carry_units pages set.time h.units heads short);
      units =
          subst (AllByRecursion (IsUnit coded)) (sym h.are) (packets_are_units coded set.time h.units room_too short);
    }
