-- The PES packets that are written of the units of a set are read as that set.
use Rattle.std.proofs.Common.{◌≡◌, ◌∙◌, ℕ, suc, ◌%◌, ◌≤◌, true, false, eqb, ◌&&◌, List, [], ◌∷◌, ◌++◌, length, map, refl, sym, ap, subst, arith, append-nil, length-append}
use Rattle.std.specs.Prelude.{sum}
use Rattle.std.specs.List.{flat_map, concat, AllByRecursion, AllZip, sum_by, list_any}
use Rattle.std.proofs.lemmas.List.{map-append}
use Rattle.std.proofs.lemmas.List.Sums.{sum_by-cons}
use Rattle.stream_syntax.specs.declared.wire.TheConstants.{TIME_ROUND}
use Rattle.stream_syntax.specs.DataField.{data_field}
use Rattle.stream_syntax.specs.Pes.{written_pes, pes_of}
use Rattle.stream_syntax.specs.Segments.{SegmentValue, of_page, of_region, of_clut, of_object, of_display, end_of_set, passed_over, spelled, segment_kind, IsWritable, set_kinds}
use Rattle.stream_syntax.specs.Tests.{byte_at}
use Rattle.decoder_model.specs.Frames.{only}
use Rattle.decoder_model.proofs.ServicePages.{only_counts}
use Rattle.decoder_model.proofs.SoleCue.{is_same_id}
use Rattle.decoder_model.proofs.Lists.{all-append}
use Rattle.segments.proofs.Spellings.{spelled_as, spelled_head}
use Rattle.set_coder.specs.SetSegments.{unit_packet}
use Rattle.sent_sets.specs.RawSets.{raw_packet}
use Rattle.sent_sets.proofs.FieldFrames.{IsHeaded}
use Rattle.sent_sets.proofs.RawUnits.{parts_of_all, raw_is_read, bytes_of_packets}
use Rattle.sent_sets.proofs.Units.{SetUnit, TimedSet, timed, size_of_units, all_segments, IsBefore, AreSetUnits, IsTimedSet, IsUnitOf}

-- a segment of a page that is no end of set
abbrev pub IsInner : SegmentValue → Type 0
IsInner (of_page value) = Unit {0}
IsInner (of_region value) = Unit {0}
IsInner (of_clut value) = Unit {0}
IsInner (of_object value) = Unit {0}
IsInner (of_display value) = Unit {0}
IsInner end_of_set = ⊥
IsInner passed_over = ⊥

-- ---- the head of a written segment

inner_kind : (value : SegmentValue) → IsInner value
    → list_any (λ kind. eqb (segment_kind value) kind) set_kinds ≡ true
inner_kind (of_page value) h = refl
inner_kind (of_region value) h = refl
inner_kind (of_clut value) h = refl
inner_kind (of_object value) h = refl
inner_kind (of_display value) h = refl
inner_kind end_of_set h = absurd h
inner_kind passed_over h = absurd h

inner_no_end : (value : SegmentValue) → IsInner value → eqb (segment_kind value) 0x80 ≡ false
inner_no_end (of_page value) h = refl
inner_no_end (of_region value) h = refl
inner_no_end (of_clut value) h = refl
inner_no_end (of_object value) h = refl
inner_no_end (of_display value) h = refl
inner_no_end end_of_set h = absurd h
inner_no_end passed_over h = absurd h

headed_by : (page : ℕ) (value : SegmentValue) → IsWritable page value
    → list_any (λ kind. eqb (segment_kind value) kind) set_kinds ≡ true
    → IsHeaded (only page) (spelled page value)
headed_by page value writable known =
    let head = spelled_head page value writable in record {
      head = record { sync = ap (byte_at 0) (spelled_as page value writable.fits); size = sym head.size_is };
      of_pages =
          only_counts page (spelled page value)
          ∙ ap (λ id. eqb id page && list_any (λ kind. eqb (byte_at 1 (spelled page value)) kind) set_kinds)
          head.page_is
          ∙ ap (λ same. same && list_any (λ kind. eqb (byte_at 1 (spelled page value)) kind) set_kinds)
          (is_same_id page)
          ∙ ap (λ found. list_any (λ kind. eqb found kind) set_kinds) head.kind_is
          ∙ known;
    }

inner_before : (page : ℕ) (value : SegmentValue) → IsWritable page value → IsInner value
    → IsBefore (only page) (spelled page value)
inner_before page value writable inner = record {
  headed = headed_by page value writable (inner_kind value inner);
  no_end = ap (λ kind. eqb kind 0x80) (spelled_head page value writable).kind_is ∙ inner_no_end value inner;
}

-- ---- a unit

-- segments that can be written, none of them an end of set
abbrev pub AreInner : ℕ → List SegmentValue → Type 0
AreInner page values = AllByRecursion (λ value. IsWritable page value × IsInner value) values

all_before : (page : ℕ) (values : List SegmentValue) → AreInner page values
    → AllByRecursion (IsBefore (only page)) (map (spelled page) values)
all_before page [] h = tt
all_before page (value ∷ values) h = (inner_before page value h.0.0 h.0.1, all_before page values h.1)

-- segments that can be written, of the types of a display set
abbrev pub IsKnown : SegmentValue → Type 0
IsKnown value = list_any (λ kind. eqb (segment_kind value) kind) set_kinds ≡ true

abbrev pub AreKnown : ℕ → List SegmentValue → Type 0
AreKnown page values = AllByRecursion (λ value. IsWritable page value × IsKnown value) values

inner_known : (page : ℕ) (values : List SegmentValue) → AreInner page values → AreKnown page values
inner_known page [] h = tt
inner_known page (value ∷ values) h = ((h.0.0, inner_kind value h.0.1), inner_known page values h.1)

pub all_headed : (page : ℕ) (values : List SegmentValue) → AreKnown page values
    → AllByRecursion (IsHeaded (only page)) (map (spelled page) values)
all_headed page [] h = tt
all_headed page (value ∷ values) h = (headed_by page value h.0.0 h.0.1, all_headed page values h.1)

same_count : (page : ℕ) (values : List SegmentValue) → length (map (spelled page) values) ≡ length values
same_count page [] = refl
same_count page (value ∷ values) = ap suc (same_count page values)

joined_segments : (page : ℕ) (values : List SegmentValue)
    → flat_map (spelled page) values ≡ concat (map (spelled page) values)
joined_segments page [] = refl
joined_segments page (value ∷ values) = ap (λ rest. spelled page value ++ rest) (joined_segments page values)

-- the PES packet of a unit is that of the bytes of its segments
pub same_packet : (page time : ℕ) (values : List SegmentValue)
    → unit_packet page time values ≡ raw_packet time (map (spelled page) values)
same_packet page time values =
    ap (λ segments. written_pes (time % TIME_ROUND) (data_field segments)) (joined_segments page values)

-- a unit of these segments
abbrev pub unit_with : ℕ → ℕ → List SegmentValue → SetUnit
unit_with page set_time values =
    record { size = length (unit_packet page set_time values); segments = map (spelled page) values }

-- its PES packet is read so
written_unit : (page time : ℕ) (values : List SegmentValue) → AreKnown page values → 1 ≤ length values
    → length (unit_packet page time values) ≤ 65541
    → IsUnitOf (only page) (unit_packet page time values) (timed (time % TIME_ROUND) (unit_with page time values))
written_unit page time values known some short =
    let same = same_packet page time values in
    record {
      each = all_headed page values known;
      some = omega (arith, same_count page values, some);
      size = refl;
      packet = ap pes_of same
          ∙ raw_is_read time (map (spelled page) values) (omega (arith, short, ap length same));
    }

-- ---- a set

-- a set with its time and these units
abbrev pub set_with : ℕ → ℕ → List (List SegmentValue) → TimedSet
set_with page set_time its_units =
    record { time = set_time % TIME_ROUND; units = map (unit_with page set_time) its_units }

abbrev pub joined_units : List (List SegmentValue) → List SegmentValue
joined_units units = flat_map (λ unit. unit) units

-- its segments are those of the units
pub segments_with : (page time : ℕ) (units : List (List SegmentValue))
    → all_segments (set_with page time units) ≡ map (spelled page) (joined_units units)
segments_with page time [] = refl
segments_with page time (unit ∷ units) =
    ap (λ rest. map (spelled page) unit ++ rest) (segments_with page time units)
    ∙ sym (map-append (spelled page) unit (joined_units units))

-- its size is that of its PES packets
pub size_with : (page time : ℕ) (units : List (List SegmentValue))
    → size_of_units (set_with page time units).units ≡ sum (map length (map (unit_packet page time) units))
size_with page time [] = refl
size_with page time (unit ∷ units) =
    omega (
      arith,
      size_with page time units,
      sum_by-cons (λ (one : SetUnit). one.size) (unit_with page time unit) (map (unit_with page time) units),
      sum_by-cons (λ (n : ℕ). n) (length (unit_packet page time unit))
          (map length (map (unit_packet page time) units)),
    )

-- the segments of units as bytes, unit by unit
abbrev pub mapped_units : ℕ → List (List SegmentValue) → List (List (List ℕ))
mapped_units page units = map (map (spelled page)) units

pub joined_mapped : (page : ℕ) (units : List (List SegmentValue))
    → flat_map (λ unit. unit) (mapped_units page units) ≡ map (spelled page) (joined_units units)
joined_mapped page [] = refl
joined_mapped page (unit ∷ units) =
    ap (λ rest. map (spelled page) unit ++ rest) (joined_mapped page units)
    ∙ sym (map-append (spelled page) unit (joined_units units))

pub packets_mapped : (page time : ℕ) (units : List (List SegmentValue))
    → map (unit_packet page time) units ≡ map (raw_packet time) (mapped_units page units)
packets_mapped page time [] = refl
packets_mapped page time (unit ∷ units) =
    ap (λ packet. packet ∷ map (unit_packet page time) units) (same_packet page time unit)
    ∙ ap (λ rest. raw_packet time (map (spelled page) unit) ∷ rest) (packets_mapped page time units)

-- the segments have no more bytes
pub bytes_with : (page time : ℕ) (units : List (List SegmentValue))
    → sum_by length (all_segments (set_with page time units)) ≤ size_of_units (set_with page time units).units
bytes_with page time units =
    omega (
      arith,
      ap (sum_by length) (segments_with page time units),
      ap (sum_by length) (joined_mapped page units),
      size_with page time units,
      ap (λ packets. sum (map length packets)) (packets_mapped page time units),
      bytes_of_packets time (mapped_units page units),
    )

-- of a list that ends with an item, a prefix that is not all of it, and what is behind
record FrontOf {X : Type 0} (front behind all : List X) (last : X) : Type 0 where
  rest : List X
  before : all ≡ front ++ rest
  after : behind ≡ rest ++ last ∷ []

front_of : {X : Type 0} (front behind all : List X) (last : X) → 1 ≤ length behind
    → front ++ behind ≡ all ++ last ∷ [] → FrontOf front behind all last
front_of [] behind all last some e = record { rest = all; before = refl; after = e }
front_of (x ∷ front) behind [] last some e = absurd (omega (arith, ap length e, length-append front behind))
front_of {X} (x ∷ front) behind (y ∷ all) last some e =
    let head : x ≡ y = cc in
    let tail : front ++ behind ≡ all ++ last ∷ [] = cc in
    let more = front_of front behind all last some tail in
    record {
      rest = more.rest;
      before = ap (λ z. z ∷ all) (sym head)
          ∙ ap (λ zs. x ∷ zs) more.before;
      after = more.after;
    }

-- each of the units has a segment
abbrev pub HaveSegments : List (List SegmentValue) → Type 0
HaveSegments units = AllByRecursion (λ unit. 1 ≤ length unit) units

-- units of segments, the last of which ends the set, are those of a set
pub set_units : (page time : ℕ) (units : List (List SegmentValue)) (inner : List SegmentValue)
    → HaveSegments units → joined_units units ≡ inner ++ end_of_set ∷ [] → AreInner page inner
    → IsWritable page end_of_set
    → AreSetUnits (only page) (set_with page time units).units
set_units page time [] inner some whole fit end =
    absurd (omega (arith, ap length whole, length-append inner (end_of_set ∷ [])))
set_units page time (unit ∷ []) inner some whole fit end = record {
  front = map (spelled page) inner;
  end = spelled page end_of_set;
  are =
      ap (map (spelled page)) (sym (append-nil unit) ∙ whole) ∙ map-append (spelled page) inner (end_of_set ∷ []);
  each = all_before page inner fit;
  end_headed = headed_by page end_of_set end refl;
  is_end = ap (λ kind. eqb kind 0x80) (spelled_head page end_of_set end).kind_is;
}
set_units page time (unit ∷ next ∷ units) inner some whole fit end =
    let first = some.1.0 in
    let parts =
    front_of unit (joined_units (next ∷ units)) inner end_of_set
    (omega (arith, length-append next (joined_units units))) whole in
    let both =
    parts_of_all (λ value. IsWritable page value × IsInner value) unit parts.rest
    (subst (AreInner page) parts.before fit) in (
      omega (arith, some.0, same_count page unit),
      all_before page unit both.0,
      set_units page time (next ∷ units)
          parts.rest some.1 parts.after both.1 end,
    )

-- and such a set is one that a receiver with room for its PES packets takes whole
pub whole_set : (coded page time : ℕ) (units : List (List SegmentValue)) (inner : List SegmentValue)
    → HaveSegments units → joined_units units ≡ inner ++ end_of_set ∷ [] → AreInner page inner
    → IsWritable page end_of_set
    → sum (map length (map (unit_packet page time) units)) ≤ coded
    → IsTimedSet coded (only page) (set_with page time units)
whole_set coded page time units inner some whole fit end room = record {
  units = set_units page time units inner some whole fit end;
  fits = omega (arith, bytes_with page time units, size_with page time units, room);
}

-- the PES packets are those of its units
pub packets_are : (page time : ℕ) (units : List (List SegmentValue)) → HaveSegments units
    → AreKnown page (joined_units units)
    → AllByRecursion (λ packet. length packet ≤ 65541) (map (unit_packet page time) units)
    → AllZip (IsUnitOf (only page)) (map (unit_packet page time) units)
    (map (timed (time % TIME_ROUND)) (set_with page time units).units)
packets_are page time [] some known short = tt
packets_are page time (unit ∷ units) some known short =
    let parts = parts_of_all (λ value. IsWritable page value × IsKnown value) unit (joined_units units) known in
    (written_unit page time unit parts.0 some.0 short.0, packets_are page time units some.1 parts.1 short.1)

-- segments that end with the end of a set are all known
pub all_known : (page : ℕ) (inner : List SegmentValue) → AreInner page inner → IsWritable page end_of_set
    → AreKnown page (inner ++ end_of_set ∷ [])
all_known page inner fit end =
    all-append (λ value. IsWritable page value × IsKnown value) inner (end_of_set ∷ []) (inner_known page inner fit)
    ((end, refl), tt)
