-- Display sets as they are to be sent, whoever made them, the PES packets that they are sent in, and what a receiver of
-- a service's pages gets of one (EN 300 743, clauses 5.1 and 7.1).
use Rattle.std.specs.Prelude.{◌≡◌, ℕ, ◌%◌, ◌≤◌, true, Bool, List, [], ◌∷◌, ◌++◌, length, map, filter, All}
use Rattle.std.specs.List.{concat}
use Rattle.sub_base.specs.Lists.{has_some}
use Rattle.sub_base.specs.declared.load.TheConstants.{UNIT_ROOM}
use Rattle.stream_syntax.specs.DataField.{data_field, segment}
use Rattle.stream_syntax.specs.Pes.{written_pes}
use Rattle.stream_syntax.specs.declared.wire.TheConstants.{TIME_ROUND}
use Rattle.pes_packets.specs.Units.{IsSharedOut}
use Rattle.decoder_model.specs.Frames.{is_end, is_of_pages}
use Rattle.decoder_model.specs.Received.{IsFramed}
use Rattle.decoder_model.specs.Sets.{Delivery, whole}
use Rattle.decoder_model.specs.declared.pages.Pages.{Pages}

-- a display set as it is to be sent: its time, which is not cut down to 33 bits, and the bytes of its segments, of
-- whatever pages
pub record RawSet : Type 0 where
  pub time : ℕ
  pub segments : List (List ℕ)

-- the PES packet of a unit of segments, with that time, which a packet tells modulo 2 to the 33
abbrev pub raw_packet : ℕ → List (List ℕ) → List ℕ
raw_packet time unit = written_pes (time % TIME_ROUND) (data_field (concat unit))

-- the PES packets of a set: one for each unit that its segments are shared out to, in their order
pub record AreRawPackets (set : RawSet) (packets : List (List ℕ)) : Type 0 where
  pub units : List (List (List ℕ))
  pub shared : IsSharedOut length set.segments units
  pub are : packets ≡ map (raw_packet set.time) units

-- a set that can be sent: each of its segments is one by its head, and has room in a PES packet
pub record IsSendable (set : RawSet) : Type 0 where
  pub framed : All IsFramed set.segments
  pub room : All (λ bytes. length bytes ≤ UNIT_ROOM) set.segments

-- ---- what a receiver gets of a set

-- the segments of a set that count for these pages
abbrev pub counted_in : Pages → RawSet → List (List ℕ)
counted_in pages set = filter (is_of_pages pages) set.segments

-- a set with such a segment
abbrev pub has_counted : Pages → RawSet → Bool
has_counted pages set = has_some (counted_in pages set)

-- of the segments that count none but the last is an end segment. Where that is none either, another set or the end of
-- the stream ends the set
abbrev pub EndsLast : Pages → RawSet → Type 0
EndsLast pages set =
    (before after : List (List ℕ)) (bytes : List ℕ) → counted_in pages set ≡ before ++ bytes ∷ after
    → is_end (segment bytes) ≡ true → after ≡ []

-- neighbours have different times as packets tell them, modulo 2 to the 33
abbrev pub HaveTimesApart : List RawSet → Type 0
HaveTimesApart sets =
    (before after : List RawSet) (one next : RawSet) → sets ≡ before ++ one ∷ next ∷ after
    → one.time % TIME_ROUND ≡ next.time % TIME_ROUND → ⊥

-- the set is handed on whole: with its time, cut down to 33 bits, and its segments that count; nothing is said of the
-- size of its units
abbrev pub IsDeliveryOf : Pages → RawSet → Delivery (List ℕ) → Type 0
IsDeliveryOf pages set delivery =
    (size : ℕ) × (delivery ≡ whole (set.time % TIME_ROUND) size (counted_in pages set))
