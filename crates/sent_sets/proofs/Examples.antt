-- By example: a set of two pages, one with no end segment, and the PES packet of an end segment, byte by byte.
use Rattle.std.proofs.Common.{◌≡◌, ℕ, ◌+◌, ◌^◌, List, [], ◌∷◌, refl}
use Rattle.decoder_model.specs.Frames.{only}
use Rattle.sent_sets.specs.RawSets.{RawSet, raw_packet, counted_in, EndsLast}
use Rattle.sent_sets.proofs.SetEnds.{none_behind_end}

-- a head with this type and page id, and no body
head : ℕ → ℕ → List ℕ
head kind page = 0x0F ∷ kind ∷ 0 ∷ page ∷ 0 ∷ 0 ∷ []

-- the segments of pages 1 and 2, with an end segment of each, and a page composition of page 3
pair : RawSet
pair = record {
  time = 90000;
  segments = head 0x10 1 ∷ head 0x10 2 ∷ head 0x12 2 ∷ head 0x10 3 ∷ head 0x80 1 ∷ head 0x80 2 ∷ [];
}

-- a receiver of one page gets the segments of its page
first_page : counted_in (only 1) pair ≡ head 0x10 1 ∷ head 0x80 1 ∷ []
unfolding pair head
first_page = refl

-- with page 2 as its ancillary page it gets the CLUT of that too, and not its end segment
shared : counted_in (record { composition = 1; ancillary = 2 }) pair
    ≡ head 0x10 1 ∷ head 0x12 2 ∷ head 0x80 1 ∷ []
unfolding pair head
shared = refl

-- the set ends with the last segment of page 1, though segments of other pages stand behind it
ends_first : EndsLast (only 1) pair
unfolding pair head
ends_first before after bytes e is = none_behind_end (counted_in (only 1) pair) before after bytes (refl, tt) e is

-- of page 3 it has no end segment; so the next set ends it, or the end of the stream
ends_third : EndsLast (only 3) pair
unfolding pair head
ends_third before after bytes e is = none_behind_end (counted_in (only 3) pair) before after bytes tt e is

-- the PES packet of an end segment of page 1, at 90,000 ticks: 23 bytes, 17 of them around the segment
end_packet : raw_packet 90000 (head 0x80 1 ∷ [])
    ≡ 0 ∷ 0 ∷ 1 ∷ 0xBD ∷ 0 ∷ 17 ∷ 0x84 ∷ 0x80 ∷ 5 ∷ 0x21 ∷ 0 ∷ 5 ∷ 0xBF ∷ 0x21
    ∷ 0x20 ∷ 0 ∷ 0x0F ∷ 0x80 ∷ 0 ∷ 1 ∷ 0 ∷ 0 ∷ 0xFF ∷ []
unfolding head
end_packet = refl

-- a packet tells the time modulo 2 to the 33
time_goes_round : raw_packet (90000 + 2 ^ 33) (head 0x80 1 ∷ []) ≡ raw_packet 90000 (head 0x80 1 ∷ [])
unfolding head
time_goes_round = refl
