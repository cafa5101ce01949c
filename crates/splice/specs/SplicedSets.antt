-- The display sets of two streams that are joined at a cut, and what sending each of them takes.
use Rattle.std.specs.Prelude.{◌≡◌, ℕ, ◌+◌, ◌-◌, ◌<◌, ◌≤◌, ◌^◌, ◌==◌, nat_lt, true, Bool, List, [], ◌∷◌, ◌++◌, length, map, filter, sum, All}
use Rattle.std.specs.List.{list_any}
use Rattle.sub_base.specs.Pace.{pace_of, IsSending}
use Rattle.sub_base.specs.Profile.{profile_of}
use Rattle.sub_base.specs.declared.load.WriteLoad.{WriteLoad}
use Rattle.sub_base.specs.declared.pace.Pace.{Pace}
use Rattle.stream_syntax.specs.declared.wire.TheConstants.{NULL_PID}
use Rattle.decoder_model.specs.Faults.{contents_in}
use Rattle.decoder_model.specs.Painting.{set_painting}
use Rattle.decoder_model.specs.Readings.{Reading, AreReadings}
use Rattle.decoder_model.specs.Received.{Reception, for_page}
use Rattle.sent_sets.specs.RawSets.{RawSet, AreRawPackets}
use Rattle.splice.specs.KeptSets.{kept_sets}
use Rattle.splice.specs.declared.splice_words.Splicing.{Splicing}

-- ---- the streams

-- the packets of the two streams
pub record Streams : Type 0 where
  pub first : List (List ℕ)
  pub second : List (List ℕ)

-- how a stream is received: for the profile, the PID and the page, with an anchor
abbrev pub received_from : ℕ → Splicing → Reception
received_from origin splicing = for_page splicing.profile splicing.pid splicing.page origin

-- how the first stream is received: with the origin as its anchor
abbrev pub first_reception : Splicing → Reception
first_reception splicing = received_from splicing.origin splicing

-- how the second stream is received: with 0 as its anchor
abbrev pub second_reception : Splicing → Reception
second_reception splicing = received_from 0 splicing

-- the packets go out from the origin on, one at most at each step of the profile
abbrev pub splice_pace : Splicing → Pace
splice_pace splicing = pace_of splicing.origin (profile_of splicing.profile)

-- a profile with a step, a PID that null packets do not have, and ticks within their ranges
pub record IsSplicing (splicing : Splicing) : Type 0 where
  pub sends : IsSending (profile_of splicing.profile)
  pub free : splicing.pid < NULL_PID
  pub origin : splicing.origin < 2 ^ 33
  pub cut : splicing.cut < 2 ^ 34

-- ---- the sets

-- a set whose time lies before the cut
abbrev pub is_before : ℕ → RawSet → Bool
is_before cut set = nat_lt set.time cut

-- the time of the first set
abbrev pub begin_of : List RawSet → ℕ
begin_of [] = 0
begin_of (set ∷ sets) = set.time

-- a set of a stream that began at a tick, where it begins at the cut
abbrev pub moved : ℕ → ℕ → RawSet → RawSet
moved cut begin set = record { time = set.time + cut - begin; segments = set.segments }

-- the sets of the first stream before the cut, then all of the second, which begin at the cut
abbrev pub spliced : ℕ → List RawSet → List RawSet → List RawSet
spliced cut first second = filter (is_before cut) first ++ map (moved cut (begin_of second)) second

-- those of two streams
abbrev pub spliced_sets : Splicing → Streams → List RawSet
spliced_sets splicing streams =
    spliced splicing.cut (kept_sets (first_reception splicing) streams.first)
    (kept_sets (second_reception splicing) streams.second)

-- ---- their loads

-- the bytes of the longest of these segments
pub record IsLongest (segments : List (List ℕ)) (longest : ℕ) : Type 0 where
  pub one : list_any (λ segment. length segment == longest) segments ≡ true
  pub greatest : All (λ segment. length segment ≤ longest) segments

-- the ticks that painting the region segments among these takes
pub record ArePaintedIn (segments : List (List ℕ)) (painted : ℕ) : Type 0 where
  pub readings : List Reading
  pub read : AreReadings segments readings
  pub sum : painted ≡ set_painting (contents_in readings)

-- what sending a set takes: its time, the bytes of its PES packets, how long it is painted, and its longest segment
pub record IsLoadOf (set : RawSet) (load : WriteLoad) : Type 0 where
  pub time : load.load.pts ≡ set.time
  pub packets : List (List ℕ)
  pub carried : AreRawPackets set packets
  pub units : load.units ≡ map length packets
  pub size : load.load.size ≡ sum load.units
  pub painted : ArePaintedIn set.segments load.load.painted
  pub longest : IsLongest set.segments load.longest
