-- Two streams that are joined at a cut: when they can be, the packets of the result, and what it shows.
use Rattle.std.specs.Prelude.{◌≡◌, ℕ, ◌+◌, ◌-◌, ◌<◌, ◌≤◌, true, List, [], ◌∷◌, ◌++◌, length, filter, All, Some, None}
use Rattle.std.specs.List.{AllZip}
use Rattle.sub_base.specs.declared.load.WriteLoad.{WriteLoad}
use Rattle.stream_syntax.specs.declared.wire.TheConstants.{TIME_ROUND}
use Rattle.schedule.specs.Arrivals.{IsArrival}
use Rattle.schedule.specs.Slots.{Timetable}
use Rattle.decoder_model.specs.Received.{Reception}
use Rattle.decoder_model.specs.Shown.{View, IsShown}
use Rattle.sent_sets.specs.RawSets.{RawSet}
use Rattle.sent_sets.specs.SentStream.{IsSentTo}
use Rattle.splice.specs.KeptSets.{kept_sets}
use Rattle.splice.specs.SplicedSets.{Streams, IsLoadOf, begin_of, first_reception, is_before, received_from, second_reception, splice_pace, spliced_sets}
use Rattle.splice.specs.StreamTests.{AreSetsShown, CanBeTaken, BeginsAnew, IsLossless}
use Rattle.splice.specs.declared.limits.TheConstants.{TOO_CLOSE, TOO_FAR}
use Rattle.splice.specs.declared.splice_words.Splicing.{Splicing}

-- ---- streams that can be joined

-- each packet of both streams can be taken
abbrev pub AreBothTaken : Splicing → Streams → Type 0
AreBothTaken splicing streams = CanBeTaken splicing.pid streams.first × CanBeTaken splicing.pid streams.second

-- and nothing is lost in either
pub record AreWhole (splicing : Splicing) (streams : Streams) : Type 0 where
  pub taken : AreBothTaken splicing streams
  pub first : IsLossless (first_reception splicing) streams.first
  pub second : IsLossless (second_reception splicing) streams.second

-- and each set is shown, but those of the first stream from the cut on
pub record AreGood (splicing : Splicing) (streams : Streams) : Type 0 where
  pub whole : AreWhole splicing streams
  pub first : AreSetsShown (first_reception splicing) (Some splicing.cut) streams.first
  pub second : AreSetsShown (second_reception splicing) None streams.second

-- that is the time of the first stream's last set before the cut
pub record IsLastBefore (splicing : Splicing) (streams : Streams) (last : ℕ) : Type 0 where
  pub before : List RawSet
  pub set : RawSet
  pub parts : filter (is_before splicing.cut) (kept_sets (first_reception splicing) streams.first)
      ≡ before ++ set ∷ []
  pub time : last ≡ set.time

-- the first stream's last set before the cut, where there is one, is neither too close to the cut nor too far from it
abbrev pub HasDistance : Splicing → Streams → Type 0
HasDistance splicing streams = (last : ℕ) → IsLastBefore splicing streams last
    → (last + TOO_CLOSE < splicing.cut) × (splicing.cut < last + TOO_FAR)

-- both streams are good, the second begins with a mode change, and the cut has its distance
pub record CanBeJoined (splicing : Splicing) (streams : Streams) : Type 0 where
  pub good : AreGood splicing streams
  pub anew : BeginsAnew (second_reception splicing) streams.second
  pub distance : HasDistance splicing streams

-- ---- the packets

-- the bytes are the packets of the joined streams: those of the sets at the slots of the schedule of their loads, from
-- the origin on, and null packets between. The coded data buffer holds what comes, and each set is done by its time
pub record IsSplicedTo (splicing : Splicing) (streams : Streams) (bytes : List ℕ) : Type 0 where
  pub joined : CanBeJoined splicing streams
  pub loads : List WriteLoad
  pub asked : AllZip IsLoadOf (spliced_sets splicing streams) loads
  pub table : Timetable
  pub sent : IsSentTo (splice_pace splicing) splicing.pid (spliced_sets splicing streams) loads table bytes
  pub held : IsArrival loads (length loads) (splice_pace splicing) table.slots table.dones

-- ---- what is shown

-- a time of 33 bits is lifted to each of these times from that anchor
abbrev pub SuitsSets : List RawSet → ℕ → Type 0
SuitsSets sets anchor = All (λ (set : RawSet). (anchor ≤ set.time) × (set.time < anchor + TIME_ROUND)) sets

-- the tick of the second stream that stands at a tick from the cut on
abbrev pub second_tick : Splicing → Streams → ℕ → ℕ
second_tick splicing streams tick =
    tick - splicing.cut + begin_of (kept_sets (second_reception splicing) streams.second)

-- at a tick of each, a receiver of one stream and a receiver of another show the same view, where both streams have
-- ended
pub record ShowAlike (one : Reception) (packets : List (List ℕ)) (tick : ℕ) (other : Reception)
    (stream : List (List ℕ)) (at : ℕ) : Type 0 where
  pub shown : View
  pub is_shown : IsShown one true packets tick shown
  pub was_shown : IsShown other true stream at shown

-- a receiver that gets the packets, with an anchor that suits all sets, shows before the cut what the first stream
-- shows, and from it on what the second shows so many ticks earlier or later
pub record IsShownAsBefore (splicing : Splicing) (streams : Streams) (packets : List (List ℕ)) : Type 0 where
  pub before_cut : (anchor tick : ℕ) → SuitsSets (spliced_sets splicing streams) anchor → tick < splicing.cut
      → ShowAlike (received_from anchor splicing) packets tick (first_reception splicing) streams.first tick
  pub from_cut : (anchor tick : ℕ) → SuitsSets (spliced_sets splicing streams) anchor → splicing.cut ≤ tick
      → ShowAlike (received_from anchor splicing) packets tick (second_reception splicing) streams.second
      (second_tick splicing streams tick)
