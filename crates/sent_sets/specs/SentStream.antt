-- Packets in which display sets are sent, in the slots of their schedule.
use Rattle.std.specs.Prelude.{◌≡◌, ℕ, ◌<◌, List, All, length, map, filter}
use Rattle.std.specs.List.{AllZip, concat}
use Rattle.sub_base.specs.Lists.{all_of}
use Rattle.sub_base.specs.declared.load.WriteLoad.{WriteLoad}
use Rattle.sub_base.specs.declared.pace.Pace.{Pace}
use Rattle.stream_syntax.specs.declared.wire.TheConstants.{NULL_PID}
use Rattle.decoder_model.specs.declared.pages.Pages.{Pages}
use Rattle.schedule.specs.Slots.{Timetable, IsLoad, IsSchedule, IsOnTime}
use Rattle.slot_stream.specs.SlotStream.{all_pieces, stream_of}
use Rattle.sent_sets.specs.RawSets.{RawSet, AreRawPackets, IsSendable, EndsLast, HaveTimesApart, has_counted}

-- the PES packets of each set have as many bytes as its load says
abbrev pub AreSizedAs : List WriteLoad → List (List (List ℕ)) → Type 0
AreSizedAs loads units = AllZip (λ load set_units. map length set_units ≡ load.units) loads units

-- the packets: those of the PES packets of the sets, at the slots of the schedule of their loads, and null packets at
-- all slots between. Each load can be scheduled, and has the bytes of its set's PES packets and the set's time
pub record IsSentTo (pace : Pace) (pid : ℕ) (sets : List RawSet) (loads : List WriteLoad) (table : Timetable)
    (packets : List ℕ) : Type 0 where
  pub each : All IsLoad loads
  pub units : List (List (List ℕ))
  pub carried : AllZip AreRawPackets sets units
  pub sized : AreSizedAs loads units
  pub times : map (λ (load : WriteLoad). load.load.pts) loads ≡ map (λ (set : RawSet). set.time) sets
  pub schedule : IsSchedule loads (length loads) pace table
  pub on_time : IsOnTime loads (length loads) pace table
  pub sent : packets ≡ stream_of pid (all_pieces (all_of units)) table.slots

-- the packets of 188 bytes, on a PID that null packets do not have, in which sets are sent for a receiver of these
-- pages: of the segments of a set that count for it none but the last is an end segment, and neighbours among the sets
-- that have such segments have different times
pub record AreSentFor (pages : Pages) (pace : Pace) (pid : ℕ) (sets : List RawSet) (loads : List WriteLoad)
    (table : Timetable) (packets : List (List ℕ)) : Type 0 where
  pub free : pid < NULL_PID
  pub sendable : All IsSendable sets
  pub ends : All (EndsLast pages) sets
  pub apart : HaveTimesApart (filter (has_counted pages) sets)
  pub sent : IsSentTo pace pid sets loads table (concat packets)
  pub whole : All (λ packet. length packet ≡ 188) packets
