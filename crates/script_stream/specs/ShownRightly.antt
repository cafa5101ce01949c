-- What receivers show of the packets of a script, wherever they enter them and whatever packets they lose.
use Rattle.std.specs.Prelude.{◌≡◌, ℕ, ◌+◌, ◌<◌, ◌≤◌, true, List, length, All}
use Rattle.std.specs.List.{concat}
use Rattle.buffer_model.specs.Calls.{Call}
use Rattle.buffer_model.specs.Within.{AreWithin}
use Rattle.cue_records.specs.declared.limits.TheConstants.{LONGEST_SCRIPT}
use Rattle.decoder_model.specs.Streams.{Sending, IsCutTo, entered_at}
use Rattle.page_epoch.specs.declared.planned_set.PlannedSet.{PlannedSet}
use Rattle.schedule.specs.Slots.{Timetable}
use Rattle.received_level_laws.specs.StreamCalls.{AreCallsOf}
use Rattle.shown_stream.specs.Compiled.{sent_pace, Compiling, received_by}
use Rattle.shown_stream.specs.Entered.{IsEnteredRightly, IsCutRightly}
use Rattle.shown_stream.specs.GoodTicks.{AreGoodFromEntry, late_sendings}
use Rattle.shown_stream.specs.SentPlan.{sent_plan}
use Rattle.shown_stream.specs.SentSets.{sent_sets, first_times_from, times_from, times_received}
use Rattle.shown_stream.specs.Shows.{IsAnchorOf}
use Rattle.shown_stream.specs.StaysWithin.{StaysWithin, IsAsScheduled}
use Rattle.stream_syntax.specs.declared.wire.TheConstants.{TIME_ROUND}
use Rattle.sub_base.specs.Pace.{pace_of, tick_of}
use Rattle.sub_base.specs.Profile.{profile_of}
use Rattle.sub_base.specs.declared.load.WriteLoad.{WriteLoad}

-- the bytes are packets; behind whatever number of them a receiver of the profile enters, it shows for the PID and the
-- page what the script authors from its entry set on, each set that comes whole is kept, and its page memory holds the
-- script; and whatever packets it loses, at most 14 between two payload packets that it gets, it shows what the script
-- authors wherever, from some set on that is not of state normal, all sets have come whole, each set that comes whole
-- is kept, and its page memory holds the script; a receiver that enters late is one that loses the packets before, and
-- one that loses nothing more shows it so exactly from its entry set on; wherever it enters, with an anchor that suits
-- the sets of which packets come, up to the first that comes whole, its coded data buffer has room and each set is
-- decoded by its time, and with the whole stream its levels and done ticks are those of the schedule; and so it is for
-- one that takes its first packet for the first one of all, at that packet's own tick. Such an anchor is each that is
-- no later than the script's origin, and less than 2 to the 33 ticks before the end of the longest script
pub record IsShownRightly (compiling : Compiling) (sets : List PlannedSet)
    (loads : List WriteLoad) (table : Timetable) (bytes : List ℕ) : Type 0 where
  pub packets : List (List ℕ)
  pub whole : All (λ packet. length packet ≡ 188) packets
  pub joined : bytes ≡ concat packets
  pub suits : (missed anchor : ℕ) → anchor ≤ compiling.script.origin
      → compiling.script.origin + LONGEST_SCRIPT < anchor + TIME_ROUND
      → IsAnchorOf (times_from missed (sent_sets table sets)) anchor
  pub first_suits : (missed anchor : ℕ) → anchor ≤ compiling.script.origin
      → compiling.script.origin + LONGEST_SCRIPT < anchor + TIME_ROUND
      → IsAnchorOf (first_times_from missed (sent_sets table sets)) anchor
  pub received_suits : (sendings : List Sending) (anchor : ℕ) → anchor ≤ compiling.script.origin
      → compiling.script.origin + LONGEST_SCRIPT < anchor + TIME_ROUND
      → IsAnchorOf (times_received sendings (sent_sets table sets)) anchor
  pub entered : (missed : ℕ) → IsEnteredRightly (sent_plan compiling sets table) packets missed
  pub cut : (sendings : List Sending) (received : List (List ℕ)) → IsCutTo compiling.pid packets sendings received
      → IsCutRightly (sent_plan compiling sets table) sendings received
  pub good : (missed : ℕ) → AreGoodFromEntry (sent_sets table sets) packets missed
  pub late : (missed : ℕ) → IsCutTo compiling.pid packets (late_sendings missed packets) (entered_at missed packets)
  pub stays : (missed anchor : ℕ) → IsAnchorOf (first_times_from missed (sent_sets table sets)) anchor
      → StaysWithin (sent_plan compiling sets table) packets missed anchor
  pub checked : (missed : ℕ) (calls : List Call)
      → AreCallsOf (received_by compiling (tick_of (sent_pace compiling.profile compiling.script) missed)) 0 true
      (entered_at missed packets) calls
      → AreWithin
      (pace_of (tick_of (sent_pace compiling.profile compiling.script) missed) (profile_of compiling.profile)) calls
  pub scheduled : (anchor : ℕ) → IsAnchorOf (first_times_from 0 (sent_sets table sets)) anchor
      → IsAsScheduled (sent_plan compiling sets table) loads packets anchor
