-- The coded data buffer of a receiver that gets a compiled stream, wherever it enters (EN 300 743, clause 5.2): what it
-- holds, and when the display sets are decoded. The packets of the stream arrive in slots: the one of number s in slot
-- s, whoever gets it.
use Rattle.std.specs.Prelude.{◌≡◌, ℕ, ◌+◌, ◌≤◌, true, false, List, All, length, map, take, reverse, Some, slice_get}
use Rattle.sub_base.specs.Profile.{profile_of}
use Rattle.sub_base.specs.declared.load.WriteLoad.{WriteLoad}
use Rattle.page_epoch.specs.declared.planned_set.PlannedSet.{PlannedSet}
use Rattle.schedule.specs.Arrivals.{coded_level_at as scheduled_level}
use Rattle.buffer_model.specs.Calls.{Call, Dropped, level_at}
use Rattle.buffer_model.specs.Within.{AreWithin}
use Rattle.scheduled_level_laws.specs.DoneSets.{DoneSet, done_sets, AreDoneNoLater, IsDecodedBy}
use Rattle.decoder_model.specs.Received.{Reception}
use Rattle.decoder_model.specs.Streams.{entered_at, is_from}
use Rattle.shown_stream.specs.SentSets.{sent_set, sent_sets, first_times_from}
use Rattle.shown_stream.specs.Shows.{IsAnchorOf}
use Rattle.received_level_laws.specs.StreamCalls.{AreCallsOf}
use Rattle.shown_stream.specs.Compiled.{sent_pace}
use Rattle.shown_stream.specs.SentPlan.{SentPlan, received_with}
use Rattle.sub_base.specs.declared.pace.Pace.{Pace}

-- these are the calls of the buffer levels, the latest first, in a receiver that gets the packets but for the first so
-- many: those that come in the slots before that one
abbrev pub AreCallsBefore : ℕ → Reception → ℕ → List (List ℕ) → List Call → Type 0
AreCallsBefore slot reception missed packets calls =
    AreCallsOf reception missed false (entered_at missed (take slot packets)) calls

-- how the packets of a plan go out
abbrev pub pace_in : SentPlan → Pace
pace_in sent = sent_pace sent.profile sent.script

-- the coded data buffer of a receiver that the sets of a plan are sent for, with that anchor, which gets the packets of
-- a compiled stream but for the first so many
pub record StaysWithin (sent : SentPlan) (packets : List (List ℕ)) (missed anchor : ℕ) : Type 0 where
  -- what comes before a slot has calls
  pub given : (slot : ℕ)
      → (calls : List Call) × AreCallsBefore slot (received_with sent anchor) missed packets calls
  -- with each packet the buffer has room for it, and each set is done by its time, as the receiver lifts it
  pub within : (slot : ℕ) (calls : List Call) → AreCallsBefore slot (received_with sent anchor) missed packets calls
      → AreWithin (pace_in sent) calls
  -- at each slot, with a packet or without, the level is at most the bytes of the buffer
  pub level : (slot : ℕ) (calls : List Call)
      → AreCallsBefore (slot + 1) (received_with sent anchor) missed packets calls
      → level_at (pace_in sent) slot 0 calls ≤ (profile_of sent.profile).coded
  -- each set of which no packet is missing is decoded by its time
  pub decoded : (calls : List Call)
      → AreCallsBefore (length packets) (received_with sent anchor) missed packets calls
      → (number : ℕ) (set : PlannedSet) → slice_get sent.sets number ≡ Some set
      → is_from missed (sent_set sent.table number set) ≡ true
      → IsDecodedBy (done_sets (pace_in sent) calls) set.pts
  -- the end of the stream gives no call more
  pub ended : (calls : List Call)
      → AreCallsOf (received_with sent anchor) missed true (entered_at missed packets) calls
      → AreCallsBefore (length packets) (received_with sent anchor) missed packets calls
  -- at each slot the level is no higher than in a receiver that gets the whole stream, with any anchor that suits its
  -- first set, and the same sets, from the latest on, are done no later than there
  pub no_worse : (slot other : ℕ) (calls whole : List Call)
      → IsAnchorOf (first_times_from 0 (sent_sets sent.table sent.sets)) other
      → AreCallsBefore (slot + 1) (received_with sent anchor) missed packets calls
      → AreCallsBefore (slot + 1) (received_with sent other) 0 packets whole
      → (level_at (pace_in sent) slot 0 calls ≤ level_at (pace_in sent) slot 0 whole)
      × AreDoneNoLater (done_sets (pace_in sent) calls) (done_sets (pace_in sent) whole)

-- no bytes are dropped
abbrev pub IsKeptCall : Call → Type 0
IsKeptCall call = call ≡ Dropped → ⊥

-- the coded data buffer of a receiver with that anchor that gets all packets of a compiled stream
pub record IsAsScheduled (sent : SentPlan) (loads : List WriteLoad) (packets : List (List ℕ))
    (anchor : ℕ) : Type 0 where
  -- the level at each slot is that of the schedule
  pub level : (slot : ℕ) (calls : List Call)
      → AreCallsBefore (slot + 1) (received_with sent anchor) 0 packets calls
      → level_at (pace_in sent) slot 0 calls
      ≡ scheduled_level loads (length loads) (pace_in sent) sent.table.slots sent.table.dones slot
  -- the sets that are done are those of the plan, by their times
  pub times : (calls : List Call) → AreCallsBefore (length packets) (received_with sent anchor) 0 packets calls
      → map (λ (set : DoneSet). set.time) (done_sets (pace_in sent) calls)
      ≡ reverse (map (λ (set : PlannedSet). set.pts) sent.sets)
  -- none is left out, and nothing is dropped
  pub kept : (calls : List Call) → AreCallsBefore (length packets) (received_with sent anchor) 0 packets calls
      → All IsKeptCall calls
  -- each is done at its tick of the schedule
  pub dones : (calls : List Call) → AreCallsBefore (length packets) (received_with sent anchor) 0 packets calls
      → map (λ (set : DoneSet). set.done) (done_sets (pace_in sent) calls) ≡ reverse sent.table.dones
