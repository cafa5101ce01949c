-- The stream of two scripts that is made, and why none is.
use Rattle.std.specs.Prelude.{◌≡◌, ℕ, ◌^◌, ◌<◌, List, length, All}
use Rattle.std.specs.List.Sorted.{IsStrictlyIncreasing}
use Rattle.cue_list.specs.declared.script.Script.{Script}
use Rattle.page_epoch.specs.declared.planned_set.PlannedSet.{PlannedSet}
use Rattle.schedule.specs.Refusals.{IsScheduleCause}
use Rattle.schedule.specs.Slots.{Timetable}
use Rattle.script_stream.specs.Refused.{IsPlanRefused, IsRowOf}
use Rattle.slot_stream.specs.SlotStream.{all_pieces, stream_of}
use Rattle.sub_base.specs.declared.load.WriteLoad.{WriteLoad}
use Rattle.sub_base.specs.declared.pace.Pace.{Pace}
use Rattle.sub_base.specs.declared.profile.ProfileName.{ProfileName}
use Rattle.page_pair.specs.PairOutcome.{IsUnsendable}
use Rattle.page_pair.specs.declared.pages.TwoPages.{TwoPages}
use Rattle.page_pair.specs.declared.pair_fault.PairFault.TheVariants as pair
use Rattle.page_pair.specs.declared.pair_stop.PairStop.{PairStop}
use Rattle.page_pair.specs.declared.pair_stop.PairStop.TheVariants as stop
use Rattle.page_pair.specs.declared.planned.PlanStop.{PlanStop}
use Rattle.page_pair.specs.declared.planned.PlanStop.TheVariants as plan
use Rattle.page_pair.specs.declared.slots.SlotStop.{SlotStop}
use Rattle.page_pair.specs.declared.slots.SlotStop.TheVariants as slot
use Rattle.page_pair.specs.declared.units.UnitsStop.{UnitsStop}
use Rattle.page_pair.specs.declared.units.UnitsStop.TheVariants as units

-- ---- the stream

-- two scripts as they are sent: the PID of the packets, a PES packet for each set, and the slots of all packets
pub record SentPair : Type 0 where
  pub pid : ℕ
  pub units : List (List ℕ)
  pub table : Timetable

-- the bytes of the transport packets, null packets between them
abbrev pub pair_bytes : SentPair → List ℕ
pair_bytes sent = stream_of sent.pid (all_pieces sent.units) sent.table.slots

-- what a stream keeps to: a PES packet has fewer than 2 ^ 32 bytes
abbrev pub AreShort : List (List ℕ) → Type 0
AreShort units = All (λ unit. length unit < 2 ^ 32) units

-- what a stream keeps to: each packet has a slot, which rise
pub record CanBeSent (pid : ℕ) (units : List (List ℕ)) (table : Timetable) : Type 0 where
  pub pid_is : pid < 8192
  pub short : AreShort units
  pub pairs : length table.slots ≡ length (all_pieces units)
  pub rise : IsStrictlyIncreasing table.slots
  pub small : All (λ slot. slot < 2 ^ 56) table.slots

-- ---- why there is none

-- why two scripts that were read are not sent. Memory may want at any time
abbrev pub IsStreamStop : ProfileName → TwoPages → Script → Script → PairStop → Type 0
IsStreamStop profile pages first second stop.Memory = Unit {0}
IsStreamStop profile pages first second (stop.Refused fault) = IsUnsendable profile pages first second fault

-- why a script has no plan. Memory may want at any time
abbrev pub IsPlanStop : ProfileName → Script → PlanStop → Type 0
IsPlanStop profile script plan.Memory = Unit {0}
IsPlanStop profile script (plan.Refused fault) = IsPlanRefused profile script fault

-- why sets with these loads have no slots: the schedule refuses the set that the record brings. Memory may want at any
-- time
abbrev pub IsSlotStop : List PlannedSet → List WriteLoad → Pace → SlotStop → Type 0
IsSlotStop sets loads pace slot.Memory = Unit {0}
IsSlotStop sets loads pace (slot.Refused row fault) = IsScheduleCause loads pace fault × IsRowOf sets fault row

-- why the first script has no plan, as a reason why both scripts are not sent
abbrev pub first_refusal : PlanStop → PairStop
first_refusal plan.Memory = stop.Memory
first_refusal (plan.Refused fault) = stop.Refused (pair.FirstPlan fault)

-- why the second script has no plan, as a reason why both scripts are not sent
abbrev pub second_refusal : PlanStop → PairStop
second_refusal plan.Memory = stop.Memory
second_refusal (plan.Refused fault) = stop.Refused (pair.SecondPlan fault)

-- why the sets of both have no PES packets, as a reason why both scripts are not sent
abbrev pub units_refusal : UnitsStop → PairStop
units_refusal units.Memory = stop.Memory
units_refusal (units.TooLong set size) = stop.Refused (pair.TooLong set size)

-- why the sets of both have no slots, as a reason why both scripts are not sent
abbrev pub slots_refusal : SlotStop → PairStop
slots_refusal slot.Memory = stop.Memory
slots_refusal (slot.Refused row fault) = stop.Refused (pair.Schedule row fault)
