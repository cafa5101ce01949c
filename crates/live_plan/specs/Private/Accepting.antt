-- A record behind those that were let in: what is left of the packets with it, and why it is refused.
use Rattle.std.specs.Prelude.{◌≡◌, ℕ, ◌+◌, ◌<◌, ◌^◌, false, if◌then◌else◌, List, ◌∷◌, Option, Some, None, Result, Ok, Err, IfSome}
use Rattle.cue_records.specs.Rows.{Row}
use Rattle.cue_list.specs.SeenReaders.{seen_of}
use Rattle.cue_list.specs.TakenRows.{StandsFor, next_fault}
use Rattle.cue_records.specs.declared.fault.ScriptKind.{ScriptKind}
use Rattle.cue_records.specs.declared.record_fault.RecordFault.{RecordFault}
use Rattle.cue_records.specs.declared.record_fault.RecordFault.TheVariants as record_faults
use Rattle.shown_stream.specs.Compiled.{IsCompiledFor}
use Rattle.live_plan.specs.LiveCalls.{HasBlocks, HasLetIn, LiveState}
use Rattle.live_plan.specs.LiveRows.{Inserter, IsBatchOf, IsLetIn, IsUnplanned, IsUnscheduled, RowOrTick, early_of, early_tick, has_epoch, is_within, records_in, row, row_fault, rows_in, taken_as}
use Rattle.live_plan.specs.Outlets.{OutletState}
use Rattle.script_stream.specs.LeftPackets.{ArePacketsLeft}
use Rattle.live_plan.specs.declared.accepted.Accepted.{Accepted}
use Rattle.live_plan.specs.declared.faults.RowFault.{RowFault}
use Rattle.live_plan.specs.declared.faults.RowFault.TheVariants as refused
use Rattle.live_plan.specs.declared.limits.TheConstants.{AHEAD}
use Rattle.script_stream.specs.declared.left.PacketsLeft.{PacketsLeft}

-- ---- what was accepted

-- for whom the records are taken
abbrev pub inserter_in : Accepted → Inserter
inserter_in accepted = record {
  profile = accepted.target.profile;
  pid = accepted.target.pid;
  page = accepted.target.page;
  font = accepted.font;
}

-- packets are made for a profile that has a step, on a PID of 13 bits
pub record CanSend (inserter : Inserter) : Type 0 where
  pub compiled : IsCompiledFor inserter.profile
  pub pid : inserter.pid < 8192

-- the rows that were let in are those that the reader took, and blocks of their first pictures are kept
pub record AreAccepted (accepted : Accepted) (past : List RowOrTick) : Type 0 where
  pub stands : StandsFor accepted.font (rows_in past) (seen_of accepted.reader)
  pub blocks : HasBlocks (seen_of accepted.reader).pictures accepted.blocks

-- it stands for some rows that were let in
abbrev pub HasAccepted : Accepted → Type 0
HasAccepted accepted = (past : List RowOrTick) × AreAccepted accepted past

-- ---- packets

-- a record that is not taken, as the fault of a row
abbrev pub record_refusal : RecordFault → RowFault
record_refusal record_faults.Memory = refused.Memory
record_refusal (record_faults.Wrong kind) = refused.Script kind

-- what is left of the packets of these rows; nothing where no epoch's row is among them
abbrev pub HasLeft : Inserter → List RowOrTick → ℕ → Option PacketsLeft → Type 0
HasLeft inserter past sent None = has_epoch (records_in past) ≡ false
HasLeft inserter past sent (Some left) =
    (packets : List ℕ) × IsBatchOf inserter past packets × ArePacketsLeft packets sent left

-- why these rows have no packets
abbrev pub IsUnsent : Inserter → List RowOrTick → RowFault → Type 0
IsUnsent inserter past refused.Memory = Unit {0}
IsUnsent inserter past (refused.Records count) = ⊥
IsUnsent inserter past (refused.Script kind) = ⊥
IsUnsent inserter past (refused.Early horizon) = ⊥
IsUnsent inserter past (refused.Plan fault) = IsUnplanned inserter past fault
IsUnsent inserter past (refused.Schedule fault) = IsUnscheduled inserter past fault

-- ---- the horizon

-- the horizon that a first tick does not lie above, behind the last tick
abbrev pub horizon_over : Option ℕ → Option ℕ → Option ℕ
horizon_over first None = None
horizon_over first (Some time) = if is_within first (time + AHEAD) then Some (time + AHEAD) else None

-- a tick of 90 kHz that a record can name
abbrev pub IsSmallTick : Option ℕ → Type 0
IsSmallTick last = IfSome last (λ tick. tick < 2 ^ 40)

-- what is left of the packets of these rows, of which the last has that first tick: it lies above the horizon
pub record HasLeftLate (inserter : Inserter) (past : List RowOrTick) (sent : ℕ) (first last : Option ℕ)
    (left : Option PacketsLeft) : Type 0 where
  pub late : horizon_over first last ≡ None
  pub has_left : HasLeft inserter past sent left

-- ---- why rows have no packets

-- why the last of these rows is refused, by the fault that its record has and the horizon that it does not lie above:
-- it has that fault; or it has none and does not lie above that horizon; or else the rows with it have no plan or no
-- schedule
abbrev pub IsRefusedBy : Option ScriptKind → Option ℕ → Inserter → List RowOrTick → RowFault → Type 0
IsRefusedBy wrong early inserter rows refused.Memory = Unit {0}
IsRefusedBy wrong early inserter rows (refused.Records count) = ⊥
IsRefusedBy wrong early inserter rows (refused.Script kind) = wrong ≡ Some kind
IsRefusedBy wrong early inserter rows (refused.Early horizon) = (wrong ≡ None) × (early ≡ Some horizon)
IsRefusedBy wrong early inserter rows (refused.Plan fault) =
    (wrong ≡ None) × (early ≡ None) × IsUnplanned inserter rows fault
IsRefusedBy wrong early inserter rows (refused.Schedule fault) =
    (wrong ≡ None) × (early ≡ None) × IsUnscheduled inserter rows fault

-- why there are none of rows of valid records, the last of which has that first tick
abbrev pub IsUnsentOrEarly : Inserter → List RowOrTick → Option ℕ → Option ℕ → RowFault → Type 0
IsUnsentOrEarly inserter past first last fault = IsRefusedBy None (horizon_over first last) inserter past fault

-- ---- a record

-- the record is taken behind these rows: it is valid, lies above the horizon, and the packets with it are left
pub record IsNextTaken (inserter : Inserter) (past : List RowOrTick) (cells : Row) (last : Option ℕ) (sent : ℕ)
    (left : Option PacketsLeft) : Type 0 where
  pub valid : next_fault inserter.font (rows_in past) cells ≡ None
  pub late : horizon_over (early_tick inserter.font past cells) last ≡ None
  pub has_left : HasLeft inserter (row cells ∷ past) sent left

-- why the record is refused behind these rows
abbrev pub IsNextRefused : Inserter → List RowOrTick → Row → Option ℕ → RowFault → Type 0
IsNextRefused inserter past cells last fault =
    IsRefusedBy (next_fault inserter.font (rows_in past) cells)
    (horizon_over (early_tick inserter.font past cells) last) inserter (row cells ∷ past) fault

-- ---- a row

-- why the one row of a piece is refused
abbrev pub IsRowRefused : Inserter → List RowOrTick → Row → RowFault → Type 0
IsRowRefused inserter past cells fault =
    IsRefusedBy (row_fault inserter.font past cells) (early_of inserter.font past cells) inserter
    (taken_as cells ∷ past) fault

-- the answer to the one row of a piece, and what was let in before and now
abbrev pub IsRowAnswer : Inserter → List RowOrTick → List RowOrTick → Row → Result Unit RowFault → Type 0
IsRowAnswer inserter past now cells (Ok done) = IsLetIn inserter past cells × (now ≡ taken_as cells ∷ past)
IsRowAnswer inserter past now cells (Err fault) = IsRowRefused inserter past cells fault × (now ≡ past)

-- a row is answered by what was let in before it, whatever that is
abbrev pub AnswersRow : LiveState → LiveState → Row → Result Unit RowFault → Type 0
AnswersRow old new cells answer =
    (past : List RowOrTick) → HasLetIn old past
    → (now : List RowOrTick) × IsRowAnswer old.inserter past now cells answer × HasLetIn new now

-- ---- live inserters

-- what is seen of one
abbrev pub live_of : Accepted → Option ℕ → OutletState → LiveState
live_of accepted last outlet = record {
  inserter = inserter_in accepted;
  reader = accepted.reader;
  blocks = accepted.blocks;
  last = last;
  outlet = outlet;
}

-- what is true of each: packets can be made, the last tick is one that a record can name, and some rows were let in
pub record IsLive (live : LiveState) : Type 0 where
  pub sends : CanSend live.inserter
  pub small : IsSmallTick live.last
  pub past : List RowOrTick
  pub has : HasLetIn live past
