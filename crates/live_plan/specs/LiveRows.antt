-- Which rows a live inserter lets in, and which packets are due. What was let in stands in a list, the latest first.
use Rattle.std.specs.Prelude.{◌≡◌, ℕ, ◌+◌, ◌*◌, ◌-◌, ◌/◌, ◌⊎◌, nat_le, nat_lt, not, Bool, true, false, ◌&&◌, if◌then◌else◌, List, [], ◌∷◌, ◌++◌, length, take, reverse, Option, Some, None, Result, Ok, Err}
use Rattle.std.specs.List.{list_any}
use Rattle.sub_base.specs.Pace.{pace_of}
use Rattle.sub_base.specs.Profile.{profile_of}
use Rattle.sub_base.specs.declared.profile.ProfileName.{ProfileName}
use Rattle.bitmap_font.specs.Font.{FontValue}
use Rattle.cue_records.specs.CellFaults.{value_at}
use Rattle.cue_records.specs.Cells.{cell_at}
use Rattle.cue_list.specs.Past.{looking_back}
use Rattle.cue_records.specs.Records.{Record, is, kind_of, record_of, records_from}
use Rattle.cue_list.specs.RowFaults.{fault_of}
use Rattle.cue_records.specs.Rows.{Row, rows_of}
use Rattle.cue_list.specs.TakenRows.{IsScriptOf}
use Rattle.cue_list.specs.TickRows.{first_tick, is_tick_row, tick_row_fault}
use Rattle.cue_records.specs.declared.fault.ScriptKind.{ScriptKind}
use Rattle.cue_records.specs.declared.row_kind.RowKind.TheVariants as kinds
use Rattle.cue_list.specs.declared.script.Script.{Script}
use Rattle.page_epoch.specs.declared.fault.PlanFault.{PlanFault}
use Rattle.schedule.specs.declared.fault.ScheduleFault.{ScheduleFault}
use Rattle.script_stream.specs.Refused.{IsPlanRefused, IsScheduleRefused}
use Rattle.shown_stream.specs.Compiled.{Compiling, IsCompiledTo, compiling_for}
use Rattle.stream_syntax.specs.declared.wire.TheConstants.{PACKET_LENGTH}
use Rattle.live_plan.specs.declared.faults.RowFault.{RowFault}
use Rattle.live_plan.specs.declared.faults.RowFault.TheVariants as refused
use Rattle.live_plan.specs.declared.limits.TheConstants.{AHEAD}

-- ---- what was let in

-- a row of the script, or a tick
pub data RowOrTick : Type 0 where
  row : Row → RowOrTick
  tick : ℕ → RowOrTick

-- the script's rows, in order
abbrev pub rows_in : List RowOrTick → List Row
rows_in [] = []
rows_in (row cells ∷ past) = rows_in past ++ cells ∷ []
rows_in (tick time ∷ past) = rows_in past

-- these rows as records that are counted from 1
abbrev pub records_in : List RowOrTick → List Record
records_in past = records_from 1 (rows_in past)

-- the records, the nearest first
abbrev pub nearest_in : List RowOrTick → List Record
nearest_in past = reverse (records_in past)

-- the last tick row
abbrev pub last_tick : List RowOrTick → Option ℕ
last_tick [] = None
last_tick (row cells ∷ past) = last_tick past
last_tick (tick time ∷ past) = Some time

-- what was let in before the last tick row
abbrev pub before_tick : List RowOrTick → List RowOrTick
before_tick [] = []
before_tick (row cells ∷ past) = before_tick past
before_tick (tick time ∷ past) = past

-- ---- the tests of a row

-- the record that a row becomes behind those that were let in
abbrev pub next_record : List RowOrTick → Row → Record
next_record past cells = record_of (length (rows_in past) + 1) cells

-- the first test of a row that fails: those of a tick row, or those of a record behind the records before it
abbrev pub row_fault : FontValue → List RowOrTick → Row → Option ScriptKind
row_fault font past cells =
    if is_tick_row cells then tick_row_fault (looking_back font (nearest_in past)) (last_tick past) cells
    else fault_of font (nearest_in past) (next_record past cells)

-- what a row is, once it is let in
abbrev pub taken_as : Row → RowOrTick
taken_as cells = if is_tick_row cells then tick (value_at cells 1) else row cells

-- ---- the horizon

-- the first tick that a row has a part in, behind those that were let in
abbrev pub early_tick : FontValue → List RowOrTick → Row → Option ℕ
early_tick font past cells = first_tick (looking_back font (nearest_in past)) (kind_of (cell_at cells 0)) cells

-- there is such a tick, and it does not lie above the horizon
abbrev pub is_within : Option ℕ → ℕ → Bool
is_within None horizon = false
is_within (Some time) horizon = nat_le time horizon

-- the horizon that a row does not lie above, where the last tick is given
abbrev pub early_behind : FontValue → List RowOrTick → Row → Option ℕ → Option ℕ
early_behind font past cells None = None
early_behind font past cells (Some time) =
    if not (is_tick_row cells) && is_within (early_tick font past cells) (time + AHEAD)
    then Some (time + AHEAD) else None

-- the horizon that a row does not lie above, if there is one, behind what was let in; tick rows are not tested
abbrev pub early_of : FontValue → List RowOrTick → Row → Option ℕ
early_of font past cells = early_behind font past cells (last_tick past)

-- an epoch's row is among them
abbrev pub has_epoch : List Record → Bool
has_epoch records = list_any (is kinds.Epoch) records

-- ---- answers

-- who the inserter writes for
pub record Inserter : Type 0 where
  pub profile : ProfileName
  pub pid : ℕ
  pub page : ℕ
  pub font : FontValue

-- the plan of the script of these rows is refused
pub record IsUnplanned (inserter : Inserter) (past : List RowOrTick) (fault : PlanFault) : Type 0 where
  pub epoch : has_epoch (records_in past) ≡ true
  pub script : Script
  pub valid : IsScriptOf inserter.font (records_in past) script
  pub cause : IsPlanRefused inserter.profile script fault

-- the schedule of its sets is refused
pub record IsUnscheduled (inserter : Inserter) (past : List RowOrTick) (fault : ScheduleFault) : Type 0 where
  pub epoch : has_epoch (records_in past) ≡ true
  pub script : Script
  pub valid : IsScriptOf inserter.font (records_in past) script
  pub place : ℕ
  pub cause : IsScheduleRefused inserter.profile script place fault

-- how a script of its rows is compiled
abbrev pub compiling_by : Inserter → Script → Compiling
compiling_by inserter script = compiling_for inserter.profile inserter.pid inserter.page script

-- the packets of the script of these rows, and none where no epoch's row is among them
abbrev pub IsBatchOf : Inserter → List RowOrTick → List ℕ → Type 0
IsBatchOf inserter past packets =
    ((has_epoch (records_in past) ≡ false) × (packets ≡ []))
    ⊎ ((has_epoch (records_in past) ≡ true) × (script : Script) × IsScriptOf inserter.font (records_in past) script
    × IsCompiledTo (compiling_by inserter script) packets)

-- the row is let in: no test fails, it is not early, and the rows with it have a batch
pub record IsLetIn (inserter : Inserter) (past : List RowOrTick) (cells : Row) : Type 0 where
  pub valid : row_fault inserter.font past cells ≡ None
  pub late : early_of inserter.font past cells ≡ None
  pub packets : List ℕ
  pub batch : IsBatchOf inserter (taken_as cells ∷ past) packets

-- why a piece is refused; want of memory has no cause
abbrev pub IsPieceRefusedFor : Inserter → List RowOrTick → List ℕ → RowFault → Type 0
IsPieceRefusedFor inserter past piece refused.Memory = Unit {0}
IsPieceRefusedFor inserter past piece (refused.Records count) =
    (count ≡ length (rows_of piece)) × (length (rows_of piece) ≡ 1 → ⊥)
IsPieceRefusedFor inserter past piece (refused.Script kind) =
    (cells : Row) × (rows_of piece ≡ cells ∷ []) × (row_fault inserter.font past cells ≡ Some kind)
IsPieceRefusedFor inserter past piece (refused.Early horizon) =
    (cells : Row) × (rows_of piece ≡ cells ∷ []) × (row_fault inserter.font past cells ≡ None)
    × (early_of inserter.font past cells ≡ Some horizon)
IsPieceRefusedFor inserter past piece (refused.Plan fault) =
    (cells : Row) × (rows_of piece ≡ cells ∷ []) × (row_fault inserter.font past cells ≡ None)
    × (early_of inserter.font past cells ≡ None) × IsUnplanned inserter (taken_as cells ∷ past) fault
IsPieceRefusedFor inserter past piece (refused.Schedule fault) =
    (cells : Row) × (rows_of piece ≡ cells ∷ []) × (row_fault inserter.font past cells ≡ None)
    × (early_of inserter.font past cells ≡ None) × IsUnscheduled inserter (taken_as cells ∷ past) fault

-- the answer to a piece, and what was let in before and now
abbrev pub IsAnswer : Inserter → List RowOrTick → List RowOrTick → List ℕ → Result Unit RowFault → Type 0
IsAnswer inserter past now piece (Ok done) =
    (cells : Row) × (rows_of piece ≡ cells ∷ []) × IsLetIn inserter past cells × (now ≡ taken_as cells ∷ past)
IsAnswer inserter past now piece (Err fault) = IsPieceRefusedFor inserter past piece fault × (now ≡ past)

-- ---- what is due

-- how many slots have a tick of at most that
abbrev pub slots_by : (origin step time : ℕ) → ℕ
slots_by origin step time = if nat_lt time origin then 0 else (time - origin) / step + 1

-- the front of a batch with the slots that are due
abbrev pub due_front : Inserter → List RowOrTick → ℕ → List ℕ → List ℕ
due_front inserter past time packets =
    take
    (PACKET_LENGTH * slots_by (looking_back inserter.font (nearest_in past)).origin
    (pace_of 0 (profile_of inserter.profile)).step time) packets

-- what is due for the last tick row that was let in, over the rows before it
abbrev pub IsDueBy : Inserter → List RowOrTick → Option ℕ → List ℕ → Type 0
IsDueBy inserter past None bytes = bytes ≡ []
IsDueBy inserter past (Some time) bytes =
    (packets : List ℕ) × IsBatchOf inserter (before_tick past) packets
    × (bytes ≡ due_front inserter (before_tick past) time packets)

-- the bytes of the packets that are due with what was let in: none where no tick row came
abbrev pub IsDue : Inserter → List RowOrTick → List ℕ → Type 0
IsDue inserter past bytes = IsDueBy inserter past (last_tick past) bytes
