-- How far a run of the live inserter has come, and what a piece more does.
use Rattle.std.specs.Prelude.{◌≡◌, ℕ, ◌*◌, ◌≤◌, ◌==◌, Bool, true, false, List, [], ◌∷◌, ◌++◌, length, Result, Ok, Err}
use Rattle.stream_syntax.specs.declared.wire.TheConstants.{PACKET_LENGTH}
use Rattle.sub_base.specs.Counts.{HasRisen}
use Rattle.sub_base.specs.Endpoints.{Received, Wrote, WrotePrefix, WroteNothing}
use Rattle.live_plan.specs.LiveCalls.{HasLetIn}
use Rattle.live_plan.specs.LiveOutcome.{BeginsBatch, HasDue, Runs}
use Rattle.live_plan.specs.LiveRows.{Inserter, IsBatchOf, IsDue, RowOrTick, has_epoch, records_in}
use Rattle.live_plan.specs.declared.faults.RowFault.{RowFault}
use Rattle.live_plan.specs.declared.faults.RowFault.TheVariants as refused
use Rattle.live_plan.specs.declared.run.Run.{Run}
use Rattle.live_plan.specs.declared.run.Stop.{Stop}
use Rattle.live_plan.specs.declared.run.Stop.TheVariants as stop

-- a piece without a record
abbrev pub is_without_record : RowFault → Bool
is_without_record refused.Memory = false
is_without_record (refused.Records count) = count == 0
is_without_record (refused.Script kind) = false
is_without_record (refused.Early horizon) = false
is_without_record (refused.Plan fault) = false
is_without_record (refused.Schedule fault) = false

-- where a run began: for whom it inserts, and what its output and its notes had received
pub record Begun : Type 0 where
  pub inserter : Inserter
  pub out : Received
  pub notes : Received

-- the beginning of a run that stands so, with what its output and its notes have received by then
abbrev pub begun_of : Run → Received → Received → Begun
begun_of run its_out its_notes = record { inserter = run.live.inserter; out = its_out; notes = its_notes }

-- nothing went in, and nothing was written
pub record IsFresh (run : Run) : Type 0 where
  pub let_in : HasLetIn run.live []
  pub unsent : run.live.outlet.sent ≡ 0
  pub none : run.count ≡ 0

-- some pieces went in before, and then further ones: the notes have the lines of all refused rows, and the output has
-- what was due with the former, and more; the rest of what is due is owed
pub record HasTaken (begun : Begun) (earlier further : List (List ℕ)) (out notes : Received) (run : Run) : Type 0 where
  pub past : List RowOrTick
  pub lines : List ℕ
  pub runs : Runs begun.inserter (earlier ++ further) past run.count lines
  pub let_in : HasLetIn run.live past
  pub same : run.live.inserter ≡ begun.inserter
  pub due : List ℕ
  pub is_due : HasDue begun.inserter earlier due
  pub behind : List ℕ
  pub sent : PACKET_LENGTH * run.live.outlet.sent ≡ length (due ++ behind)
  pub written : Wrote begun.out out (due ++ behind)
  pub owed : List ℕ
  pub is_owed : IsDue begun.inserter past ((due ++ behind) ++ owed)
  pub told : Wrote begun.notes notes lines
  pub out_kept : begun.out.faults ≤ out.faults
  pub notes_kept : begun.notes.faults ≤ notes.faults

-- and nothing is owed
abbrev pub IsPaid : Begun → List (List ℕ) → List (List ℕ) → Received → Received → Run → Type 0
IsPaid begun earlier further out notes run =
    (taken : HasTaken begun earlier further out notes run) × (taken.owed ≡ [])

-- ---- runs that stopped

-- what the notes have of the lines where a run stopped, and which sink failed
abbrev pub IsHaltOf : Begun → Received → Received → List ℕ → Stop → Type 0
IsHaltOf begun out notes lines stop.Memory =
    Wrote begun.notes notes lines × (begun.notes.faults ≤ notes.faults)
IsHaltOf begun out notes lines stop.Out =
    HasRisen begun.out.faults out.faults × Wrote begun.notes notes lines × (begun.notes.faults ≤ notes.faults)
IsHaltOf begun out notes lines stop.Notes =
    HasRisen begun.notes.faults notes.faults × WrotePrefix begun.notes notes lines
IsHaltOf begun out notes lines stop.Unread = ⊥
IsHaltOf begun out notes lines stop.TooLong = ⊥
IsHaltOf begun out notes lines stop.NoEpoch = ⊥

-- some pieces went in before, and then perhaps some of those that follow them; what was due with the former was
-- written, and all that was written begins the packets of what was let in
pub record IsHalted (begun : Begun) (earlier ahead : List (List ℕ)) (out notes : Received) (stop : Stop) : Type 0 where
  pub further : List (List ℕ)
  pub left : List (List ℕ)
  pub parts : ahead ≡ further ++ left
  pub past : List RowOrTick
  pub count : ℕ
  pub lines : List ℕ
  pub runs : Runs begun.inserter (earlier ++ further) past count lines
  pub due : List ℕ
  pub is_due : HasDue begun.inserter earlier due
  pub behind : List ℕ
  pub written : Wrote begun.out out (due ++ behind)
  pub begins : BeginsBatch begun.inserter past (due ++ behind)
  pub halt : IsHaltOf begun out notes lines stop

-- ---- a piece more

-- a piece went in, and what is due with it is owed
abbrev pub IsPutIn : Begun → List (List ℕ) → List (List ℕ) → List ℕ → Received → Received → Run → Result Unit Stop
    → Type 0
IsPutIn begun earlier further piece out notes run (Ok done) =
    HasTaken begun earlier (further ++ piece ∷ []) out notes run
IsPutIn begun earlier further piece out notes run (Err stop) =
    IsHalted begun earlier (further ++ piece ∷ []) out notes stop

-- what was owed is written
abbrev pub IsWrittenOut : Begun → List (List ℕ) → List (List ℕ) → Received → Received → Run → Result Unit Stop
    → Type 0
IsWrittenOut begun earlier further out notes run (Ok done) = IsPaid begun earlier further out notes run
IsWrittenOut begun earlier further out notes run (Err stop) = IsHalted begun earlier further out notes stop

-- a piece went in, and what is due with it is written
abbrev pub IsPieceEnd : Begun → List (List ℕ) → List (List ℕ) → List ℕ → Received → Received → Run
    → Result Unit Stop
    → Type 0
IsPieceEnd begun earlier further piece out notes run answer =
    IsWrittenOut begun earlier (further ++ piece ∷ []) out notes run answer

-- ---- the end

-- all packets of what was let in are written
pub record IsSentWhole (begun : Begun) (earlier further : List (List ℕ)) (out notes : Received) : Type 0 where
  pub past : List RowOrTick
  pub count : ℕ
  pub lines : List ℕ
  pub runs : Runs begun.inserter (earlier ++ further) past count lines
  pub epoch : has_epoch (records_in past) ≡ true
  pub packets : List ℕ
  pub batch : IsBatchOf begun.inserter past packets
  pub written : Wrote begun.out out packets
  pub told : Wrote begun.notes notes lines
  pub notes_kept : begun.notes.faults ≤ notes.faults

-- no epoch's row was let in, and nothing is written
pub record IsSentNothing (begun : Begun) (earlier further : List (List ℕ)) (out notes : Received) : Type 0 where
  pub past : List RowOrTick
  pub count : ℕ
  pub lines : List ℕ
  pub runs : Runs begun.inserter (earlier ++ further) past count lines
  pub none : has_epoch (records_in past) ≡ false
  pub nothing : WroteNothing begun.out out
  pub told : Wrote begun.notes notes lines
  pub notes_kept : begun.notes.faults ≤ notes.faults

-- how the last call ends
abbrev pub IsFinished : Begun → List (List ℕ) → List (List ℕ) → Received → Received → Result Unit Stop → Type 0
IsFinished begun earlier further out notes (Ok done) = IsSentWhole begun earlier further out notes
IsFinished begun earlier further out notes (Err stop.NoEpoch) = IsSentNothing begun earlier further out notes
IsFinished begun earlier further out notes (Err stop.Out) = IsHalted begun earlier further out notes stop.Out
IsFinished begun earlier further out notes (Err stop.Memory) = ⊥
IsFinished begun earlier further out notes (Err stop.Notes) = ⊥
IsFinished begun earlier further out notes (Err stop.Unread) = ⊥
IsFinished begun earlier further out notes (Err stop.TooLong) = ⊥
