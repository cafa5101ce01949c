-- The calls of a live inserter: what contracts see of one, and what its calls do.
use Rattle.std.specs.Prelude.{◌≡◌, ℕ, ◌*◌, List, ◌++◌, length, Option, Result, OnOk}
use Rattle.sub_base.specs.Picture.{Picture}
use Rattle.cue_list.specs.SeenReaders.{seen_of}
use Rattle.cue_list.specs.TakenRows.{StandsFor}
use Rattle.cue_list.specs.declared.kept_rows.ScriptReader.{ScriptReader}
use Rattle.set_coder.specs.GrownBlocks.{AreBlocksOf}
use Rattle.set_coder.specs.declared.coded_picture.KeptBlocks.{KeptBlocks}
use Rattle.stream_syntax.specs.declared.wire.TheConstants.{PACKET_LENGTH}
use Rattle.sub_base.specs.Endpoints.{Received}
use Rattle.sub_base.specs.declared.faults.WriteFailed.{WriteFailed}
use Rattle.live_plan.specs.LetIn.{LetIn}
use Rattle.live_plan.specs.LiveRows.{Inserter, IsAnswer, IsBatchOf, IsDue, RowOrTick, last_tick, rows_in}
use Rattle.live_plan.specs.Outlets.{IsOutletOf, OutletState, Writes}
use Rattle.live_plan.specs.declared.faults.RowFault.{RowFault}

-- what is seen of a live inserter: for whom it writes, the reader that took the rows, the blocks of the pictures that
-- were coded, the last tick, and the packets that are not written yet
pub record LiveState : Type 0 where
  pub inserter : Inserter
  pub reader : ScriptReader
  pub blocks : KeptBlocks
  pub last : Option ℕ
  pub outlet : OutletState

-- the first of these pictures are coded, and their blocks kept: pictures may come before the first epoch, and are coded
-- once there is one
pub record HasBlocks (pictures : List Picture) (blocks : KeptBlocks) : Type 0 where
  pub first : List Picture
  pub more : List Picture
  pub are : AreBlocksOf first blocks
  pub all : pictures ≡ first ++ more

-- these were let in, the latest first: the reader keeps what their rows say, and the outlet has their packets, of which
-- those up to the last tick are due
pub record HasLetIn (live : LiveState) (past : List RowOrTick) : Type 0 where
  pub each : LetIn live.inserter past
  pub stands : StandsFor live.inserter.font (rows_in past) (seen_of live.reader)
  pub blocks : HasBlocks (seen_of live.reader).pictures live.blocks
  pub last : live.last ≡ last_tick past
  pub packets : List ℕ
  pub batch : IsBatchOf live.inserter past packets
  pub due : List ℕ
  pub is_due : IsDue live.inserter past due
  pub outlet : IsOutletOf packets due live.outlet

-- a piece is answered by what was let in before it, whatever that is
abbrev pub AnswersPiece : LiveState → LiveState → List ℕ → Result Unit RowFault → Type 0
AnswersPiece old new piece answer =
    (past : List RowOrTick) → HasLetIn old past
    → (now : List RowOrTick) × IsAnswer old.inserter past now piece answer × HasLetIn new now

-- what is due and not written yet is written, or a prefix of it; what was let in stays
abbrev pub WritesDueOf : LiveState → LiveState → Received → Received → Result Unit WriteFailed → Type 0
WritesDueOf old new before now answer =
    (past : List RowOrTick) (due : List ℕ) → HasLetIn old past → IsDue old.inserter past due
    → Writes old.outlet before now due answer × HasLetIn new past
    × OnOk answer (PACKET_LENGTH * new.outlet.sent ≡ length due)

-- the rest of the packets is written, or a prefix of it
abbrev pub WritesRestOf : LiveState → Received → Received → Result Unit WriteFailed → Type 0
WritesRestOf old before now answer =
    (past : List RowOrTick) (packets : List ℕ) → HasLetIn old past → IsBatchOf old.inserter past packets
    → Writes old.outlet before now packets answer
