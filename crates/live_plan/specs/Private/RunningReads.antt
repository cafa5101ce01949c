-- What reading a script does to a run.
use Rattle.std.specs.Prelude.{◌≡◌, ℕ, ◌+◌, ◌<◌, ◌≤◌, List, [], ◌∷◌, ◌++◌, length, Option, Some, None, Result, Ok, Err}
use Rattle.std.specs.Io.KnownBytes.{Consumes}
use Rattle.script_input.specs.ReadScript.{text_limit}
use Rattle.sub_base.specs.Counts.{HasRisen, HasRisenPast}
use Rattle.sub_base.specs.Endpoints.{Received, Supplied, WasRead}
use Rattle.live_plan.specs.Pieces.{all_pieces, pieces_behind, pieces_of, rest_only, with_rest}
use Rattle.live_plan.specs.Private.Cutting.{IsEnded, IsGoingOn}
use Rattle.live_plan.specs.Private.Running.{Begun, IsHalted, IsPaid}
use Rattle.live_plan.specs.declared.run.Run.{Run}
use Rattle.live_plan.specs.declared.run.Stop.{Stop}
use Rattle.live_plan.specs.declared.run.Stop.TheVariants as stop

-- the pieces of bytes that go on with a piece of which these bytes came before, and the bytes behind them as one more
abbrev pub pieces_ahead : List ℕ → List ℕ → List (List ℕ)
pieces_ahead front bytes = with_rest (pieces_behind front bytes).whole (pieces_behind front bytes).rest

-- ---- bytes more

-- the piece in hand went in, and so many bytes ended it
pub record IsOnePut (begun : Begun) (earlier further : List (List ℕ)) (front bytes : List ℕ) (out notes : Received)
    (run : Run) (now : List ℕ) (count : ℕ) : Type 0 where
  pub piece : List ℕ
  pub ended : IsEnded front bytes piece count
  pub paid : IsPaid begun earlier (further ++ piece ∷ []) out notes run
  pub anew : now ≡ []

-- the piece in hand goes on behind the bytes
pub record IsNonePut (begun : Begun) (earlier further : List (List ℕ)) (front bytes : List ℕ) (out notes : Received)
    (run : Run) (now : List ℕ) : Type 0 where
  pub goes_on : IsGoingOn front bytes now
  pub paid : IsPaid begun earlier further out notes run

-- bytes up to the end of the piece in hand, which went in; or all of them
abbrev pub IsOneTaken : Begun → List (List ℕ) → List (List ℕ) → List ℕ → List ℕ → Received → Received → Run → List ℕ
    → Result (Option ℕ) Stop → Type 0
IsOneTaken begun earlier further front bytes out notes run now (Ok (Some count)) =
    IsOnePut begun earlier further front bytes out notes run now count
IsOneTaken begun earlier further front bytes out notes run now (Ok None) =
    IsNonePut begun earlier further front bytes out notes run now
IsOneTaken begun earlier further front bytes out notes run now (Err stop) =
    IsHalted begun earlier (further ++ pieces_ahead front bytes) out notes stop

-- how many bytes were taken, and by how much the count of pieces rose
abbrev pub IsOneStep : ℕ → ℕ → ℕ → Option ℕ → Type 0
IsOneStep length_of was now (Some count) = (0 < count) × (count ≤ length_of) × (now ≤ was + 1)
IsOneStep length_of was now None = now ≤ was

-- the pieces of the bytes went in, and what is due with them is written
pub record AllAreTaken (begun : Begun) (earlier : List (List ℕ)) (front bytes : List ℕ) (out notes : Received)
    (run : Run) (now : List ℕ) : Type 0 where
  pub paid : IsPaid begun earlier (pieces_behind front bytes).whole out notes run
  pub rest : now ≡ (pieces_behind front bytes).rest

-- the pieces of bytes that were read went in, and what is due with them is written; or the run stopped at one of them
abbrev pub AreTaken : Begun → List (List ℕ) → List ℕ → List ℕ → Received → Received → Run → List ℕ
    → Result Unit Stop → Type 0
AreTaken begun earlier front bytes out notes run now (Ok done) =
    AllAreTaken begun earlier front bytes out notes run now
AreTaken begun earlier front bytes out notes run now (Err stop) =
    IsHalted begun earlier (pieces_ahead front bytes) out notes stop

-- the bytes behind the last whole piece went in, where there are any
abbrev pub IsRestTaken : Begun → List (List ℕ) → List ℕ → Received → Received → Run → Result Unit Stop → Type 0
IsRestTaken begun earlier rest out notes run (Ok done) = IsPaid begun earlier (rest_only rest) out notes run
IsRestTaken begun earlier rest out notes run (Err stop) = IsHalted begun earlier (rest_only rest) out notes stop

-- ---- a script

-- bytes of the source were read, within the limit
pub record HasGiven (before now : Supplied) (bytes : List ℕ) : Type 0 where
  pub given : Consumes before.left now.left bytes
  pub within : length bytes ≤ text_limit
  pub faults : before.faults ≤ now.faults

-- the script was read to its end, and its whole pieces went in
pub record HasReadAll (begun : Begun) (before now : Supplied) (out notes : Received) (run : Run)
    (rest : List ℕ) : Type 0 where
  pub text : List ℕ
  pub read : WasRead text_limit before now text
  pub paid : IsPaid begun (pieces_of text).whole [] out notes run
  pub rest_is : rest ≡ (pieces_of text).rest

-- the run stopped with the last read, of at most 4,096 bytes, or behind it
pub record IsCutShort (begun : Begun) (before now : Supplied) (out notes : Received) (stop : Stop) : Type 0 where
  pub earlier : List ℕ
  pub last : List ℕ
  pub few : length last ≤ 4096
  pub given : Consumes before.left now.left (earlier ++ last)
  pub ahead : List (List ℕ)
  pub pieces : all_pieces (earlier ++ last) ≡ (pieces_of earlier).whole ++ ahead
  pub halted : IsHalted begun (pieces_of earlier).whole ahead out notes stop

-- the script could not be read on, and all whole pieces that were read had gone in
pub record IsUnreadRun (begun : Begun) (before now : Supplied) (out notes : Received) : Type 0 where
  pub text : List ℕ
  pub given : Consumes before.left now.left text
  pub run : Run
  pub paid : IsPaid begun (pieces_of text).whole [] out notes run

-- why a script was not read to its end
abbrev pub IsReadStop : Begun → Supplied → Supplied → Received → Received → Stop → Type 0
IsReadStop begun before now out notes stop.Memory = IsCutShort begun before now out notes stop.Memory
IsReadStop begun before now out notes stop.Out = IsCutShort begun before now out notes stop.Out
IsReadStop begun before now out notes stop.Notes = IsCutShort begun before now out notes stop.Notes
IsReadStop begun before now out notes stop.Unread =
    HasRisen before.faults now.faults × IsUnreadRun begun before now out notes
-- the notes have the lines, as where memory is wanting
IsReadStop begun before now out notes stop.TooLong =
    HasRisenPast text_limit before.given now.given × IsCutShort begun before now out notes stop.Memory
IsReadStop begun before now out notes stop.NoEpoch = ⊥
