-- The cells of a record.
use Rattle.std.specs.Prelude.{ℕ, List, [], Option, Some, None, unwrap_or}
use Rattle.csv.specs.Records.{field_at}
use Rattle.cue_records.specs.Rows.{Row}

-- a step that may fail, and what follows it
infixl 10 ◌>>=◌
abbrev pub ◌>>=◌ : {A B : Type 0} → Option A → (A → Option B) → Option B
None >>= f = None
(Some x) >>= f = f x

-- the cell at that place, empty where the record is shorter
abbrev pub cell_at : Row → ℕ → List ℕ
cell_at row place = unwrap_or (field_at row place) []
