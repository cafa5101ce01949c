-- What is wrong with the codes of a picture's record, in digits or in runs.
use Rattle.std.specs.Prelude.{ℕ, ◌*◌, ◌==◌, nat_lt, nat_le, not, Bool, false, if◌then◌else◌, List, [], ◌∷◌, length, chars, Option, Some, None, is_some}
use Rattle.std.specs.List.{list_any, list_all}
use Rattle.std.specs.Option.{option_map_or}
use Rattle.sub_base.specs.Depth.{code_count}
use Rattle.sub_base.specs.declared.depth.Depth.{Depth}
use Rattle.sub_base.specs.declared.depth.Depth.TheVariants.{Two, Four, Eight}
use Rattle.cue_records.specs.declared.fault.ScriptKind.{ScriptKind}
use Rattle.cue_records.specs.declared.fault.ScriptKind.TheVariants as faults
use Rattle.cue_records.specs.declared.row_values.PictureHead.{PictureHead}
use Rattle.cue_records.specs.declared.runs.PixelRun.{PixelRun}
use Rattle.cue_records.specs.CellFaults.{first_of, fails}
use Rattle.sub_base.specs.Number.{hex_value}
use Rattle.cue_records.specs.PixelRuns.{is_in_runs, pixel_count, runs_in}
use Rattle.cue_records.specs.RowValues.{area}

-- how many digits a code has
abbrev pub digits_of : Depth → ℕ
digits_of Two = 1
digits_of Four = 1
digits_of Eight = 2

-- a character is a hexadecimal digit
abbrev pub is_hex : ℕ → Bool
is_hex character = is_some (hex_value character)

-- a digit is too large for the depth
abbrev pub is_large : Depth → ℕ → Bool
is_large Two character = option_map_or (λ value. nat_lt 3 value) (hex_value character) false
is_large _ character = false

-- codes are hexadecimal digits, one a code, two at 8 bits
unfoldable pub codes_fault : PictureHead → List ℕ → Option ScriptKind
codes_fault head characters = first_of (
    fails (not (length characters == digits_of head.depth * area head)) faults.Count
    ∷ fails (not (list_all is_hex characters)) faults.Number
    ∷ fails (list_any (is_large head.depth) characters) faults.CodeRange
    ∷ [])

-- so many pixels are wanted of runs, and codes that the depth has
abbrev pub sum_fault : Depth → ℕ → Option (List PixelRun) → Option ScriptKind
sum_fault depth wanted None = Some faults.Number
sum_fault depth wanted (Some runs) = first_of (
    fails (not (pixel_count runs == wanted)) faults.Count
    ∷ fails (list_any (λ run. nat_le (code_count depth) run.code) runs) faults.CodeRange
    ∷ [])

-- each piece of a text of runs is a run; they have as many pixels as are wanted, of codes that the depth has
unfoldable pub runs_fault : Depth → ℕ → List ℕ → Option ScriptKind
runs_fault depth wanted text = sum_fault depth wanted (runs_in depth text)

-- codes in runs, or one by one
unfoldable pub pixels_fault : PictureHead → List ℕ → Option ScriptKind
pixels_fault head text =
    if is_in_runs text then runs_fault head.depth (area head) text else codes_fault head (chars text)
