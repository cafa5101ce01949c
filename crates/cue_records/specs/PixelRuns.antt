-- Pixel codes as runs: how many pixels one code gives, and that code.
use Rattle.std.specs.Prelude.{ℕ, ◌+◌, ◌==◌, Bool, if◌then◌else◌, List, [], ◌∷◌, take, drop, replicate, Option, Some, None, sum_by}
use Rattle.std.specs.List.{flat_map, list_any, position_or_len}
use Rattle.sub_base.specs.Number.{number_in, hex_value}
use Rattle.sub_base.specs.declared.depth.Depth.{Depth}
use Rattle.sub_base.specs.declared.depth.Depth.TheVariants.{Two, Four, Eight}
use Rattle.cue_records.specs.declared.limits.TheConstants.{LONGEST_RUN}
use Rattle.cue_records.specs.declared.runs.PixelRun.{PixelRun}
use Rattle.cue_records.specs.Cells.{◌>>=◌}
use Rattle.cue_records.specs.Codes.{double_code, codes_of}

-- the space, which parts runs
abbrev pub SPACE : ℕ
SPACE = 32

-- the `*` between a run's count and its code
abbrev pub STAR : ℕ
STAR = 42

-- where the first such byte of a text stands, and the length where there is none
abbrev pub place_of : ℕ → List ℕ → ℕ
place_of mark text = position_or_len (λ byte. byte == mark) text

-- an item put before the first of some pieces
abbrev pub on_first : ℕ → List (List ℕ) → List (List ℕ)
on_first item [] = []
on_first item (piece ∷ pieces) = (item ∷ piece) ∷ pieces

-- the pieces of a text that such a byte parts, an empty one too where two of them meet
abbrev pub parted : ℕ → List ℕ → List (List ℕ)
parted mark [] = [] ∷ []
parted mark (byte ∷ text) = if byte == mark then [] ∷ parted mark text else on_first byte (parted mark text)

-- the code of a run: one hexadecimal digit, two at 8 bits
abbrev pub code_at_depth : Depth → List ℕ → Option ℕ
code_at_depth Two (digit ∷ []) = hex_value digit
code_at_depth Four (digit ∷ []) = hex_value digit
code_at_depth Eight (high ∷ low ∷ []) = double_code high low
code_at_depth depth digits = None

-- a run is its count, a `*` and its code
abbrev pub run_in : Depth → List ℕ → Option PixelRun
run_in depth token =
    number_in 1 LONGEST_RUN (take (place_of STAR token) token) >>= λ count.
    code_at_depth depth (drop (place_of STAR token + 1) token) >>= λ code.
    Some (record { count = count; code = code })

-- the first run of a text, and its length: up to the first space, or all of the text
abbrev pub first_run : Depth → List ℕ → Option (PixelRun × ℕ)
first_run depth text =
    run_in depth (take (place_of SPACE text) text) >>= λ run. Some (run, place_of SPACE text)

-- the runs that these pieces are, where each is one
abbrev pub all_runs : Depth → List (List ℕ) → Option (List PixelRun)
all_runs depth [] = Some []
all_runs depth (token ∷ tokens) =
    run_in depth token >>= λ run. all_runs depth tokens >>= λ runs. Some (run ∷ runs)

-- the runs of a text, with one space between two of them
abbrev pub runs_in : Depth → List ℕ → Option (List PixelRun)
runs_in depth text = all_runs depth (parted SPACE text)

-- how many pixels runs have
abbrev pub pixel_count : List PixelRun → ℕ
pixel_count runs = sum_by (λ run. run.count) runs

-- the codes that runs spell: those of one run after those of the other
abbrev pub spelled : List PixelRun → List ℕ
spelled runs = flat_map (λ run. replicate run.count run.code) runs

-- the codes of a text of runs
abbrev pub run_codes : Depth → List ℕ → Option (List ℕ)
run_codes depth text = runs_in depth text >>= λ runs. Some (spelled runs)

-- a picture's codes are runs where a `*` stands in them
abbrev pub is_in_runs : List ℕ → Bool
is_in_runs text = list_any (λ byte. byte == STAR) text

-- the codes of a picture's text, in runs or one by one
abbrev pub picture_codes : Depth → List ℕ → Option (List ℕ)
picture_codes depth text =
    if is_in_runs text then run_codes depth text else codes_of depth text
