-- The text of a picture: its colours by rows, each as its runs.
use Rattle.std.specs.Prelude.{◌≡◌, ℕ, ◌+◌, ◌*◌, ◌==◌, Bool, ◌&&◌, if◌then◌else◌, List, [], ◌∷◌, ◌++◌, map, take, drop, codes}
use Rattle.std.specs.Fmt.{decimal}
use Rattle.std.specs.List.{flat_map, join_with_byte, list_all, range_with_len}
use Rattle.sub_base.specs.Colour.{clear}
use Rattle.sub_base.specs.declared.colour.Colour.{Colour}
use Rattle.command_text.specs.Lines.{line_end, then_number, two_hex}
use Rattle.command_text.specs.Putting.{Buffered, PutsOut}
use Rattle.sub_base.specs.Endpoints.{Received}

-- equal neighbouring places of a row: how many, and their colour
pub record ColourRun : Type 0 where
  pub length : ℕ
  pub colour : Colour

-- two colours are the same in all four parts
abbrev pub is_same_colour : Colour → Colour → Bool
is_same_colour first second =
    (first.y == second.y) && (first.cr == second.cr) && (first.cb == second.cb) && (first.t == second.t)

-- a place before a row's runs: it is the first of a run of its own colour, or stands alone
abbrev pub with_place : Colour → List ColourRun → List ColourRun
with_place colour [] = record { length = 1; colour = colour } ∷ []
with_place colour (run ∷ runs) =
    if is_same_colour colour run.colour
    then record { length = run.length + 1; colour = colour } ∷ runs
    else record { length = 1; colour = colour } ∷ run ∷ runs

-- the maximal runs of a row, from the left
unfoldable pub runs_of : List Colour → List ColourRun
runs_of [] = []
runs_of (colour ∷ row) = with_place colour (runs_of row)

-- a colour: luminance, the two differences and the transparency, in two hexadecimal digits each
abbrev pub colour_text : Colour → List ℕ
colour_text colour = two_hex colour.y ++ two_hex colour.cr ++ two_hex colour.cb ++ two_hex colour.t

-- a run: its length, a star and its colour
abbrev pub run_text : ColourRun → List ℕ
run_text run = decimal run.length ++ codes "*" ++ colour_text run.colour

-- a row: its runs, parted by a space
abbrev pub row_line : List Colour → List ℕ
row_line row = join_with_byte 32 (map run_text (runs_of row)) ++ line_end

-- row y of a plane of that width
abbrev pub plane_row : ℕ → List Colour → ℕ → List Colour
plane_row width plane y = take width (drop (y * width) plane)

-- a picture that is clear everywhere
abbrev pub clear_line : ℕ → List ℕ
clear_line tick = codes "picture" ++ then_number tick ++ codes " clear" ++ line_end

-- the first line of a picture that is not
abbrev pub sides_line : ℕ → ℕ → ℕ → List ℕ
sides_line tick width height = codes "picture" ++ then_number tick ++ then_number width ++ then_number height ++ line_end

-- no place shows anything
abbrev pub is_clear : List Colour → Bool
is_clear plane = list_all (is_same_colour clear) plane

-- the picture at a tick, with these sides in pixels and these colours by rows
abbrev pub picture_text : ℕ → ℕ → ℕ → List Colour → List ℕ
picture_text tick width height plane =
    if is_clear plane then clear_line tick
    else sides_line tick width height ++ flat_map (λ y. row_line (plane_row width plane y)) (range_with_len 0 height)

-- a run within its row: a space stands behind it, and behind the last one the row ends
abbrev pub run_piece : Colour → ℕ → Bool → List ℕ
run_piece colour length is_last = run_text (record { length = length; colour = colour }) ++ (if is_last then line_end else codes " ")

-- what is left of a row's line where these places are left of the row
abbrev pub rest_line : List Colour → List ℕ
rest_line [] = []
rest_line (colour ∷ row) = row_line (colour ∷ row)

-- what was put out and what is left are the line
pub record PutsRow (before now : Received) (old new : Buffered) (row rest : List Colour) : Type 0 where
  pub told : List ℕ
  pub out : PutsOut before now old new told
  pub whole : told ++ rest_line rest ≡ rest_line row
