-- The runs that a walk over a block still gives, by the place at which it stands.
use Rattle.std.specs.Prelude.{ℕ, zero, suc, ◌+◌, ◌*◌, ◌/◌, ◌%◌, ◌==◌, if◌then◌else◌, nat_lt, List, [], ◌∷◌, ◌++◌, length, drop, slice_index, Option, Some, None}
use Rattle.sub_base.specs.declared.depth.Depth.{Depth}
use Rattle.sub_base.specs.declared.depth.Depth.TheVariants.{Two, Four, Eight}
use Rattle.stream_syntax.specs.PixelCodes.{bits_of}
use Rattle.stream_syntax.specs.PixelBlocks.{table_size}
use Rattle.stream_syntax.specs.declared.pixel_run.Run.{Run}
pub use Rattle.pixel_codes.specs.Maps.{Maps, default_maps, with_table}
use Rattle.pixel_codes.specs.declared.part.Head.{Head}
use Rattle.pixel_codes.specs.declared.part.Head.TheVariants.{PixelString, Table, LineEnd}
use Rattle.code_strings.specs.declared.token.Token.{Token}
use Rattle.code_strings.specs.declared.token.Token.TheVariants.{Pixels, End}
use Rattle.code_strings.specs.Reading.{token_at}
use Rattle.pixel_codes.specs.Heads.{head_of}

-- the half of a byte for a code, the high one for an even code
abbrev pub half_of : ℕ → ℕ → ℕ
half_of byte code = if code % 2 == 0 then byte / 16 else byte % 16

-- a code of a string of a depth, as a code of the region
abbrev pub mapped_by : Depth → Depth → Maps → ℕ → ℕ
mapped_by Two Four maps code = half_of (slice_index maps.two_to_four (code / 2)) code
mapped_by Two Eight maps code = slice_index maps.two_to_eight code
mapped_by Four Eight maps code = slice_index maps.four_to_eight code
mapped_by depth region maps code = code

-- where the pen stands, and the tables
pub record Pen : Type 0 where
  pub x : ℕ
  pub line : ℕ
  pub maps : Maps

-- the pen at the first pixel of a block, with the tables that hold before any is sent
abbrev pub start_pen : Pen
start_pen = record { x = 0; line = 0; maps = default_maps }

-- what a walk gives from a place on: the depth of the string that it is in, if any, the bytes from that string's
-- first or the next sub-block on, the bits of the string that are read, and the pen
abbrev pub Onward : Type 0
Onward = Option Depth → List ℕ → ℕ → Pen → List Run

-- the run of pixels of a code, if there are any
abbrev pub run_of : Depth → Depth → Pen → ℕ → ℕ → List Run
run_of region depth pen count code =
    if count == 0 then []
    else record {
      x = pen.x;
      line = pen.line;
      length = count;
      read = code;
      code = mapped_by depth region pen.maps code;
    } ∷ []

-- what a walk gives from a code of a string or its end on; `next` is the place behind that in the string's bits, and
-- `onward` gives what follows
abbrev pub runs_after_token : Onward → Depth → Depth → List ℕ → Pen → Token → ℕ → List Run
runs_after_token onward region depth rest pen End next = onward None (drop ((next + 7) / 8) rest) 0 pen
runs_after_token onward region depth rest pen (Pixels count code) next =
    run_of region depth pen count code
    ++ onward (Some depth) rest next (record { x = pen.x + count; line = pen.line; maps = pen.maps })

-- what a walk gives from what it found in a string on, with the place behind that: a code, the end, or, where the
-- string is cut, nothing
abbrev pub runs_at_token : Onward → Depth → Depth → List ℕ → Pen → Option (Token × ℕ) → List Run
runs_at_token onward region depth rest pen None = []
runs_at_token onward region depth rest pen (Some found) = runs_after_token onward region depth rest pen found.0 found.1

-- what a walk gives behind the type byte of a sub-block; nothing where that is unknown, or a table is cut
abbrev pub runs_after_head : Onward → List ℕ → Pen → Option Head → List Run
runs_after_head onward body pen None = []
runs_after_head onward body pen (Some (PixelString depth)) = onward (Some depth) body 0 pen
runs_after_head onward body pen (Some (Table kind)) =
    if nat_lt (length body) (table_size kind) then []
    else onward None (drop (table_size kind) body) 0
    (record { x = pen.x; line = pen.line; maps = with_table kind body pen.maps })
runs_after_head onward body pen (Some LineEnd) =
    onward None body 0 (record { x = 0; line = pen.line + 1; maps = pen.maps })

-- what a walk gives from the first byte of a sub-block on; nothing where no byte is left
abbrev pub runs_at_part : Onward → List ℕ → Pen → List Run
runs_at_part onward [] pen = []
runs_at_part onward (first ∷ body) pen = runs_after_head onward body pen (head_of first)

-- the runs that come, in at most so many steps
unfoldable pub runs_within : ℕ → Depth → Onward
runs_within zero region inside rest place pen = []
runs_within (suc steps) region None rest place pen = runs_at_part (runs_within steps region) rest pen
runs_within (suc steps) region (Some depth) rest place pen =
    runs_at_token (runs_within steps region) region depth rest pen (token_at depth (bits_of rest) place)

-- the runs that come
abbrev pub runs_left : Depth → Onward
runs_left region inside rest place pen = runs_within (8 * length rest) region inside rest place pen

-- the runs of a block
abbrev pub runs_in : Depth → List ℕ → List Run
runs_in region bytes = runs_left region None bytes 0 start_pen
