-- What a walk over a block still gives, from the place at which it stands.
use Rattle.std.specs.Prelude.{◌≡◌, ℕ, ◌*◌, ◌-◌, ◌<◌, List, [], ◌∷◌, length, Option, Some, None}
use Rattle.sub_base.specs.declared.depth.Depth.{Depth}
use Rattle.stream_syntax.specs.declared.pixel_run.Run.{Run}
use Rattle.pixel_codes.specs.declared.cursor.Cursor.{Cursor}
use Rattle.pixel_codes.specs.declared.cursor.Step.{Step}
use Rattle.pixel_codes.specs.declared.cursor.Step.TheVariants.{Drawn, Moved, Done}
use Rattle.pixel_codes.specs.Private.Walk.{Pen, runs_left}

-- where the pen of a walk stands, and the tables that hold there
abbrev pub pen_of : Cursor → Pen
pen_of cursor = record { x = cursor.x; line = cursor.line; maps = cursor.tables }

-- the runs that come
abbrev pub left_of : Cursor → List Run
left_of cursor = runs_left cursor.region cursor.string cursor.rest.now cursor.place (pen_of cursor)

-- what a walk can still take, in bits
abbrev pub bits_left : Option Depth → List ℕ → ℕ → ℕ
bits_left None rest place = 8 * length rest
bits_left (Some depth) rest place = 8 * length rest - place

-- what a walk can still take, in bits, from the place at which it stands
abbrev pub to_go : Cursor → ℕ
to_go cursor = bits_left cursor.string cursor.rest.now cursor.place

-- what a step says of a walk before and after it
abbrev pub Says : Step → Cursor → Cursor → Type 0
Says (Drawn run) old new = left_of old ≡ run ∷ left_of new
Says Moved old new = (left_of old ≡ left_of new) × (to_go new < to_go old)
Says Done old new = (left_of old ≡ []) × (left_of new ≡ [])
