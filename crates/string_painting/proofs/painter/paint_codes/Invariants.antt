use Rattle.std.proofs.Common.{◌≡◌, ◌+◌, ◌*◌, ◌-◌, ◌<◌, ◌≤◌, ◌++◌, ◌^◌, ℕ, List, length}
use Rattle.stream_syntax.specs.PixelCodes.{Code, bits_of, IsString}
use Rattle.string_painting.specs.Codes.{codes_in_byte, packed_code}
use Rattle.string_painting.specs.Painting.{laid_over}
use Rattle.string_painting.proofs.Strings.{IsAt}
use Rattle.string_painting.proofs.painter.paint_codes.Given as goal

abbrev pub invariant-loop-token : goal.invariant-loop-token
invariant-loop-token l = record {
  within : l.place ≤ codes_in_byte l.brush.string * length l.string;
  room : l.x + 284 * (codes_in_byte l.brush.string * length l.string - l.place) < 2 ^ 32;
  beside : (x : ℕ) → l.start.width ≤ x
      → packed_code l.brush.region l.row x ≡ packed_code l.brush.region l.fn.row x;
  forward : l.start.x ≤ l.x;
  short : l.x ≤ l.start.x + 284 * l.place;
  walk : (codes : List Code) (front behind : List ℕ) → l.string ≡ front ++ behind
      → (s : IsString l.brush.string codes front)
      → IsAt l.brush.string l.string codes (s.fill ++ bits_of behind) l.place l.brush.region
      (laid_over l.brush l.table) l.start.width l.start.x l.x l.fn.row l.row;
}

abbrev pub decreases-loop-token : goal.decreases-loop-token
decreases-loop-token l = codes_in_byte l.brush.string * length l.string - l.place
