-- Two single pixels that are read and laid at once.
use Rattle.std.proofs.Common.{◌≡◌, ◌∙◌, sym, ap, subst, inl, inr, ℕ, ◌+◌, ◌*◌, ◌/◌, ◌%◌, ◌<◌, ◌≤◌, false, eqb, List, length, get_or, set, Some, arith, set-set, get_or-set_same}
use Rattle.std.specs.Prelude.{replicate}
use Rattle.std.proofs.lemmas.Bool.Decides.{nat_tests}
use Rattle.std.proofs.lemmas.List.{length-set}
use Rattle.sub_base.specs.declared.depth.Depth.{Depth}
use Rattle.sub_base.specs.declared.depth.Depth.TheVariants.{Two, Four, Eight}
use Rattle.stream_syntax.specs.PixelCodes.{Code}
use Rattle.code_strings.specs.declared.token.Token.TheVariants.{Pixels}
use Rattle.string_painting.specs.Codes.{codes_in_byte, packed_code}
use Rattle.string_painting.specs.Painting.{laid_over, region_code, LaysPixels}
use Rattle.string_painting.specs.Private.Columns.{PaintsColumns, PaintsPair}
use Rattle.string_painting.specs.Private.Packing.{PaintsByte}
use Rattle.string_painting.specs.Private.Pairs.{LaysPair, LaysOn}
use Rattle.string_painting.specs.Private.Reading.{field_at, two_at, four_at, eight_at, token_at}
use Rattle.string_painting.specs.declared.drawing.Brush.{Brush}
use Rattle.string_painting.specs.declared.drawing.RowPlace.{RowPlace}
use Rattle.string_painting.proofs.Laying.{LaysPixels-run, covers_all}
use Rattle.string_painting.proofs.Strings.{IsAt, at_next}
use Rattle.string_painting.proofs.PaintedColumns.{PaintsColumns-one, PaintsColumns-byte, PaintsColumns-at, column_is}

byte_of : (region : Depth) (x bytes : ℕ) → x + 1 < bytes * codes_in_byte region → x / codes_in_byte region < bytes
byte_of Two x bytes h = omega arith
byte_of Four x bytes h = omega arith
byte_of Eight x bytes h = omega arith

-- both codes are put into one byte
pub one_byte : (region : Depth) (x first second u v : ℕ) (xs : List ℕ) → x + 1 < length xs * codes_in_byte region
    → x % codes_in_byte region + 1 < codes_in_byte region
    → PaintsByte region (x % codes_in_byte region) (x % codes_in_byte region + 1) first
    (get_or xs (x / codes_in_byte region) 0) u
    → PaintsByte region (x % codes_in_byte region + 1) (x % codes_in_byte region + 1 + 1) second u v
    → PaintsPair region x first second xs (set xs (x / codes_in_byte region) v)
one_byte region x first second u v xs inside room p q =
    let index = x / codes_in_byte region in
    let over = x % codes_in_byte region in
    let mid = set xs (x / codes_in_byte region) u in
    let here = byte_of region x (length xs) inside in
    let s = column_is region x in
    let there : index < length mid = omega (arith, here, length-set xs index u) in
    let read : get_or mid index 0 ≡ u = get_or-set_same xs index u 0 here in
    let q' : PaintsByte region (over + 1) (over + 1 + 1) second (get_or mid index 0) v =
    subst (λ (n : ℕ). PaintsByte region (over + 1) (over + 1 + 1) second n v) (sym read) q in
    let painted =
    PaintsColumns-byte region index (over + 1) (over + 1 + 1) second v mid there (omega (arith, room)) q' in
    record {
      mid = mid;
      before = PaintsColumns-one region x first u xs (omega (arith, inside)) p;
      behind =
          subst (λ (t : List ℕ). PaintsColumns region (x + 1) (x + 1 + 1) second mid t) (set-set xs index u v)
          (PaintsColumns-at region _ _ (x + 1) (x + 1 + 1) second mid (set mid index v) (omega (arith, s.1))
          (omega (arith, s.1)) painted);
    }

-- two columns are painted with what two pixels are laid as
pub pair_laid : (brush : Brush) (table : List ℕ) (place : RowPlace) (first second before behind : ℕ)
    (old new : List ℕ) → brush.see_through ≡ false → place.x + 1 < place.width
    → before ≡ region_code brush table first → behind ≡ region_code brush table second
    → PaintsPair brush.region place.x before behind old new
    → LaysPair brush table place first second old new
pair_laid brush table place first second before behind old new seen room is_before is_behind p = record {
  mid = p.mid;
  before = laid place.x first before old p.mid (omega (arith, room)) is_before p.before;
  behind = laid (place.x + 1) second behind p.mid new room is_behind p.behind;
} where
  laid : (x read code : ℕ) (xs ys : List ℕ) → x < place.width → code ≡ region_code brush table read
      → PaintsColumns brush.region x (x + 1) code xs ys
      → LaysPixels brush.region (laid_over brush table) place.width x (replicate 1 read) xs ys
  laid x read code xs ys inside is q =
      LaysPixels-run brush.region (laid_over brush table) place.width x 1 read code xs ys
      (λ old. covers_all brush.see_through read old _ seen ∙ sym is)
      (PaintsColumns-at brush.region x (x + 1) _ _ code xs ys (omega arith) (omega arith) q)

-- a field that is not 0 is the code of a single pixel
pub single : (depth : Depth) (bytes : List ℕ) (place code : ℕ) → 0 < code → field_at depth bytes place ≡ Some code
    → token_at depth bytes place ≡ Some (Pixels 1 code, place + 1)
unfolding two_at four_at eight_at
single Two bytes place code h f = let t : eqb code 0 ≡ false = grind (arith, nat_tests) in simp (f, t)
single Four bytes place code h f = let t : eqb code 0 ≡ false = grind (arith, nat_tests) in simp (f, t)
single Eight bytes place code h f = let t : eqb code 0 ≡ false = grind (arith, nat_tests) in simp (f, t)

-- one that is laid behind others is not behind the last field
pub on_within : (brush : Brush) (table string : List ℕ) (pen : RowPlace) (count read next further : ℕ)
    (now new : List ℕ) → next ≤ codes_in_byte brush.string * length string
    → LaysOn brush table string pen count read next further now new
    → next + further ≤ codes_in_byte brush.string * length string
on_within brush table string pen count read next further now new h on = elim on.on [
  | inl none ↦ omega (arith, none.0, h)
  | inr one ↦ omega (arith, one.one, one.is_behind.inside)
]

-- what is behind the region's columns stays
pub on_beside : (brush : Brush) (table string : List ℕ) (pen : RowPlace) (count read next further : ℕ)
    (now new : List ℕ) → LaysOn brush table string pen count read next further now new
    → (x : ℕ) → pen.width ≤ x → packed_code brush.region new x ≡ packed_code brush.region now x
on_beside brush table string pen count read next further now new on x h = elim on.on [
  | inl none ↦ ap (λ (t : List ℕ). packed_code brush.region t x) (sym none.1) ∙ on.laid.beside x h
  | inr one ↦ one.laid.beside x h ∙ on.laid.beside x h
]

-- a walk that has come as far, by other numbers
at_same : (depth : Depth) (string : List ℕ) (codes : List Code) (rest : List ℕ) (place place' : ℕ) (region : Depth)
    (over : ℕ → ℕ → ℕ) (width start x x' : ℕ) (old now : List ℕ) → place ≡ place' → x ≡ x'
    → IsAt depth string codes rest place region over width start x old now
    → IsAt depth string codes rest place' region over width start x' old now
at_same depth string codes rest place place' region over width start x x' old now e f a =
    subst (λ (n : ℕ). IsAt depth string codes rest n region over width start x' old now) e
    (subst (λ (n : ℕ). IsAt depth string codes rest place region over width start n old now) f a)

-- a code is read, and its pixels are laid, and maybe the one of the code behind it
pub at_on : (brush : Brush) (table string : List ℕ) (codes : List Code) (rest : List ℕ) (pen : RowPlace)
    (place next count read further start : ℕ) (old now new : List ℕ)
    → IsAt brush.string string codes rest place brush.region (laid_over brush table) pen.width start pen.x old now
    → token_at brush.string string place ≡ Some (Pixels count read, next)
    → LaysOn brush table string pen count read next further now new
    → IsAt brush.string string codes rest (next + further) brush.region (laid_over brush table) pen.width start
    (pen.x + (count + further)) old new
at_on brush table string codes rest pen place next count read further start old now new a found on =
    let over = laid_over brush table in
    let first : IsAt brush.string string codes rest next brush.region (laid_over brush table) pen.width start
    (pen.x + count) old on.mid =
    at_next brush.string string codes rest place next count read brush.region over pen.width start pen.x old now on.mid
    a found on.laid in
    elim on.on [
      | inl none ↦
          at_same brush.string string codes rest next (next + further) brush.region over pen.width start
          (pen.x + count) (pen.x + (count + further)) old new (omega (arith, none.0)) (omega (arith, none.0))
          (subst (λ (t : List ℕ). IsAt brush.string string codes rest next brush.region (laid_over brush table)
          pen.width start (pen.x + count) old t) none.1 first)
      | inr one ↦
          at_same brush.string string codes rest (next + 1) (next + further) brush.region over pen.width start
          (pen.x + count + 1) (pen.x + (count + further)) old new (omega (arith, one.one)) (omega (arith, one.one))
          (at_next brush.string string codes rest next (next + 1) 1 one.second brush.region over pen.width start
          (pen.x + count) old on.mid new first
          (single brush.string string next one.second one.is_behind.coloured one.is_behind.field) one.laid)
    ]
