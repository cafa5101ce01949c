-- Pixels that are laid over a row leave what runs write.
use Rattle.std.proofs.Common.{◌≡◌, ◌∙◌, refl, sym, ap, inl, inr, ℕ, zero, suc, ◌+◌, ◌*◌, ◌<◌, ◌≤◌, Bool, true, false, ◌&&◌, cond, eqb, List, [], ◌∷◌, ◌++◌, length, Option, Some, None, arith}
use Rattle.std.specs.Prelude.{replicate, unwrap_or, not, ◌==◌, if◌then◌else◌}
use Rattle.std.specs.Option.{option_or}
use Rattle.std.proofs.lemmas.Bool.{cases_lt}
use Rattle.std.proofs.lemmas.Bool.Decides.{nat_tests}
use Rattle.std.proofs.lemmas.List.{get_or-replicate, length-replicate, length-append}
use Rattle.sub_base.specs.Lists.{last_given}
use Rattle.sub_base.specs.declared.depth.Depth.{Depth}
use Rattle.stream_syntax.specs.PixelCodes.{Code, pixel_count, colour_of, pixels_of}
use Rattle.stream_syntax.specs.PixelBlocks.{Part, line_after, mapped, pixels_in, runs_from}
use Rattle.stream_syntax.specs.declared.pixel_run.Run.{Run}
use Rattle.stream_syntax.specs.declared.region.Listing.{Listing}
use Rattle.decoder_model.specs.Pixels.{is_covered, is_changed, code_by_run, code_by_field}
use Rattle.decoder_model.proofs.Searches.{option_or-none, option_or-assoc}
use Rattle.string_painting.specs.Painting.{region_code, laid_over, code_after, pixels_of_codes, IsInForce}
use Rattle.string_painting.specs.declared.drawing.Brush.{Brush}
use Rattle.string_painting.proofs.Laying.{before_start, under, behind, code_after-append}

later_first : (second first : Option ℕ) (code : ℕ)
    → unwrap_or (option_or second first) code ≡ unwrap_or second (unwrap_or first code)
later_first None first code = refl
later_first (Some found) first code = refl

pub last_given-append : (f : Run → Option ℕ) (xs ys : List Run)
    → last_given f (xs ++ ys) ≡ option_or (last_given f ys) (last_given f xs)
last_given-append f [] ys = sym (option_or-none (last_given f ys))
last_given-append f (x ∷ xs) ys =
    ap (λ (o : Option ℕ). option_or o (f x)) (last_given-append f xs ys)
    ∙ option_or-assoc (last_given f ys) (last_given f xs) (f x)

nothing_laid : (over : ℕ → ℕ → ℕ) (start x old : ℕ) → code_after over start [] x old ≡ old
nothing_laid over start x old = elim (cases_lt x start) [
  | inl first ↦ before_start over start [] x old first
  | inr past ↦ behind over start [] x old (omega (arith, past))
]

by_tests : (see_through covered : Bool) (read old code new : ℕ) → code ≡ new
    → unwrap_or (cond (covered && not (see_through && (read == 1))) (Some code) None) old
    ≡ cond covered (if see_through && (read == 1) then old else new) old
by_tests see_through false read old code new e = refl
by_tests see_through true read old code new e = by (see_through && (read == 1)) where
  by : (b : Bool) → unwrap_or (cond (not b) (Some code) None) old ≡ (if b then old else new)
  by true = refl
  by false = e

-- a run of some pixels
module _ (brush : Brush) (table : List ℕ) (before : List Part) (in_force : IsInForce brush table before)
    (listing : Listing) (first_row column count read x old : ℕ) where
  abbrev line : ℕ
  line = listing.y + 2 * line_after before + first_row

  abbrev run : Run
  run = record {
    x = column;
    line = line_after before;
    length = count;
    read = read;
    code = mapped brush.string brush.region before read;
  }

  by_covered : (covered : Bool) → is_covered listing first_row x line run ≡ covered
      → unwrap_or (code_by_run brush.see_through listing first_row x line run) old
      ≡ cond covered (laid_over brush table old read) old
  by_covered covered e =
      ap (λ (b : Bool). unwrap_or (cond (b && is_changed brush.see_through run) (Some run.code) None) old) e
      ∙ by_tests brush.see_through covered read old (mapped brush.string brush.region before read)
      (region_code brush table read) (sym (in_force read))

  run_laid : unwrap_or (code_by_run brush.see_through listing first_row x line run) old
      ≡ code_after (laid_over brush table) (listing.x + column) (replicate count read) x old
  run_laid =
      let long : length (replicate count read) ≡ count = length-replicate count read in
      let over = laid_over brush table in
      elim (cases_lt x (listing.x + column)) [
        | inl first ↦ by_covered false (uncovered_before first)
            ∙ sym (before_start over (listing.x + column) (replicate count read) x old first)
        | inr on ↦ elim (cases_lt x (listing.x + column + count)) [
          | inl inside ↦ by_covered true (covered_inside on inside)
              ∙ sym (under over (listing.x + column) (replicate count read) x old on (omega (arith, inside, long))
              ∙ ap (over old) (get_or-replicate count _ read 0 (omega (arith, on, inside))))
          | inr past ↦ by_covered false (uncovered_behind past)
              ∙ sym (behind over (listing.x + column) (replicate count read) x old (omega (arith, past, long)))
        ]
      ]
    where
      uncovered_before : x < listing.x + column → is_covered listing first_row x line run ≡ false
      uncovered_before h = grind (arith, nat_tests)

      covered_inside : listing.x + column ≤ x → x < listing.x + column + count
          → is_covered listing first_row x line run ≡ true
      covered_inside h k = grind (arith, nat_tests)

      uncovered_behind : listing.x + column + count ≤ x → is_covered listing first_row x line run ≡ false
      uncovered_behind h = grind (arith, nat_tests)

-- the run of a code, if it gives pixels
abbrev runs_of_code : Brush → List Part → ℕ → Code → List Run
runs_of_code brush before column code =
    if pixel_count brush.string code == 0 then []
    else record {
      x = column;
      line = line_after before;
      length = pixel_count brush.string code;
      read = colour_of code;
      code = mapped brush.string brush.region before (colour_of code);
    } ∷ []

code_laid : (brush : Brush) (table : List ℕ) (before : List Part) → IsInForce brush table before
    → (listing : Listing) (first_row column : ℕ) (code : Code) (x old : ℕ)
    → unwrap_or (code_by_field brush.see_through listing first_row x (listing.y + 2 * line_after before + first_row)
    (runs_of_code brush before column code)) old
    ≡ code_after (laid_over brush table) (listing.x + column) (pixels_of brush.string code) x old
code_laid brush table before in_force listing first_row column code x old =
    by (pixel_count brush.string code) (colour_of code)
  where
    by : (count read : ℕ)
        → unwrap_or (code_by_field brush.see_through listing first_row x
        (listing.y + 2 * line_after before + first_row)
        (if count == 0 then [] else record {
          x = column;
          line = line_after before;
          length = count;
          read = read;
          code = mapped brush.string brush.region before read;
        } ∷ [])) old
        ≡ code_after (laid_over brush table) (listing.x + column) (replicate count read) x old
    by zero read = sym (nothing_laid (laid_over brush table) (listing.x + column) x old)
    by (suc count) read =
        let t : eqb (suc count) 0 ≡ false = grind (arith, nat_tests) in
        rw t (run_laid brush table before in_force listing first_row column (suc count) read x old)

-- the runs of a string's codes
pub codes_laid : (brush : Brush) (table : List ℕ) (before : List Part) → IsInForce brush table before
    → (listing : Listing) (first_row column : ℕ) (codes : List Code) (x old : ℕ)
    → code_after (laid_over brush table) (listing.x + column) (pixels_of_codes brush.string codes) x old
    ≡ unwrap_or (code_by_field brush.see_through listing first_row x (listing.y + 2 * line_after before + first_row)
    (runs_from brush.region brush.string before column codes)) old
codes_laid brush table before in_force listing first_row column [] x old =
    nothing_laid (laid_over brush table) (listing.x + column) x old
codes_laid brush table before in_force listing first_row column (code ∷ codes) x old =
    let over = laid_over brush table in
    let f = code_by_run brush.see_through listing first_row x (listing.y + 2 * line_after before + first_row) in
    let count = pixel_count brush.string code in
    let start : listing.x + column + length (pixels_of brush.string code) ≡ listing.x + (column + count) =
    omega (arith, length-replicate count (colour_of code)) in
    sym (code_after-append over (listing.x + column) (pixels_of brush.string code) (pixels_of_codes brush.string codes)
    x old)
    ∙ ap (λ (n : ℕ). code_after over n (pixels_of_codes brush.string codes) x
    (code_after over (listing.x + column) (pixels_of brush.string code) x old)) start
    ∙ codes_laid brush table before in_force listing first_row (column + count) codes x _
    ∙ ap (unwrap_or (last_given f (runs_from brush.region brush.string before (column + count) codes)))
    (sym (code_laid brush table before in_force listing first_row column code x old))
    ∙ sym (later_first (last_given f (runs_from brush.region brush.string before (column + count) codes))
    (last_given f (runs_of_code brush before column code)) old)
    ∙ ap (λ (o : Option ℕ). unwrap_or o old) (sym (last_given-append f (runs_of_code brush before column code)
    (runs_from brush.region brush.string before (column + count) codes)))

-- runs write to the row of their line alone
pub codes_elsewhere : (brush : Brush) (before : List Part) (listing : Listing) (first_row column : ℕ)
    (codes : List Code) (x y : ℕ) → (y ≡ listing.y + 2 * line_after before + first_row → ⊥)
    → code_by_field brush.see_through listing first_row x y
    (runs_from brush.region brush.string before column codes) ≡ None
codes_elsewhere brush before listing first_row column [] x y differs = refl
codes_elsewhere brush before listing first_row column (code ∷ codes) x y differs =
    let f = code_by_run brush.see_through listing first_row x y in
    let count = pixel_count brush.string code in
    last_given-append f (runs_of_code brush before column code)
    (runs_from brush.region brush.string before (column + count) codes)
    ∙ ap (λ (o : Option ℕ). option_or o (last_given f (runs_of_code brush before column code)))
    (codes_elsewhere brush before listing first_row (column + count) codes x y differs)
    ∙ by count (colour_of code)
  where
    t : eqb y (listing.y + 2 * line_after before + first_row) ≡ false
    t = grind (arith, nat_tests)

    by : (count read : ℕ) → code_by_field brush.see_through listing first_row x y
        (if count == 0 then [] else record {
          x = column;
          line = line_after before;
          length = count;
          read = read;
          code = mapped brush.string brush.region before read;
        } ∷ []) ≡ None
    by zero read = refl
    by (suc count) read = let u : eqb (suc count) 0 ≡ false = grind (arith, nat_tests) in rw (u, t) refl

pub pixels_counted : (depth : Depth) (codes : List Code)
    → length (pixels_of_codes depth codes) ≡ pixels_in depth codes
pixels_counted depth [] = refl
pixels_counted depth (code ∷ codes) =
    length-append (pixels_of depth code) (pixels_of_codes depth codes)
    ∙ omega (arith, length-replicate (pixel_count depth code) (colour_of code), pixels_counted depth codes)
