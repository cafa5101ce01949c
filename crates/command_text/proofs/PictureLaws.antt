-- Laws of the text of a picture.
use Rattle.std.proofs.Common.{◌≡◌, ◌∙◌, refl, sym, ap, subst, zero, suc, ℕ, ◌+◌, ◌-◌, ◌*◌, ◌<◌, ◌≤◌, ◌==◌, Bool, true, false, List, [], ◌∷◌, ◌++◌, length, get_or, drop, map, append-nil, append_assoc, length-drop, arith}
use Rattle.std.specs.List.{flat_map, join_with_byte, range_with_len}
use Rattle.std.proofs.lemmas.Bool.Decides.{nat_tests}
use Rattle.std.proofs.lemmas.List.{get_or_default}
use Rattle.std.proofs.lemmas.List.Concat.{flat_map-append}
use Rattle.sub_base.specs.Colour.{clear}
use Rattle.sub_base.specs.declared.colour.Colour.{Colour}
use Rattle.command_text.specs.Lines.{line_end}
use Rattle.command_text.specs.PictureText.{ColourRun, is_clear, is_same_colour, picture_text, sides_line, with_place, runs_of, run_text, run_piece, plane_row, row_line, rest_line, PutsRow}
use Rattle.command_text.specs.Putting.{Buffered, PutsOut}
use Rattle.sub_base.specs.Endpoints.{Received}
use Rattle.command_text.proofs.PutLaws.{PutsOut-both, PutsOut-nothing}

-- two colours that are the same in all parts
pub colours_same : (first second : Colour) → is_same_colour first second ≡ true → first ≡ second
colours_same first second same =
    let y : first.y ≡ second.y = grind (arith, nat_tests) in
    let cr : first.cr ≡ second.cr = grind (arith, nat_tests) in
    let cb : first.cb ≡ second.cb = grind (arith, nat_tests) in
    let t : first.t ≡ second.t = grind (arith, nat_tests) in
    λ i. record { y = y i; cr = cr i; cb = cb i; t = t i }

same_as_itself : (colour : Colour) → is_same_colour colour colour ≡ true
same_as_itself colour = grind (arith, nat_tests)

abbrev run_of : ℕ → Colour → ColourRun
run_of n colour = record { length = n; colour = colour }

-- before the runs of a row whose first place has another colour, a place stands alone
alone : (first next : Colour) (runs : List ColourRun) → is_same_colour first next ≡ false
    → with_place first (with_place next runs) ≡ run_of 1 first ∷ with_place next runs
alone first next [] other = rw other refl
alone first next (run ∷ runs) other = by_test (is_same_colour next run.colour) refl
  where
    by_test : (test : Bool) → is_same_colour next run.colour ≡ test
        → with_place first (with_place next (run ∷ runs)) ≡ run_of 1 first ∷ with_place next (run ∷ runs)
    by_test true same = rw same (rw other refl)
    by_test false differs = rw differs (rw other refl)

-- a row begins with as many places of one colour as are equal
pub runs_of-first : (row : List Colour) (n : ℕ) (first : Colour) → 1 ≤ n → n ≤ length row
    → ((k : ℕ) → k < n → get_or row k clear ≡ first) →
    (n < length row → is_same_colour first (get_or row n clear) ≡ false)
    → runs_of row ≡ run_of n first ∷ runs_of (drop n row)
unfolding runs_of
runs_of-first [] n first some within same differs = absurd (omega arith)
runs_of-first (colour ∷ []) (suc zero) first some within same differs =
    ap (λ (c : Colour). run_of 1 c ∷ []) (same 0 (omega arith))
runs_of-first (colour ∷ next ∷ row) (suc zero) first some within same differs =
    ap (λ (c : Colour). with_place c (with_place next (runs_of row))) (same 0 (omega arith))
    ∙ alone first next (runs_of row) (differs (omega arith))
runs_of-first (colour ∷ row) (suc (suc n)) first some within same differs =
    let more : n + 1 ≡ suc n = omega arith in
    ap (λ (c : Colour). with_place c (runs_of row)) (same 0 (omega arith))
    ∙ ap (with_place first)
    (runs_of-first row (suc n) first (omega arith) (omega arith) (λ k below. same (suc k) (omega arith))
    (λ inside. differs (omega arith)))
    ∙ rw (same_as_itself first)
    (let count : suc n + 1
    ≡ suc (suc n) = omega arith in ap (λ (k : ℕ). run_of k first ∷ runs_of (drop (suc n) row)) count)
runs_of-first (colour ∷ row) zero first some within same differs = absurd (omega arith)

-- the runs of a row that has a place
runs_of-some : (colour : Colour) (runs : List ColourRun) → (run : ColourRun) × (others : List ColourRun)
    × (with_place colour runs ≡ run ∷ others)
runs_of-some colour [] = (run_of 1 colour, [], refl)
runs_of-some colour (run ∷ runs) = by_test (is_same_colour colour run.colour) refl
  where
    by_test : (test : Bool) → is_same_colour colour run.colour ≡ test → (one : ColourRun)
        × (others : List ColourRun) × (with_place colour (run ∷ runs) ≡ one ∷ others)
    by_test true same = (run_of (run.length + 1) colour, runs, rw same refl)
    by_test false differs = (run_of 1 colour, run ∷ runs, rw differs refl)

-- no place is left, or some are
none_left : {X : Type 0} (x : X) (xs : List X) → (length (x ∷ xs) == 0) ≡ false
none_left x xs = grind (arith, nat_tests)

-- a run, and the line of what is left behind it
line_behind : (run : ColourRun) (rest : List Colour) (is_last : Bool) → is_last ≡ (length rest == 0) →
    join_with_byte 32 (map run_text (run ∷ runs_of rest)) ++ line_end ≡ run_piece run.colour run.length is_last
    ++ rest_line rest
unfolding runs_of
line_behind run [] is_last last =
    let test : is_last ≡ true = last in
    rw test (sym (append-nil (run_text run ++ line_end)))
line_behind run (colour ∷ rest) is_last last =
    let test : is_last ≡ false = last ∙ none_left colour rest in
    let some = runs_of-some colour (runs_of rest) in
    let more = map run_text some.1 in
    rw test
    (ap (λ (runs : List ColourRun). join_with_byte 32 (map run_text (run ∷ runs)) ++ line_end) some.2
    ∙ append_assoc (run_text run) (32 ∷ join_with_byte 32 (run_text some.0 ∷ more)) line_end
    ∙ ap (λ (runs : List ColourRun). run_text run ++ (32 ∷ (join_with_byte 32 (map run_text runs) ++ line_end)))
    (sym some.2)
    ∙ sym (append_assoc (run_text run) (32 ∷ []) (row_line (colour ∷ rest))))

-- the line of what is left begins with its first run
rest_line-first : (row : List Colour) (count : ℕ) (is_last : Bool) → 1 ≤ length row
    → runs_of row ≡ run_of count (get_or row 0 clear) ∷ runs_of (drop count row) →
    is_last ≡ (length (drop count row) == 0)
    → rest_line row ≡ run_piece (get_or row 0 clear) count is_last ++ rest_line (drop count row)
rest_line-first [] count is_last some runs last = absurd (omega arith)
rest_line-first (colour ∷ row) count is_last some runs last =
    ap (λ (all : List ColourRun). join_with_byte 32 (map run_text all) ++ line_end) runs
    ∙ line_behind (run_of count colour) (drop count (colour ∷ row)) is_last last

-- nothing of a row was put out yet
pub PutsRow-none : (shown : Received) (buffer : Buffered) (row : List Colour)
    → PutsRow shown shown buffer buffer row row
PutsRow-none shown buffer row = record { told = []; out = PutsOut-nothing shown buffer; whole = refl }

-- one more run
pub PutsRow-more : (before now next : Received) (old mid new : Buffered) (row rest : List Colour) (count : ℕ)
    (is_last : Bool) → PutsRow before now old mid row rest →
    1 ≤ length rest → count ≤ length rest
    → runs_of rest ≡ run_of count (get_or rest 0 clear) ∷ runs_of (drop count rest)
    → is_last ≡ (count == length rest) →
    PutsOut now next mid new (run_piece (get_or rest 0 clear) count is_last)
    → PutsRow before next old new row (drop count rest)
PutsRow-more before now next old mid new row rest count is_last puts some within runs last out =
    let piece = run_piece (get_or rest 0 clear) count is_last in
    let left : length (drop count rest) ≡ length rest - count = length-drop count rest in
    let none : is_last ≡ (length (drop count rest) == 0) =
    last ∙ same_test count (length rest) (length (drop count rest)) left within in
    record {
      told = puts.told ++ piece;
      out = PutsOut-both before now next old mid new puts.told piece puts.out out;
      whole =
          append_assoc puts.told piece (rest_line (drop count rest))
          ∙ ap (λ (line : List ℕ). puts.told ++ line) (sym (rest_line-first rest count is_last some runs none))
          ∙ puts.whole;
    }
  where
    same_test : (count whole left : ℕ) → left ≡ whole - count → count ≤ whole
        → (count == whole) ≡ (left == 0)
    same_test count whole left is within = grind (arith, nat_tests)

-- all of a row
pub PutsRow-all : (before now : Received) (old new : Buffered) (row rest : List Colour) → 1 ≤ length row
    → length rest ≡ 0 → PutsRow before now old new row rest → PutsOut before now old new (row_line row)
PutsRow-all before now old new [] rest some none puts = absurd (omega arith)
PutsRow-all before now old new (colour ∷ row) (first ∷ rest) some none puts = absurd (omega arith)
PutsRow-all before now old new (colour ∷ row) [] some none puts =
    subst (λ (text : List ℕ). PutsOut before now old new text) (sym (append-nil puts.told) ∙ puts.whole) puts.out

-- a place of another colour than the first is not the first
pub not_first : (row : List Colour) (other : Colour) (place : ℕ)
    → is_same_colour (get_or row 0 other) (get_or row place other) ≡ false → 1 ≤ place
not_first row other zero differs =
    let same = same_as_itself (get_or row 0 other) in let never : true ≡ false = sym same ∙ differs in absurd cc
not_first row other (suc place) differs = omega arith

-- black, as the colour that stands past a row's end
abbrev pub black : Colour
black = record { y = 0; cr = 0; cb = 0; t = 0 }

-- one more run: its text was put out, and what is left is the row behind it
pub PutsRow-step : (before now next : Received) (old mid new : Buffered) (row rest left : List Colour) (count : ℕ)
    (text : List ℕ) → PutsRow before now old mid row rest →
    1 ≤ length rest → count ≤ length rest
    → runs_of rest ≡ run_of count (get_or rest 0 clear) ∷ runs_of (drop count rest) →
    text ≡ run_piece (get_or rest 0 black) count (count == length rest) → PutsOut now next mid new text
    → left ≡ drop count rest → PutsRow before next old new row left
PutsRow-step before now next old mid new row rest left count text puts some within runs is_text out is_left =
    let first : get_or rest 0 black ≡ get_or rest 0 clear = get_or_default rest 0 black clear some in
    let piece = is_text ∙ ap (λ (colour : Colour). run_piece colour count (count == length rest)) first in
    subst (λ (end : List Colour). PutsRow before next old new row end) (sym is_left)
    (PutsRow-more before now next old mid new row rest count (count == length rest) puts some within runs refl
    (subst (λ (bytes : List ℕ). PutsOut now next mid new bytes) piece out))

-- numbers in order, and one more
range_more : (first n : ℕ) → range_with_len first (n + 1) ≡ range_with_len first n ++ (first + n) ∷ []
range_more first zero = let here : first ≡ first + 0 = omega arith in ap (λ (k : ℕ). k ∷ []) here
range_more first (suc n) =
    let more : suc n + 1 ≡ suc (n + 1) = omega arith in
    let at : first + 1 + n ≡ first + suc n = omega arith in
    ap (range_with_len first) more
    ∙ ap (λ (rest : List ℕ). first ∷ rest)
    (range_more (first + 1) n ∙ ap (λ (k : ℕ). range_with_len (first + 1) n ++ k ∷ []) at)

-- one more row of a plane
pub rows_more : (before now next : Received) (old mid new : Buffered) (width k : ℕ) (plane row : List Colour) →
    PutsOut before now old mid (flat_map (λ (y : ℕ). row_line (plane_row width plane y)) (range_with_len 0 k))
    → row ≡ plane_row width plane k → PutsOut now next mid new (row_line row) →
    PutsOut before next old new (flat_map (λ (y : ℕ). row_line (plane_row width plane y)) (range_with_len 0 (k + 1)))
rows_more before now next old mid new width k plane row sofar is_row out =
    let line : ℕ → List ℕ = λ y. row_line (plane_row width plane y) in
    let one : flat_map line (k ∷ []) ≡ line k = append-nil (line k) in
    let all : flat_map line (range_with_len 0 (k + 1)) ≡ flat_map line (range_with_len 0 k) ++ line k =
    ap (flat_map line)
    (range_more 0 k
    ∙ (let at : 0 + k ≡ k = omega arith in ap (λ (n : ℕ). range_with_len 0 k ++ n ∷ []) at))
    ∙ flat_map-append line (range_with_len 0 k) (k ∷ [])
    ∙ ap (λ (end : List ℕ). flat_map line (range_with_len 0 k) ++ end) one in
    subst (λ (text : List ℕ). PutsOut before next old new text) (sym all)
    (PutsOut-both before now next old mid new (flat_map line (range_with_len 0 k)) (line k) sofar
    (subst (λ (r : List Colour). PutsOut now next mid new (row_line r)) is_row out))

-- row k ends within the plane
pub row_within : (width height k size : ℕ) → k < height → size ≡ width * height → k * width + width ≤ size
row_within width height k size below is_size =
    let gap = height - (k + 1) in
    let split : k + 1 + gap ≡ height = omega arith in
    let whole : size ≡ width * (k + 1 + gap) = is_size ∙ ap (λ (n : ℕ). width * n) (sym split) in
    rw whole (grind arith)

-- a picture that shows something: its first line, and its rows
pub picture_shown : (before now next : Received) (old mid new : Buffered) (tick width height across down : ℕ)
    (plane : List Colour) (line : List ℕ) → is_clear plane ≡ false →
    line ≡ sides_line tick width height → PutsOut before now old mid line → across ≡ width
    → down ≡ height →
    PutsOut now next mid new (flat_map (λ (y : ℕ). row_line (plane_row across plane y)) (range_with_len 0 down)) →
    PutsOut before next old new (picture_text tick width height plane)
picture_shown before now next old mid new tick width height across down plane line shows is_line first is_width
    is_height rows =
    let text : ℕ → ℕ → List ℕ =
    λ w h. flat_map (λ (y : ℕ). row_line (plane_row w plane y)) (range_with_len 0 h) in
    let same : text across down ≡ text width height =
    ap (λ (w : ℕ). text w down) is_width ∙ ap (text width) is_height in
    rw shows
    (PutsOut-both before now next old mid new (sides_line tick width height) (text width height)
    (subst (λ (bytes : List ℕ). PutsOut before now old mid bytes) is_line first)
    (subst (λ (bytes : List ℕ). PutsOut now next mid new bytes) same rows))

-- a plane that shows something has columns
pub shown_is_wide : (width height : ℕ) (plane : List Colour) → length plane ≡ width * height
    → is_clear plane ≡ false → 1 ≤ width
shown_is_wide width height [] whole shows = absurd (let no : true ≡ false = shows in cc)
shown_is_wide zero height (colour ∷ plane) whole shows = absurd (omega arith)
shown_is_wide (suc width) height (colour ∷ plane) whole shows = omega arith
