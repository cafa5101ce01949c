-- The rows of a picture stand one after another.
use Rattle.std.proofs.Common.{◌≡◌, ◌∙◌, ℕ, zero, suc, ◌+◌, ◌*◌, ◌<◌, ◌≤◌, List, ◌++◌, length, flat_map, get_or, length-append, sym, ap, arith}
use Rattle.std.proofs.Math.ListN.{get_or-append}
use Rattle.std.proofs.Math.Nat.{suc-mul, mul_comm}
use Rattle.std.proofs.lemmas.List.{get_or-append-add, length-map}
use Rattle.std.proofs.lemmas.List.FromFn.{length-range_with_len}
use Rattle.std.specs.List.{range_with_len}
use Rattle.sub_base.specs.Colour.{clear}
use Rattle.page_core.specs.Memory.{Memory}
use Rattle.page_core.specs.Rows.{colour_at, picture_in, row_in}

-- what stands for each of n numbers from a on has that length
abbrev pub HaveLength : {A : Type 0} → (ℕ → List A) → ℕ → ℕ → ℕ → Type 0
HaveLength f w a n = (k : ℕ) → a ≤ k → k < a + n → length (f k) ≡ w

all_length : {A : Type 0} (f : ℕ → List A) (w a n : ℕ) → HaveLength f w a n
    → length (flat_map f (range_with_len a n)) ≡ n * w
all_length f w a zero each = omega arith
all_length f w a (suc n) each =
    length-append (f a) (flat_map f (range_with_len (a + 1) n))
    ∙ (let one = each a (omega arith) (omega arith) in
    let rest = all_length f w (a + 1) n (λ k low high. each k (omega arith) (omega arith)) in
    omega (arith, suc-mul n w))

place_of : {A : Type 0} (f : ℕ → List A) (w : ℕ) (d : A) (a n i j at : ℕ) → a + i ≡ at
    → HaveLength f w a n → i < n → j < w
    → get_or (flat_map f (range_with_len a n)) (i * w + j) d ≡ get_or (f at) j d
place_of f w d a zero i j at is each low small = absurd (omega arith)
place_of f w d a (suc n) zero j at is each low small =
    let one = each a (omega arith) (omega arith) in
    ap (λ k. get_or (f a ++ flat_map f (range_with_len (a + 1) n)) k d) (omega arith)
    ∙ get_or-append (f a) (flat_map f (range_with_len (a + 1) n)) d j (omega arith)
    ∙ ap (λ k. get_or (f k) j d) (omega arith)
place_of f w d a (suc n) (suc i) j at is each low small =
    let one = each a (omega arith) (omega arith) in
    let rest =
    place_of f w d (a + 1) n i j (a + suc i) (omega arith) (λ k low high. each k (omega arith) (omega arith))
    (omega arith) small in
    let place : suc i * w + j ≡ length (f a) + (i * w + j) = omega (arith, suc-mul i w) in
    ap (λ k. get_or (f a ++ flat_map f (range_with_len (a + 1) n)) k d) place
    ∙ get_or-append-add (f a) (flat_map f (range_with_len (a + 1) n)) (i * w + j) d
    ∙ rest
    ∙ ap (λ k. get_or (f k) j d) (omega arith)

row_length : (memory : Memory) (y : ℕ) → length (row_in memory y) ≡ memory.display.width
unfolding row_in
row_length memory y =
    length-map (range_with_len 0 memory.display.width) (λ x. colour_at memory x y)
    ∙ length-range_with_len 0 memory.display.width

-- the picture has a colour for each place
pub picture_length : (memory : Memory) → length (picture_in memory) ≡ memory.display.width * memory.display.height
picture_length memory =
    all_length (row_in memory) memory.display.width 0 memory.display.height (λ k low high. row_length memory k)
    ∙ mul_comm memory.display.height memory.display.width

-- each row of it stands at its place
pub row_stands : (memory : Memory) (y : ℕ) → y < memory.display.height → (x : ℕ) → x < memory.display.width
    → get_or (row_in memory y) x clear ≡ get_or (picture_in memory) (y * memory.display.width + x) clear
row_stands memory y low x inside =
    sym (place_of (row_in memory) memory.display.width clear 0 memory.display.height y x y (omega arith)
    (λ k from to. row_length memory k) low inside)
