-- Bands of whole rows.
use Rattle.std.proofs.Common.{◌≡◌, ℕ, zero, min, suc, add-one, ◌+◌, ◌-◌, ◌*◌, ◌/◌, ◌<◌, ◌≤◌, ◌^◌, inl, inr, List, ◌++◌, length, length-drop, take, drop, get_or, slice_index_or, refl, sym, ap, subst, ◌∙◌, arith}
use Rattle.std.proofs.Math.Nat.{mul_assoc, mul-sub, lt_of_mul-lt-mul_left, mul-lt-mul_of_pos_left, le-mul_of_pos_right, mul-div_cancel, suc-mul, add-mul, mul_comm, mul-le-mul_left}
use Rattle.std.proofs.Math.ListN.{get_or-append}
use Rattle.std.proofs.lemmas.Nat.{div-add-mod'}
use Rattle.std.proofs.lemmas.Grind.{div_ceil_times}
use Rattle.std.proofs.lemmas.Bool.{cases_lt}
use Rattle.std.proofs.lemmas.List.{ext_get_or, get_or-take, get_or-append_right, length-take-le}
use Rattle.std.proofs.lemmas.Slice.{take-put_mid}
use Rattle.std.specs.Int.{div_ceil}
use Rattle.std.specs.Fork.{IsChunk}
use borrow.Rule.Slice.PartMut.{put_mid}
use Rattle.sub_base.specs.Colour.{clear}
use Rattle.sub_base.specs.declared.colour.Colour.{Colour}
use Rattle.page_core.specs.Memory.{Memory}
use Rattle.page_core.specs.Rows.{picture_in, row_in}
use Rattle.band_draw.proofs.Pictures.{row_stands}
use Rattle.band_draw.specs.Bands.{IsBand}

-- the number of the first row of a band
pub first_row : (memory : Memory) (start size width : ℕ) → IsBand memory start size
    → width ≡ memory.display.width → 0 < width → (band : IsBand memory start size)
    → start / width ≡ band.first
first_row memory start size width given is some band =
    ap (λ n. n / width) (band.begins ∙ ap (λ w. band.first * w) (sym is)) ∙ mul-div_cancel band.first some

-- how many rows a band has
pub row_count : (memory : Memory) (start size width : ℕ) (band : IsBand memory start size)
    → width ≡ memory.display.width → 0 < width → size / width ≡ band.rows
row_count memory start size width band is some =
    ap (λ n. n / width) (band.is_whole ∙ ap (λ w. band.rows * w) (sym is)) ∙ mul-div_cancel band.rows some

-- one more row of a band
pub row_more : (memory : Memory) (start size width i : ℕ) (band : IsBand memory start size) (part row : List Colour)
    → width ≡ memory.display.width → 0 < width → length part ≡ size → i < size / width
    → length row ≡ length (take ((i + 1) * width - i * width) (drop (i * width) part))
    → row ≡ row_in memory (start / width + i)
    → ((k : ℕ) → k < i * width
    → slice_index_or part k clear ≡ slice_index_or (picture_in memory) (start + k) clear)
    → (k : ℕ) → k < (i + 1) * width
    → slice_index_or (put_mid (i * width) ((i + 1) * width - i * width) part row) k clear
    ≡ slice_index_or (picture_in memory) (start + k) clear
row_more memory start size width i band part row is some whole low given drawn before k inside =
    let stands : (x : ℕ) → x < memory.display.width
    → get_or row x clear ≡ get_or (picture_in memory) ((start / width + i) * memory.display.width + x) clear =
    λ x within. ap (λ xs. get_or xs x clear) drawn
    ∙ row_stands memory (start / width + i)
    (let end = band.inside in omega (
      arith,
      end,
      low,
      first_row memory start size width band is some band,
      row_count memory start size width band is
          some,
    )) x within in
    let rows = row_count memory start size width band is some in
    let first = first_row memory start size width band is some band in
    let next : (i + 1) * width ≡ i * width + width = ap (λ n. n * width) (add-one i) ∙ suc-mul i width in
    let more_rows : width * suc i ≤ width * band.rows = mul-le-mul_left width (omega arith) in
    let size_is : size ≡ width * band.rows =
    band.is_whole ∙ ap (λ w. band.rows * w) (sym is) ∙ mul_comm band.rows width in
    let room : i * width + width ≤ length part = omega (arith, mul_comm width (suc i), suc-mul i width) in
    let long : length row ≡ width =
    given ∙ length-take-le ((i + 1) * width - i * width) (drop (i * width) part)
    (omega (arith, length-drop (i * width) part)) ∙ omega arith in
    let taken : take ((i + 1) * width) (put_mid (i * width) ((i + 1) * width - i * width) part row)
    ≡ take (i * width) part
    ++ row = take-put_mid (i * width) ((i + 1) * width - i * width) part row ((i + 1) * width) (omega arith)
    (omega arith) in
    let whole_row : length (take (i * width) part) ≡ i * width = length-take-le (i * width) part (omega arith) in
    let place : (y k : ℕ) → y ≡ band.first → i * width ≤ k
    → (y + i) * memory.display.width + (k - i * width)
    ≡ start + k = λ y k same more. omega (
      arith,
      add-mul y i memory.display.width,
      ap (λ n. n * memory.display.width) same,
      ap (λ w. i * w)
          is,
      band.begins,
    ) in
    sym (get_or-take ((i + 1) * width) (put_mid (i * width) ((i + 1) * width - i * width) part row) k clear inside)
    ∙ ap (λ xs. get_or xs k clear) taken
    ∙ elim (cases_lt k (i * width)) [
      | inl less ↦ get_or-append (take (i * width) part) row clear k (omega arith)
          ∙ get_or-take (i * width) part k clear less ∙ before k less
      | inr more ↦ get_or-append_right (take (i * width) part) row (i * width) k clear whole_row more
          ∙ stands (k - i * width) (omega arith)
          ∙ ap (λ n. get_or (picture_in memory) n clear) (place (start / width) k first more)
    ]

-- all rows of a band are all of it
pub all_rows : (memory : Memory) (start size width i k : ℕ) (band : IsBand memory start size)
    → width ≡ memory.display.width → 0 < width → size / width ≤ i → k < size → k < i * width
all_rows memory start size width i k band is some done low =
    let rows = row_count memory start size width band is some in
    let size_is : size ≡ width * band.rows =
    band.is_whole ∙ ap (λ w. band.rows * w) (sym is) ∙ mul_comm band.rows width in
    let all : width * band.rows ≤ width * i = mul-le-mul_left width (omega arith) in
    omega (arith, mul_comm width i)

-- ---- the chunks of a plane

least_times : (a b w : ℕ) → min (a * w) (b * w) ≡ min a b * w
least_times a b w =
    elim (cases_lt a b) [
      | inl less ↦
          (let more : w * a ≤ w * b = mul-le-mul_left w (omega arith) in let e : min a b
          ≡ a = omega arith in omega (arith, ap (λ n. n * w) e, mul_comm w a, mul_comm w b))
      | inr more ↦
          (let less : w * b ≤ w * a = mul-le-mul_left w (omega arith) in let e : min a b
          ≡ b = omega arith in omega (arith, ap (λ n. n * w) e, mul_comm w a, mul_comm w b))
    ]

-- a chunk begins with a row of the picture
chunk_begins : (memory : Memory) (plane part : List Colour) (rows size start : ℕ)
    → size ≡ rows * memory.display.width → IsChunk plane size start part
    → start ≡ start / size * rows * memory.display.width
chunk_begins memory plane part rows size start is chunk =
    let q = start / size in
    omega (
      arith,
      div-add-mod' start size,
      chunk.start_is_multiple,
      ap (λ s. q * s) is,
      mul_assoc q rows
          memory.display.width,
    )

chunk_inside : (memory : Memory) (plane part : List Colour) (size start first : ℕ)
    → length plane ≡ memory.display.width * memory.display.height → start ≡ first * memory.display.width
    → IsChunk plane size start part → first < memory.display.height
chunk_inside memory plane part size start first whole begins chunk =
    let some = chunk.nonempty in
    let inside = chunk.in_bounds in
    lt_of_mul-lt-mul_left memory.display.width (omega (arith, mul_comm first memory.display.width))

-- a chunk of the plane, cut by whole rows, is whole rows of the picture
pub chunk_is_band : (memory : Memory) (plane part : List Colour) (rows size start : ℕ)
    → length plane ≡ memory.display.width * memory.display.height → size ≡ rows * memory.display.width
    → IsChunk plane size start part
    → IsBand memory start (length part)
chunk_is_band memory plane part rows size start whole is chunk =
    let first : ℕ = start / size * rows in
    let begins : start ≡ first * memory.display.width = chunk_begins memory plane part rows size start is chunk in
    let low = chunk_inside memory plane part size start first whole begins chunk in
    let left : length plane - start ≡ (memory.display.height - first) * memory.display.width =
    omega (
      arith,
      mul-sub memory.display.width memory.display.height first,
      mul_comm memory.display.width
          (memory.display.height - first),
      mul_comm memory.display.width first,
    ) in
    record {
      first = first;
      rows = min rows (memory.display.height - first);
      begins = begins;
      is_whole =
          chunk.len ∙ ap (λ n. min n (length plane - start)) is ∙ ap (min (rows * memory.display.width)) left
          ∙ least_times rows (memory.display.height - first) memory.display.width;
      inside = omega arith;
    }

pub chunk_is_few : (memory : Memory) (plane part : List Colour) (rows size start : ℕ)
    → length plane ≡ memory.display.width * memory.display.height → memory.display.height < 2 ^ 32
    → size ≡ rows * memory.display.width → 0 < size → 0 < rows → IsChunk plane size start part
    → start < 2 ^ 32 * size
chunk_is_few memory plane part rows size start whole high is some any chunk =
    let q : ℕ = start / size in
    let low =
    chunk_inside memory plane part size start (q * rows) whole
    (chunk_begins memory plane part rows size start is chunk) chunk in
    let up : q * 1 ≤ q * rows = mul-le-mul_left q any in
    let few : size * q < size * 2 ^ 32 = mul-lt-mul_of_pos_left (omega arith) some in
    omega (arith, div-add-mod' start size, chunk.start_is_multiple, mul_comm q size)

-- a plane that is not empty has rows in its first band
pub some_rows : (memory : Memory) (plane : List Colour) (bands : ℕ)
    → length plane ≡ memory.display.width * memory.display.height → 0 < length plane → 0 < bands
    → 0 < div_ceil memory.display.height bands
some_rows memory plane bands whole some any =
    by_rows (div_ceil memory.display.height bands) (div_ceil_times memory.display.height bands any).0
  where
    by_rows : (rows : ℕ) → memory.display.height ≤ rows * bands → 0 < rows
    by_rows zero low =
        absurd (let none : memory.display.height
        ≡ 0 = omega arith in omega (arith, ap (λ h. memory.display.width * h) none))
    by_rows (suc rows) low = omega arith

pub some_size : (memory : Memory) (plane : List Colour) (rows : ℕ)
    → length plane ≡ memory.display.width * memory.display.height → 0 < length plane → 0 < rows
    → 0 < rows * memory.display.width
some_size memory plane rows whole some any = by_width memory.display.width (whole ∙ refl)
  where
    by_width : (width : ℕ) → length plane ≡ width * memory.display.height → 0 < rows * width
    by_width zero is = absurd (omega arith)
    by_width (suc width) is =
        let more : rows ≤ rows * suc width = le-mul_of_pos_right rows (omega arith) in omega arith

-- no place, no colour
pub nothing_to_draw : (memory : Memory) (plane : List Colour)
    → length plane ≡ memory.display.width * memory.display.height
    → length (picture_in memory) ≡ memory.display.width * memory.display.height → length plane ≡ 0
    → plane ≡ picture_in memory
nothing_to_draw memory plane whole all none =
    ext_get_or clear plane (picture_in memory) (omega arith) (λ i low. absurd (omega arith))

-- the rows and places of the first band of a plane that is not empty
pub geometry : (memory : Memory) (plane : List Colour) (bands height width rows : ℕ)
    → length plane ≡ memory.display.width * memory.display.height → 0 < length plane → 0 < bands
    → height ≡ memory.display.height → width ≡ memory.display.width → rows ≡ div_ceil height bands
    → (0 < rows) × (0 < rows * width) × (rows * width ≡ rows * memory.display.width)
geometry memory plane bands height width rows whole some any high wide is =
    let any_rows : 0 < rows =
    subst (λ (n : ℕ). 0 < n) (sym (is ∙ ap (λ h. div_ceil h bands) high))
    (some_rows memory plane bands whole some any) in
    let same : rows * width ≡ rows * memory.display.width = ap (λ w. rows * w) wide in
    (any_rows, subst (λ (n : ℕ). 0 < n) (sym same) (some_size memory plane rows whole some any_rows), same)
