-- Each picture has blocks of its fields.
use Rattle.std.proofs.Common.{◌≡◌, ◌∙◌, refl, sym, subst, ℕ, zero, suc, ◌+◌, ◌*◌, ◌/◌, ◌%◌, ◌<◌, ◌≤◌, ◌&&◌, ◌⊎◌, inl, inr, nat_lt, Bool, true, false, List, [], ◌∷◌, ◌++◌, All, arith}
use Rattle.std.specs.Str.{bytes_eq}
use Rattle.std.proofs.lemmas.Bool.{cases_lt}
use Rattle.std.proofs.lemmas.Bool.Decides.{nat_tests}
use Rattle.std.proofs.lemmas.List.Elements.{All-head, All-tail}
use Rattle.std.proofs.lemmas.Slice.Eq.{bytes_eq-Decides}
use Rattle.sub_base.specs.Depth.{code_count}
use Rattle.sub_base.specs.Picture.{HasEqualFields, IsPicture, Picture, bottom_field, every_second_row, row_of, top_field}
use Rattle.sub_base.proofs.PictureLaws.{All-every_second_row}
use Rattle.sub_base.specs.declared.depth.Depth.{Depth}
use Rattle.sub_base.specs.declared.depth.Depth.TheVariants.{Two, Four, Eight}
use Rattle.stream_syntax.specs.FieldBlocks.{AreFieldBlocks, AreRowBlocks, IsFieldBlock, identity_table}
use Rattle.stream_syntax.specs.PixelBlocks.{line_end_type, string_type}
use Rattle.script_stream.proofs.SomeRows.{AreBytes, bytes-append, bytes-cons, some_string}

-- ---- bytes

no_bytes : AreBytes []
no_bytes i = omega arith

line_end_bytes : AreBytes (line_end_type ∷ [])
line_end_bytes = bytes-cons line_end_type [] (omega arith) no_bytes

string_type-byte : (depth : Depth) → string_type depth < 256
string_type-byte Two = omega arith
string_type-byte Four = omega arith
string_type-byte Eight = omega arith

-- each is below 256, as a test
abbrev are_bytes : List ℕ → Bool
are_bytes [] = true
are_bytes (byte ∷ bytes) = nat_lt byte 256 && are_bytes bytes

tested_bytes : (bytes : List ℕ) → are_bytes bytes ≡ true → AreBytes bytes
tested_bytes [] test = no_bytes
tested_bytes (byte ∷ bytes) test = by (nat_lt byte 256) refl test (tested_bytes bytes)
  where
    by : (b : Bool) → nat_lt byte 256 ≡ b → (b && are_bytes bytes) ≡ true
        → (are_bytes bytes ≡ true → AreBytes bytes) → AreBytes (byte ∷ bytes)
    by true low test rest = bytes-cons byte bytes (grind (arith, nat_tests)) (rest test)
    by false low test rest = cc

table_bytes : (depth region : Depth) → AreBytes (identity_table depth region)
table_bytes Two Two = no_bytes
table_bytes Two Four = tested_bytes (identity_table Two Four) refl
table_bytes Two Eight = tested_bytes (identity_table Two Eight) refl
table_bytes Four Two = no_bytes
table_bytes Four Four = no_bytes
table_bytes Four Eight = tested_bytes (identity_table Four Eight) refl
table_bytes Eight Two = no_bytes
table_bytes Eight Four = no_bytes
table_bytes Eight Eight = no_bytes

-- ---- the block of a field

-- rows of codes of a depth
abbrev AreCodes : Depth → List (List ℕ) → Type 0
AreCodes depth rows = All (λ row. All (λ code. code < code_count depth) row) rows

row_blocks : (depth : Depth) (rows : List (List ℕ)) → AreCodes depth rows
    → (bytes : List ℕ) × AreRowBlocks depth rows bytes × AreBytes bytes
row_blocks depth [] each = ([], refl, no_bytes)
row_blocks depth (row ∷ rows) each =
    let IsOne : List ℕ → Type 0 = λ row. All (λ code. code < code_count depth) row in
    let text = some_string depth row (All-head IsOne row rows each) in
    let front = string_type depth ∷ (text.0 ++ line_end_type ∷ []) in
    let rest = row_blocks depth rows (All-tail IsOne row rows each) in (
      front ++ rest.0,
      (front, rest.0, refl, (text.0, text.1, refl), rest.1),
      bytes-append front rest.0
          (bytes-cons (string_type depth) (text.0 ++ line_end_type ∷ []) (string_type-byte depth)
          (bytes-append text.0 (line_end_type ∷ []) text.2 line_end_bytes)) rest.2,
    )

field_block : (depth region : Depth) (rows : List (List ℕ)) → AreCodes depth rows
    → (bytes : List ℕ) × IsFieldBlock depth region rows bytes × AreBytes bytes
field_block depth region [] each = (line_end_type ∷ [], refl, line_end_bytes)
field_block depth region (row ∷ rows) each =
    let text = row_blocks depth (row ∷ rows) each in
    let table = identity_table depth region in
    (table ++ text.0, (text.0, text.1, refl), bytes-append table text.0 (table_bytes depth region) text.2)

-- ---- whether the fields are equal

-- something holds below a number, or does not
all_below : (P : ℕ → Type 0) (n : ℕ) → ((k : ℕ) → P k ⊎ (P k → ⊥))
    → ((k : ℕ) → k < n → P k) ⊎ (((k : ℕ) → k < n → P k) → ⊥)
all_below P zero test = inl (λ k low. absurd (omega (arith, low)))
all_below P (suc n) test = by (test n) (all_below P n test)
  where
    last : P n → ((k : ℕ) → k < n → P k) → (k : ℕ) → k < suc n → P k
    last here each k low = elim (cases_lt k n) [
      | inl below ↦ each k below
      | inr above ↦ subst P (let same : n ≡ k = omega (arith, low, above) in same) here
    ]

    by : P n ⊎ (P n → ⊥) → ((k : ℕ) → k < n → P k) ⊎ (((k : ℕ) → k < n → P k) → ⊥)
        → ((k : ℕ) → k < suc n → P k) ⊎ (((k : ℕ) → k < suc n → P k) → ⊥)
    by (inl here) (inl each) = inl (last here each)
    by (inl here) (inr other) = inr (λ each. other (λ k low. each k (omega (arith, low))))
    by (inr other) rest = inr (λ each. other (each n (omega arith)))

same_rows : (row other : List ℕ) → (row ≡ other) ⊎ (row ≡ other → ⊥)
same_rows row other = by (bytes_eq row other) refl
  where
    by : (b : Bool) → bytes_eq row other ≡ b → (row ≡ other) ⊎ (row ≡ other → ⊥)
    by true e = inl ((bytes_eq-Decides row other).0 e)
    by false e =
        inr (λ same. let bad : true ≡ false = sym ((bytes_eq-Decides row other).1 same) ∙ e in cc)

equal_fields : (picture : Picture) → HasEqualFields picture ⊎ (HasEqualFields picture → ⊥)
equal_fields picture =
    by (cases_lt 0 (picture.height % 2))
    (all_below (λ k. row_of picture (2 * k) ≡ row_of picture (2 * k + 1)) (picture.height / 2)
    (λ k. same_rows (row_of picture (2 * k)) (row_of picture (2 * k + 1))))
  where
    AreSame : Type 0
    AreSame = (k : ℕ) → k < picture.height / 2 → row_of picture (2 * k) ≡ row_of picture (2 * k + 1)

    by : (0 < picture.height % 2) ⊎ (picture.height % 2 ≤ 0) → AreSame ⊎ (AreSame → ⊥)
        → HasEqualFields picture ⊎ (HasEqualFields picture → ⊥)
    by (inl odd) rows = inr (λ equal. omega (arith, odd, equal.even))
    by (inr even) (inl same) =
        inl (record { even = omega (arith, even); same = λ k low. same k (omega (arith, low)) })
    by (inr even) (inr other) = inr (λ equal. other (λ k low. equal.same k (omega (arith, low))))

-- ---- both blocks

field_rows : (picture : Picture) → IsPicture picture → (first : ℕ)
    → AreCodes picture.depth (every_second_row picture first)
field_rows picture is first k d low = (All-every_second_row picture is first k d low).each

-- each picture has blocks of its fields
pub some_blocks : (picture : Picture) (region : Depth) → IsPicture picture
    → (top : List ℕ) × (bottom : List ℕ) × AreFieldBlocks picture region top bottom × AreBytes top × AreBytes bottom
some_blocks picture region is =
    by (equal_fields picture) (field_block picture.depth region (top_field picture) (field_rows picture is 0))
    (field_block picture.depth region (bottom_field picture) (field_rows picture is 1))
  where
    Block : List (List ℕ) → Type 0
    Block rows = (bytes : List ℕ) × IsFieldBlock picture.depth region rows bytes × AreBytes bytes

    by : HasEqualFields picture ⊎ (HasEqualFields picture → ⊥) → Block (top_field picture)
        → Block (bottom_field picture)
        → (top : List ℕ) × (bottom : List ℕ) × AreFieldBlocks picture region top bottom × AreBytes top
        × AreBytes bottom
    by (inl equal) top bottom = (
      top.0,
      [],
      record { top_block = top.1; shared = λ _. refl; own = λ apart. absurd (apart equal) },
      top.2,
      no_bytes,
    )
    by (inr apart) top bottom = (
      top.0,
      bottom.0,
      record { top_block = top.1; shared = λ equal. absurd (apart equal); own = λ _. bottom.1 },
      top.2,
      bottom.2,
    )
