-- The field blocks that a writer gives a picture, as the sub-blocks of an object that draws it.
use Rattle.std.proofs.Common.{◌≡◌, ◌≢◌, ℕ, List, [], ◌∷◌, length, ◌⊎◌, inl, inr, refl, ap, subst, arith, length-append}
use Rattle.sub_base.specs.Picture.{Picture, top_field, bottom_field}
use Rattle.sub_base.specs.declared.depth.Depth.{Depth}
use Rattle.stream_syntax.specs.FieldBlocks.{identity_table, IsFieldBlock, AreFieldBlocks, DrawsRows, IsDrawnAs}
use Rattle.stream_syntax.specs.PixelBlocks.{Part, IsNoDeeper, AreParts, runs_after}
use Rattle.stream_syntax.specs.declared.pixel_run.Run.{Run}
use Rattle.decoder_model.specs.Pixels.{bottom_parts}
use Rattle.decoder_model.proofs.DrawnPictures.{FieldsDraw}
use Rattle.picture_fields.proofs.Drawing.{field_drawn}
use Rattle.picture_fields.proofs.FieldLaws.{same_fields}

-- the sub-blocks of two blocks, and that they draw a picture
pub record ObjectDraws (picture : Picture) (region : Depth) (top bottom : List ℕ) : Type 0 where
  pub top_parts : List Part
  pub bottom_has : List Part
  pub top_whole : AreParts region top_parts top
  pub bottom_whole : AreParts region bottom_has bottom
  pub draws : FieldsDraw region top_parts bottom_has picture

-- ---- whether the two fields are the same

same_number : (a b : ℕ) → (a ≡ b) ⊎ (a ≢ b)
same_number a b = grind arith

same_row : (xs ys : List ℕ) → (xs ≡ ys) ⊎ (xs ≢ ys)
same_row [] [] = inl refl
same_row [] (y ∷ ys) = inr (λ e. omega (arith, ap length e))
same_row (x ∷ xs) [] = inr (λ e. omega (arith, ap length e))
same_row (x ∷ xs) (y ∷ ys) = by (same_number x y) (same_row xs ys)
  where
    by : (x ≡ y) ⊎ (x ≢ y) → (xs ≡ ys) ⊎ (xs ≢ ys) → (x ∷ xs ≡ y ∷ ys) ⊎ (x ∷ xs ≢ y ∷ ys)
    by (inl first) (inl rest) = inl (cc)
    by (inl first) (inr rest) = inr (λ e. rest (cc))
    by (inr first) rest = inr (λ e. first (cc))

same_rows : (xs ys : List (List ℕ)) → (xs ≡ ys) ⊎ (xs ≢ ys)
same_rows [] [] = inl refl
same_rows [] (y ∷ ys) = inr (λ e. omega (arith, ap length e))
same_rows (x ∷ xs) [] = inr (λ e. omega (arith, ap length e))
same_rows (x ∷ xs) (y ∷ ys) = by (same_row x y) (same_rows xs ys)
  where
    by : (x ≡ y) ⊎ (x ≢ y) → (xs ≡ ys) ⊎ (xs ≢ ys) → (x ∷ xs ≡ y ∷ ys) ⊎ (x ∷ xs ≢ y ∷ ys)
    by (inl first) (inl rest) = inl (cc)
    by (inl first) (inr rest) = inr (λ e. rest (cc))
    by (inr first) rest = inr (λ e. first (cc))

-- ---- the two blocks

-- the block of a field has bytes
some_bytes : (depth region : Depth) (rows : List (List ℕ)) → IsFieldBlock depth region rows [] → ⊥
some_bytes depth region [] b = omega (arith, ap length b)
some_bytes depth region (row ∷ rows) b =
    let text = ap length b.2 in
    let front = ap length b.1.2 in
    let string = ap length b.1.3.2 in
    omega (arith, text, length-append (identity_table depth region) b.0, front, length-append b.1.0 b.1.1, string)

drawn_rows : (region : Depth) (bytes : List ℕ) (rows : List (List ℕ)) (drawn : IsDrawnAs region bytes rows)
    → DrawsRows 0 (runs_after region [] drawn.block.parts) rows
drawn_rows region bytes rows drawn = subst (λ (runs : List Run). DrawsRows 0 runs rows) drawn.block.drawn drawn.drawn

own_bottom : (region : Depth) (top parts : List Part) (byte : ℕ) (bytes : List ℕ) (rows : List (List ℕ))
    → AreParts region parts (byte ∷ bytes) → DrawsRows 0 (runs_after region [] parts) rows
    → DrawsRows 0 (runs_after region [] (bottom_parts top parts)) rows
own_bottom region top [] byte bytes rows whole drawn = absurd (omega (arith, ap length whole))
own_bottom region top (part ∷ parts) byte bytes rows whole drawn = drawn

pub object_draws : (picture : Picture) (region : Depth) (top bottom : List ℕ) → IsNoDeeper picture.depth region
    → AreFieldBlocks picture region top bottom → ObjectDraws picture region top bottom
object_draws picture region top [] shallow blocks = by (same_rows (top_field picture) (bottom_field picture))
  where
    drawn : IsDrawnAs region top (top_field picture)
    drawn = field_drawn picture.depth region (top_field picture) top shallow blocks.top_block

    by : (top_field picture ≡ bottom_field picture) ⊎ (top_field picture ≢ bottom_field picture)
        → ObjectDraws picture region top []
    by (inl same) = record {
      top_parts = drawn.block.parts;
      bottom_has = [];
      top_whole = drawn.block.whole;
      bottom_whole = refl;
      draws = record {
        top_rows = drawn_rows region top (top_field picture) drawn;
        bottom_rows =
            subst (λ (rows : List (List ℕ)). DrawsRows 0 (runs_after region [] drawn.block.parts) rows) same
            (drawn_rows region top (top_field picture) drawn);
      };
    }
    by (inr other) =
        absurd (some_bytes picture.depth region (bottom_field picture)
        (blocks.own (λ e. other (same_fields picture e))))
object_draws picture region top (byte ∷ bottom) shallow blocks = record {
  top_parts = drawn.block.parts;
  bottom_has = below.block.parts;
  top_whole = drawn.block.whole;
  bottom_whole = below.block.whole;
  draws = record {
    top_rows = drawn_rows region top (top_field picture) drawn;
    bottom_rows =
        own_bottom region drawn.block.parts below.block.parts byte bottom (bottom_field picture) below.block.whole
        (drawn_rows region (byte ∷ bottom) (bottom_field picture) below);
  };
}
  where
    drawn : IsDrawnAs region top (top_field picture)
    drawn = field_drawn picture.depth region (top_field picture) top shallow blocks.top_block

    below : IsDrawnAs region (byte ∷ bottom) (bottom_field picture)
    below =
        field_drawn picture.depth region (bottom_field picture) (byte ∷ bottom) shallow
        (blocks.own (λ e. omega (arith, ap length (blocks.shared e))))
