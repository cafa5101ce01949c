-- A string that is painted into its row writes what its runs write.
use Rattle.std.proofs.Common.{◌≡◌, ◌∙◌, sym, ap, subst, inl, inr, ℕ, ◌+◌, ◌*◌, ◌<◌, List, Option}
use Rattle.std.specs.Prelude.{unwrap_or}
use Rattle.std.proofs.lemmas.Bool.{cases_eq}
use Rattle.stream_syntax.specs.PixelCodes.{Code}
use Rattle.stream_syntax.specs.PixelBlocks.{Part, line_after, runs_from}
use Rattle.stream_syntax.specs.declared.region.Listing.{Listing}
use Rattle.decoder_model.specs.Pixels.{code_by_field}
use Rattle.pixel_store.specs.Regions.{StoredRegion, Regions, KeepsOthers, IsStringPainted, region_at, code_of}
use Rattle.string_painting.specs.Painting.{laid_over, pixels_of_codes, IsInForce}
use Rattle.string_painting.specs.declared.drawing.Brush.{Brush}
use Rattle.string_painting.proofs.Written.{codes_laid, codes_elsewhere}
use Rattle.block_painting.specs.Writing.{IsWritten}

module _ (brush : Brush) (table : List ℕ) (before : List Part) (in_force : IsInForce brush table before)
    (listing : Listing) (first_row column : ℕ) (codes : List Code) where
  -- the row of the string's line
  abbrev line : ℕ
  line = listing.y + 2 * line_after before + first_row

  abbrev code_by : ℕ → ℕ → Option ℕ
  code_by x y =
      code_by_field brush.see_through listing first_row x y (runs_from brush.region brush.string before column codes)

  string_codes : (old new : StoredRegion)
      → IsStringPainted (listing.x + column) line (laid_over brush table) (pixels_of_codes brush.string codes) old new
      → (x y : ℕ) → x < old.width → y < old.height → code_of new x y ≡ unwrap_or (code_by x y) (code_of old x y)
  string_codes old new painted x y narrow low = elim (cases_eq y line) [
    | inl e ↦
        subst (λ (row : ℕ). code_of new x row ≡ unwrap_or (code_by x row) (code_of old x row)) (sym e)
        (painted.here x narrow (subst (λ (row : ℕ). row < old.height) e low)
        ∙ codes_laid brush table before in_force listing first_row column codes x (code_of old x line))
    | inr ne ↦ painted.elsewhere x y narrow low ne
        ∙ ap (λ (found : Option ℕ). unwrap_or found (code_of old x y))
        (sym (codes_elsewhere brush before listing first_row column codes x y ne))
  ]

  pub string_written : (slot left row : ℕ) (old new : Regions) → left ≡ listing.x + column → row ≡ line
      → KeepsOthers slot old new
      → IsStringPainted left row (laid_over brush table) (pixels_of_codes brush.string codes) (region_at old slot)
      (region_at new slot) → IsWritten slot code_by old new
  string_written slot left row old new left_is row_is others painted =
      let from : IsStringPainted (listing.x + column) row (laid_over brush table) (pixels_of_codes brush.string codes)
      (region_at old slot) (region_at new slot) =
      subst (λ (n : ℕ). IsStringPainted n row (laid_over brush table) (pixels_of_codes brush.string codes)
      (region_at old slot) (region_at new slot)) left_is painted in
      let at : IsStringPainted (listing.x + column) line (laid_over brush table) (pixels_of_codes brush.string codes)
      (region_at old slot) (region_at new slot) =
      subst (λ (n : ℕ). IsStringPainted (listing.x + column) n (laid_over brush table)
      (pixels_of_codes brush.string codes) (region_at old slot) (region_at new slot)) row_is from in
      record { others = others; codes = string_codes (region_at old slot) (region_at new slot) at }
