-- What looking back finds with one more record.
use Rattle.std.proofs.Common.{◌≡◌, ◌∙◌, refl, sym, ap, ℕ, ◌+◌, true, false, List, [], ◌∷◌, ◌++◌, length, find, Option, Some, None, is_some, option_map, sum_by, arith}
use Rattle.std.proofs.lemmas.List.Sums.{sum_by-append}
use Rattle.bitmap_font.specs.Font.{FontValue}
use Rattle.cue_records.specs.declared.region.Region.{Region}
use Rattle.cue_records.specs.declared.row_values.PictureHead.{PictureHead}
use Rattle.cue_records.specs.declared.row_kind.RowKind.{RowKind}
use Rattle.cue_records.specs.declared.row_kind.RowKind.TheVariants as kinds
use Rattle.cue_records.specs.RowValues.{area, region_in, colour_in, head_in}
use Rattle.cue_list.specs.Past.{with_last, head_by, cue_by, looking_back, last_epoch, epoch_of, regions_in, heads_in, codes_in, place_named}
use Rattle.cue_records.specs.Records.{Record, is}
use Rattle.cue_list.specs.RowFaults.{regions_of}
use Rattle.cue_records.specs.Rows.{Row}
use Rattle.cue_list.specs.Private.State.{next_with, with_region, with_colour, with_cue, area_of}

abbrev pub row_with : RowKind → ℕ → Row → Record
row_with kind number cells = record { number = number; kind = kind; cells = cells }

-- the regions of the last epoch, where there is one
pub regions-last : (font : FontValue) (earlier : List Record) → is_some (last_epoch font earlier) ≡ true
    → regions_of (last_epoch font earlier) ≡ regions_in earlier
regions-last font earlier some = of (find (is kinds.Epoch) earlier) some
  where
    of : (found : Option Record) → is_some (option_map (epoch_of font earlier) found) ≡ true
        → regions_of (option_map (epoch_of font earlier) found) ≡ regions_in earlier
    of None some = absurd (let never : false ≡ true = some in cc)
    of (Some row) some = refl

-- one more picture's codes
codes-more : (heads : List PictureHead) (head : PictureHead)
    → sum_by area (heads ++ head ∷ []) ≡ sum_by area heads + area head
codes-more heads head =
    let split = sum_by-append area heads (head ∷ []) in
    omega (arith, split)

codes-with : (heads : List PictureHead) (head : Option PictureHead)
    → sum_by area (with_last heads head) ≡ sum_by area heads + area_of head
codes-with heads None = omega arith
codes-with heads (Some head) = codes-more heads head

epoch-region : (font : FontValue) (earlier : List Record) (number : ℕ) (cells : Row) (found : Option Record)
    → option_map (epoch_of font (row_with kinds.Region number cells ∷ earlier)) found
    ≡ option_map (with_region (region_in cells)) (option_map (epoch_of font earlier) found)
epoch-region font earlier number cells None = refl
epoch-region font earlier number cells (Some row) = refl

epoch-colour : (font : FontValue) (earlier : List Record) (number : ℕ) (cells : Row) (found : Option Record)
    → option_map (epoch_of font (row_with kinds.Colour number cells ∷ earlier)) found
    ≡ option_map (with_colour (colour_in number cells)) (option_map (epoch_of font earlier) found)
epoch-colour font earlier number cells None = refl
epoch-colour font earlier number cells (Some row) = refl

epoch-place : (font : FontValue) (earlier : List Record) (number : ℕ) (cells : Row) (found : Option Record)
    → option_map (epoch_of font (row_with kinds.Place number cells ∷ earlier)) found
    ≡ option_map
    (with_cue (cue_by (place_named font earlier) (length (heads_in font earlier)) kinds.Place number cells))
    (option_map (epoch_of font earlier) found)
epoch-place font earlier number cells None = refl
epoch-place font earlier number cells (Some row) = refl

epoch-cue : (font : FontValue) (earlier : List Record) (number : ℕ) (cells : Row) (found : Option Record)
    → option_map (epoch_of font (row_with kinds.Cue number cells ∷ earlier)) found
    ≡ option_map
    (with_cue (cue_by (place_named font earlier) (length (heads_in font earlier)) kinds.Cue number cells))
    (option_map (epoch_of font earlier) found)
epoch-cue font earlier number cells None = refl
epoch-cue font earlier number cells (Some row) = refl

one-more : (row : Record) (earlier : List Record) → length (row ∷ earlier) ≡ length earlier + 1
one-more row earlier = omega arith

-- a record adds what it says to what is found
looking-back-by : (font : FontValue) (earlier : List Record) (kind : RowKind) (number : ℕ) (cells : Row)
    → (kind ≡ kinds.Cue → is_some (last_epoch font earlier) ≡ true)
    → looking_back font (row_with kind number cells ∷ earlier)
    ≡ next_with font (looking_back font earlier) (row_with kind number cells)
looking-back-by font earlier kinds.Origin number cells begun =
    λ i. record (looking_back font (row_with kinds.Origin number cells ∷ earlier)) {
      rows = one-more
          (row_with kinds.Origin number cells) earlier i;
    }
looking-back-by font earlier kinds.Display number cells begun =
    λ i. record (looking_back font (row_with kinds.Display number cells ∷ earlier)) {
      rows = one-more
          (row_with kinds.Display number cells) earlier i;
    }
looking-back-by font earlier kinds.Refresh number cells begun =
    λ i. record (looking_back font (row_with kinds.Refresh number cells ∷ earlier)) {
      rows = one-more
          (row_with kinds.Refresh number cells) earlier i;
    }
looking-back-by font earlier kinds.Epoch number cells begun =
    λ i. record (looking_back font (row_with kinds.Epoch number cells ∷ earlier)) {
      rows = one-more
          (row_with kinds.Epoch number cells) earlier i;
    }
looking-back-by font earlier kinds.Region number cells begun =
    λ i. record (looking_back font (row_with kinds.Region number cells ∷ earlier)) {
      rows = one-more
          (row_with kinds.Region number cells) earlier i;
      epoch = epoch-region font earlier number cells
          (find (is kinds.Epoch) earlier) i;
    }
looking-back-by font earlier kinds.Colour number cells begun =
    λ i. record (looking_back font (row_with kinds.Colour number cells ∷ earlier)) {
      rows = one-more
          (row_with kinds.Colour number cells) earlier i;
      epoch = epoch-colour font earlier number cells
          (find (is kinds.Epoch) earlier) i;
    }
looking-back-by font earlier kinds.Picture number cells begun =
    λ i. record (looking_back font (row_with kinds.Picture number cells ∷ earlier)) {
      rows = one-more
          (row_with kinds.Picture number cells) earlier i;
      codes = codes-more (heads_in font earlier) (head_in cells) i;
    }
looking-back-by font earlier kinds.Place number cells begun =
    λ i. record (looking_back font (row_with kinds.Place number cells ∷ earlier)) {
      rows = one-more
          (row_with kinds.Place number cells) earlier i;
      epoch = epoch-place font earlier number cells
          (find (is kinds.Epoch) earlier) i;
    }
looking-back-by font earlier kinds.Cue number cells begun =
    let same : regions_of (last_epoch font earlier) ≡ regions_in earlier = regions-last font earlier (begun refl) in
    let brings : List Region → Option PictureHead =
    λ (regions : List Region). head_by font regions kinds.Cue cells in
    let counted =
    codes-with (heads_in font earlier) (brings (regions_in earlier))
    ∙ ap (λ (regions : List Region). codes_in font earlier + area_of (brings regions)) (sym same) in
    λ i. record (looking_back font (row_with kinds.Cue number cells ∷ earlier)) {
      rows = one-more (row_with kinds.Cue number cells) earlier i;
      epoch = epoch-cue font earlier number cells (find (is kinds.Epoch) earlier) i;
      heads = with_last (heads_in font earlier) (brings (sym same i));
      codes = counted i;
    }
looking-back-by font earlier kinds.Other number cells begun =
    λ i. record (looking_back font (row_with kinds.Other number cells ∷ earlier)) {
      rows = one-more
          (row_with kinds.Other number cells) earlier i;
    }

-- a record that has its place where a cue's has one adds what it says to what is found
pub looking-back-more : (font : FontValue) (earlier : List Record) (row : Record)
    → (row.kind ≡ kinds.Cue → is_some (last_epoch font earlier) ≡ true)
    → looking_back font (row ∷ earlier) ≡ next_with font (looking_back font earlier) row
looking-back-more font earlier row begun = looking-back-by font earlier row.kind row.number row.cells begun
