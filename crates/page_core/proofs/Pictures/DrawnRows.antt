-- Lines of regions drawn over a row, and one entry of a page after another.
use Rattle.std.proofs.Common.{◌≡◌, ◌∙◌, refl, sym, ap, inl, inr, ℕ, ◌+◌, ◌-◌, ◌<◌, ◌≤◌, ◌⊎◌, Bool, true, false, cond, min, List, ◌++◌, length, take, drop, Option, Some, None, arith}
use Rattle.std.specs.Prelude.{unwrap_or}
use Rattle.std.proofs.Math.ListN.{get_or-append}
use Rattle.std.proofs.lemmas.Bool.{cases_lt}
use Rattle.std.proofs.lemmas.Bool.Decides.{nat_tests}
use Rattle.std.proofs.lemmas.List.{get_or-append_right, get_or-take, get_or-drop, length-take-le}
use borrow.Rule.Slice.PartMut.{put_mid}
use Rattle.sub_base.specs.Colour.{clear}
use Rattle.sub_base.specs.declared.colour.Colour.{Colour}
use Rattle.stream_syntax.specs.declared.display.Window.{Window}
use Rattle.stream_syntax.specs.declared.region.RegionHead.{RegionHead}
use Rattle.decoder_model.specs.Shown.{is_in_window}
use Rattle.pixel_store.specs.Regions.{StoredRegion, code_of as code_at}
use Rattle.page_core.specs.Coloured.{colour_of}
use Rattle.page_core.specs.Rows.{seen_in, IsDrawnOver, colour_by_region, IsLineDrawn}
use Rattle.sub_base.specs.Picture.{is_inside}

-- ---- a part of a row

in_front : (row part : List Colour) (from k x : ℕ) → from ≤ length row → x < from
    → colour_of (put_mid from k row part) x ≡ colour_of row x
in_front row part from k x long before =
    get_or-append (take from row) (part ++ drop k (drop from row)) clear x (omega (arith, length-take-le from row long))
    ∙ get_or-take from row x clear before

in_part : (row part : List Colour) (from k x : ℕ) → from ≤ length row → from ≤ x → x < from + length part
    → colour_of (put_mid from k row part) x ≡ colour_of part (x - from)
in_part row part from k x long after before =
    get_or-append_right (take from row) (part ++ drop k (drop from row)) from x clear (length-take-le from row long)
    after
    ∙ get_or-append part (drop k (drop from row)) clear (x - from) (omega arith)

behind_part : (row part : List Colour) (from k x : ℕ) → from ≤ length row → length part ≡ k
    → from + k ≤ x → colour_of (put_mid from k row part) x ≡ colour_of row x
behind_part row part from k x long size after =
    get_or-append_right (take from row) (part ++ drop k (drop from row)) from x clear (length-take-le from row long)
    (omega arith)
    ∙ get_or-append_right part (drop k (drop from row)) k (x - from) clear size (omega arith)
    ∙ get_or-drop k (drop from row) (x - from - k) clear ∙ get_or-drop from row (k + (x - from - k)) clear
    ∙ ap (colour_of row) (omega arith)

-- a line that is drawn over a part of a row
pub drawn_within : (region : StoredRegion) (line : ℕ) (colours : List Colour) (from to : ℕ) (old now : List Colour)
    → from ≤ to → to ≤ length old → length now ≡ to - from
    → ((x : ℕ) → x < to - from → colour_of now x ≡ colour_of colours (code_at region x line))
    → IsLineDrawn region line colours from to old (put_mid from (to - from) old now)
drawn_within region line colours from to old now order inside size drawn = record {
  covered =
      λ x after before. in_part old now from (to - from) x (omega arith) after (omega arith)
      ∙ drawn (x - from) (omega arith);
  beside = λ x where_it_is. elim where_it_is [
    | inl before ↦ in_front old now from (to - from) x (omega arith) before
    | inr after ↦ behind_part old now from (to - from) x (omega arith) size (omega arith)
  ];
}

-- ---- a region

module _ (head : RegionHead) (region : StoredRegion) (colours : List Colour) (window : Window) (left top y : ℕ)
    (old new : List Colour) where
  abbrev pub given : ℕ → Option Colour
  given x = colour_by_region head region colours left top x y

  -- a place that is not given a colour, or lies outside of the window
  same : (x : ℕ) → colour_of new x ≡ colour_of old x → (is_in_window window x y ≡ false)
      ⊎ (is_inside left top head.width head.height x y ≡ false)
      → colour_of new x ≡ unwrap_or (seen_in window x y (given x)) (colour_of old x)
  same x kept (inl outside) = kept ∙ sym (ap (λ b. unwrap_or (cond b (given x) None) (colour_of old x)) outside)
  same x kept (inr outside) =
      kept ∙ sym
      (ap (λ b. unwrap_or
      (seen_in window x y (cond b (Some (colour_of colours (code_at region (x - left) (y - top)))) None))
      (colour_of old x)) outside ∙ none (is_in_window window x y))
    where
      none : (seen : Bool) → unwrap_or (cond seen None None) (colour_of old x) ≡ colour_of old x
      none true = refl
      none false = refl

  -- a place that is given one within the window
  drawn : (x : ℕ) → colour_of new x ≡ colour_of colours (code_at region (x - left) (y - top))
      → is_in_window window x y ≡ true → is_inside left top head.width head.height x y ≡ true
      → colour_of new x ≡ unwrap_or (seen_in window x y (given x)) (colour_of old x)
  drawn x is within inside =
      is ∙ sym (ap (λ b. unwrap_or (cond b (given x) None) (colour_of old x)) within
      ∙ ap (λ b. unwrap_or (cond b (Some (colour_of colours (code_at region (x - left) (y - top)))) None)
      (colour_of old x)) inside)

  -- the front of a line, up to the least of the region's, the window's and the row's end
  pub line_over : (line end : ℕ) → line ≡ y - top → top ≤ y → y - top < head.height
      → window.left ≤ left → window.top ≤ top → y ≤ window.bottom
      → end ≡ min (min (left + head.width) (window.right + 1)) (length old)
      → IsLineDrawn region line colours left end old new
      → IsDrawnOver window y given old new
  line_over line end line_is below within_lines beside_left beside_top low end_is line_drawn x inside =
      elim (cases_lt x left) [
        | inl before ↦ same x (line_drawn.beside x (inl before)) (inr (grind (arith, nat_tests)))
        | inr from ↦ elim (cases_lt x end) [
          | inl covered ↦ drawn x
              (line_drawn.covered x from covered ∙ ap (λ n. colour_of colours (code_at region (x - left) n)) line_is)
              (grind (arith, nat_tests)) (grind (arith, nat_tests))
          | inr behind ↦ same x (line_drawn.beside x (inr behind)) (elim (cases_lt window.right x) [
            | inl past ↦ inl (grind (arith, nat_tests))
            | inr not_past ↦ inr (grind (arith, nat_tests))
          ])
        ]
      ]
