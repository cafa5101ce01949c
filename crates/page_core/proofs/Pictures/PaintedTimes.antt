-- The painting of a set, region by region.
use Rattle.std.proofs.Common.{◌≡◌, ◌∙◌, ℕ, ◌+◌, ◌-◌, cond, List, [], ◌∷◌, filter, Option, Some, None, refl, sym, ap, arith}
use Rattle.std.specs.Prelude.{filter_map, sum_by}
use Rattle.std.specs.List.{cons_option}
use Rattle.std.specs.Option.{is_some}
use Rattle.std.proofs.lemmas.List.Sums.{sum_by-cons}
use Rattle.stream_syntax.specs.Segments.{Region, of_region}
use Rattle.decoder_model.specs.Contents.{region_in, region_of}
use Rattle.decoder_model.specs.Painting.{region_painting, set_painting}
use Rattle.decoder_model.specs.Readings.{Content}
use Rattle.page_core.specs.Handed.{AreContents}
use Rattle.page_core.specs.Private.Walks.{IsNextOf, is_region}

-- the regions of a set are those of its region contents
only_regions : (set : List Content) → filter_map region_of (filter is_region set) ≡ filter_map region_of set
only_regions [] = refl
only_regions (content ∷ set) = by (region_of content) refl (only_regions set)
  where
    by : (found : Option Region) → region_of content ≡ found
        → filter_map region_of (filter is_region set) ≡ filter_map region_of set
        → filter_map region_of (cond (is_region content) (content ∷ filter is_region set) (filter is_region set))
        ≡ cons_option (region_of content) (filter_map region_of set)
    by None is again =
        ap (λ (o : Option Region). filter_map region_of
        (cond (is_some o) (content ∷ filter is_region set) (filter is_region set))) is ∙ again
        ∙ sym (ap (λ (o : Option Region). cons_option o (filter_map region_of set)) is)
    by (Some region) is again =
        ap (λ (o : Option Region). filter_map region_of
        (cond (is_some o) (content ∷ filter is_region set) (filter is_region set))) is
        ∙ ap (λ (o : Option Region). cons_option o (filter_map region_of (filter is_region set))) is
        ∙ ap (λ (rest : List Region). region ∷ rest) again
        ∙ sym (ap (λ (o : Option Region). cons_option o (filter_map region_of set)) is)

painted_of : (set : List Content)
    → set_painting set ≡ sum_by region_painting (filter_map region_of (filter is_region set))
painted_of set = ap (sum_by region_painting) (sym (only_regions set))

-- the ticks so far, and those of what is left, are those of the set
pub record ArePainted (set : List Content) (ticks : ℕ) (rest : List ℕ) : Type 0 where
  pub left : List Content
  pub are : AreContents left rest
  pub sum : set_painting set ≡ ticks + set_painting left

pub none_painted : (set : List Content) (bytes : List ℕ) → AreContents set bytes → ArePainted set 0 bytes
none_painted set bytes are = record { left = set; are = are; sum = omega arith }

-- one region more
pub one_painted : (set left : List Content) (ticks more : ℕ) (region : Region) (rest : List ℕ)
    → set_painting set ≡ ticks + set_painting left → more ≡ region_painting region
    → IsNextOf is_region left (of_region region) rest → ArePainted set (ticks + more) rest
one_painted set left ticks more region rest sum more_is next = record {
  left = next.more;
  are = next.are;
  sum =
      let here : set_painting left ≡ region_painting region + set_painting next.more =
      painted_of left
      ∙ ap (λ (contents : List Content). sum_by region_painting (filter_map region_of contents)) next.split
      ∙ ap (λ (o : Option Region). sum_by region_painting
      (cons_option o (filter_map region_of (filter is_region next.more)))) (sym (ap region_in next.same))
      ∙ sum_by-cons region_painting region (filter_map region_of (filter is_region next.more))
      ∙ ap (λ (n : ℕ). region_painting region + n) (sym (painted_of next.more)) in
      omega (arith, sum, here, more_is);
}

-- no region is left
pub all_painted : (set left : List Content) (ticks : ℕ) → set_painting set ≡ ticks + set_painting left
    → filter is_region left ≡ [] → ticks ≡ set_painting set
all_painted set left ticks sum none =
    let nothing : set_painting left ≡ 0 =
    painted_of left
    ∙ ap (λ (contents : List Content). sum_by region_painting (filter_map region_of contents)) none in
    omega (arith, sum, nothing)
