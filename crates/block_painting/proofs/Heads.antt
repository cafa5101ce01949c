-- What the first byte of sub-blocks says of them.
use Rattle.std.proofs.Common.{◌≡◌, ℕ, List, [], ◌∷◌, ◌++◌, Option, Some, refl, sym, ap, subst, ◌∙◌}
use Rattle.sub_base.specs.declared.depth.Depth.{Depth}
use Rattle.stream_syntax.specs.PixelBlocks.{Part, string, table, line_end, string_type, table_type, line_end_type, AreParts}
use Rattle.pixel_codes.specs.declared.part.Head.{Head}
use Rattle.pixel_codes.specs.declared.part.Head.TheVariants.{PixelString, Table, LineEnd}
use Rattle.pixel_codes.specs.Heads.{head_of}
use Rattle.pixel_codes.proofs.Parts.{head_of-string, head_of-table}
use Rattle.block_painting.specs.Private.Heads.{Begins, AreBegun}

abbrev head_or : List ℕ → ℕ
head_or [] = 0
head_or (x ∷ xs) = x

abbrev tail_or : List ℕ → List ℕ
tail_or [] = []
tail_or (x ∷ xs) = xs

-- by the first byte and what stands behind it
begun_as : (region : Depth) (parts : List Part) (first other : ℕ) (body others : List ℕ) (head : Head)
    → first ∷ body ≡ other ∷ others → head_of other ≡ Some head → AreBegun region (Some head) parts others
    → AreBegun region (head_of first) parts body
begun_as region parts first other body others head e h begun =
    let f : first ≡ other = ap head_or e in
    let b : others ≡ body = sym (ap tail_or e) in
    subst (λ (o : Option Head). AreBegun region o parts body) (sym (ap head_of f ∙ h))
    (subst (λ (t : List ℕ). AreBegun region (Some head) parts t) b begun)

-- the sub-blocks that bytes are, by the first of these
pub begun : (region : Depth) (parts : List Part) (first : ℕ) (body : List ℕ) → AreParts region parts (first ∷ body)
    → AreBegun region (head_of first) parts body
begun region [] first body are = absurd cc
begun region (string depth codes ∷ left) first body (front, rest, cut, (fits, inner, whole, spelled), after) =
    begun_as region (string depth codes ∷ left) first (string_type depth) body (inner ++ rest) (PixelString depth)
    (cut ∙ ap (λ (t : List ℕ). t ++ rest) whole) (head_of-string depth)
    (codes, left, inner, rest, refl, refl, fits, spelled, after)
begun region (table kind entries ∷ left) first body (front, rest, cut, (inner, whole, long, of), after) =
    begun_as region (table kind entries ∷ left) first (table_type kind) body (inner ++ rest) (Table kind)
    (cut ∙ ap (λ (t : List ℕ). t ++ rest) whole) (head_of-table kind)
    (left, inner, rest, ap (λ (t : List ℕ). table kind t ∷ left) of, refl, long, after)
begun region (line_end ∷ left) first body (front, rest, cut, whole, after) =
    begun_as region (line_end ∷ left) first line_end_type body rest LineEnd
    (cut ∙ ap (λ (t : List ℕ). t ++ rest) whole) refl (left, refl, after)

-- the same of bytes that begin with such a byte
pub begun_at : (region : Depth) (parts : List Part) (head : Head) (bytes body : List ℕ) → Begins head bytes body
    → AreParts region parts bytes → AreBegun region (Some head) parts body
begun_at region parts head bytes body (first, cut, is) are =
    subst (λ (o : Option Head). AreBegun region o parts body) is
    (begun region parts first body (subst (AreParts region parts) cut are))
