-- Slots lead to the blocks that are kept, each to its own.
use Rattle.std.proofs.Common.{◌≡◌, ℕ, ◌+◌, ◌<◌, ◌++◌, Bool, true, false, ltb, List, [], ◌∷◌, length, get_or, Some, refl, sym, subst, ◌∙◌, arith}
use Rattle.std.proofs.Math.ListN.{get_or-append}
use Rattle.std.proofs.Math.Seq.{get_or-append_seam}
use Rattle.std.proofs.lemmas.Bool.{ltb-true, ltb-false}
use Rattle.std.proofs.lemmas.Option.{slice_get-get_or, get_or_from_slice_get}
use Rattle.std.proofs.lemmas.List.{length-append}
use Rattle.std.specs.Prelude.{Any}
use Rattle.sub_base.specs.declared.depth.Depth.{Depth}
use Rattle.set_coder.specs.declared.coded_picture.CodedPicture.{CodedPicture}
use Rattle.set_coder.specs.declared.coded_picture.Slots.{Slots}
use Rattle.set_coder.specs.KeptBlocks.{IsOf, place_of, AreLedTo}

-- blocks that are pushed, and to which their slot is set, are led to, and so are those before them
pub more_led : (slots new : List Slots) (coded : CodedPicture) (kept more : List CodedPicture) (number : ℕ)
    (region : Depth) → AreLedTo slots kept → more ≡ kept ++ coded ∷ [] → coded.number ≡ number
    → coded.region ≡ region
    → place_of new number region ≡ Some (length kept)
    → ((other : ℕ) (depth : Depth) → ((other ≡ number) × (depth ≡ region) → ⊥)
    → place_of new other depth ≡ place_of slots other depth) → (Any (IsOf number region) kept → ⊥)
    → AreLedTo new more
more_led slots new coded kept more number region led e n r here there fresh = subst (AreLedTo new) (sym e) each
  where
    by : (k : ℕ) (d : CodedPicture) → k < length (kept ++ coded ∷ []) → (b : Bool) → ltb k (length kept) ≡ b
        → place_of new (get_or (kept ++ coded ∷ []) k d).number (get_or (kept ++ coded ∷ []) k d).region
        ≡ Some k
    by k d within true t =
        let lt : k < length kept = ltb-true k (length kept) t in
        let one = get_or kept k d in
        let same : get_or (kept ++ coded ∷ []) k d ≡ one = get_or-append kept (coded ∷ []) d k lt in
        let mine : get_or kept k one ≡ one = get_or_from_slice_get kept k one one (slice_get-get_or kept k d lt) in
        let old : place_of new one.number one.region ≡ Some k =
        there one.number one.region (λ of. fresh (k, one, lt, mine, of)) ∙ led k d lt in
        subst (λ (x : CodedPicture). place_of new x.number x.region ≡ Some k) (sym same) old
    by k d within false t =
        let end : length kept ≡ k =
        omega (arith, ltb-false k (length kept) t, length-append kept (coded ∷ []), within) in
        let same : get_or (kept ++ coded ∷ []) (length kept) d ≡ coded = get_or-append_seam kept coded [] d in
        let right : place_of new coded.number coded.region ≡ Some (length kept) =
        subst (λ (j : ℕ). place_of new j coded.region ≡ Some (length kept)) (sym n)
        (subst (λ (depth : Depth). place_of new number depth ≡ Some (length kept)) (sym r) here) in
        subst (λ (j : ℕ). place_of new (get_or (kept ++ coded ∷ []) j d).number
        (get_or (kept ++ coded ∷ []) j d).region ≡ Some j) end
        (subst (λ (x : CodedPicture). place_of new x.number x.region ≡ Some (length kept)) (sym same) right)

    each : AreLedTo new (kept ++ coded ∷ [])
    each k d within = by k d within (ltb k (length kept)) refl
