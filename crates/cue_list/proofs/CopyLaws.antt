-- Maps and lists that are copied.
use Rattle.std.proofs.Common.{◌≡◌, ◌∙◌, sym, ap, ℕ, ◌+◌, ◌<◌, List, [], ◌∷◌, ◌++◌, length, take, get_or, Option, Some, None}
use Rattle.std.proofs.lemmas.List.{take_more}
use Rattle.std.proofs.lemmas.Map.Entries.{entries_from_clone, lookup_clone}
use Rattle.std.specs.BTreeMap.{BTreeMap, IsClone, get, get_by_text, is_at}
use Rattle.std.specs.Cmp.Lexicographic.{slice_cmp}
use Rattle.std.specs.Map.{lookup}
use Rattle.std.specs.Option.{IsSomeAnd, MatchOption}
use Rattle.std.specs.Ordering.{nat_cmp, is_eq}
use Rattle.std.specs.String.{string_bytes}
use Rattle.std.specs.Prelude.{String}

-- a copy of a map of numbers finds what the map finds
pub numbers-copied : (old new : BTreeMap ℕ ℕ) → IsClone (λ x y. y ≡ x) (λ v w. w ≡ v) old new
    → get nat_cmp new ≡ get nat_cmp old
numbers-copied old new same =
    let found : List (ℕ × ℕ) → ℕ → Option ℕ = λ (es : List (ℕ × ℕ)) (q : ℕ). lookup (is_at (nat_cmp q)) es in
    ap found
    (entries_from_clone (λ (x y : ℕ). y ≡ x) (λ (v w : ℕ). w ≡ v) (λ x y e. e) (λ v w e. e) old.entries new.entries
    same)

found-same : (old new : Option ℕ) → MatchOption old (new ≡ None) (λ v. IsSomeAnd new (λ w. w ≡ v)) → new ≡ old
found-same None new same = same
found-same (Some v) None same = absurd same
found-same (Some v) (Some w) same = ap Some same

-- and so does a copy of a map of texts
pub texts-copied : {Y : Type 0} (old new : BTreeMap (String Y) ℕ)
    → IsClone (λ (x y : String Y). string_bytes y ≡ string_bytes x) (λ v w. w ≡ v) old new → (name : List ℕ)
    → get_by_text new name ≡ get_by_text old name
texts-copied {Y} old new same name =
    found-same (get_by_text old name) (get_by_text new name)
    (lookup_clone (λ (x y : String Y). string_bytes y ≡ string_bytes x) (λ (v w : ℕ). w ≡ v)
    (is_at (λ (k : String Y). slice_cmp nat_cmp name (string_bytes k)))
    (λ x y e. ap (λ (bs : List ℕ). is_eq (slice_cmp nat_cmp name bs)) e) old.entries new.entries same)

-- one more item of a list is copied
pub copied-more : {A : Type 0} (xs copies new : List A) (k : ℕ) (x y : A) → k < length xs → copies ≡ take k xs
    → x ≡ get_or xs k x → new ≡ copies ++ y ∷ [] → y ≡ x → new ≡ take (k + 1) xs
copied-more xs copies new k x y inside so_far at put same =
    put ∙ ap (λ c. c ++ y ∷ []) so_far ∙ ap (λ z. take k xs ++ z ∷ []) (same ∙ at) ∙ sym (take_more xs k x inside)
