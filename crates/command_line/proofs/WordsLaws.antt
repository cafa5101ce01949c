-- Words as texts.
use Rattle.std.proofs.Common.{◌≡◌, ℕ, ◌+◌, ◌<◌, List, [], ◌∷◌, ◌++◌, Bor, length, map, take, slice_get, Some, ap₂, sym, ◌∙◌}
use Rattle.std.proofs.lemmas.Option.{get_or_from_slice_get}
use Rattle.std.proofs.lemmas.List.{map_push, take_more}

abbrev pub bytes_of : List (Bor (List ℕ)) → List (List ℕ)
bytes_of = map (λ text. text.now)

-- one text more
pub texts_more : (texts : List (Bor (List ℕ))) (text : Bor (List ℕ)) (words : List (List ℕ)) (i : ℕ)
    → i < length words → bytes_of texts ≡ take i words
    → slice_get words i ≡ Some text.now → bytes_of (texts ++ text ∷ []) ≡ take (i + 1) words
texts_more texts text words i within before found =
    map_push (λ (t : Bor (List ℕ)). t.now) texts text
    ∙ ap₂ (λ (xs : List (List ℕ)) (x : List ℕ). xs ++ x ∷ []) before
    (sym (get_or_from_slice_get words i text.now [] found))
    ∙ sym (take_more words i [] within)
