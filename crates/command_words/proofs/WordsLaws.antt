-- Plain words by their places.
use Rattle.std.proofs.Common.{◌≡◌, ℕ, ◌+◌, ◌<◌, List, [], length, take, get_or, slice_get, Bool, true, false, Some, ap, sym, ◌∙◌, ◌&&◌}
use Rattle.std.proofs.lemmas.Option.{get_or_from_slice_get}
use Rattle.std.proofs.lemmas.List.Folds.{list_all_at, list_all_more}
use Rattle.std.specs.List.{list_all}
use Rattle.command_words.specs.PlainWords.{is_plain}

-- what a test answered of the word at a place
pub is_plain-at : (words : List (List ℕ)) (i : ℕ) (word bytes : List ℕ) (answer b : Bool)
    → slice_get words i ≡ Some word → bytes ≡ word → answer ≡ is_plain bytes → answer ≡ b
    → is_plain (get_or words i []) ≡ b
is_plain-at words i word bytes answer b found same tested is =
    ap is_plain (get_or_from_slice_get words i word [] found ∙ sym same) ∙ (sym tested ∙ is)

-- a word that is not plain
pub are_plain-not : (words : List (List ℕ)) (i : ℕ) → i < length words
    → is_plain (get_or words i []) ≡ false → false ≡ list_all is_plain words
are_plain-not words i within not_so = sym (list_all_at is_plain words i [] within not_so)

-- one plain word more
pub are_plain-more : (words : List (List ℕ)) (i : ℕ) → i < length words
    → list_all is_plain (take i words) ≡ true → is_plain (get_or words i []) ≡ true
    → list_all is_plain (take (i + 1) words) ≡ true
are_plain-more words i within before so =
    list_all_more is_plain words i [] within ∙ (ap (λ b. b && is_plain (get_or words i [])) before ∙ so)
