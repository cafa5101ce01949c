-- Whether a CLUT is among others, by the bytes of each.
use Rattle.std.proofs.Common.{◌≡◌, ◌∙◌, ◌+◌, ◌<◌, ◌≤◌, ℕ, Bool, true, false, List, length, get_or, drop, ap}
use Rattle.std.proofs.lemmas.List.{drop_all}
use Rattle.std.specs.List.{list_any}
use Rattle.std.specs.Prelude.{◌||◌}
use Rattle.std.specs.Str.{bytes_eq}
use Rattle.page_pair.proofs.SharingLaws.{drop_at}

module _ (clut : List ℕ) (cluts : List (List ℕ)) (n : ℕ)
    (so_far : list_any (bytes_eq clut) cluts ≡ list_any (bytes_eq clut) (drop n cluts)) where
  pub any_here : (x : List ℕ) → n < length cluts → x ≡ get_or cluts n x → bytes_eq clut x ≡ true
      → list_any (bytes_eq clut) cluts ≡ true
  any_here x inside is same =
      so_far ∙ ap (list_any (bytes_eq clut)) (drop_at cluts n x inside is)
      ∙ ap (λ (b : Bool). b || list_any (bytes_eq clut) (drop (n + 1) cluts)) same

  pub any_next : (x : List ℕ) → n < length cluts → x ≡ get_or cluts n x → bytes_eq clut x ≡ false
      → list_any (bytes_eq clut) cluts ≡ list_any (bytes_eq clut) (drop (n + 1) cluts)
  any_next x inside is other =
      so_far ∙ ap (list_any (bytes_eq clut)) (drop_at cluts n x inside is)
      ∙ ap (λ (b : Bool). b || list_any (bytes_eq clut) (drop (n + 1) cluts)) other

  pub any_none : length cluts ≤ n → list_any (bytes_eq clut) cluts ≡ false
  any_none all = so_far ∙ ap (list_any (bytes_eq clut)) (drop_all n cluts all)
