-- A list of six bytes an item: how many items there are, and where each stands.
use Rattle.std.proofs.Common.{◌≡◌, ℕ, zero, suc, ◌+◌, ◌*◌, ◌/◌, ◌%◌, ◌≤◌, List, [], ◌∷◌, length, get_or, Some, refl, ap, ◌∙◌, arith}
use Rattle.std.specs.Prelude.{slice_get, bit_and}
use Rattle.std.proofs.lemmas.Nat.{and_mask}
use Rattle.stream_syntax.specs.Tests.{word_at}
use Rattle.segments.specs.Contents.{by_six, page_entry, page_entries, listing, region_listings}

pub length_by_six : {Item : Type 0} (item : ℕ → ℕ → ℕ → ℕ → ℕ → ℕ → Item) (bytes : List ℕ)
    → length (by_six item bytes) ≡ length bytes / 6
length_by_six item (a ∷ b ∷ c ∷ d ∷ e ∷ f ∷ rest) = omega (arith, length_by_six item rest)
length_by_six item [] = refl
length_by_six item (a ∷ []) = refl
length_by_six item (a ∷ b ∷ []) = refl
length_by_six item (a ∷ b ∷ c ∷ []) = refl
length_by_six item (a ∷ b ∷ c ∷ d ∷ []) = refl
length_by_six item (a ∷ b ∷ c ∷ d ∷ e ∷ []) = refl

pub by_six_at : {Item : Type 0} (item : ℕ → ℕ → ℕ → ℕ → ℕ → ℕ → Item) (bytes : List ℕ)
    (i : ℕ) → 6 * i + 6 ≤ length bytes
    → slice_get (by_six item bytes) i
    ≡ Some (item (get_or bytes (6 * i) 0) (get_or bytes (6 * i + 1) 0) (get_or bytes (6 * i + 2) 0)
    (get_or bytes (6 * i + 3) 0) (get_or bytes (6 * i + 4) 0) (get_or bytes (6 * i + 5) 0))
by_six_at item (a ∷ b ∷ c ∷ d ∷ e ∷ f ∷ rest) zero long = refl
by_six_at item (a ∷ b ∷ c ∷ d ∷ e ∷ f ∷ rest) (suc i) long =
    let ih = by_six_at item rest i (omega arith) in
    let e0 : 6 * suc i ≡ suc (suc (suc (suc (suc (suc (6 * i)))))) = omega arith in
    let e1 : 6 * suc i + 1 ≡ suc (suc (suc (suc (suc (suc (6 * i + 1)))))) = omega arith in
    let e2 : 6 * suc i + 2 ≡ suc (suc (suc (suc (suc (suc (6 * i + 2)))))) = omega arith in
    let e3 : 6 * suc i + 3 ≡ suc (suc (suc (suc (suc (suc (6 * i + 3)))))) = omega arith in
    let e4 : 6 * suc i + 4 ≡ suc (suc (suc (suc (suc (suc (6 * i + 4)))))) = omega arith in
    let e5 : 6 * suc i + 5 ≡ suc (suc (suc (suc (suc (suc (6 * i + 5)))))) = omega arith in
    rw (e1, e2, e3, e4, e5, e0) ih
by_six_at item [] i long = absurd (omega arith)
by_six_at item (a ∷ []) i long = absurd (omega arith)
by_six_at item (a ∷ b ∷ []) i long = absurd (omega arith)
by_six_at item (a ∷ b ∷ c ∷ []) i long = absurd (omega arith)
by_six_at item (a ∷ b ∷ c ∷ d ∷ []) i long = absurd (omega arith)
by_six_at item (a ∷ b ∷ c ∷ d ∷ e ∷ []) i long = absurd (omega arith)

pub page_entry_at : (bytes : List ℕ) (i region x y : ℕ) → 6 * i + 6 ≤ length bytes
    → region ≡ get_or bytes (6 * i) 0 → x ≡ word_at (6 * i + 2) bytes → y ≡ word_at (6 * i + 4) bytes
    → slice_get (page_entries bytes) i ≡ Some (record { region = region; x = x; y = y })
page_entry_at bytes i region x y room region-is x-is y-is =
    let at = by_six_at page_entry bytes i room in
    let e3 : 6 * i + 2 + 1 ≡ 6 * i + 3 = omega arith in
    let e5 : 6 * i + 4 + 1 ≡ 6 * i + 5 = omega arith in
    rw (region-is, x-is, y-is, e3, e5) at

pub listing_at : (bytes : List ℕ) (i object x y : ℕ) → 6 * i + 6 ≤ length bytes
    → object ≡ word_at (6 * i) bytes → x ≡ word_at (6 * i + 2) bytes % 4096
    → y ≡ word_at (6 * i + 4) bytes % 4096
    → slice_get (region_listings bytes) i ≡ Some (record { object = object; x = x; y = y })
listing_at bytes i object x y room object-is x-is y-is =
    let at = by_six_at listing bytes i room in
    let e3 : 6 * i + 2 + 1 ≡ 6 * i + 3 = omega arith in
    let e5 : 6 * i + 4 + 1 ≡ 6 * i + 5 = omega arith in
    rw (object-is, x-is, y-is, e3, e5) at

pub low_twelve : (n word : ℕ) → n ≡ word → bit_and n 4095 ≡ word % 4096
low_twelve n word e = and_mask n 12 ∙ ap (λ (k : ℕ). k % 4096) e
