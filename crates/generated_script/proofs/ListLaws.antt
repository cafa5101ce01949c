-- Lists by their numbers.
use Rattle.std.proofs.Common.{◌≡◌, ◌∙◌, ℕ, zero, suc, ◌+◌, ◌<◌, List, [], ◌∷◌, ◌++◌, map, length, get_or, All, sym, ap, subst, refl, arith}
use Rattle.std.specs.List.{range_with_len, flat_map, AllZip}
use Rattle.std.proofs.lemmas.List.{flat_map_more, map-append, map-id}
use Rattle.std.proofs.lemmas.List.Elements.{All-append, All-head, All-tail}
use Rattle.std.proofs.lemmas.List.FromFn.{map-range_with_len_more}
use Rattle.sub_base.proofs.ListLaws.{pair_more}

-- one number more at the end of a range
pub range_more : (a n : ℕ) → range_with_len a (n + 1) ≡ range_with_len a n ++ (a + n) ∷ []
range_more a n =
    sym (map-id (range_with_len a (n + 1))) ∙ map-range_with_len_more (λ (x : ℕ). x) a n (a + n) refl
    ∙ ap (λ (xs : List ℕ). xs ++ (a + n) ∷ []) (map-id (range_with_len a n))

-- one item more for a range
pub item_more : {B : Type 0} (R : ℕ → B → Type 0) (a n : ℕ) (ys zs : List B) (y : B)
    → AllZip R (range_with_len a n) ys → R (a + n) y → zs ≡ ys ++ y ∷ []
    → AllZip R (range_with_len a (n + 1)) zs
item_more R a n ys zs y all here is =
    subst (λ xs. AllZip R xs zs) (sym (range_more a n))
    (subst (AllZip R (range_with_len a n ++ (a + n) ∷ [])) (sym is)
    (pair_more R (range_with_len a n) ys (a + n) y all here))

-- one item more whose numbers are a range
pub number_more : {B : Type 0} (f : B → ℕ) (a n : ℕ) (old new : List B) (y : B)
    → map f old ≡ range_with_len a n → f y ≡ a + n → new ≡ old ++ y ∷ []
    → map f new ≡ range_with_len a (n + 1)
number_more f a n old new y was here is =
    ap (map f) is ∙ map-append f old (y ∷ []) ∙ ap (λ (xs : List ℕ). xs ++ f y ∷ []) was
    ∙ ap (λ (k : ℕ). range_with_len a n ++ k ∷ []) here
    ∙ sym (range_more a n)

-- there are as many items as numbers
pub item_count : {B : Type 0} (R : ℕ → B → Type 0) (a n : ℕ) (ys : List B)
    → AllZip R (range_with_len a n) ys → length ys ≡ n
item_count R a zero [] all = refl
item_count R a zero (y ∷ ys) all = absurd all
item_count R a (suc n) [] all = absurd all
item_count R a (suc n) (y ∷ ys) all = ap suc (item_count R (a + 1) n ys all.1)

-- the item of each number
pub item_at : {B : Type 0} (R : ℕ → B → Type 0) (a n : ℕ) (ys : List B) (i : ℕ) (other : B)
    → AllZip R (range_with_len a n) ys → i < n → R (a + i) (get_or ys i other)
item_at R a zero ys i other all h = absurd (omega arith)
item_at R a (suc n) [] i other all h = absurd all
item_at R a (suc n) (y ∷ ys) zero other all h =
    let same : a ≡ a + 0 = omega arith in
    subst (λ k. R k y) same all.0
item_at R a (suc n) (y ∷ ys) (suc i) other all h =
    let same : a + 1 + i ≡ a + suc i = omega arith in
    subst (λ k. R k (get_or ys i other)) same (item_at R (a + 1) n ys i other all.1 (omega arith))

-- what holds of each piece holds of the whole
pub all_pieces : {X Y : Type 0} (P : Y → Type 0) (f : X → List Y) (xs : List X) → All (λ x. All P (f x)) xs
    → All P (flat_map f xs)
all_pieces P f [] all = λ k d h. absurd (omega arith)
all_pieces P f (x ∷ xs) all =
    All-append P (f x) (flat_map f xs) (All-head (λ y. All P (f y)) x xs all)
    (all_pieces P f xs (All-tail (λ y. All P (f y)) x xs all))

-- one piece more
pub pieces_more : {Y : Type 0} (f : ℕ → List Y) (n : ℕ) (start old new : List Y)
    → old ≡ start ++ flat_map f (range_with_len 0 n) → new ≡ old ++ f n
    → new ≡ start ++ flat_map f (range_with_len 0 (n + 1))
pieces_more f n start old new was is =
    is ∙ ap (λ ys. ys ++ f n) was ∙ flat_map_more f start (range_with_len 0 n) n
    ∙ ap (λ xs. start ++ flat_map f xs)
    (sym (range_more 0 n ∙ ap (λ (k : ℕ). range_with_len 0 n ++ k ∷ []) (omega arith)))

-- one image more
pub images_more : {Y : Type 0} (f : ℕ → Y) (n : ℕ) (old new : List Y) (y : Y)
    → old ≡ map f (range_with_len 0 n) → y ≡ f n → new ≡ old ++ y ∷ []
    → new ≡ map f (range_with_len 0 (n + 1))
images_more f n old new y was image is =
    is ∙ ap (λ ys. ys ++ y ∷ []) was ∙ ap (λ z. map f (range_with_len 0 n) ++ z ∷ []) image
    ∙ sym (map-range_with_len_more f 0 n n (omega arith))
