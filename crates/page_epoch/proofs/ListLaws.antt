-- Facts on lists.
use Rattle.std.proofs.Common.{◌≡◌, ◌∙◌, ℕ, zero, suc, ◌+◌, ◌%◌, ◌<◌, ◌≤◌, Bool, true, false, cond, List, [], ◌∷◌, ◌++◌, map, filter, length, take, get_or, All, Result, Ok, Err, IfOk, sum_by, refl, sym, ap, subst, append_assoc, arith}
use Rattle.std.specs.List.{range_with_len, flat_map}
use Rattle.std.proofs.lemmas.List.{map-id, map-append, append-nil, take_more, take_all, length-append}
use Rattle.std.proofs.lemmas.List.Sums.{length-filter, count_by-le-length, sum_by-cons}
use Rattle.std.proofs.lemmas.List.Concat.{flat_map-append}
use Rattle.std.proofs.lemmas.List.Elements.{All-filter, All-cons, All-head, All-tail, All-append}
use Rattle.std.proofs.lemmas.List.FromFn.{filter_of_map_range_with_len_more, map-range_with_len_more, length-range_with_len, get_or-range_with_len}

-- one place more passes a test or not
pub filter_places_more : (p : ℕ → Bool) (n : ℕ)
    → filter p (range_with_len 0 (n + 1)) ≡ filter p (range_with_len 0 n) ++ cond (p n) (n ∷ []) []
filter_places_more p n =
    ap (filter p) (sym (map-id (range_with_len 0 (n + 1))))
    ∙ filter_of_map_range_with_len_more p (λ x. x) 0 n n (omega arith)
    ∙ ap (λ xs. filter p xs ++ cond (p n) (n ∷ []) []) (map-id (range_with_len 0 n))

pub keep_place : (p : ℕ → Bool) (n : ℕ) (own next : List ℕ) → own ≡ filter p (range_with_len 0 n)
    → p n ≡ true → next ≡ own ++ n ∷ [] →
    next ≡ filter p (range_with_len 0 (n + 1))
keep_place p n own next e t push =
    push ∙ ap (λ xs. xs ++ n ∷ []) e
    ∙ sym (filter_places_more p n ∙ ap (λ b. filter p (range_with_len 0 n) ++ cond b (n ∷ []) []) t)

pub pass_place : (p : ℕ → Bool) (n : ℕ) (own : List ℕ) → own ≡ filter p (range_with_len 0 n)
    → p n ≡ false →
    own ≡ filter p (range_with_len 0 (n + 1))
pass_place p n own e t =
    e ∙ sym (filter_places_more p n ∙ ap (λ b. filter p (range_with_len 0 n) ++ cond b (n ∷ []) []) t
    ∙ append-nil (filter p (range_with_len 0 n)))

pub keep_mapped : {X : Type 0} (f : ℕ → X) (p : ℕ → Bool) (n : ℕ) (own next : List X)
    → own ≡ map f (filter p (range_with_len 0 n)) → p n ≡ true → next ≡ own ++ f n ∷ [] →
    next ≡ map f (filter p (range_with_len 0 (n + 1)))
keep_mapped f p n own next e t push =
    push ∙ ap (λ xs. xs ++ f n ∷ []) e ∙ sym (map-append f (filter p (range_with_len 0 n)) (n ∷ []))
    ∙ ap (map f)
    (sym (filter_places_more p n ∙ ap (λ b. filter p (range_with_len 0 n) ++ cond b (n ∷ []) []) t))

pub pass_mapped : {X : Type 0} (f : ℕ → X) (p : ℕ → Bool) (n : ℕ) (own : List X)
    → own ≡ map f (filter p (range_with_len 0 n)) → p n ≡ false →
    own ≡ map f (filter p (range_with_len 0 (n + 1)))
pass_mapped f p n own e t = e ∙ ap (map f) (pass_place p n (filter p (range_with_len 0 n)) refl t)

-- a list is what stands at its places
places_back_by : {X : Type 0} (xs : List X) (d : X) (n : ℕ) → n ≤ length xs
    → map (λ k. get_or xs k d) (range_with_len 0 n) ≡ take n xs
places_back_by xs d zero h = refl
places_back_by xs d (suc n) h =
    let more : suc n ≡ n + 1 = omega arith in
    ap (λ k. map (λ k. get_or xs k d) (range_with_len 0 k)) more
    ∙ map-range_with_len_more (λ k. get_or xs k d) 0 n n (omega arith)
    ∙ ap (λ ys. ys ++ get_or xs n d ∷ []) (places_back_by xs d n (omega arith))
    ∙ sym (ap (λ k. take k xs) more ∙ take_more xs n d (omega arith))

pub places_back : {X : Type 0} (xs : List X) (d : X) → map (λ k. get_or xs k d) (range_with_len 0 (length xs)) ≡ xs
places_back xs d = places_back_by xs d (length xs) (omega arith) ∙ take_all (length xs) xs (omega arith)

pub map_map : {X Y Z : Type 0} (f : Y → Z) (g : X → Y) (xs : List X) → map f (map g xs) ≡ map (λ x. f (g x)) xs
map_map f g [] = refl
map_map f g (x ∷ xs) = ap (λ ys. f (g x) ∷ ys) (map_map f g xs)

-- the same of two lists, of which one is made of the other
map_one : {X Y Z : Type 0} (b : Bool) (f : X → Z) (g : Y → Z) (x : X) (y : Y) (xs : List X) (ys : List Y)
    → f x ≡ g y → map f xs ≡ map g ys → map f (cond b (x ∷ xs) xs) ≡ map g (cond b (y ∷ ys) ys)
map_one true f g x y xs ys e rest = λ i. e i ∷ rest i
map_one false f g x y xs ys e rest = rest

pub map_kept : {X Y Z : Type 0} (f : X → Z) (g : Y → Z) (h : X → Y) (p : X → Bool) (q : Y → Bool)
    (xs : List X) → All (λ x. (p x ≡ q (h x)) × (f x ≡ g (h x))) xs →
    map f (filter p xs) ≡ map g (filter q (map h xs))
map_kept f g h p q [] same = refl
map_kept f g h p q (x ∷ xs) same =
    let here = All-head (λ x. (p x ≡ q (h x)) × (f x ≡ g (h x))) x xs same in
    ap (λ b. map f (cond b (x ∷ filter p xs) (filter p xs))) here.0
    ∙ map_one (q (h x)) f g x (h x) (filter p xs) (filter q (map h xs)) here.1
    (map_kept f g h p q xs (All-tail (λ x. (p x ≡ q (h x)) × (f x ≡ g (h x))) x xs same))

-- each place of a list is below its length
pub places_within : (n : ℕ) → All (λ place. place < n) (range_with_len 0 n)
places_within n k d h =
    let short : k < n = subst (λ m. k < m) (length-range_with_len 0 n) h in
    let is = get_or-range_with_len 0 n k d short in
    omega arith

pub kept_within : (p : ℕ → Bool) (n : ℕ) → All (λ place. place < n) (filter p (range_with_len 0 n))
kept_within p n = All-filter p (λ place. place < n) (range_with_len 0 n) (places_within n)

-- the same after a second test
pub twice_within : (p q : ℕ → Bool) (n : ℕ)
    → All (λ place. place < n) (filter q (filter p (range_with_len 0 n)))
twice_within p q n = All-filter q (λ place. place < n) (filter p (range_with_len 0 n)) (kept_within p n)

-- a list that grows by mapped numbers
pub mapped_more : {X : Type 0} (f : ℕ → X) (n : ℕ) (old now next : List X)
    → now ≡ old ++ map f (range_with_len 0 n) → next ≡ now ++ f n ∷ [] →
    next ≡ old ++ map f (range_with_len 0 (n + 1))
mapped_more f n old now next e push =
    push ∙ ap (λ xs. xs ++ f n ∷ []) e ∙ append_assoc old (map f (range_with_len 0 n)) (f n ∷ [])
    ∙ ap (λ xs. old ++ xs) (sym (map-range_with_len_more f 0 n n (omega arith)))

-- three lists put behind nothing
pub three_joined : {X : Type 0} (a b c start one two three : List X) → start ≡ [] → one ≡ start ++ a
    → two ≡ one ++ b → three ≡ two ++ c → three ≡ a ++ (b ++ c)
three_joined a b c start one two three none first second third =
    third ∙ ap (λ xs. xs ++ c) (second ∙ ap (λ xs. xs ++ b) (first ∙ ap (λ xs. xs ++ a) none))
    ∙ append_assoc a b c

-- a filter keeps no more
pub length_kept : {X : Type 0} (p : X → Bool) (xs : List X) → length (filter p xs) ≤ length xs
length_kept p xs = omega (arith, length-filter p xs, count_by-le-length p xs)

pub length_kept_places : (p : ℕ → Bool) (n : ℕ) → length (filter p (range_with_len 0 n)) ≤ n
length_kept_places p n = omega (arith, length_kept p (range_with_len 0 n), length-range_with_len 0 n)

-- one piece more
pub flat_map_next : {X A : Type 0} (f : X → List A) (xs : List X) (i : ℕ) (d : X) → i < length xs →
    flat_map f (take (i + 1) xs) ≡ flat_map f (take i xs) ++ f (get_or xs i d)
flat_map_next f xs i d h =
    ap (flat_map f) (take_more xs i d h) ∙ flat_map-append f (take i xs) (get_or xs i d ∷ [])
    ∙ ap (λ ys. flat_map f (take i xs) ++ ys) (append-nil (f (get_or xs i d)))

pub flat_map_mapped : {X Y A : Type 0} (f : Y → List A) (g : X → Y) (xs : List X)
    → flat_map f (map g xs) ≡ flat_map (λ x. f (g x)) xs
flat_map_mapped f g [] = refl
flat_map_mapped f g (x ∷ xs) = ap (λ ys. f (g x) ++ ys) (flat_map_mapped f g xs)

-- what holds of a value in an Ok
pub ok_then : {T E : Type 0} (P Q : T → Type 0) (r : Result T E) → ((x : T) → P x → Q x) → IfOk r P
    → IfOk r Q
ok_then P Q (Ok x) step h = step x h
ok_then P Q (Err e) step h = h

-- a list that grows by mapped numbers from 1 on
pub refreshes_more : {X : Type 0} (f : ℕ → X) (n : ℕ) (old now next : List X)
    → now ≡ old ++ map f (range_with_len 1 n) → next ≡ now ++ f (n + 1) ∷ [] →
    next ≡ old ++ map f (range_with_len 1 (n + 1))
refreshes_more f n old now next e push =
    push ∙ ap (λ xs. xs ++ f (n + 1) ∷ []) e
    ∙ append_assoc old (map f (range_with_len 1 n)) (f (n + 1) ∷ [])
    ∙ ap (λ xs. old ++ xs) (sym (map-range_with_len_more f 1 n (n + 1) (omega arith)))

-- ---- what holds of each element

pub All-none : {X : Type 0} (P : X → Type 0) → All P []
All-none P = λ k d h. absurd (omega arith)

pub All-one : {X : Type 0} (P : X → Type 0) (x : X) → P x → All P (x ∷ [])
All-one P x p = All-cons P x [] p (All-none P)

pub All-pieces : {X Y : Type 0} (P : Y → Type 0) (f : X → List Y) (xs : List X) → All (λ x. All P (f x)) xs
    → All P (flat_map f xs)
All-pieces P f [] all = All-none P
All-pieces P f (x ∷ xs) all =
    All-append P (f x) (flat_map f xs) (All-head (λ x. All P (f x)) x xs all)
    (All-pieces P f xs (All-tail (λ x. All P (f x)) x xs all))

pub one_each : {X Y : Type 0} (f : X → List Y) → ((x : X) → length (f x) ≤ 1) → (xs : List X)
    → length (flat_map f xs) ≤ length xs
one_each f few [] = omega arith
one_each f few (x ∷ xs) =
    let here = few x in
    let rest = one_each f few xs in
    let all = length-append (f x) (flat_map f xs) in
    omega arith

-- tests that agree on a list keep the same of it
pub filter_agree : {X : Type 0} (p q : X → Bool) (xs : List X) → All (λ x. p x ≡ q x) xs
    → filter p xs ≡ filter q xs
filter_agree p q [] same = refl
filter_agree p q (x ∷ xs) same =
    ap (λ b. cond b (x ∷ filter p xs) (filter p xs)) (All-head (λ x. p x ≡ q x) x xs same)
    ∙ ap (λ ys. cond (q x) (x ∷ ys) ys) (filter_agree p q xs (All-tail (λ x. p x ≡ q x) x xs same))

pub filter_none : {X : Type 0} (p : X → Bool) (xs : List X) → All (λ x. p x ≡ false) xs → filter p xs ≡ []
filter_none p [] none = refl
filter_none p (x ∷ xs) none =
    ap (λ b. cond b (x ∷ filter p xs) (filter p xs)) (All-head (λ x. p x ≡ false) x xs none)
    ∙ filter_none p xs (All-tail (λ x. p x ≡ false) x xs none)

pub flat_map_none : {X Y : Type 0} (xs : List X) → flat_map {A = Y} (λ x. []) xs ≡ []
flat_map_none [] = refl
flat_map_none {X} {Y} (x ∷ xs) = flat_map_none {X = X} {Y = Y} xs

-- ---- numbers

-- a version counts modulo 16
pub version_step : (b : Bool) (n : ℕ) → (cond b 1 0 + n) % 16 ≡ cond b ((n % 16 + 1) % 16) (n % 16)
version_step true n = omega arith
version_step false n = omega arith

-- ---- sums

pub sum_mapped : {X Y : Type 0} (f : Y → ℕ) (g : X → Y) (xs : List X)
    → sum_by f (map g xs) ≡ sum_by (λ x. f (g x)) xs
sum_mapped f g [] = refl
sum_mapped f g (x ∷ xs) =
    sum_by-cons f (g x) (map g xs) ∙ ap (λ (n : ℕ). f (g x) + n) (sum_mapped f g xs)
    ∙ sym (sum_by-cons (λ y. f (g y)) x xs)
