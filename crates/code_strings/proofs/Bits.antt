-- Bits and numbers, and the fields of bits in bytes.
use Rattle.std.proofs.Common.{◌≡◌, ℕ, zero, suc, ◌+◌, ◌-◌, ◌*◌, ◌/◌, ◌%◌, ◌^◌, ◌<◌, ◌≤◌, Bool, true, false, ltb, List, [], ◌∷◌, ◌++◌, length, get_or, take, drop, Some, None, refl, sym, ap, subst, ◌∙◌, append_assoc, arith}
use Rattle.std.specs.Prelude.{flat_map}
use Rattle.std.specs.List.{AllByRecursion}
use Rattle.std.proofs.lemmas.Bool.{ltb-false, le-ltb, lt-ltb}
use Rattle.std.proofs.lemmas.List.{take_at, drop_at, take-append-drop, length-append, length-take, length-drop, drop-drop, append-nil, take-append-le, drop-append-le, drop_all}
use Rattle.std.proofs.lemmas.Nat.{pow_pos, shr-shr, mod-pow-add, shr_high, mod_low, mod_below, field_of}
use Rattle.std.proofs.Math.Nat.{mod-eq_of_lt}
use Rattle.stream_syntax.specs.PixelCodes.{bits, bits_of}
use Rattle.stream_syntax.specs.Fields.{number_of}
use Rattle.code_strings.specs.Reading.{field_at}

-- ---- bits

pub length-bits : (count v : ℕ) → length (bits count v) ≡ count
unfolding bits
length-bits zero v = refl
length-bits (suc count) v =
    length-append (bits count (v / 2)) (v % 2 ∷ []) ∙ omega (arith, length-bits count (v / 2))

pub length-bits_of : (bytes : List ℕ) → length (bits_of bytes) ≡ 8 * length bytes
unfolding bits_of
length-bits_of [] = refl
length-bits_of (byte ∷ bytes) =
    length-append (bits 8 byte) (flat_map (bits 8) bytes) ∙ omega (arith, length-bits 8 byte, length-bits_of bytes)

pub bits_of-append : (xs ys : List ℕ) → bits_of (xs ++ ys) ≡ bits_of xs ++ bits_of ys
unfolding bits_of
bits_of-append [] ys = refl
bits_of-append (x ∷ xs) ys =
    ap (λ (t : List ℕ). bits 8 x ++ t) (bits_of-append xs ys)
    ∙ sym (append_assoc (bits 8 x) (flat_map (bits 8) xs) (flat_map (bits 8) ys))

half-pow : (v b : ℕ) → v / 2 / 2 ^ b ≡ v / 2 ^ suc b
half-pow v b = let e = shr-shr v 1 b in let f : 1 + b ≡ suc b = omega arith in rw f at e

pub bits-add : (a b v : ℕ) → bits (a + b) v ≡ bits a (v / 2 ^ b) ++ bits b v
unfolding bits
bits-add a zero v =
    let e : a + 0 ≡ a = omega arith in
    let f : v / 2 ^ 0 ≡ v = omega arith in
    rw (e, f) (sym (append-nil (bits a v)))
bits-add a (suc b) v =
    let e : a + suc b ≡ suc (a + b) = omega arith in
    ap (λ (n : ℕ). bits n v) e
    ∙ ap (λ (t : List ℕ). t ++ v % 2 ∷ []) (bits-add a b (v / 2))
    ∙ append_assoc (bits a (v / 2 / 2 ^ b)) (bits b (v / 2)) (v % 2 ∷ [])
    ∙ ap (λ (n : ℕ). bits a n ++ (bits b (v / 2) ++ v % 2 ∷ [])) (half-pow v b)

-- only the low bits count
pub bits-mod : (count v : ℕ) → bits count (v % 2 ^ count) ≡ bits count v
unfolding bits
bits-mod zero v = refl
bits-mod (suc count) v =
    let e : v % 2 ^ suc count / 2 ≡ v / 2 % 2 ^ count =
    let f = field_of v count 1 in let g : count + 1 ≡ suc count = omega arith in rw g at f in
    let m : v % 2 ^ suc count % 2 ≡ v % 2 =
    let f = mod-pow-add v count 1 in let g : count + 1
    ≡ suc count = omega arith in let h = rw g at f in omega (arith, h) in
    rw (e, m) (ap (λ (t : List ℕ). t ++ v % 2 ∷ []) (bits-mod count (v / 2)))

pub bits-join : (a b x y : ℕ) → y < 2 ^ b → bits (a + b) (x * 2 ^ b + y) ≡ bits a x ++ bits b y
bits-join a b x y lt =
    let high : (x * 2 ^ b + y) / 2 ^ b ≡ x = shr_high x b y lt in
    let low : (x * 2 ^ b + y) % 2 ^ b ≡ y = mod_low x b y lt in
    bits-add a b (x * 2 ^ b + y)
    ∙ ap (λ (n : ℕ). bits a n ++ bits b (x * 2 ^ b + y)) high
    ∙ ap (λ (t : List ℕ). bits a x ++ t) (sym (bits-mod b (x * 2 ^ b + y)) ∙ ap (bits b) low)

-- ---- the number of bits

number_of-push : (xs : List ℕ) (y : ℕ) → number_of (xs ++ y ∷ []) ≡ number_of xs * 2 + y
unfolding number_of
number_of-push [] y = omega arith
number_of-push (x ∷ xs) y =
    let n = number_of-push xs y in
    let l : length (xs ++ y ∷ []) ≡ suc (length xs) = length-append xs (y ∷ []) ∙ omega arith in
    let p : 2 ^ suc (length xs) ≡ 2 * 2 ^ length xs = omega arith in
    rw (l, p, n) (omega arith)

pub number_of-bits : (count v : ℕ) → number_of (bits count v) ≡ v % 2 ^ count
unfolding bits number_of
number_of-bits zero v = omega arith
number_of-bits (suc count) v =
    let f = mod-pow-add v count 1 in
    let g : count + 1 ≡ suc count = omega arith in
    let h = rw g at f in
    number_of-push (bits count (v / 2)) (v % 2) ∙ omega (arith, number_of-bits count (v / 2), h)

unfoldable pub IsBits : List ℕ → Type 0
IsBits xs = AllByRecursion (λ bit. bit < 2) xs

IsBits-append : (xs ys : List ℕ) → IsBits xs → IsBits ys → IsBits (xs ++ ys)
unfolding IsBits
IsBits-append [] ys h k = k
IsBits-append (x ∷ xs) ys h k = (h.0, IsBits-append xs ys h.1 k)

IsBits-drop : (n : ℕ) (xs : List ℕ) → IsBits xs → IsBits (drop n xs)
unfolding IsBits
IsBits-drop zero xs h = h
IsBits-drop (suc n) [] h = tt
IsBits-drop (suc n) (x ∷ xs) h = IsBits-drop n xs h.1

IsBits-take : (n : ℕ) (xs : List ℕ) → IsBits xs → IsBits (take n xs)
unfolding IsBits
IsBits-take zero xs h = tt
IsBits-take (suc n) [] h = tt
IsBits-take (suc n) (x ∷ xs) h = (h.0, IsBits-take n xs h.1)

IsBits-bits : (count v : ℕ) → IsBits (bits count v)
unfolding IsBits bits
IsBits-bits zero v = tt
IsBits-bits (suc count) v =
    IsBits-append (bits count (v / 2)) (v % 2 ∷ []) (IsBits-bits count (v / 2)) (mod_below v 2 (omega arith), tt)

pub IsBits-bits_of : (bytes : List ℕ) → IsBits (bits_of bytes)
unfolding IsBits bits_of
IsBits-bits_of [] = tt
IsBits-bits_of (byte ∷ bytes) =
    IsBits-append (bits 8 byte) (flat_map (bits 8) bytes) (IsBits-bits 8 byte) (IsBits-bits_of bytes)

two_halves : (x p n : ℕ) → x < 2 → n < p → x * p + n < 2 * p
two_halves zero p n h k = omega arith
two_halves (suc zero) p n h k = omega arith
two_halves (suc (suc x)) p n h k = absurd (omega arith)

pow-more : (k : ℕ) → 2 ^ suc k ≡ 2 * 2 ^ k
pow-more k = omega arith

number_of-below : (xs : List ℕ) → IsBits xs → number_of xs < 2 ^ length xs
unfolding IsBits number_of
number_of-below [] h = omega arith
number_of-below (x ∷ xs) h =
    rw (pow-more (length xs)) (two_halves x (2 ^ length xs) (number_of xs) h.0 (number_of-below xs h.1))

one_bit : (x : ℕ) → x < 2 → bits 1 x ≡ x ∷ []
unfolding bits
one_bit x h = let e : x % 2 ≡ x = omega arith in rw e refl

pub bits-number_of : (xs : List ℕ) → IsBits xs → bits (length xs) (number_of xs) ≡ xs
unfolding IsBits bits number_of
bits-number_of [] h = refl
bits-number_of (x ∷ xs) h =
    let e : suc (length xs) ≡ 1 + length xs = omega arith in
    ap (λ (n : ℕ). bits n (x * 2 ^ length xs + number_of xs)) e
    ∙ bits-join 1 (length xs) x (number_of xs) (number_of-below xs h.1)
    ∙ ap (λ (t : List ℕ). t ++ bits (length xs) (number_of xs)) (one_bit x h.0)
    ∙ ap (λ (t : List ℕ). x ∷ t) (bits-number_of xs h.1)

-- ---- fields

pub drop-next : (xs front rest : List ℕ) (place width : ℕ) → drop place xs ≡ front ++ rest
    → length front ≡ width → drop (place + width) xs ≡ rest
drop-next xs front rest place width e l =
    sym (drop-drop width place xs) ∙ ap (drop width) e ∙ drop_at front rest width l

-- a number that stands at a place is the field there
pub field_spelled : (xs rest : List ℕ) (place width v : ℕ) → 0 < width → v < 2 ^ width
    → drop place xs ≡ bits width v ++ rest → field_at xs place width ≡ Some v
unfolding field_at
field_spelled xs rest place width v wide fits e =
    let l : length xs - place ≡ width + length rest =
    sym (length-drop place xs) ∙ ap length e ∙ length-append (bits width v) rest
    ∙ omega (arith, length-bits width v) in
    let enough : ltb (length xs) (place + width) ≡ false = le-ltb _ _ (omega arith) in
    let t : take width (drop place xs) ≡ bits width v =
    ap (take width) e ∙ take_at (bits width v) rest width (length-bits width v) in
    let m : v % 2 ^ width ≡ v = mod-eq_of_lt fits in
    rw (enough, t) (ap Some (number_of-bits width v ∙ m))

-- there is none past the end
pub field_past : (xs : List ℕ) (place width : ℕ) → length xs < place + width → field_at xs place width ≡ None
unfolding field_at
field_past xs place width h = let t : ltb (length xs) (place + width) ≡ true = lt-ltb _ _ h in rw t refl

pub record Reads (xs : List ℕ) (place width v : ℕ) : Type 0 where
  pub fits : v < 2 ^ width
  pub within : place + width ≤ length xs
  pub text : drop place xs ≡ bits width v ++ drop (place + width) xs

-- a field that is read stands at its place
pub field_reads : (xs : List ℕ) (place width v : ℕ) → IsBits xs → field_at xs place width ≡ Some v
    → Reads xs place width v
unfolding field_at
field_reads xs place width v h e = by_test (ltb (length xs) (place + width)) refl
  where
    parts : List ℕ
    parts = take width (drop place xs)

    by_test : (b : Bool) → ltb (length xs) (place + width) ≡ b → Reads xs place width v
    by_test true t = absurd (let f = rw t at e in cc)
    by_test false t =
        let within : place + width ≤ length xs = ltb-false _ _ t in
        let l : length (take width (drop place xs)) ≡ width =
        omega (arith, length-take width (drop place xs), length-drop place xs) in
        let f = rw t at e in
        let n : number_of (take width (drop place xs)) ≡ v = cc in
        let ok : IsBits (take width (drop place xs)) = IsBits-take width _ (IsBits-drop place xs h) in
        let below : number_of (take width (drop place xs)) < 2 ^ length (take width (drop place xs)) =
        number_of-below _ ok in
        let spelled : bits width v ≡ take width (drop place xs) =
        ap (λ (k : ℕ). bits k v) (sym l) ∙ ap (bits (length (take width (drop place xs)))) (sym n)
        ∙ bits-number_of _ ok in
        record {
          fits =
              subst (λ (k : ℕ). v < 2 ^ k) l
              (subst (λ (u : ℕ). u < 2 ^ length (take width (drop place xs))) n below);
          within = within;
          text =
              sym (take-append-drop width (drop place xs))
              ∙ ap (λ (s : List ℕ). s ++ drop width (drop place xs)) (sym spelled)
              ∙ ap (λ (s : List ℕ). bits width v ++ s) (drop-drop width place xs);
        }

-- the bits from a byte on
pub bits_of-drop : (bytes : List ℕ) (i : ℕ) → i < length bytes
    → drop (8 * i) (bits_of bytes) ≡ bits 8 (get_or bytes i 0) ++ bits_of (drop (suc i) bytes)
unfolding bits_of
bits_of-drop [] i h = absurd (omega arith)
bits_of-drop (byte ∷ bytes) zero h = refl
bits_of-drop (byte ∷ bytes) (suc i) h =
    let e : 8 * suc i ≡ 8 + 8 * i = omega arith in
    rw e (sym (drop-drop (8 * i) 8 (bits 8 byte ++ flat_map (bits 8) bytes))
    ∙ ap (drop (8 * i)) (drop_at (bits 8 byte) (flat_map (bits 8) bytes) 8 (length-bits 8 byte))
    ∙ bits_of-drop bytes i (omega arith))

-- the same for whole bytes
pub bits_of-drop_bytes : (bytes : List ℕ) (i : ℕ) → drop (8 * i) (bits_of bytes) ≡ bits_of (drop i bytes)
unfolding bits_of
bits_of-drop_bytes bytes zero = refl
bits_of-drop_bytes [] (suc i) = drop_all (8 * suc i) [] (omega arith)
bits_of-drop_bytes (byte ∷ bytes) (suc i) =
    let e : 8 * suc i ≡ 8 + 8 * i = omega arith in
    rw e (sym (drop-drop (8 * i) 8 (bits 8 byte ++ flat_map (bits 8) bytes))
    ∙ ap (drop (8 * i)) (drop_at (bits 8 byte) (flat_map (bits 8) bytes) 8 (length-bits 8 byte))
    ∙ bits_of-drop_bytes bytes i)

-- a field of a window of so many bits
in_window : (n w s width r : ℕ) (more : List ℕ) → s + (width + r) ≡ n
    → drop s (bits n w ++ more) ≡ bits width (w / 2 ^ r % 2 ^ width) ++ (bits r w ++ more)
in_window n w s width r more e =
    let split : bits n w ≡ bits s (w / 2 ^ (width + r)) ++ (bits width (w / 2 ^ r % 2 ^ width) ++ bits r w) =
    ap (λ (k : ℕ). bits k w) (sym e) ∙ bits-add s (width + r) w
    ∙ ap (λ (t : List ℕ). bits s (w / 2 ^ (width + r)) ++ t)
    (bits-add width r w ∙ ap (λ (t : List ℕ). t ++ bits r w) (sym (bits-mod width (w / 2 ^ r)))) in
    ap (λ (t : List ℕ). drop s (t ++ more)) split
    ∙ ap (drop s) (append_assoc (bits s (w / 2 ^ (width + r))) (bits width (w / 2 ^ r % 2 ^ width) ++ bits r w) more)
    ∙ drop_at (bits s (w / 2 ^ (width + r))) ((bits width (w / 2 ^ r % 2 ^ width) ++ bits r w) ++ more) s
    (length-bits s _)
    ∙ append_assoc (bits width (w / 2 ^ r % 2 ^ width)) (bits r w) more

-- two bytes that stand behind one another are a window
window : (bytes : List ℕ) (i : ℕ) → suc i < length bytes → get_or bytes (suc i) 0 < 256
    → drop (8 * i) (bits_of bytes) ≡ bits 16 (get_or bytes i 0 * 256 + get_or bytes (suc i) 0)
    ++ bits_of (drop (suc (suc i)) bytes)
window bytes i h small =
    let first = bits_of-drop bytes i (omega arith) in
    let second : bits_of (drop (suc i) bytes) ≡ bits 8 (get_or bytes (suc i) 0)
    ++ bits_of (drop (suc (suc i)) bytes) =
    sym (bits_of-drop_bytes bytes (suc i)) ∙ bits_of-drop bytes (suc i) h in
    let joined = bits-join 8 8 (get_or bytes i 0) (get_or bytes (suc i) 0) small in
    first ∙ ap (λ (t : List ℕ). bits 8 (get_or bytes i 0) ++ t) second
    ∙ sym (append_assoc (bits 8 (get_or bytes i 0)) (bits 8 (get_or bytes (suc i) 0))
    (bits_of (drop (suc (suc i)) bytes)))
    ∙ ap (λ (t : List ℕ). t ++ bits_of (drop (suc (suc i)) bytes)) (sym joined)

-- a field of bytes, of which one more follows, by the two bytes at its place
in_two : (bytes : List ℕ) (place width : ℕ) → 1 ≤ width → width ≤ 8 → suc (place / 8) < length bytes
    → get_or bytes (suc (place / 8)) 0 < 256 →
    field_at (bits_of bytes) place width
    ≡ Some ((get_or bytes (place / 8) 0 * 256 + get_or bytes (suc (place / 8)) 0) / 2 ^ (16 - place % 8 - width) %
    2 ^ width)
in_two bytes place width wide narrow inside small =
    let w = get_or bytes (place / 8) 0 * 256 + get_or bytes (suc (place / 8)) 0 in
    let r = 16 - place % 8 - width in
    let more = bits_of (drop (suc (suc (place / 8))) bytes) in
    let e : 8 * (place / 8) + place % 8 ≡ place = omega arith in
    let s : place % 8 + (width + r) ≡ 16 = omega arith in
    let at : drop place (bits_of bytes) ≡ bits width (w / 2 ^ r % 2 ^ width) ++ (bits r w ++ more) =
    ap (λ (n : ℕ). drop n (bits_of bytes)) (sym e)
    ∙ sym (drop-drop (place % 8) (8 * (place / 8)) (bits_of bytes))
    ∙ ap (drop (place % 8)) (window bytes (place / 8) inside small) ∙ in_window 16 w (place % 8) width r more s in
    field_spelled (bits_of bytes) (bits r w ++ more) place width (w / 2 ^ r % 2 ^ width) (omega arith)
    (mod_below _ _ (pow_pos width)) at

-- a field does not see what follows the bytes
field_before : (xs ys : List ℕ) (place width : ℕ) → place + width ≤ length xs
    → field_at (xs ++ ys) place width ≡ field_at xs place width
unfolding field_at
field_before xs ys place width h =
    let a : ltb (length xs) (place + width) ≡ false = le-ltb _ _ h in
    let b : ltb (length (xs ++ ys)) (place + width) ≡ false = le-ltb _ _ (omega (arith, length-append xs ys)) in
    let d : drop place (xs ++ ys) ≡ drop place xs ++ ys = drop-append-le place xs ys (omega arith) in
    let t : take width (drop place xs ++ ys) ≡ take width (drop place xs) =
    take-append-le width (drop place xs) ys (omega (arith, length-drop place xs)) in
    rw (a, b, d, t) refl

get_or-left : (xs : List ℕ) (i : ℕ) → get_or (xs ++ 0 ∷ []) i 0 ≡ get_or xs i 0
get_or-left [] zero = refl
get_or-left [] (suc i) = refl
get_or-left (x ∷ xs) zero = refl
get_or-left (x ∷ xs) (suc i) = get_or-left xs i

-- a field by the byte at its place and the byte behind it, or 0 at the end
pub field_is : (bytes : List ℕ) (place width : ℕ) → 1 ≤ width → width ≤ 8
    → place + width ≤ 8 * length bytes → get_or bytes (place / 8 + 1) 0 < 256 →
    field_at (bits_of bytes) place width
    ≡ Some ((get_or bytes (place / 8) 0 * 256 + get_or bytes (place / 8 + 1) 0) / 2 ^ (16 - place % 8 - width) % 2
    ^ width)
field_is bytes place width wide narrow inside small =
    let next : place / 8 + 1 ≡ suc (place / 8) = omega arith in
    let small' = rw next at small in
    let one = get_or-left bytes (place / 8) in
    let two = get_or-left bytes (suc (place / 8)) in
    let less : get_or (bytes ++ 0 ∷ []) (suc (place / 8)) 0 < 256 = omega arith in
    let longer : suc (place / 8) < length (bytes ++ 0 ∷ []) = omega (arith, length-append bytes (0 ∷ [])) in
    let whole = in_two (bytes ++ 0 ∷ []) place width wide narrow longer less in
    let room : place + width ≤ length (bits_of bytes) = omega (arith, length-bits_of bytes) in
    let front : field_at (bits_of (bytes ++ 0 ∷ [])) place width ≡ field_at (bits_of bytes) place width =
    ap (λ (t : List ℕ). field_at t place width) (bits_of-append bytes (0 ∷ []))
    ∙ field_before (bits_of bytes) (bits_of (0 ∷ [])) place width room in
    rw next (sym front ∙ (rw (one, two) at whole))

-- a field within a byte of bits
pub field_within : (xs : List ℕ) (place p byte off width rest : ℕ) → IsBits xs → field_at xs place 8 ≡ Some byte
    → place + off ≡ p → 0 < width → off + (width + rest) ≡ 8
    → field_at xs p width ≡ Some (byte / 2 ^ rest % 2 ^ width)
field_within xs place p byte off width rest h e at wide whole =
    let r = field_reads xs place 8 byte h e in
    let text : drop p xs ≡ bits width (byte / 2 ^ rest % 2 ^ width) ++ (bits rest byte ++ drop (place + 8) xs) =
    ap (λ (n : ℕ). drop n xs) (sym at) ∙ sym (drop-drop off place xs) ∙ ap (drop off) r.text
    ∙ in_window 8 byte off width rest (drop (place + 8) xs) whole in
    field_spelled xs (bits rest byte ++ drop (place + 8) xs) p width (byte / 2 ^ rest % 2 ^ width) wide
    (mod_below _ _ (pow_pos width)) text

-- a field that ends before the bits do is there
pub field_there : {R : Type 0} (xs : List ℕ) (place width : ℕ) → place + width ≤ length xs
    → ((v : ℕ) → field_at xs place width ≡ Some v → R) → R
unfolding field_at
field_there xs place width h k =
    let t : ltb (length xs) (place + width) ≡ false = le-ltb _ _ h in
    k (number_of (take width (drop place xs))) (rw t refl)

-- a byte is the field at its place
pub byte_field : (bytes : List ℕ) (i : ℕ) → i < length bytes → get_or bytes i 0 < 256
    → field_at (bits_of bytes) (8 * i) 8 ≡ Some (get_or bytes i 0)
byte_field bytes i inside small =
    field_spelled (bits_of bytes) (bits_of (drop (suc i) bytes)) (8 * i) 8 (get_or bytes i 0) (omega arith) small
    (bits_of-drop bytes i inside)
