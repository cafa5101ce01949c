use Rattle.std.proofs.Common.{◌≡◌, ◌∙◌, sym, ap, subst, ℕ, ◌+◌, ◌-◌, ◌*◌, ◌/◌, ◌%◌, ◌<◌, ◌≤◌, ◌^◌, arith}
use Rattle.std.proofs.lemmas.Nat.{pow_pos, pow-add, shr-shr, field_of, shr_high, mod_low, mod-pow-add, mod_below, shr_below, mul-add-lt}
use Rattle.std.proofs.Math.Nat.{add-mul, mul_assoc, mul_comm}
use Rattle.string_painting.specs.Codes.{bits_at}
use Rattle.pixel_store.specs.Private.Painting.{splice}

-- cutting off twice is cutting off once
mod-mod : (n j k : ℕ) → n % 2 ^ (j + k) % 2 ^ k ≡ n % 2 ^ k
mod-mod n j k = rw (mod-pow-add n j k) (mod_low (n / 2 ^ k % 2 ^ j) k (n % 2 ^ k) (mod_below n (2 ^ k) (pow_pos k)))

-- what is above does not matter
low : (w s more n : ℕ) → bits_at w s (n % 2 ^ (more + w + s)) ≡ bits_at w s n
low w s more n = rw (field_of n (more + w) s) (mod-mod (n / 2 ^ s) more w)

shifted : (w s k n : ℕ) → bits_at w s (n / 2 ^ k) ≡ bits_at w (k + s) n
shifted w s k n = ap (λ (x : ℕ). x % 2 ^ w) (shr-shr n k s)

joined : (m a b k : ℕ) → m < 2 ^ a → b < 2 ^ k → m * 2 ^ k + b < 2 ^ (k + a)
joined m a b k p q = rw (pow-add 2 k a) (mul-add-lt m (2 ^ k) b (2 ^ a) p q)

module _ (l m p b : ℕ) where
  A : ℕ
  A = b / 2 ^ (l + m)

  M : ℕ
  M = p % 2 ^ (l + m) / 2 ^ l

  B : ℕ
  B = b % 2 ^ l

  M_below : M < 2 ^ m
  unfolding M
  M_below = shr_below (p % 2 ^ (l + m)) m l
      (let same : m + l ≡ l + m = omega arith in rw same (mod_below p (2 ^ (l + m)) (pow_pos (l + m))))

  B_below : B < 2 ^ l
  unfolding B
  B_below = mod_below b (2 ^ l) (pow_pos l)

  M_is : M ≡ p / 2 ^ l % 2 ^ m
  unfolding M
  M_is = let same : l + m ≡ m + l = omega arith in rw same (field_of p m l)

  rest_below : M * 2 ^ l + B < 2 ^ (l + m)
  rest_below = joined M m B l M_below B_below

  in_two : splice (l + m) l p b ≡ A * 2 ^ (l + m) + (M * 2 ^ l + B)
  unfolding A M B splice
  in_two = omega arith

  in_parts : splice (l + m) l p b ≡ (A * 2 ^ m + M) * 2 ^ l + B
  in_parts = in_two ∙ regroup A (2 ^ (l + m)) (2 ^ l) (2 ^ m) M B (pow-add 2 l m) where
    regroup : (a x y z c d : ℕ) → x ≡ y * z → a * x + (c * y + d) ≡ (a * z + c) * y + d
    regroup a x y z c d e =
        omega (
          arith,
          ap (λ (n : ℕ). a * n) e,
          add-mul (a * z) c y,
          mul_assoc a z y,
          ap (λ (n : ℕ). a * n)
              (mul_comm y z),
        )

  pub splice-below : (e : ℕ) → b < 2 ^ (e + (l + m)) → splice (l + m) l p b < 2 ^ (e + (l + m))
  unfolding A
  splice-below e short =
      let same : e + (l + m) ≡ l + m + e = omega arith in
      rw (in_two, same) (joined A e (M * 2 ^ l + B) (l + m) (shr_below b e (l + m) short) rest_below)

  pub top_bits : (w t : ℕ) → bits_at w (l + m + t) (splice (l + m) l p b) ≡ bits_at w (l + m + t) b
  unfolding A
  top_bits w t =
      sym (shifted w t (l + m) (splice (l + m) l p b))
      ∙ ap (bits_at w t) (ap (λ (v : ℕ). v / 2 ^ (l + m)) in_two ∙ shr_high A (l + m) (M * 2 ^ l + B) rest_below)
      ∙ shifted w t (l + m) b

  pub low_bits : (w s more : ℕ) → l ≡ more + w + s → bits_at w s (splice (l + m) l p b) ≡ bits_at w s b
  unfolding B
  low_bits w s more is =
      sym (low w s more (splice (l + m) l p b))
      ∙ ap (λ (k : ℕ). bits_at w s (splice (l + m) l p b % 2 ^ k)) (sym is)
      ∙ ap (bits_at w s) (ap (λ (v : ℕ). v % 2 ^ l) in_parts ∙ mod_low (A * 2 ^ m + M) l B B_below)
      ∙ ap (λ (k : ℕ). bits_at w s (b % 2 ^ k)) is
      ∙ low w s more b

  pub middle_bits : (w t more : ℕ) → m ≡ more + w + t
      → bits_at w (l + t) (splice (l + m) l p b) ≡ bits_at w (l + t) p
  middle_bits w t more is =
      sym (shifted w t l (splice (l + m) l p b))
      ∙ ap (bits_at w t) (ap (λ (v : ℕ). v / 2 ^ l) in_parts ∙ shr_high (A * 2 ^ m + M) l B B_below)
      ∙ sym (low w t more (A * 2 ^ m + M))
      ∙ ap (λ (k : ℕ). bits_at w t ((A * 2 ^ m + M) % 2 ^ k)) (sym is)
      ∙ ap (bits_at w t) (mod_low A m M M_below ∙ M_is)
      ∙ ap (λ (k : ℕ). bits_at w t (p / 2 ^ l % 2 ^ k)) is
      ∙ low w t more (p / 2 ^ l)
      ∙ shifted w t l p

-- the same, by orders
pub splice_small : (h l p b : ℕ) → l ≤ h → h ≤ 8 → b < 256 → splice h l p b < 256
splice_small h l p b lh h8 small =
    let here : l + (h - l) ≡ h = omega arith in
    let whole : 8 - h + (l + (h - l)) ≡ 8 = omega arith in
    let P : ℕ → Type 0 = λ x. splice x l p b < 256 in
    let Q : ℕ → Type 0 = λ x. b < 2 ^ x → splice (l + (h - l)) l p b < 2 ^ x in
    subst P here (subst Q whole (splice-below l (h - l) p b (8 - h)) small)

pub above_same : (w s h l p b : ℕ) → l ≤ h → h ≤ s → bits_at w s (splice h l p b) ≡ bits_at w s b
above_same w s h l p b lh hs =
    let here : l + (h - l) ≡ h = omega arith in
    let whole : h + (s - h) ≡ s = omega arith in
    let P : ℕ → Type 0 = λ x. bits_at w (x + (s - h)) (splice x l p b) ≡ bits_at w (x + (s - h)) b in
    let Q : ℕ → Type 0 = λ x. bits_at w x (splice h l p b) ≡ bits_at w x b in
    subst Q whole (subst P here (top_bits l (h - l) p b w (s - h)))

pub below_same : (w s h l p b : ℕ) → l ≤ h → s + w ≤ l → bits_at w s (splice h l p b) ≡ bits_at w s b
below_same w s h l p b lh sl =
    let here : l + (h - l) ≡ h = omega arith in
    let P : ℕ → Type 0 = λ x. bits_at w s (splice x l p b) ≡ bits_at w s b in
    subst P here (low_bits l (h - l) p b w s (l - w - s) (omega arith))

pub between_new : (w s h l p b : ℕ) → l ≤ s → s + w ≤ h → bits_at w s (splice h l p b) ≡ bits_at w s p
between_new w s h l p b ls sh =
    let here : l + (h - l) ≡ h = omega arith in
    let whole : l + (s - l) ≡ s = omega arith in
    let P : ℕ → Type 0 = λ x. bits_at w (l + (s - l)) (splice x l p b) ≡ bits_at w (l + (s - l)) p in
    let Q : ℕ → Type 0 = λ x. bits_at w x (splice h l p b) ≡ bits_at w x p in
    subst Q whole (subst P here (middle_bits l (h - l) p b w (s - l) (h - l - w - (s - l)) (omega arith)))
