-- The table of least bits: it grows by at most a code's bits, and by just these for the first code that the writer
-- chooses.
use Rattle.std.proofs.Common.{◌≡◌, ℕ, zero, suc, ◌+◌, ◌-◌, ◌*◌, ◌/◌, ◌%◌, ◌<◌, ◌≤◌, inl, inr, arith}
use Rattle.std.proofs.lemmas.Bool.{cases_lt}
use Rattle.std.proofs.lemmas.Bool.Decides.{nat_tests}
use Rattle.sub_base.specs.declared.depth.Depth.{Depth}
use Rattle.sub_base.specs.declared.depth.Depth.TheVariants.{Two, Four, Eight}
use Rattle.stream_syntax.specs.PixelCodes.{Code, pixel, one_zero, two_zeros, zeros, short_run, middle_run, long_run, IsCode, pixel_count, colour_of}
use Rattle.pixel_codes.specs.Private.Least.{two_some, two_none, four_some, four_none, eight_some, eight_none, table_bits}
use Rattle.code_strings.proofs.Tokens.{width_of}

-- ---- the tables grow by at most a code's bits: with the pixels of a code before the rest, or with those that are
-- more than the longest code's

two_some_pixel : (r : ℕ) → r < 284 → (1 + r < 284 → two_some (1 + r) ≤ 2 + two_some r)
    × (284 ≤ 1 + r → 16 + two_some (1 + r - 284) ≤ 2 + two_some r)
unfolding two_some
two_some_pixel r h = (λ l. grind (arith, nat_tests), λ l. grind (arith, nat_tests))

two_some_short : (f r : ℕ) → f < 8 → r < 284 → (f + 3 + r < 284 → two_some (f + 3 + r) ≤ 8 + two_some r)
    × (284 ≤ f + 3 + r → 16 + two_some (f + 3 + r - 284) ≤ 8 + two_some r)
unfolding two_some
two_some_short f r h k = (λ l. grind (arith, nat_tests), λ l. grind (arith, nat_tests))

two_some_middle : (f r : ℕ) → f < 16 → r < 284
    → (f + 12 + r < 284 → two_some (f + 12 + r) ≤ 12 + two_some r)
    × (284 ≤ f + 12 + r → 16 + two_some (f + 12 + r - 284) ≤ 12 + two_some r)
unfolding two_some
two_some_middle f r h k = (λ l. grind (arith, nat_tests), λ l. grind (arith, nat_tests))

two_some_long : (f r : ℕ) → f < 256 → r < 284
    → (f + 29 + r < 284 → two_some (f + 29 + r) ≤ 16 + two_some r)
    × (284 ≤ f + 29 + r → 16 + two_some (f + 29 + r - 284) ≤ 16 + two_some r)
unfolding two_some
two_some_long f r h k = (λ l. grind (arith, nat_tests), λ l. grind (arith, nat_tests))

two_none_one : (r : ℕ) → r < 284 → (1 + r < 284 → two_none (1 + r) ≤ 4 + two_none r)
    × (284 ≤ 1 + r → 16 + two_none (1 + r - 284) ≤ 4 + two_none r)
unfolding two_none
two_none_one r h = (λ l. grind (arith, nat_tests), λ l. grind (arith, nat_tests))

two_none_two : (r : ℕ) → r < 284 → (2 + r < 284 → two_none (2 + r) ≤ 6 + two_none r)
    × (284 ≤ 2 + r → 16 + two_none (2 + r - 284) ≤ 6 + two_none r)
unfolding two_none
two_none_two r h = (λ l. grind (arith, nat_tests), λ l. grind (arith, nat_tests))

two_none_short : (f r : ℕ) → f < 8 → r < 284 → (f + 3 + r < 284 → two_none (f + 3 + r) ≤ 8 + two_none r)
    × (284 ≤ f + 3 + r → 16 + two_none (f + 3 + r - 284) ≤ 8 + two_none r)
unfolding two_none
two_none_short f r h k = (λ l. grind (arith, nat_tests), λ l. grind (arith, nat_tests))

two_none_middle : (f r : ℕ) → f < 16 → r < 284
    → (f + 12 + r < 284 → two_none (f + 12 + r) ≤ 12 + two_none r)
    × (284 ≤ f + 12 + r → 16 + two_none (f + 12 + r - 284) ≤ 12 + two_none r)
unfolding two_none
two_none_middle f r h k = (λ l. grind (arith, nat_tests), λ l. grind (arith, nat_tests))

two_none_long : (f r : ℕ) → f < 256 → r < 284
    → (f + 29 + r < 284 → two_none (f + 29 + r) ≤ 16 + two_none r)
    × (284 ≤ f + 29 + r → 16 + two_none (f + 29 + r - 284) ≤ 16 + two_none r)
unfolding two_none
two_none_long f r h k = (λ l. grind (arith, nat_tests), λ l. grind (arith, nat_tests))

four_some_pixel : (r : ℕ) → r < 280 → (1 + r < 280 → four_some (1 + r) ≤ 4 + four_some r)
    × (280 ≤ 1 + r → 20 + four_some (1 + r - 280) ≤ 4 + four_some r)
unfolding four_some
four_some_pixel r h = (λ l. grind (arith, nat_tests), λ l. grind (arith, nat_tests))

four_some_short : (f r : ℕ) → f < 4 → r < 280
    → (f + 4 + r < 280 → four_some (f + 4 + r) ≤ 12 + four_some r)
    × (280 ≤ f + 4 + r → 20 + four_some (f + 4 + r - 280) ≤ 12 + four_some r)
unfolding four_some
four_some_short f r h k = (λ l. grind (arith, nat_tests), λ l. grind (arith, nat_tests))

four_some_middle : (f r : ℕ) → f < 16 → r < 280
    → (f + 9 + r < 280 → four_some (f + 9 + r) ≤ 16 + four_some r)
    × (280 ≤ f + 9 + r → 20 + four_some (f + 9 + r - 280) ≤ 16 + four_some r)
unfolding four_some
four_some_middle f r h k = (λ l. grind (arith, nat_tests), λ l. grind (arith, nat_tests))

four_some_long : (f r : ℕ) → f < 256 → r < 280
    → (f + 25 + r < 280 → four_some (f + 25 + r) ≤ 20 + four_some r)
    × (280 ≤ f + 25 + r → 20 + four_some (f + 25 + r - 280) ≤ 20 + four_some r)
unfolding four_some
four_some_long f r h k = (λ l. grind (arith, nat_tests), λ l. grind (arith, nat_tests))

four_none_small : (n w r : ℕ) → 1 ≤ n → n ≤ 9 → r < 280
    → (n + r < 280 → four_none (n + r) ≤ 8 + four_none r)
    × (280 ≤ n + r → 20 + four_none (n + r - 280) ≤ 8 + four_none r)
unfolding four_none
four_none_small n w r h k l = (λ m. grind (arith, nat_tests), λ m. grind (arith, nat_tests))

four_none_middle : (f r : ℕ) → f < 16 → r < 280
    → (f + 9 + r < 280 → four_none (f + 9 + r) ≤ 16 + four_none r)
    × (280 ≤ f + 9 + r → 20 + four_none (f + 9 + r - 280) ≤ 16 + four_none r)
unfolding four_none
four_none_middle f r h k = (λ l. grind (arith, nat_tests), λ l. grind (arith, nat_tests))

four_none_long : (f r : ℕ) → f < 256 → r < 280
    → (f + 25 + r < 280 → four_none (f + 25 + r) ≤ 20 + four_none r)
    × (280 ≤ f + 25 + r → 20 + four_none (f + 25 + r - 280) ≤ 20 + four_none r)
unfolding four_none
four_none_long f r h k = (λ l. grind (arith, nat_tests), λ l. grind (arith, nat_tests))

eight_some_pixel : (r : ℕ) → r < 127 → (1 + r < 127 → eight_some (1 + r) ≤ 8 + eight_some r)
    × (127 ≤ 1 + r → 24 + eight_some (1 + r - 127) ≤ 8 + eight_some r)
unfolding eight_some
eight_some_pixel r h = (λ l. grind (arith, nat_tests), λ l. grind (arith, nat_tests))

eight_some_run : (f r : ℕ) → f < 128 → r < 127 → (f + r < 127 → eight_some (f + r) ≤ 24 + eight_some r)
    × (127 ≤ f + r → 24 + eight_some (f + r - 127) ≤ 24 + eight_some r)
unfolding eight_some
eight_some_run f r h k = (λ l. grind (arith, nat_tests), λ l. grind (arith, nat_tests))

eight_none_zeros : (f r : ℕ) → f < 128 → r < 127 → (f + r < 127 → eight_none (f + r) ≤ 16 + eight_none r)
    × (127 ≤ f + r → 16 + eight_none (f + r - 127) ≤ 16 + eight_none r)
unfolding eight_none
eight_none_zeros f r h k = (λ l. grind (arith, nat_tests), λ l. grind (arith, nat_tests))

-- ---- the whole table

-- the quotient and the rest with at most one period more
two_carry : {R : Type 0} (n m : ℕ) → n ≤ 284
    → (n + m % 284 < 284 → (n + m) / 284 ≡ m / 284 → (n + m) % 284 ≡ n + m % 284 → R)
    → (284 ≤ n + m % 284 → (n + m) / 284 ≡ m / 284 + 1 → (n + m) % 284 ≡ n + m % 284 - 284 → R) → R
two_carry n m h below above =
    elim (cases_lt (n + m % 284) 284)
    [ inl l ↦ below l (omega arith) (omega arith) | inr l ↦ above l (omega arith) (omega arith) ]

four_carry : {R : Type 0} (n m : ℕ) → n ≤ 280
    → (n + m % 280 < 280 → (n + m) / 280 ≡ m / 280 → (n + m) % 280 ≡ n + m % 280 → R)
    → (280 ≤ n + m % 280 → (n + m) / 280 ≡ m / 280 + 1 → (n + m) % 280 ≡ n + m % 280 - 280 → R) → R
four_carry n m h below above =
    elim (cases_lt (n + m % 280) 280)
    [ inl l ↦ below l (omega arith) (omega arith) | inr l ↦ above l (omega arith) (omega arith) ]

eight_carry : {R : Type 0} (n m : ℕ) → n ≤ 127
    → (n + m % 127 < 127 → (n + m) / 127 ≡ m / 127 → (n + m) % 127 ≡ n + m % 127 → R)
    → (127 ≤ n + m % 127 → (n + m) / 127 ≡ m / 127 + 1 → (n + m) % 127 ≡ n + m % 127 - 127 → R) → R
eight_carry n m h below above =
    elim (cases_lt (n + m % 127) 127)
    [ inl l ↦ below l (omega arith) (omega arith) | inr l ↦ above l (omega arith) (omega arith) ]

-- a table that grows so grows so over whole periods too
two_grows : (table : ℕ → ℕ) (width n m : ℕ) → n ≤ 284
    → ((r : ℕ) → r < 284 → (n + r < 284 → table (n + r) ≤ width + table r)
    × (284 ≤ n + r → 16 + table (n + r - 284) ≤ width + table r))
    → 16 * ((n + m) / 284) + table ((n + m) % 284) ≤ width + (16 * (m / 284) + table (m % 284))
two_grows table width n m h g =
    two_carry n m h
    (λ l q r. rw (q, r) (omega (arith, (g (m % 284) (omega arith)).0 l)))
    (λ l q r. rw (q, r) (omega (arith, (g (m % 284) (omega arith)).1 l)))

four_grows : (table : ℕ → ℕ) (width n m : ℕ) → n ≤ 280
    → ((r : ℕ) → r < 280 → (n + r < 280 → table (n + r) ≤ width + table r)
    × (280 ≤ n + r → 20 + table (n + r - 280) ≤ width + table r))
    → 20 * ((n + m) / 280) + table ((n + m) % 280) ≤ width + (20 * (m / 280) + table (m % 280))
four_grows table width n m h g =
    four_carry n m h
    (λ l q r. rw (q, r) (omega (arith, (g (m % 280) (omega arith)).0 l)))
    (λ l q r. rw (q, r) (omega (arith, (g (m % 280) (omega arith)).1 l)))

eight_grows : (table : ℕ → ℕ) (top width n m : ℕ) → n ≤ 127
    → ((r : ℕ) → r < 127 → (n + r < 127 → table (n + r) ≤ width + table r)
    × (127 ≤ n + r → top + table (n + r - 127) ≤ width + table r))
    → top * ((n + m) / 127) + table ((n + m) % 127) ≤ width + (top * (m / 127) + table (m % 127))
eight_grows table top width n m h g =
    eight_carry n m h
    (λ l q r. rw (q, r) (omega (arith, (g (m % 127) (omega arith)).0 l)))
    (λ l q r. let p = (g (m % 127) (omega arith)).1 l in let k : top * (m / 127 + 1)
    ≡ top * (m / 127) + top = omega arith in rw (q, r, k) (omega (arith, p)))

-- with the pixels of any code more, the least bits are at most the code's bits more
pub table_step : (depth : Depth) (colour : ℕ) (code : Code) (m : ℕ) → IsCode depth code
    → colour_of code ≡ colour
    → table_bits depth colour (pixel_count depth code + m) ≤ width_of depth code + table_bits depth colour m
table_step Two zero (pixel code) m h e = absurd (omega (arith, h.0))
table_step Two zero one_zero m h e = two_grows two_none 4 1 m (omega arith) two_none_one
table_step Two zero two_zeros m h e = two_grows two_none 6 2 m (omega arith) two_none_two
table_step Two zero (zeros field) m h e = absurd h
table_step Two zero (short_run field code) m h e =
    two_grows two_none 8 (field + 3) m (omega (arith, h.0)) (λ r k. two_none_short field r h.0 k)
table_step Two zero (middle_run field code) m h e =
    two_grows two_none 12 (field + 12) m (omega (arith, h.0)) (λ r k. two_none_middle field r h.0 k)
table_step Two zero (long_run field code) m h e =
    two_grows two_none 16 (field + 29) m (omega (arith, h.0)) (λ r k. two_none_long field r h.0 k)
table_step Two (suc colour) (pixel code) m h e = two_grows two_some 2 1 m (omega arith) two_some_pixel
table_step Two (suc colour) one_zero m h e = absurd (omega arith)
table_step Two (suc colour) two_zeros m h e = absurd (omega arith)
table_step Two (suc colour) (zeros field) m h e = absurd h
table_step Two (suc colour) (short_run field code) m h e =
    two_grows two_some 8 (field + 3) m (omega (arith, h.0)) (λ r k. two_some_short field r h.0 k)
table_step Two (suc colour) (middle_run field code) m h e =
    two_grows two_some 12 (field + 12) m (omega (arith, h.0)) (λ r k. two_some_middle field r h.0 k)
table_step Two (suc colour) (long_run field code) m h e =
    two_grows two_some 16 (field + 29) m (omega (arith, h.0)) (λ r k. two_some_long field r h.0 k)
table_step Four zero (pixel code) m h e = absurd (omega (arith, h.0))
table_step Four zero one_zero m h e =
    four_grows four_none 8 1 m (omega arith) (λ r k. four_none_small 1 8 r (omega arith) (omega arith) k)
table_step Four zero two_zeros m h e =
    four_grows four_none 8 2 m (omega arith) (λ r k. four_none_small 2 8 r (omega arith) (omega arith) k)
table_step Four zero (zeros field) m h e =
    four_grows four_none 8 (field + 2) m (omega (arith, h.1))
    (λ r k. four_none_small (field + 2) 8 r (omega arith) (omega (arith, h.1)) k)
table_step Four zero (short_run field code) m h e =
    let s =
    four_grows four_none 8 (field + 4) m (omega (arith, h.0))
    (λ r k. four_none_small (field + 4) 8 r (omega arith) (omega (arith, h.0)) k) in omega (arith, s)
table_step Four zero (middle_run field code) m h e =
    four_grows four_none 16 (field + 9) m (omega (arith, h.0)) (λ r k. four_none_middle field r h.0 k)
table_step Four zero (long_run field code) m h e =
    four_grows four_none 20 (field + 25) m (omega (arith, h.0)) (λ r k. four_none_long field r h.0 k)
table_step Four (suc colour) (pixel code) m h e = four_grows four_some 4 1 m (omega arith) four_some_pixel
table_step Four (suc colour) one_zero m h e = absurd (omega arith)
table_step Four (suc colour) two_zeros m h e = absurd (omega arith)
table_step Four (suc colour) (zeros field) m h e = absurd (omega arith)
table_step Four (suc colour) (short_run field code) m h e =
    four_grows four_some 12 (field + 4) m (omega (arith, h.0)) (λ r k. four_some_short field r h.0 k)
table_step Four (suc colour) (middle_run field code) m h e =
    four_grows four_some 16 (field + 9) m (omega (arith, h.0)) (λ r k. four_some_middle field r h.0 k)
table_step Four (suc colour) (long_run field code) m h e =
    four_grows four_some 20 (field + 25) m (omega (arith, h.0)) (λ r k. four_some_long field r h.0 k)
table_step Eight zero (pixel code) m h e = absurd (omega (arith, h.0))
table_step Eight zero one_zero m h e = absurd h
table_step Eight zero two_zeros m h e = absurd h
table_step Eight zero (zeros field) m h e =
    eight_grows eight_none 16 16 field m (omega (arith, h.1)) (λ r k. eight_none_zeros field r h.1 k)
table_step Eight zero (short_run field code) m h e =
    let s = eight_grows eight_none 16 16 field m (omega (arith, h.0)) (λ r k. eight_none_zeros field r h.0 k) in omega
    (arith, s)
table_step Eight zero (middle_run field code) m h e = absurd h
table_step Eight zero (long_run field code) m h e = absurd h
table_step Eight (suc colour) (pixel code) m h e = eight_grows eight_some 24 8 1 m (omega arith) eight_some_pixel
table_step Eight (suc colour) one_zero m h e = absurd h
table_step Eight (suc colour) two_zeros m h e = absurd h
table_step Eight (suc colour) (zeros field) m h e = absurd (omega arith)
table_step Eight (suc colour) (short_run field code) m h e =
    eight_grows eight_some 24 24 field m (omega (arith, h.0)) (λ r k. eight_some_run field r h.0 k)
table_step Eight (suc colour) (middle_run field code) m h e = absurd h
table_step Eight (suc colour) (long_run field code) m h e = absurd h
