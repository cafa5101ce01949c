-- The table of short runs of two bits.
use Rattle.std.proofs.Common.{◌≡◌, ℕ, zero, suc, ◌+◌, ◌*◌, ◌/◌, ◌%◌, ◌^◌, ◌<◌, ◌≤◌, Bool, true, ltb, List, [], ◌∷◌, map, get_or, refl, sym, ap, ◌∙◌, arith}
use Rattle.std.specs.Prelude.{flat_map}
use Rattle.std.specs.List.{list_all, range_with_len}
use Rattle.std.proofs.lemmas.Bool.{ltb-true}
use Rattle.std.proofs.lemmas.List.FromFn.{get_or-map-range_with_len}
use Rattle.sub_base.specs.declared.depth.Depth.TheVariants.{Two}
use Rattle.stream_syntax.specs.PixelCodes.{bits, spelled}
use Rattle.pixel_codes.specs.Private.Least.{chosen, chosen_within}
use Rattle.pixel_codes.specs.declared.run_table.TheConstants.{TWO_BIT_RUNS}
use Rattle.code_strings.proofs.Tokens.{cases_bool}

-- the bits of an entry
abbrev entry_bits : ℕ → List ℕ
entry_bits entry = bits (entry / 65536) (entry % 65536)

-- the bits of the run at a place of the table
abbrev run_bits : ℕ → List ℕ
run_bits place = flat_map (spelled Two) (chosen Two (place / 64) (place % 64))

table_is : map entry_bits TWO_BIT_RUNS ≡ map run_bits (range_with_len 0 256)
unfolding bits spelled chosen_within
table_is = refl

bits-none : bits 0 0 ≡ []
unfolding bits
bits-none = refl

entry_at : (xs : List ℕ) (i : ℕ) → get_or (map entry_bits xs) i [] ≡ entry_bits (get_or xs i 0)
entry_at [] i = sym bits-none
entry_at (x ∷ xs) zero = refl
entry_at (x ∷ xs) (suc i) = entry_at xs i

pub run_text : (code count : ℕ) → code < 4 → count < 64
    → entry_bits (get_or TWO_BIT_RUNS (code * 64 + count) 0) ≡ flat_map (spelled Two) (chosen Two code count)
run_text code count h k =
    let place = code * 64 + count in
    let a : place / 64 ≡ code = omega arith in
    let b : place % 64 ≡ count = omega arith in
    sym (entry_at TWO_BIT_RUNS place)
    ∙ ap (λ (t : List (List ℕ)). get_or t place []) table_is
    ∙ get_or-map-range_with_len run_bits 0 256 place place [] (omega arith) (omega arith)
    ∙ ap (λ (n : ℕ). flat_map (spelled Two) (chosen Two n (place % 64))) a
    ∙ ap (λ (n : ℕ). flat_map (spelled Two) (chosen Two code n)) b

-- an entry's number fits its bits, which are few
abbrev is_fit : ℕ → Bool
is_fit entry = ltb (entry % 65536) (2 ^ (entry / 65536))

abbrev is_narrow : ℕ → Bool
is_narrow entry = ltb (entry / 65536) 25

all_at : (test : ℕ → Bool) (xs : List ℕ) (i : ℕ) → test 0 ≡ true → list_all test xs ≡ true
    → test (get_or xs i 0) ≡ true
all_at test [] i z e = z
all_at test (x ∷ xs) zero z e =
    cases_bool (test x) (λ t. t) (λ t. absurd (let f = rw t at e in cc))
all_at test (x ∷ xs) (suc i) z e =
    cases_bool (test x) (λ t. all_at test xs i z (rw t at e)) (λ t. absurd (let f = rw t at e in cc))

pub run_fits : (i : ℕ) → get_or TWO_BIT_RUNS i 0 % 65536 < 2 ^ (get_or TWO_BIT_RUNS i 0 / 65536)
run_fits i = ltb-true _ _ (all_at is_fit TWO_BIT_RUNS i refl refl)

pub run_narrow : (i : ℕ) → get_or TWO_BIT_RUNS i 0 / 65536 ≤ 24
run_narrow i = omega (arith, ltb-true (get_or TWO_BIT_RUNS i 0 / 65536) 25 (all_at is_narrow TWO_BIT_RUNS i refl refl))
