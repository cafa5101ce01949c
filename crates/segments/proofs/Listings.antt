-- The tests of the listings of a region, one listing at a time.
use Rattle.std.proofs.Common.{◌≡◌, ℕ, ◌+◌, ◌/◌, ◌%◌, ◌<◌, ◌≤◌, true, List, [], ◌∷◌, length, get_or, drop, refl, arith}
use Rattle.std.specs.Prelude.{◌==◌, not}
use Rattle.stream_syntax.specs.declared.segment_fault.SegmentKind.TheVariants.{BadLength, CharacterObject, HeldObject}
use Rattle.stream_syntax.specs.SegmentTests.{refuse, listing_tests}
use Rattle.segments.specs.Reading.{tested}

pub whole_listing : (place : ℕ) (bytes : List ℕ) → 6 ≤ length bytes
    → listing_tests place bytes ≡ refuse (not (get_or bytes 2 0 / 64 == 0)) (place + 2) CharacterObject
    ∷ refuse (not (get_or bytes 2 0 / 16 % 4 == 0)) (place + 2) HeldObject
    ∷ listing_tests (place + 6) (drop 6 bytes)
whole_listing place (a ∷ b ∷ c ∷ d ∷ e ∷ f ∷ rest) long = refl
whole_listing place [] long = absurd (omega arith)
whole_listing place (a ∷ []) long = absurd (omega arith)
whole_listing place (a ∷ b ∷ []) long = absurd (omega arith)
whole_listing place (a ∷ b ∷ c ∷ []) long = absurd (omega arith)
whole_listing place (a ∷ b ∷ c ∷ d ∷ []) long = absurd (omega arith)
whole_listing place (a ∷ b ∷ c ∷ d ∷ e ∷ []) long = absurd (omega arith)

pub cut_listing : (place : ℕ) (bytes : List ℕ) → 0 < length bytes → length bytes < 6
    → listing_tests place bytes ≡ refuse true 4 BadLength ∷ []
cut_listing place (a ∷ b ∷ c ∷ d ∷ e ∷ f ∷ rest) some cut = absurd (omega arith)
cut_listing place [] some cut = absurd (omega arith)
cut_listing place (a ∷ []) some cut = refl
cut_listing place (a ∷ b ∷ []) some cut = refl
cut_listing place (a ∷ b ∷ c ∷ []) some cut = refl
cut_listing place (a ∷ b ∷ c ∷ d ∷ []) some cut = refl
cut_listing place (a ∷ b ∷ c ∷ d ∷ e ∷ []) some cut = refl

pub listing_passes : (place : ℕ) (bytes : List ℕ) → 6 ≤ length bytes → get_or bytes 2 0 / 64 ≡ 0
    → get_or bytes 2 0 / 16 % 4 ≡ 0
    → tested (listing_tests place bytes) ≡ tested (listing_tests (place + 6) (drop 6 bytes))
listing_passes place bytes long kind provider =
    let e1 : get_or bytes 2 0 / 64 == 0 ≡ true = rw kind refl in
    let e2 : get_or bytes 2 0 / 16 % 4 == 0 ≡ true = rw provider refl in
    rw (whole_listing place bytes long, e1, e2) refl
