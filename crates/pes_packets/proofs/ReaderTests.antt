-- The tests of a reader and the layout of a PES packet say the same.
use Rattle.std.proofs.Common.{◌≡◌, ℕ, ◌+◌, ◌/◌, ◌%◌, ◌≤◌, Bool, true, false, cond, ◌||◌, not, nat_eq, List, [], ◌∷◌, length, drop, get_or, Option, Some, None, refl, ap, eq-eqb}
use Rattle.std.proofs.lemmas.Bool.{le-ltb, ltb-false, eqb-true}
use Rattle.byteorder.specs.Endian.{big_number}
use Rattle.stream_syntax.specs.declared.pes.PesFault.{PesFault}
use Rattle.stream_syntax.specs.Pes.{field_place, pes_tests, pes_fault}
use Rattle.stream_syntax.specs.Tests.{Test, first_fault}

-- ---- tests

both_false : (a b : Bool) → (a || b) ≡ false → (a ≡ false) × (b ≡ false)
both_false true b e = absurd cc
both_false false b e = (refl, e)

or_false : (a b : Bool) → a ≡ false → b ≡ false → (a || b) ≡ false
or_false true b e f = absurd cc
or_false false b e f = f

not_other : (a b : ℕ) → not (nat_eq a b) ≡ false → a ≡ b
not_other a b e = eqb-true a b (not_not (nat_eq a b) e)
  where
    not_not : (t : Bool) → not t ≡ false → t ≡ true
    not_not true f = refl
    not_not false f = absurd cc

same_not_other : (a b : ℕ) → a ≡ b → not (nat_eq a b) ≡ false
same_not_other a b e = ap not (eq-eqb a b e)

-- each test is passed
abbrev AllFalse : List (Test PesFault) → Type 0
AllFalse [] = Unit {0}
AllFalse (first ∷ tests) = (first.fails ≡ false) × AllFalse tests

first_none : (failed : Bool) (fault : PesFault) (others : Option PesFault)
    → cond failed (Some fault) others ≡ None → (failed ≡ false) × (others ≡ None)
first_none true fault others e = absurd cc
first_none false fault others e = (refl, e)

none_first : (failed : Bool) (fault : PesFault) (others : Option PesFault) → failed ≡ false → others ≡ None
    → cond failed (Some fault) others ≡ None
none_first true fault others e f = absurd cc
none_first false fault others e f = f

none_failed : (tests : List (Test PesFault)) → first_fault tests ≡ None → AllFalse tests
none_failed [] e = tt
none_failed (first ∷ tests) e =
    let found = first_none first.fails first.fault (first_fault tests) e in (found.0, none_failed tests found.1)

none_to_tell : (tests : List (Test PesFault)) → AllFalse tests → first_fault tests ≡ None
none_to_tell [] passed = refl
none_to_tell (first ∷ tests) passed =
    none_first first.fails first.fault (first_fault tests) passed.0 (none_to_tell tests passed.1)

-- what bytes have that pass each test
pub record Passes (bytes : List ℕ) : Type 0 where
  pub start : 6 ≤ length bytes
  pub prefix : big_number 3 bytes ≡ 1
  pub stream : get_or bytes 3 0 ≡ 0xBD
  pub head : 9 ≤ length bytes
  pub count : length bytes ≡ 6 + big_number 2 (drop 4 bytes)
  pub bits : get_or bytes 6 0 / 64 ≡ 2
  pub clear : get_or bytes 6 0 / 16 % 4 ≡ 0
  pub timed : 2 ≤ get_or bytes 7 0 / 64
  pub header : 5 ≤ get_or bytes 8 0
  pub room : field_place bytes + 2 ≤ length bytes
  pub first_marker : get_or bytes 9 0 % 2 ≡ 1
  pub second_marker : get_or bytes 11 0 % 2 ≡ 1
  pub third_marker : get_or bytes 13 0 % 2 ≡ 1
  pub identifier : get_or bytes (field_place bytes) 0 ≡ 0x20
  pub stream_number : get_or bytes (field_place bytes + 1) 0 ≡ 0

pub passes_is_faultless : (bytes : List ℕ) → Passes bytes → pes_fault bytes ≡ None
passes_is_faultless bytes p =
    none_to_tell (pes_tests bytes) (
      or_false _ _ (le-ltb _ _ p.start) (same_not_other _ _ p.prefix),
      (
        same_not_other _ _ p.stream,
        (
          or_false _ _ (or_false _ _ (le-ltb _ _ p.head) (same_not_other _ _ p.count)) (same_not_other _ _ p.bits),
          (
            same_not_other _ _ p.clear,
            (
              le-ltb _ _ p.timed,
              (
                or_false _ _ (le-ltb _ _ p.header) (le-ltb _ _ p.room),
                (
                  or_false _ _ (or_false _ _ (same_not_other _ _ p.first_marker) (same_not_other _ _ p.second_marker))
                      (same_not_other _ _ p.third_marker),
                  (or_false _ _ (same_not_other _ _ p.identifier) (same_not_other _ _ p.stream_number), tt),
                ),
              ),
            ),
          ),
        ),
      ),
    )

pub faultless_passes : (bytes : List ℕ) → pes_fault bytes ≡ None → Passes bytes
faultless_passes bytes e =
    let passed = none_failed (pes_tests bytes) e in
    let start = both_false _ _ passed.0 in
    let head = both_false _ _ passed.1.1.0 in
    let sizes = both_false _ _ head.0 in
    let room = both_false _ _ passed.1.1.1.1.1.0 in
    let markers = both_false _ _ passed.1.1.1.1.1.1.0 in
    let markers_before = both_false _ _ markers.0 in
    let kind = both_false _ _ passed.1.1.1.1.1.1.1.0 in
    record {
      start = ltb-false _ _ start.0;
      prefix = not_other _ _ start.1;
      stream = not_other _ _ passed.1.0;
      head = ltb-false _ _ sizes.0;
      count = not_other _ _ sizes.1;
      bits = not_other _ _ head.1;
      clear = not_other _ _ passed.1.1.1.0;
      timed = ltb-false _ _ passed.1.1.1.1.0;
      header = ltb-false _ _ room.0;
      room = ltb-false _ _ room.1;
      first_marker = not_other _ _ markers_before.0;
      second_marker = not_other _ _ markers_before.1;
      third_marker = not_other _ _ markers.1;
      identifier = not_other _ _ kind.0;
      stream_number = not_other _ _ kind.1;
    }
