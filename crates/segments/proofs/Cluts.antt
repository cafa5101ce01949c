-- CLUT definitions: what is read has the table of a CLUT, and what has that table is read.
use Rattle.std.proofs.Common.{◌≡◌, ℕ, zero, suc, ◌/◌, ◌%◌, ◌≤◌, Bool, true, false, cond, ltb, List, [], ◌∷◌, ◌++◌, length, drop, map, refl, arith}
use Rattle.std.specs.Prelude.{◌==◌}
use Rattle.std.specs.List.{flat_map}
use Rattle.std.proofs.lemmas.Bool.{le-ltb, ltb-false, eqb-true}
use Rattle.std.proofs.lemmas.Bool.Decides.{nat_tests}
use Rattle.std.proofs.lemmas.List.{nil_from_length, length-drop}
use Rattle.stream_syntax.specs.Fields.{Field, HasFields, FitsFields}
use Rattle.stream_syntax.specs.PixelCodes.{bits_of}
use Rattle.stream_syntax.specs.Segments.{CodedColour, CodedEntry, full, short, colour_fields, coded_entry_fields, clut_fields, entry_of, flag}
use Rattle.stream_syntax.specs.SegmentTests.{entry_size, are_entries, are_whole}
use Rattle.stream_syntax.specs.Tests.{byte_at, word_at}
use Rattle.segments.specs.Contents.{full_colour, short_colour, first_entry, first_entries, clut_entries}
use Rattle.segments.specs.Reading.{clut_in}
use Rattle.segments.proofs.Bits.{take_byte, put_byte}
use Rattle.segments.proofs.Entries.{entry_has_bytes}
use Rattle.segments.proofs.Shapes.{AreBytes, AreBytes-drop, fields_bytes, no_bytes, nothing_left, take_4, put_4, take_flags, put_flags, take_short, put_short, flag_back, flag_there, flag_fits}

-- the first entry as it is coded
abbrev coded_colour : List ℕ → Bool → CodedColour
coded_colour bytes true = full (byte_at 2 bytes) (byte_at 3 bytes) (byte_at 4 bytes) (byte_at 5 bytes)
coded_colour bytes false =
    short (word_at 2 bytes / 1024) (word_at 2 bytes / 64 % 16) (word_at 2 bytes / 4 % 16) (word_at 2 bytes % 4)

abbrev coded_as : List ℕ → Bool → CodedEntry
coded_as bytes range =
    record {
      entry = byte_at 0 bytes;
      two = byte_at 1 bytes / 128 % 2 == 1;
      four = byte_at 1 bytes / 64 % 2 == 1;
      eight = byte_at 1 bytes / 32 % 2 == 1;
      coded = coded_colour bytes range;
    }

abbrev first_coded : List ℕ → CodedEntry
first_coded bytes = coded_as bytes (byte_at 1 bytes % 2 == 1)

abbrev coded_entries : ℕ → List ℕ → List CodedEntry
coded_entries zero bytes = []
coded_entries (suc most) bytes =
    cond (ltb (length bytes) (entry_size bytes)) []
    (first_coded bytes ∷ coded_entries most (drop (entry_size bytes) bytes))

-- what they stand for
first_is : (bytes : List ℕ) → entry_of (first_coded bytes) ≡ first_entry bytes
first_is bytes =
    let P : Bool
    → Type 0 = λ b. entry_of (coded_as bytes b)
    ≡ record {
      entry = byte_at 0 bytes;
      two = byte_at 1 bytes / 128 % 2 == 1;
      four = byte_at 1 bytes / 64 %
          2 == 1;
      eight = byte_at 1 bytes / 32 % 2 == 1;
      colour = cond b (full_colour bytes) (short_colour bytes);
    } in
    elim (byte_at 1 bytes % 2 == 1) as P [ true ↦ refl | false ↦ refl ]

coded_are : (most : ℕ) (bytes : List ℕ) → map entry_of (coded_entries most bytes) ≡ first_entries most bytes
coded_are zero bytes = refl
coded_are (suc most) bytes =
    let P : Bool
    → Type 0 = λ b. map entry_of
    (cond b [] (first_coded bytes ∷ coded_entries most (drop (entry_size bytes) bytes)))
    ≡ cond b [] (first_entry bytes ∷ first_entries most (drop (entry_size bytes) bytes)) in
    elim (ltb (length bytes) (entry_size bytes)) as P
    [ true ↦ refl | false ↦ rw (first_is bytes, coded_are most (drop (entry_size bytes) bytes)) refl ]

-- ---- the table of an entry that is read

full_laid : (a flags c d : ℕ) (rest : List ℕ) (fields : List Field)
    → AreBytes (a ∷ flags ∷ c ∷ d ∷ rest) → 2 ≤ length rest → flags % 2 ≡ 1
    → HasFields fields (bits_of (drop 2 rest)) × FitsFields fields
    → HasFields (coded_entry_fields (coded_as (a ∷ flags ∷ c ∷ d ∷ rest) true) ++ fields)
    (bits_of (a ∷ flags ∷ c ∷ d ∷ rest))
    × FitsFields (coded_entry_fields (coded_as (a ∷ flags ∷ c ∷ d ∷ rest) true) ++ fields)
full_laid a flags c d (e ∷ f ∷ rest) fields fits long odd more =
    let t = put_byte f fields rest (fits 5) more.0 in
    let cb = put_byte e _ (f ∷ rest) (fits 4) t in
    let cr = put_byte d _ (e ∷ f ∷ rest) (fits 3) cb in
    let y = put_byte c _ (d ∷ e ∷ f ∷ rest) (fits 2) cr in
    let all =
    put_byte a _ (flags ∷ c ∷ d ∷ e ∷ f ∷ rest) (fits 0)
    (put_flags flags 1 _ (c ∷ d ∷ e ∷ f ∷ rest) (fits 1) odd y) in (
      rw (
        flag_there (flags / 128 % 2) (omega arith),
        flag_there (flags / 64 % 2) (omega arith),
        flag_there
            (flags / 32 % 2) (omega arith),
      ) all,
      (
        fits 0,
        (
          flag_fits
              _,
          (flag_fits _, (flag_fits _, (tt, (omega arith, (fits 2, (fits 3, (fits 4, (fits 5, more.1)))))))),
        ),
      ),
    )
full_laid a flags c d [] fields fits long odd more = absurd (omega arith)
full_laid a flags c d (e ∷ []) fields fits long odd more = absurd (omega arith)

short_laid : (a flags c d : ℕ) (rest : List ℕ) (fields : List Field)
    → AreBytes (a ∷ flags ∷ c ∷ d ∷ rest) → flags % 2 ≡ 0
    → HasFields fields (bits_of rest) × FitsFields fields
    → HasFields (coded_entry_fields (coded_as (a ∷ flags ∷ c ∷ d ∷ rest) false) ++ fields)
    (bits_of (a ∷ flags ∷ c ∷ d ∷ rest))
    × FitsFields (coded_entry_fields (coded_as (a ∷ flags ∷ c ∷ d ∷ rest) false) ++ fields)
short_laid a flags c d rest fields fits even more =
    let colour = put_short c d fields rest (fits 2) (fits 3) more.0 in
    let all =
    put_byte a _ (flags ∷ c ∷ d ∷ rest) (fits 0) (put_flags flags 0 _ (c ∷ d ∷ rest) (fits 1) even colour)
    in (
      rw (
        flag_there (flags / 128 % 2) (omega arith),
        flag_there (flags / 64 % 2) (omega arith),
        flag_there
            (flags / 32 % 2) (omega arith),
      )
          all,
      (
        fits
            0,
        (
          flag_fits
              _,
          (
            flag_fits
                _,
            (
              flag_fits
                  _,
              (
                tt,
                (
                  omega
                      arith,
                  (omega (arith, fits 2, fits 3), (omega arith, (omega arith, (omega arith, more.1)))),
                ),
              ),
            ),
          ),
        ),
      ),
    )

odd_from : (n : ℕ) → (n % 2 == 1) ≡ true → n % 2 ≡ 1
odd_from n e = eqb-true _ _ e

even_from : (n : ℕ) → (n % 2 == 1) ≡ false → n % 2 ≡ 0
even_from n e = grind (arith, nat_tests)

first_laid : (bytes : List ℕ) (fields : List Field) → AreBytes bytes → entry_size bytes ≤ length bytes
    → HasFields fields (bits_of (drop (entry_size bytes) bytes)) × FitsFields fields
    → HasFields (coded_entry_fields (first_coded bytes) ++ fields) (bits_of bytes)
    × FitsFields (coded_entry_fields (first_coded bytes) ++ fields)
first_laid (a ∷ flags ∷ c ∷ d ∷ rest) fields fits =
    let P : Bool → Type 0 = λ b. (flags % 2 == 1) ≡ b
    → cond b 6 4 ≤ length (a ∷ flags ∷ c ∷ d ∷ rest)
    → HasFields fields (bits_of (drop (cond b 6 4) (a ∷ flags ∷ c ∷ d ∷ rest))) × FitsFields fields
    → HasFields (coded_entry_fields (coded_as (a ∷ flags ∷ c ∷ d ∷ rest) b) ++ fields)
    (bits_of (a ∷ flags ∷ c ∷ d ∷ rest))
    × FitsFields (coded_entry_fields (coded_as (a ∷ flags ∷ c ∷ d ∷ rest) b) ++ fields) in
    (elim (flags % 2 == 1) as P [
      | true ↦ λ e long more. full_laid a flags c d rest fields fits (omega arith) (odd_from flags e) more
      | false ↦ λ e long more. short_laid a flags c d rest fields fits (even_from flags e) more
    ]) refl
first_laid [] fields fits = λ long more. absurd (omega (arith, entry_has_bytes []))
first_laid (a ∷ []) fields fits = λ long more. absurd (omega (arith, entry_has_bytes (a ∷ [])))
first_laid (a ∷ b ∷ []) fields fits = λ long more. absurd (omega (arith, entry_has_bytes (a ∷ b ∷ [])))
first_laid (a ∷ b ∷ c ∷ []) fields fits =
    λ long more. absurd (omega (arith, entry_has_bytes (a ∷ b ∷ c ∷ [])))

whole_next : (empty cut more : Bool) → empty ≡ false → cond empty true (cond cut false more) ≡ true
    → (cut ≡ false) × (more ≡ true)
whole_next true cut more e whole = absurd cc
whole_next false true more e whole = absurd cc
whole_next false false more e whole = (refl, whole)

pub coded_laid : (most : ℕ) (bytes : List ℕ) → AreBytes bytes → length bytes ≤ most
    → are_entries most bytes ≡ true
    → HasFields (flat_map coded_entry_fields (coded_entries most bytes)) (bits_of bytes)
    × FitsFields (flat_map coded_entry_fields (coded_entries most bytes))
coded_laid zero bytes fits le whole =
    let nothing : bytes ≡ [] = nil_from_length bytes (omega arith) in rw nothing (nothing_left, tt)
coded_laid (suc most) [] fits le whole = (nothing_left, tt)
coded_laid (suc most) (b ∷ bytes) fits le whole =
    let some : (length (b ∷ bytes) == 0) ≡ false = grind (arith, nat_tests) in
    let next =
    whole_next (length (b ∷ bytes) == 0) (ltb (length (b ∷ bytes)) (entry_size (b ∷ bytes))) _ some whole in
    let size = entry_has_bytes (b ∷ bytes) in
    let more =
    coded_laid most (drop (entry_size (b ∷ bytes)) (b ∷ bytes))
    (AreBytes-drop (entry_size (b ∷ bytes)) (b ∷ bytes) fits)
    (omega (arith, length-drop (entry_size (b ∷ bytes)) (b ∷ bytes), size)) next.1 in
    rw next.0
    (first_laid (b ∷ bytes)
    (flat_map coded_entry_fields (coded_entries most (drop (entry_size (b ∷ bytes)) (b ∷ bytes)))) fits
    (ltb-false _ _ next.0) more)

-- ---- what has the table is read

abbrev Again : List ℕ → CodedEntry → List Field → Type 0
Again bytes coded fields = (entry_size bytes ≤ length bytes) × (first_entry bytes ≡ entry_of coded)
    × HasFields fields (bits_of (drop (entry_size bytes) bytes))

full_again : (entry y cr cb t : ℕ) (two four eight : Bool) (fields : List Field) (bytes : List ℕ) → AreBytes bytes
    → FitsFields
    (coded_entry_fields (record { entry = entry; two = two; four = four; eight = eight; coded = full y cr cb t })
    ++ fields)
    → HasFields
    (coded_entry_fields (record { entry = entry; two = two; four = four; eight = eight; coded = full y cr cb t })
    ++ fields) (bits_of bytes)
    → Again bytes (record { entry = entry; two = two; four = four; eight = eight; coded = full y cr cb t }) fields
full_again entry y cr cb t two four eight fields (a ∷ b ∷ c ∷ d ∷ e ∷ f ∷ rest) fits fit has =
    let first = take_byte entry a _ _ fit.0 (fits 0) has in
    let second =
    take_flags b (flag two) (flag four) (flag eight) 1 _ _ (fits 1) (flag_fits two) (flag_fits four)
    (flag_fits eight) (omega arith) first.1 in
    let third = take_byte y c _ _ fit.1.1.1.1.1.1.0 (fits 2) second.4 in
    let fourth = take_byte cr d _ _ fit.1.1.1.1.1.1.1.0 (fits 3) third.1 in
    let fifth = take_byte cb e _ _ fit.1.1.1.1.1.1.1.1.0 (fits 4) fourth.1 in
    let sixth = take_byte t f fields rest fit.1.1.1.1.1.1.1.1.1.0 (fits 5) fifth.1 in
    let range : (b % 2 == 1) ≡ true = rw second.3 refl in (
      rw range (omega arith),
      rw (
        range,
        first.0,
        flag_back _ _ second.0,
        flag_back _ _ second.1,
        flag_back _ _
            second.2,
        third.0,
        fourth.0,
        fifth.0,
        sixth.0,
      ) refl,
      rw range sixth.1,
    )
full_again entry y cr cb t two four eight fields [] fits fit has = absurd (omega (arith, fields_bytes _ [] has))
full_again entry y cr cb t two four eight fields (a ∷ []) fits fit has =
    absurd (omega (arith, fields_bytes _ (a ∷ []) has))
full_again entry y cr cb t two four eight fields (a ∷ b ∷ []) fits fit has =
    absurd (omega (arith, fields_bytes _ (a ∷ b ∷ []) has))
full_again entry y cr cb t two four eight fields (a ∷ b ∷ c ∷ []) fits fit has =
    absurd (omega (arith, fields_bytes _ (a ∷ b ∷ c ∷ []) has))
full_again entry y cr cb t two four eight fields (a ∷ b ∷ c ∷ d ∷ []) fits fit has =
    absurd (omega (arith, fields_bytes _ (a ∷ b ∷ c ∷ d ∷ []) has))
full_again entry y cr cb t two four eight fields (a ∷ b ∷ c ∷ d ∷ e ∷ []) fits fit has =
    absurd (omega (arith, fields_bytes _ (a ∷ b ∷ c ∷ d ∷ e ∷ []) has))

short_again : (entry y cr cb t : ℕ) (two four eight : Bool) (fields : List Field) (bytes : List ℕ)
    → AreBytes bytes
    → FitsFields
    (coded_entry_fields (record { entry = entry; two = two; four = four; eight = eight; coded = short y cr cb t })
    ++ fields)
    → HasFields
    (coded_entry_fields (record { entry = entry; two = two; four = four; eight = eight; coded = short y cr cb t })
    ++ fields) (bits_of bytes)
    → Again bytes (record { entry = entry; two = two; four = four; eight = eight; coded = short y cr cb t }) fields
short_again entry y cr cb t two four eight fields (a ∷ b ∷ c ∷ d ∷ rest) fits fit has =
    let first = take_byte entry a _ _ fit.0 (fits 0) has in
    let second =
    take_flags b (flag two) (flag four) (flag eight) 0 _ _ (fits 1) (flag_fits two) (flag_fits four)
    (flag_fits eight) (omega arith) first.1 in
    let third =
    take_short c d y cr cb t fields rest (fits 2) (fits 3) fit.1.1.1.1.1.1.0 fit.1.1.1.1.1.1.1.0
    fit.1.1.1.1.1.1.1.1.0 fit.1.1.1.1.1.1.1.1.1.0 second.4 in
    let range : (b % 2 == 1) ≡ false = rw second.3 refl in (
      rw range (omega arith),
      rw (
        range,
        first.0,
        flag_back _ _ second.0,
        flag_back _ _ second.1,
        flag_back _ _
            second.2,
        third.0,
        third.1,
        third.2,
        third.3,
      ) refl,
      rw range third.4,
    )
short_again entry y cr cb t two four eight fields [] fits fit has = absurd (omega (arith, fields_bytes _ [] has))
short_again entry y cr cb t two four eight fields (a ∷ []) fits fit has =
    absurd (omega (arith, fields_bytes _ (a ∷ []) has))
short_again entry y cr cb t two four eight fields (a ∷ b ∷ []) fits fit has =
    absurd (omega (arith, fields_bytes _ (a ∷ b ∷ []) has))
short_again entry y cr cb t two four eight fields (a ∷ b ∷ c ∷ []) fits fit has =
    absurd (omega (arith, fields_bytes _ (a ∷ b ∷ c ∷ []) has))

colour_fit : (colour : CodedColour) (fields : List Field) → FitsFields (colour_fields colour ++ fields)
    → FitsFields fields
colour_fit (full y cr cb t) fields fit = fit.1.1.1.1
colour_fit (short y cr cb t) fields fit = fit.1.1.1.1

again_of : (entry : ℕ) (two four eight : Bool) (colour : CodedColour) (fields : List Field) (bytes : List ℕ)
    → AreBytes bytes
    → FitsFields
    (coded_entry_fields (record { entry = entry; two = two; four = four; eight = eight; coded = colour }) ++ fields)
    → HasFields
    (coded_entry_fields (record { entry = entry; two = two; four = four; eight = eight; coded = colour }) ++ fields)
    (bits_of bytes)
    → Again bytes (record { entry = entry; two = two; four = four; eight = eight; coded = colour }) fields
again_of entry two four eight (full y cr cb t) fields bytes fits fit has =
    full_again entry y cr cb t two four eight fields bytes fits fit has
again_of entry two four eight (short y cr cb t) fields bytes fits fit has =
    short_again entry y cr cb t two four eight fields bytes fits fit has

some_is : (n : ℕ) → 4 ≤ n → (n == 0) ≡ false
some_is n le = grind (arith, nat_tests)

pub coded_again : (coded : List CodedEntry) (most : ℕ) (bytes : List ℕ) → AreBytes bytes
    → length bytes ≤ most → FitsFields (flat_map coded_entry_fields coded)
    → HasFields (flat_map coded_entry_fields coded) (bits_of bytes)
    → (first_entries most bytes ≡ map entry_of coded) × (are_entries most bytes ≡ true)
coded_again [] zero bytes fits le fit has = (refl, refl)
coded_again [] (suc most) bytes fits le fit has =
    let nothing : bytes ≡ [] = no_bytes bytes has in rw nothing (refl, refl)
coded_again (first ∷ coded) zero bytes fits le fit has =
    let one =
    again_of first.entry first.two first.four first.eight first.coded (flat_map coded_entry_fields coded) bytes fits
    fit has in
    absurd (omega (arith, one.0, entry_has_bytes bytes))
coded_again (first ∷ coded) (suc most) bytes fits le fit has =
    let one =
    again_of first.entry first.two first.four first.eight first.coded (flat_map coded_entry_fields coded) bytes fits
    fit has in
    let size = entry_has_bytes bytes in
    let more =
    coded_again coded most (drop (entry_size bytes) bytes) (AreBytes-drop (entry_size bytes) bytes fits)
    (omega (arith, length-drop (entry_size bytes) bytes, size))
    (colour_fit first.coded (flat_map coded_entry_fields coded) fit.1.1.1.1.1.1) one.2 in (
      rw (le-ltb (length bytes) (entry_size bytes) one.0, one.1, more.0) refl,
      rw
          (some_is (length bytes) (omega (arith, one.0, size)), le-ltb (length bytes) (entry_size bytes) one.0, more.1)
          refl,
    )

-- ---- the whole of it

pub clut_laid : (body : List ℕ) → AreBytes body → 2 ≤ length body → are_whole (drop 2 body) ≡ true
    → (coded : List CodedEntry) × (map entry_of coded ≡ (clut_in body).entries)
    × HasFields (clut_fields (clut_in body).clut (clut_in body).version coded) (bits_of body)
    × FitsFields (clut_fields (clut_in body).clut (clut_in body).version coded)
unfolding are_whole clut_entries
clut_laid (clut ∷ version ∷ entries) fits long whole =
    let more =
    coded_laid (length entries) entries (AreBytes-drop 2 (clut ∷ version ∷ entries) fits) (omega arith) whole in
    let second = put_4 version _ entries (fits 1) more.0 in (
      coded_entries (length entries) entries,
      coded_are (length entries) entries,
      put_byte clut _ (version ∷ entries)
          (fits 0) second,
      (fits 0, (omega (arith, fits 1), (tt, more.1))),
    )
clut_laid [] fits long whole = absurd (omega arith)
clut_laid (a ∷ []) fits long whole = absurd (omega arith)

pub clut_again : (clut version : ℕ) (coded : List CodedEntry) (body : List ℕ) → AreBytes body
    → FitsFields (clut_fields clut version coded)
    → HasFields (clut_fields clut version coded) (bits_of body)
    → (clut_in body ≡ record { clut = clut; version = version; entries = map entry_of coded })
    × (2 ≤ length body) × (are_whole (drop 2 body) ≡ true)
unfolding are_whole clut_entries
clut_again clut version coded (a ∷ b ∷ entries) fits fit has =
    let first = take_byte clut a _ _ fit.0 (fits 0) has in
    let second = take_4 b version (flat_map coded_entry_fields coded) entries (fits 1) fit.1.0 first.1 in
    let more =
    coded_again coded (length entries) entries (AreBytes-drop 2 (a ∷ b ∷ entries) fits) (omega arith) fit.1.1.1
    second.1 in
    (rw (first.0, second.0, more.0) refl, omega arith, more.1)
clut_again clut version coded [] fits fit has = absurd (omega (arith, fields_bytes _ [] has))
clut_again clut version coded (a ∷ []) fits fit has = absurd (omega (arith, fields_bytes _ (a ∷ []) has))
