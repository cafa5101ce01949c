-- Pages: what is read has the table of a page, and what has that table is read.
use Rattle.std.proofs.Common.{◌≡◌, ℕ, zero, suc, ◌/◌, ◌%◌, ◌<◌, List, [], ◌∷◌, length, get_or, refl, sym, subst, arith}
use Rattle.std.specs.List.{flat_map}
use Rattle.stream_syntax.specs.declared.page.PageEntry.{PageEntry}
use Rattle.stream_syntax.specs.declared.page.State.{State}
use Rattle.stream_syntax.specs.declared.page.State.TheVariants.{Normal, Acquisition, ModeChange}
use Rattle.stream_syntax.specs.Fields.{number, reserved, HasFields, FitsFields}
use Rattle.stream_syntax.specs.PixelCodes.{bits_of}
use Rattle.stream_syntax.specs.Segments.{Page, page_entry_fields, page_fields, state_number}
use Rattle.segments.specs.Contents.{page_entries}
use Rattle.segments.specs.Reading.{page_in, state_of}
use Rattle.segments.proofs.Bits.{take_byte, put_byte, take_word, put_word}
use Rattle.segments.proofs.Shapes.{AreBytes, fields_bytes, no_bytes, nothing_left, take_free, put_free, take_4_2, put_4_2}

pub entries_laid : (bytes : List ℕ) → AreBytes bytes → length bytes % 6 ≡ 0
    → HasFields (flat_map page_entry_fields (page_entries bytes)) (bits_of bytes)
    × FitsFields (flat_map page_entry_fields (page_entries bytes))
entries_laid (a ∷ b ∷ c ∷ d ∷ e ∷ f ∷ rest) fits whole =
    let more = entries_laid rest (λ i. fits (suc (suc (suc (suc (suc (suc i))))))) (omega arith) in
    let y = put_word e f (flat_map page_entry_fields (page_entries rest)) rest (fits 4) (fits 5) more.0 in
    let x = put_word c d _ (e ∷ f ∷ rest) (fits 2) (fits 3) y in
    let free = put_free b _ (c ∷ d ∷ e ∷ f ∷ rest) x in (
      put_byte a _ (b ∷ c ∷ d ∷ e ∷ f ∷ rest) (fits 0)
          free,
      (fits 0, (tt, (omega (arith, fits 2, fits 3), (omega (arith, fits 4, fits 5), more.1)))),
    )
entries_laid [] fits whole = (nothing_left, tt)
entries_laid (a ∷ []) fits whole = absurd (omega arith)
entries_laid (a ∷ b ∷ []) fits whole = absurd (omega arith)
entries_laid (a ∷ b ∷ c ∷ []) fits whole = absurd (omega arith)
entries_laid (a ∷ b ∷ c ∷ d ∷ []) fits whole = absurd (omega arith)
entries_laid (a ∷ b ∷ c ∷ d ∷ e ∷ []) fits whole = absurd (omega arith)

pub state_there : (n : ℕ) → n < 3 → state_number (state_of n) ≡ n
state_there zero lt = refl
state_there (suc zero) lt = refl
state_there (suc (suc zero)) lt = refl
state_there (suc (suc (suc n))) lt = absurd (omega arith)

pub state_back : (state : State) → state_of (state_number state) ≡ state
state_back Normal = refl
state_back Acquisition = refl
state_back ModeChange = refl

pub state_fits : (state : State) → state_number state < 3
state_fits Normal = omega arith
state_fits Acquisition = omega arith
state_fits ModeChange = omega arith

-- the table of what is read
pub page_laid : (body : List ℕ) → AreBytes body → length body % 6 ≡ 2 → get_or body 1 0 / 4 % 4 < 3
    → HasFields (page_fields (page_in body)) (bits_of body) × FitsFields (page_fields (page_in body))
page_laid (time_out ∷ flags ∷ entries) fits whole state =
    let more = entries_laid entries (λ i. fits (suc (suc i))) (omega arith) in
    let second = put_4_2 flags (flat_map page_entry_fields (page_entries entries)) entries (fits 1) more.0 in
    let same : flags / 4 % 4 ≡ state_number (state_of (flags / 4 % 4)) = sym (state_there (flags / 4 % 4) state) in
    let second' : HasFields
    (number 4 (flags / 16) ∷ number 2 (state_number (state_of (flags / 4 % 4))) ∷ reserved 2
    ∷ flat_map page_entry_fields (page_entries entries)) (bits_of (flags ∷ entries)) =
    subst (λ (s : ℕ). HasFields
    (number 4 (flags / 16) ∷ number 2 s ∷ reserved 2 ∷ flat_map page_entry_fields (page_entries entries))
    (bits_of (flags ∷ entries))) same second in (
      put_byte time_out _ (flags ∷ entries) (fits 0)
          second',
      (
        fits
            0,
        (omega (arith, fits 1), (omega (arith, state_fits (state_of (flags / 4 % 4))), (tt, more.1))),
      ),
    )
page_laid [] fits whole state = absurd (omega arith)
page_laid (a ∷ []) fits whole state = absurd (omega arith)

-- ---- what has the table is read

pub entries_again : (entries : List PageEntry) (bytes : List ℕ) → AreBytes bytes
    → FitsFields (flat_map page_entry_fields entries)
    → HasFields (flat_map page_entry_fields entries) (bits_of bytes) → (page_entries bytes ≡ entries)
    × (length bytes % 6 ≡ 0)
entries_again [] bytes fits fit has = let e = no_bytes bytes has in (rw e refl, rw e refl)
entries_again (entry ∷ entries) (a ∷ b ∷ c ∷ d ∷ e ∷ f ∷ rest) fits fit has =
    let first = take_byte entry.region a _ _ fit.0 (fits 0) has in
    let second = take_free b _ _ first.1 in
    let third = take_word entry.x c d _ _ fit.1.1.0 (fits 2) (fits 3) second in
    let fourth =
    take_word entry.y e f (flat_map page_entry_fields entries) rest fit.1.1.1.0 (fits 4) (fits 5) third.1 in
    let more = entries_again entries rest (λ i. fits (suc (suc (suc (suc (suc (suc i))))))) fit.1.1.1.1 fourth.1 in
    (rw (first.0, third.0, fourth.0, more.0) refl, omega (arith, more.1))
entries_again (entry ∷ entries) [] fits fit has = absurd (omega (arith, fields_bytes _ [] has))
entries_again (entry ∷ entries) (a ∷ []) fits fit has = absurd (omega (arith, fields_bytes _ (a ∷ []) has))
entries_again (entry ∷ entries) (a ∷ b ∷ []) fits fit has =
    absurd (omega (arith, fields_bytes _ (a ∷ b ∷ []) has))
entries_again (entry ∷ entries) (a ∷ b ∷ c ∷ []) fits fit has =
    absurd (omega (arith, fields_bytes _ (a ∷ b ∷ c ∷ []) has))
entries_again (entry ∷ entries) (a ∷ b ∷ c ∷ d ∷ []) fits fit has =
    absurd (omega (arith, fields_bytes _ (a ∷ b ∷ c ∷ d ∷ []) has))
entries_again (entry ∷ entries) (a ∷ b ∷ c ∷ d ∷ e ∷ []) fits fit has =
    absurd (omega (arith, fields_bytes _ (a ∷ b ∷ c ∷ d ∷ e ∷ []) has))

pub page_again : (value : Page) (body : List ℕ) → AreBytes body → FitsFields (page_fields value)
    → HasFields (page_fields value) (bits_of body) → (page_in body ≡ value) × (length body % 6 ≡ 2)
    × (get_or body 1 0 / 4 % 4 < 3)
page_again value (time_out ∷ flags ∷ entries) fits fit has =
    let first = take_byte value.time_out time_out _ _ fit.0 (fits 0) has in
    let second =
    take_4_2 flags value.version (state_number value.state) (flat_map page_entry_fields value.entries) entries
    (fits 1) fit.1.0 fit.1.1.0 first.1 in
    let more = entries_again value.entries entries (λ i. fits (suc (suc i))) fit.1.1.1.1 second.2 in (
      rw (first.0, second.0, second.1, state_back value.state, more.0) refl,
      omega (arith, more.1),
      omega
          (arith, state_fits value.state, second.1),
    )
page_again value [] fits fit has = absurd (omega (arith, fields_bytes _ [] has))
page_again value (a ∷ []) fits fit has = absurd (omega (arith, fields_bytes _ (a ∷ []) has))
