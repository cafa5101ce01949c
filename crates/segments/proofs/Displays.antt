-- Display definitions and bodies that are passed over: what is read has its table, and what has that table is read.
use Rattle.std.proofs.Common.{◌≡◌, ℕ, zero, suc, ◌+◌, ◌-◌, ◌*◌, ◌/◌, ◌%◌, ◌<◌, ◌≤◌, Bool, true, false, cond, List, [], ◌∷◌, length, get_or, drop, Some, None, refl, ap, subst, arith}
use Rattle.std.specs.Prelude.{◌==◌, if◌then◌else◌}
use Rattle.stream_syntax.specs.declared.display.Window.{Window}
use Rattle.stream_syntax.specs.Fields.{number, reserved, HasFields, FitsFields}
use Rattle.stream_syntax.specs.PixelCodes.{bits_of}
use Rattle.stream_syntax.specs.Segments.{display_fields, free_bytes}
use Rattle.stream_syntax.specs.SegmentTests.{has_window}
use Rattle.segments.specs.Reading.{display_in, window_in}
use Rattle.segments.proofs.Bits.{take_word, put_word}
use Rattle.segments.proofs.Shapes.{AreBytes, fields_bytes, no_bytes, nothing_left, take_free, put_free, take_4_1, put_4_1}

-- ---- bytes that may be anything

pub free_laid : (bytes : List ℕ) → HasFields (free_bytes (length bytes)) (bits_of bytes)
free_laid [] = nothing_left
free_laid (b ∷ bytes) = put_free b (free_bytes (length bytes)) bytes (free_laid bytes)

pub free_fits : (count : ℕ) → FitsFields (free_bytes count)
free_fits zero = tt
free_fits (suc count) = (tt, free_fits count)

pub free_again : (count : ℕ) (bytes : List ℕ) → HasFields (free_bytes count) (bits_of bytes)
    → length bytes ≡ count
free_again zero bytes has = let e = no_bytes bytes has in rw e refl
free_again (suc count) [] has = absurd (omega (arith, fields_bytes _ [] has))
free_again (suc count) (b ∷ bytes) has = ap suc (free_again count bytes (take_free b (free_bytes count) bytes has))

-- ---- displays

not_set : (n : ℕ) → n < 2 → (n == 1) ≡ false → n ≡ 0
not_set zero lt e = refl
not_set (suc zero) lt e = absurd cc
not_set (suc (suc n)) lt e = absurd (omega arith)

set : (n : ℕ) → n < 2 → (n == 1) ≡ true → n ≡ 1
set zero lt e = absurd cc
set (suc zero) lt e = refl
set (suc (suc n)) lt e = absurd (omega arith)

-- how many bytes follow the definition
abbrev pub further_in : List ℕ → ℕ
further_in body = if has_window body then length (drop 13 body) else length (drop 5 body)

plain_laid : (body : List ℕ) → AreBytes body → 5 ≤ length body → has_window body ≡ false
    → HasFields
    (display_fields (length (drop 5 body))
    (record {
      version = get_or body 0 0 / 16;
      width = (get_or body 1 0 * 256 + get_or body 2 0)
          + 1;
      height = (get_or body 3 0 * 256 + get_or body 4 0) + 1;
      window = None;
    })) (bits_of body)
    × FitsFields
    (display_fields (length (drop 5 body))
    (record {
      version = get_or body 0 0 / 16;
      width = (get_or body 1 0 * 256 + get_or body 2 0)
          + 1;
      height = (get_or body 3 0 * 256 + get_or body 4 0) + 1;
      window = None;
    }))
plain_laid (flags ∷ w1 ∷ w0 ∷ h1 ∷ h0 ∷ rest) fits long flagged =
    let p1 = put_word h1 h0 (free_bytes (length rest)) rest (fits 3) (fits 4) (free_laid rest) in
    let p2 = put_word w1 w0 _ (h1 ∷ h0 ∷ rest) (fits 1) (fits 2) p1 in
    let p3 = put_4_1 flags _ (w1 ∷ w0 ∷ h1 ∷ h0 ∷ rest) (fits 0) p2 in
    let off : flags / 8 % 2 ≡ 0 = not_set (flags / 8 % 2) (omega arith) flagged in
    let width : w1 * 256 + w0 + 1 - 1 ≡ w1 * 256 + w0 = omega arith in
    let height : h1 * 256 + h0 + 1 - 1 ≡ h1 * 256 + h0 = omega arith in (
      rw (width, height)
          (subst (λ (n : ℕ). HasFields
          (number 4 (flags / 16) ∷ number 1 n ∷ reserved 3 ∷ number 16 (w1 * 256 + w0)
          ∷ number 16 (h1 * 256 + h0) ∷ free_bytes (length rest))
          (bits_of (flags ∷ w1 ∷ w0 ∷ h1 ∷ h0 ∷ rest))) off p3),
      rw (width, height) (
        omega (arith, fits 0),
        (
          omega
              arith,
          (tt, (omega (arith, fits 1, fits 2), (omega (arith, fits 3, fits 4), free_fits (length rest)))),
        ),
      ),
    )
plain_laid [] fits long flagged = absurd (omega arith)
plain_laid (a ∷ []) fits long flagged = absurd (omega arith)
plain_laid (a ∷ b ∷ []) fits long flagged = absurd (omega arith)
plain_laid (a ∷ b ∷ c ∷ []) fits long flagged = absurd (omega arith)
plain_laid (a ∷ b ∷ c ∷ d ∷ []) fits long flagged = absurd (omega arith)

window_laid : (body : List ℕ) → AreBytes body → 13 ≤ length body → has_window body ≡ true
    → HasFields
    (display_fields (length (drop 13 body))
    (record {
      version = get_or body 0 0 / 16;
      width = (get_or body 1 0 * 256 + get_or body 2 0)
          + 1;
      height = (get_or body 3 0 * 256 + get_or body 4 0) + 1;
      window = Some (window_in body);
    })) (bits_of body)
    × FitsFields
    (display_fields (length (drop 13 body))
    (record {
      version = get_or body 0 0 / 16;
      width = (get_or body 1 0 * 256 + get_or body 2 0)
          + 1;
      height = (get_or body 3 0 * 256 + get_or body 4 0) + 1;
      window = Some (window_in body);
    }))
window_laid (flags ∷ w1 ∷ w0 ∷ h1 ∷ h0 ∷ l1 ∷ l0 ∷ r1 ∷ r0 ∷ t1 ∷ t0 ∷ b1 ∷ b0 ∷ rest) fits
    long flagged =
    let q1 = put_word b1 b0 (free_bytes (length rest)) rest (fits 11) (fits 12) (free_laid rest) in
    let q2 = put_word t1 t0 _ (b1 ∷ b0 ∷ rest) (fits 9) (fits 10) q1 in
    let q3 = put_word r1 r0 _ (t1 ∷ t0 ∷ b1 ∷ b0 ∷ rest) (fits 7) (fits 8) q2 in
    let q4 = put_word l1 l0 _ (r1 ∷ r0 ∷ t1 ∷ t0 ∷ b1 ∷ b0 ∷ rest) (fits 5) (fits 6) q3 in
    let p1 = put_word h1 h0 _ (l1 ∷ l0 ∷ r1 ∷ r0 ∷ t1 ∷ t0 ∷ b1 ∷ b0 ∷ rest) (fits 3) (fits 4) q4 in
    let p2 =
    put_word w1 w0 _ (h1 ∷ h0 ∷ l1 ∷ l0 ∷ r1 ∷ r0 ∷ t1 ∷ t0 ∷ b1 ∷ b0 ∷ rest) (fits 1) (fits 2)
    p1 in
    let p3 =
    put_4_1 flags _ (w1 ∷ w0 ∷ h1 ∷ h0 ∷ l1 ∷ l0 ∷ r1 ∷ r0 ∷ t1 ∷ t0 ∷ b1 ∷ b0 ∷ rest)
    (fits 0) p2 in
    let on : flags / 8 % 2 ≡ 1 = set (flags / 8 % 2) (omega arith) flagged in
    let width : w1 * 256 + w0 + 1 - 1 ≡ w1 * 256 + w0 = omega arith in
    let height : h1 * 256 + h0 + 1 - 1 ≡ h1 * 256 + h0 = omega arith in (
      rw (width, height)
          (subst (λ (n : ℕ). HasFields
          (number 4 (flags / 16) ∷ number 1 n ∷ reserved 3 ∷ number 16 (w1 * 256 + w0)
          ∷ number 16 (h1 * 256 + h0) ∷ number 16 (l1 * 256 + l0) ∷ number 16 (r1 * 256 + r0)
          ∷ number 16 (t1 * 256 + t0) ∷ number 16 (b1 * 256 + b0) ∷ free_bytes (length rest))
          (bits_of (flags ∷ w1 ∷ w0 ∷ h1 ∷ h0 ∷ l1 ∷ l0 ∷ r1 ∷ r0 ∷ t1 ∷ t0 ∷ b1 ∷ b0
          ∷ rest))) on p3),
      rw (width, height) (
        omega (arith, fits 0),
        (
          omega
              arith,
          (
            tt,
            (
              omega
                  (arith, fits 1, fits 2),
              (
                omega
                    (arith, fits 3, fits 4),
                (
                  omega
                      (arith, fits 5, fits 6),
                  (
                    omega
                        (arith, fits 7, fits 8),
                    (
                      omega
                          (arith, fits 9, fits 10),
                      (omega (arith, fits 11, fits 12), free_fits (length rest)),
                    ),
                  ),
                ),
              ),
            ),
          ),
        ),
      ),
    )
window_laid [] fits long flagged = absurd (omega arith)
window_laid (a ∷ []) fits long flagged = absurd (omega arith)
window_laid (a ∷ b ∷ []) fits long flagged = absurd (omega arith)
window_laid (a ∷ b ∷ c ∷ []) fits long flagged = absurd (omega arith)
window_laid (a ∷ b ∷ c ∷ d ∷ []) fits long flagged = absurd (omega arith)
window_laid (a ∷ b ∷ c ∷ d ∷ e ∷ []) fits long flagged = absurd (omega arith)
window_laid (a ∷ b ∷ c ∷ d ∷ e ∷ f ∷ []) fits long flagged = absurd (omega arith)
window_laid (a ∷ b ∷ c ∷ d ∷ e ∷ f ∷ g ∷ []) fits long flagged = absurd (omega arith)
window_laid (a ∷ b ∷ c ∷ d ∷ e ∷ f ∷ g ∷ h ∷ []) fits long flagged = absurd (omega arith)
window_laid (a ∷ b ∷ c ∷ d ∷ e ∷ f ∷ g ∷ h ∷ i ∷ []) fits long flagged = absurd (omega arith)
window_laid (a ∷ b ∷ c ∷ d ∷ e ∷ f ∷ g ∷ h ∷ i ∷ j ∷ []) fits long flagged = absurd (omega arith)
window_laid (a ∷ b ∷ c ∷ d ∷ e ∷ f ∷ g ∷ h ∷ i ∷ j ∷ k ∷ []) fits long flagged =
    absurd (omega arith)
window_laid (a ∷ b ∷ c ∷ d ∷ e ∷ f ∷ g ∷ h ∷ i ∷ j ∷ k ∷ l ∷ []) fits long flagged =
    absurd (omega arith)

pub display_laid : (body : List ℕ) → AreBytes body → 5 ≤ length body
    → (has_window body ≡ true → 13 ≤ length body)
    → HasFields (display_fields (further_in body) (display_in body)) (bits_of body)
    × FitsFields (display_fields (further_in body) (display_in body))
display_laid body fits long longer =
    let P : Bool → Type 0 = λ b. has_window body ≡ b
    → HasFields
    (display_fields (cond b (length (drop 13 body)) (length (drop 5 body)))
    (record {
      version = get_or body 0 0 / 16;
      width = (get_or body 1 0 * 256 + get_or body 2 0)
          + 1;
      height = (get_or body 3 0 * 256 + get_or body 4 0) + 1;
      window = cond b (Some (window_in body)) None;
    }))
    (bits_of body)
    × FitsFields
    (display_fields (cond b (length (drop 13 body)) (length (drop 5 body)))
    (record {
      version = get_or body 0 0 / 16;
      width = (get_or body 1 0 * 256 + get_or body 2 0)
          + 1;
      height = (get_or body 3 0 * 256 + get_or body 4 0) + 1;
      window = cond b (Some (window_in body)) None;
    })) in
    (elim (has_window body) as P
    [ true ↦ λ e. window_laid body fits (longer e) e | false ↦ λ e. plain_laid body fits long e ]) refl

-- ---- what has the table is read

pub plain_again : (further version width height : ℕ) (body : List ℕ) → AreBytes body → 1 ≤ width
    → 1 ≤ height
    → FitsFields
    (display_fields further (record { version = version; width = width; height = height; window = None }))
    → HasFields (display_fields further (record { version = version; width = width; height = height; window = None }))
    (bits_of body)
    → (display_in body ≡ record { version = version; width = width; height = height; window = None })
    × (5 ≤ length body) × (has_window body ≡ false)
plain_again further version width height (flags ∷ w1 ∷ w0 ∷ h1 ∷ h0 ∷ rest) fits wide high fit has =
    let a = take_4_1 flags version 0 _ _ (fits 0) fit.0 (omega arith) has in
    let b = take_word (width - 1) w1 w0 _ _ fit.1.1.1.0 (fits 1) (fits 2) a.2 in
    let c = take_word (height - 1) h1 h0 (free_bytes further) rest fit.1.1.1.1.0 (fits 3) (fits 4) b.1 in
    let w : w1 * 256 + w0 + 1 ≡ width = omega (arith, b.0) in
    let h : h1 * 256 + h0 + 1 ≡ height = omega (arith, c.0) in
    let off : (flags / 8 % 2 == 1) ≡ false = rw a.1 refl in
    (rw (a.0, w, h, off) refl, omega arith, off)
plain_again further version width height [] fits wide high fit has = absurd (omega (arith, fields_bytes _ [] has))
plain_again further version width height (a ∷ []) fits wide high fit has =
    absurd (omega (arith, fields_bytes _ (a ∷ []) has))
plain_again further version width height (a ∷ b ∷ []) fits wide high fit has =
    absurd (omega (arith, fields_bytes _ (a ∷ b ∷ []) has))
plain_again further version width height (a ∷ b ∷ c ∷ []) fits wide high fit has =
    absurd (omega (arith, fields_bytes _ (a ∷ b ∷ c ∷ []) has))
plain_again further version width height (a ∷ b ∷ c ∷ d ∷ []) fits wide high fit has =
    absurd (omega (arith, fields_bytes _ (a ∷ b ∷ c ∷ d ∷ []) has))

pub window_again : (further version width height : ℕ) (window : Window) (body : List ℕ) → AreBytes body
    → 1 ≤ width → 1 ≤ height
    → FitsFields
    (display_fields further (record { version = version; width = width; height = height; window = Some window }))
    → HasFields
    (display_fields further (record { version = version; width = width; height = height; window = Some window }))
    (bits_of body)
    → (display_in body ≡ (record { version = version; width = width; height = height; window = Some window }))
    × (13 ≤ length body) × (has_window body ≡ true)
window_again further version width height window
    (flags ∷ w1 ∷ w0 ∷ h1 ∷ h0 ∷ l1 ∷ l0 ∷ r1 ∷ r0 ∷ t1 ∷ t0 ∷ b1 ∷ b0 ∷ rest) fits wide high
    fit has =
    let a = take_4_1 flags version 1 _ _ (fits 0) fit.0 (omega arith) has in
    let b = take_word (width - 1) w1 w0 _ _ fit.1.1.1.0 (fits 1) (fits 2) a.2 in
    let c = take_word (height - 1) h1 h0 _ _ fit.1.1.1.1.0 (fits 3) (fits 4) b.1 in
    let d = take_word window.left l1 l0 _ _ fit.1.1.1.1.1.0 (fits 5) (fits 6) c.1 in
    let e = take_word window.right r1 r0 _ _ fit.1.1.1.1.1.1.0 (fits 7) (fits 8) d.1 in
    let f = take_word window.top t1 t0 _ _ fit.1.1.1.1.1.1.1.0 (fits 9) (fits 10) e.1 in
    let g = take_word window.bottom b1 b0 (free_bytes further) rest fit.1.1.1.1.1.1.1.1.0 (fits 11) (fits 12) f.1 in
    let w : w1 * 256 + w0 + 1 ≡ width = omega (arith, b.0) in
    let h : h1 * 256 + h0 + 1 ≡ height = omega (arith, c.0) in
    let on : (flags / 8 % 2 == 1) ≡ true = rw a.1 refl in
    (rw (a.0, w, h, on, d.0, e.0, f.0, g.0) refl, omega arith, on)
window_again further version width height window [] fits wide high fit has =
    absurd (omega (arith, fields_bytes _ [] has))
window_again further version width height window (a ∷ []) fits wide high fit has =
    absurd (omega (arith, fields_bytes _ (a ∷ []) has))
window_again further version width height window (a ∷ b ∷ []) fits wide high fit has =
    absurd (omega (arith, fields_bytes _ (a ∷ b ∷ []) has))
window_again further version width height window (a ∷ b ∷ c ∷ []) fits wide high fit has =
    absurd (omega (arith, fields_bytes _ (a ∷ b ∷ c ∷ []) has))
window_again further version width height window (a ∷ b ∷ c ∷ d ∷ []) fits wide high fit has =
    absurd (omega (arith, fields_bytes _ (a ∷ b ∷ c ∷ d ∷ []) has))
window_again further version width height window (a ∷ b ∷ c ∷ d ∷ e ∷ []) fits wide high fit has =
    absurd (omega (arith, fields_bytes _ (a ∷ b ∷ c ∷ d ∷ e ∷ []) has))
window_again further version width height window (a ∷ b ∷ c ∷ d ∷ e ∷ f ∷ []) fits wide high fit has =
    absurd (omega (arith, fields_bytes _ (a ∷ b ∷ c ∷ d ∷ e ∷ f ∷ []) has))
window_again further version width height window (a ∷ b ∷ c ∷ d ∷ e ∷ f ∷ g ∷ []) fits wide high fit has =
    absurd (omega (arith, fields_bytes _ (a ∷ b ∷ c ∷ d ∷ e ∷ f ∷ g ∷ []) has))
window_again further version width height window (a ∷ b ∷ c ∷ d ∷ e ∷ f ∷ g ∷ h ∷ []) fits wide high fit
    has = absurd (omega (arith, fields_bytes _ (a ∷ b ∷ c ∷ d ∷ e ∷ f ∷ g ∷ h ∷ []) has))
window_again further version width height window (a ∷ b ∷ c ∷ d ∷ e ∷ f ∷ g ∷ h ∷ i ∷ []) fits wide
    high fit has = absurd (omega (arith, fields_bytes _ (a ∷ b ∷ c ∷ d ∷ e ∷ f ∷ g ∷ h ∷ i ∷ []) has))
window_again further version width height window (a ∷ b ∷ c ∷ d ∷ e ∷ f ∷ g ∷ h ∷ i ∷ j ∷ []) fits
    wide high fit has = absurd
    (omega (arith, fields_bytes _ (a ∷ b ∷ c ∷ d ∷ e ∷ f ∷ g ∷ h ∷ i ∷ j ∷ []) has))
window_again further version width height window (a ∷ b ∷ c ∷ d ∷ e ∷ f ∷ g ∷ h ∷ i ∷ j ∷ k ∷ [])
    fits wide high fit has = absurd
    (omega (arith, fields_bytes _ (a ∷ b ∷ c ∷ d ∷ e ∷ f ∷ g ∷ h ∷ i ∷ j ∷ k ∷ []) has))
window_again further version width height window
    (a ∷ b ∷ c ∷ d ∷ e ∷ f ∷ g ∷ h ∷ i ∷ j ∷ k ∷ l ∷ []) fits wide high fit has = absurd
    (omega (arith, fields_bytes _ (a ∷ b ∷ c ∷ d ∷ e ∷ f ∷ g ∷ h ∷ i ∷ j ∷ k ∷ l ∷ []) has))
