-- Strings of codes that stand at one place give the same pixels.
use Rattle.std.proofs.Common.{◌≡◌, ℕ, ◌+◌, List, [], ◌∷◌, ◌++◌, drop, refl, sym, ap, ◌∙◌, append_assoc, arith}
use Rattle.std.specs.Prelude.{flat_map, replicate, All}
use Rattle.std.proofs.lemmas.List.{length-replicate}
use Rattle.std.proofs.lemmas.List.Elements.{All-head, All-tail}
use Rattle.sub_base.specs.declared.depth.Depth.{Depth}
use Rattle.stream_syntax.specs.PixelCodes.{bits_of, Code, IsCode, pixel_count, colour_of, pixels_of, string_of, IsString, IsRowString, IsReadAs}
use Rattle.code_strings.specs.declared.token.Token.TheVariants.{Pixels}
use Rattle.code_strings.proofs.Bits.{bits_of-append}
use Rattle.code_strings.proofs.Tokens.{width_of, token_spelled, token_ending}
use Rattle.code_strings.proofs.Strings.{string_of-cons, behind, same_place, not_end, same_string}

-- two strings that stand at one place give the same pixels
same_pixels : (depth : Depth) (xs r s : List ℕ) (place : ℕ) (codes others : List Code)
    → All (IsCode depth) codes → All (IsCode depth) others → drop place xs ≡ string_of depth codes ++ r
    → drop place xs ≡ string_of depth others ++ s
    → flat_map (pixels_of depth) codes ≡ flat_map (pixels_of depth) others
same_pixels depth xs r s place [] [] h k e f = refl
same_pixels depth xs r s place [] (o ∷ os) h k e f =
    absurd (not_end _ _
    (same_place depth xs place _ _ _ _
    (token_spelled depth o (All-head (IsCode depth) o os k) xs _ place (f ∙ string_of-cons depth o os s))
    (token_ending depth xs r place e)).0)
same_pixels depth xs r s place (c ∷ cs) [] h k e f =
    absurd (not_end _ _
    (same_place depth xs place _ _ _ _
    (token_spelled depth c (All-head (IsCode depth) c cs h) xs _ place (e ∙ string_of-cons depth c cs r))
    (token_ending depth xs s place f)).0)
same_pixels depth xs r s place (c ∷ cs) (o ∷ os) h k e f =
    let one = token_spelled depth c (All-head (IsCode depth) c cs h) xs _ place (e ∙ string_of-cons depth c cs r) in
    let two = token_spelled depth o (All-head (IsCode depth) o os k) xs _ place (f ∙ string_of-cons depth o os s) in
    let both = same_place depth xs place _ _ _ _ one two in
    let count : pixel_count depth c ≡ pixel_count depth o = same_count _ _ _ _ both.0 in
    let colour : colour_of c ≡ colour_of o = same_colour _ _ _ _ both.0 in
    let left = behind depth c xs _ place (e ∙ string_of-cons depth c cs r) in
    let right : drop (place + width_of depth c) xs ≡ string_of depth os ++ s =
    ap (λ (i : ℕ). drop i xs) both.1 ∙ behind depth o xs _ place (f ∙ string_of-cons depth o os s) in
    let rest =
    same_pixels depth xs r s (place + width_of depth c) cs os (All-tail (IsCode depth) c cs h)
    (All-tail (IsCode depth) o os k) left right in
    ap (λ (n : ℕ). replicate n (colour_of c) ++ flat_map (pixels_of depth) cs) count
    ∙ ap (λ (n : ℕ). replicate (pixel_count depth o) n ++ flat_map (pixels_of depth) cs) colour
    ∙ ap (λ (t : List ℕ). pixels_of depth o ++ t) rest
  where
    same_count : (a b c d : ℕ) → Pixels a b ≡ Pixels c d → a ≡ c
    same_count a b c d e = cc

    same_colour : (a b c d : ℕ) → Pixels a b ≡ Pixels c d → b ≡ d
    same_colour a b c d e = cc

-- the string of a row is read back as its codes, whatever follows
pub read_as : (depth : Depth) (pixels bytes : List ℕ) → IsRowString depth pixels bytes
    → IsReadAs depth pixels bytes
read_as depth pixels bytes w =
    let whole : IsString depth w.codes bytes =
    record {
      each = w.given.each;
      fill = replicate w.fill 0;
      text = w.text;
      short = omega
          (arith, w.short, length-replicate {A = ℕ} w.fill 0);
    } in
    record {
      codes = w.codes;
      whole = whole;
      given = w.given;
      only = λ others front rest more e s.
          let one : bits_of (bytes ++ rest) ≡ string_of depth w.codes ++ (whole.fill ++ bits_of rest) =
          bits_of-append bytes rest ∙ ap (λ (t : List ℕ). t ++ bits_of rest) whole.text
          ∙ append_assoc (string_of depth w.codes) whole.fill (bits_of rest) in
          let two : bits_of (bytes ++ rest) ≡ string_of depth others ++ (s.fill ++ bits_of more) =
          ap bits_of e ∙ bits_of-append front more ∙ ap (λ (t : List ℕ). t ++ bits_of more) s.text
          ∙ append_assoc (string_of depth others) s.fill (bits_of more) in (
            same_string depth others w.codes front bytes more rest s whole (sym e),
            record {
              each = s.each;
              drawn = sym
                  (same_pixels depth (bits_of (bytes ++ rest)) (whole.fill ++ bits_of rest) (s.fill ++ bits_of more) 0
                  w.codes others w.given.each s.each one two) ∙ w.given.drawn;
            },
          );
    }
