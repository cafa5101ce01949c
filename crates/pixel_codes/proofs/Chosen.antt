-- The codes that the writer chooses for a run are the chosen ones, and the table is the least bits.
use Rattle.std.proofs.Common.{◌≡◌, ℕ, zero, suc, ◌+◌, ◌-◌, ◌<◌, ◌≤◌, List, [], ◌∷◌, ◌++◌, map, refl, sym, ap, ◌∙◌, inl, inr, arith}
use Rattle.std.specs.Prelude.{flat_map, replicate, All}
use Rattle.std.proofs.lemmas.Bool.{cases_lt, cases_order}
use Rattle.std.proofs.lemmas.Bool.Decides.{nat_tests}
use Rattle.std.proofs.lemmas.List.{length-append, replicate-append-replicate}
use Rattle.std.proofs.lemmas.List.Elements.{All-nil, All-cons, All-head, All-tail}
use Rattle.sub_base.specs.Depth.{code_count}
use Rattle.sub_base.specs.declared.depth.Depth.{Depth}
use Rattle.sub_base.specs.declared.depth.Depth.TheVariants.{Two, Four, Eight}
use Rattle.stream_syntax.specs.PixelCodes.{Code, IsCode, pixel_count, colour_of, pixels_of, spelled, Gives, bits_in, IsLeast, IsAtLeast, IsChosen}
use Rattle.pixel_codes.specs.Private.Least.{two_some, two_none, four_some, four_none, eight_some, eight_none, longest_bits, rest_bits, table_bits, first_code, chosen_within, chosen}
use Rattle.code_strings.proofs.Tokens.{width_of, length-spelled}
use Rattle.code_strings.proofs.NarrowTokens.{width_some}
use Rattle.pixel_codes.proofs.Table.{table_step}
use Rattle.pixel_codes.proofs.DeepFirst.{first_is}

-- a run that begins with some pixels: these are of its code, and the rest is the rest of the run
pub split_run : (a x : ℕ) (ys : List ℕ) (n c : ℕ) → replicate a x ++ ys ≡ replicate n c → (a ≤ n)
    × (ys ≡ replicate (n - a) c) × (1 ≤ a → x ≡ c)
split_run zero x ys n c e = (omega arith, let z : n - 0 ≡ n = omega arith in rw z e, λ h. absurd (omega arith))
split_run (suc a) x ys zero c e = absurd cc
split_run (suc a) x ys (suc n) c e =
    let head : x ≡ c = cc in
    let tail : replicate a x ++ ys ≡ replicate n c = cc in
    let r = split_run a x ys n c tail in
    (omega (arith, r.0), (let z : suc n - suc a ≡ n - a = omega arith in rw z r.1), λ h. head)

pub bits_in-cons : (depth : Depth) (code : Code) (codes : List Code)
    → bits_in depth (code ∷ codes) ≡ width_of depth code + bits_in depth codes
bits_in-cons depth code codes =
    length-append (spelled depth code) (flat_map (spelled depth) codes)
    ∙ ap (λ (n : ℕ). n + bits_in depth codes) (length-spelled depth code)

pub table_0 : (depth : Depth) (colour : ℕ) → table_bits depth colour 0 ≡ 0
unfolding two_some two_none four_some four_none eight_some eight_none
table_0 Two zero = refl
table_0 Two (suc colour) = refl
table_0 Four zero = refl
table_0 Four (suc colour) = refl
table_0 Eight zero = refl
table_0 Eight (suc colour) = omega arith

-- every list of codes that gives a run has at least the bits of the table
pub all_least : (depth : Depth) (colour : ℕ) (codes : List Code) (count : ℕ) → All (IsCode depth) codes
    → flat_map (pixels_of depth) codes ≡ replicate count colour
    → table_bits depth colour count ≤ bits_in depth codes
all_least depth colour [] zero h e = omega (arith, table_0 depth colour)
all_least depth colour [] (suc count) h e = absurd cc
all_least depth colour (code ∷ codes) count h e =
    let s = split_run (pixel_count depth code) (colour_of code) (flat_map (pixels_of depth) codes) count colour e in
    let rest =
    all_least depth colour codes (count - pixel_count depth code) (All-tail (IsCode depth) code codes h) s.1 in
    let back : pixel_count depth code + (count - pixel_count depth code) ≡ count = omega (arith, s.0) in
    let good = All-head (IsCode depth) code codes h in
    let step : table_bits depth colour (pixel_count depth code + (count - pixel_count depth code))
    ≤ width_of depth code + table_bits depth colour (count - pixel_count depth code) =
    elim (cases_lt (pixel_count depth code) 1) [
      | inl l ↦ let z : pixel_count depth code ≡ 0 =
          omega arith in let y : 0 + (count - 0) ≡ count - 0 = omega arith in rw (z, y) (omega arith)
      | inr l ↦ table_step depth colour code (count - pixel_count depth code) good (s.2 l)
    ] in
    let grown = rw back at step in
    omega (arith, bits_in-cons depth code codes, grown, rest)

-- ---- what the writer chooses

record Made (depth : Depth) (colour count : ℕ) (codes : List Code) : Type 0 where
  each : All (IsCode depth) codes
  drawn : flat_map (pixels_of depth) codes ≡ replicate count colour
  bits : bits_in depth codes ≡ table_bits depth colour count

made : (steps : ℕ) (depth : Depth) (colour count : ℕ) → colour < code_count depth → count ≤ steps
    → Made depth colour count (chosen_within steps depth colour count)
unfolding chosen_within
made zero depth colour count k h =
    let z : count ≡ 0 = omega arith in
    record { each = All-nil (IsCode depth); drawn = rw z refl; bits = rw z (sym (table_0 depth colour)) }
made (suc steps) depth colour zero k h =
    record { each = All-nil (IsCode depth); drawn = refl; bits = sym (table_0 depth colour) }
made (suc steps) depth colour (suc count) k h =
    let first = first_code depth colour (suc count) in
    let f = first_is depth colour (suc count) (omega arith) k in
    let rest = made steps depth colour (suc count - pixel_count depth first) k (omega (arith, f.some)) in
    let join : pixel_count depth first + (suc count - pixel_count depth first) ≡ suc count =
    omega (arith, f.within) in
    record {
      each = All-cons (IsCode depth) first _ f.is_code rest.each;
      drawn =
          ap (λ (c : ℕ). replicate (pixel_count depth first) c
          ++ flat_map (pixels_of depth) (chosen_within steps depth colour (suc count - pixel_count depth first)))
          f.colour_is
          ∙ ap (λ (t : List ℕ). replicate (pixel_count depth first) colour ++ t) rest.drawn
          ∙ replicate-append-replicate (pixel_count depth first) (suc count - pixel_count depth first) colour
          ∙ ap (λ (n : ℕ). replicate n colour) join;
      bits = bits_in-cons depth first _ ∙ ap (λ (n : ℕ). width_of depth first + n) rest.bits ∙ sym f.bits;
    }

pub chosen_gives : (depth : Depth) (colour count : ℕ) → colour < code_count depth
    → Gives depth (chosen depth colour count) (replicate count colour)
chosen_gives depth colour count k =
    let m = made count depth colour count k (omega arith) in record { each = m.each; drawn = m.drawn }

pub chosen_bits : (depth : Depth) (colour count : ℕ) → colour < code_count depth
    → bits_in depth (chosen depth colour count) ≡ table_bits depth colour count
chosen_bits depth colour count k = (made count depth colour count k (omega arith)).bits

-- the table is the least
pub table_least : (depth : Depth) (colour count : ℕ) → colour < code_count depth
    → IsLeast depth colour count (table_bits depth colour count)
table_least depth colour count k = record {
  codes = chosen depth colour count;
  given = chosen_gives depth colour count k;
  reached = chosen_bits depth colour count k;
  least = λ others g. all_least depth colour others count g.each g.drawn;
}

-- no list of codes with the least bits has greater lengths
greatest_within : (steps : ℕ) (depth : Depth) (colour count : ℕ) (others : List Code)
    → colour < code_count depth → count ≤ steps → All (IsCode depth) others
    → flat_map (pixels_of depth) others ≡ replicate count colour
    → bits_in depth others ≡ table_bits depth colour count
    → IsAtLeast (map (pixel_count depth) (chosen_within steps depth colour count)) (map (pixel_count depth) others)
unfolding chosen_within
greatest_within steps depth colour count [] k h g d b = tt
greatest_within steps depth colour zero (other ∷ others) k h g d b =
    absurd (omega (
      arith,
      b,
      table_0 depth colour,
      bits_in-cons depth other others,
      width_some depth other
          (All-head (IsCode depth) other others g),
    ))
greatest_within zero depth colour (suc count) (other ∷ others) k h g d b = absurd (omega arith)
greatest_within (suc steps) depth colour (suc count) (other ∷ others) k h g d b =
    let first = first_code depth colour (suc count) in
    let f = first_is depth colour (suc count) (omega arith) k in
    let s =
    split_run (pixel_count depth other) (colour_of other) (flat_map (pixels_of depth) others) (suc count) colour d
    in
    let good = All-head (IsCode depth) other others g in
    let goods = All-tail (IsCode depth) other others g in
    let rest = all_least depth colour others (suc count - pixel_count depth other) goods s.1 in
    let split = bits_in-cons depth other others in
    elim (cases_order (pixel_count depth other) (pixel_count depth first)) [
      | inl same ↦
          let back : pixel_count depth other + (suc count - pixel_count depth other) ≡ suc count =
          omega (arith, s.0) in
          let step =
          table_step depth colour other (suc count - pixel_count depth other) good
          (s.2 (omega (arith, same, f.some))) in
          let grown = rw back at step in
          let tight : bits_in depth others ≡ table_bits depth colour (suc count - pixel_count depth other) =
          omega (arith, split, b, grown, rest) in
          let on : suc count - pixel_count depth other ≡ suc count - pixel_count depth first =
          ap (λ (n : ℕ). suc count - n) same in
          inr (
            sym same,
            greatest_within steps depth colour (suc count - pixel_count depth first) others k
                (omega (arith, f.some)) goods (s.1 ∙ ap (λ (n : ℕ). replicate n colour) on)
                (tight ∙ ap (table_bits depth colour) on),
          )
      | inr (inl less) ↦ inl less
      | inr (inr more) ↦ absurd
          (omega (arith, split, b, rest, f.longer other good (s.2 (omega (arith, more))) more s.0))
    ]

pub chosen_is : (depth : Depth) (colour count : ℕ) → colour < code_count depth
    → IsChosen depth colour count (chosen depth colour count)
chosen_is depth colour count k = record {
  given = chosen_gives depth colour count k;
  least =
      λ others g. let l = all_least depth colour others count g.each g.drawn in omega
      (arith, chosen_bits depth colour count k, l);
  greatest =
      λ others g b. greatest_within count depth colour count others k (omega arith) g.each g.drawn
      (b ∙ chosen_bits depth colour count k);
}

pub longest_bits-le : (depth : Depth) (colour : ℕ) → longest_bits depth colour ≤ 24
longest_bits-le Two colour = omega arith
longest_bits-le Four colour = omega arith
longest_bits-le Eight zero = omega arith
longest_bits-le Eight (suc colour) = omega arith

pub rest_bits-le : (depth : Depth) (colour rest : ℕ) → rest_bits depth colour rest ≤ 24
unfolding two_some two_none four_some four_none eight_some eight_none
rest_bits-le Two zero rest = grind (arith, nat_tests)
rest_bits-le Two (suc colour) rest = grind (arith, nat_tests)
rest_bits-le Four zero rest = grind (arith, nat_tests)
rest_bits-le Four (suc colour) rest = grind (arith, nat_tests)
rest_bits-le Eight zero rest = grind (arith, nat_tests)
rest_bits-le Eight (suc colour) rest = grind (arith, nat_tests)
