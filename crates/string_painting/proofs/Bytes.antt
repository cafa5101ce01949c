-- The codes of a byte that is put together of two.
use Rattle.std.proofs.Common.{◌≡◌, ◌∙◌, subst, inl, inr, ℕ, zero, suc, ◌+◌, ◌-◌, ◌*◌, ◌/◌, ◌%◌, ◌^◌, ◌<◌, ◌≤◌, ◌⊎◌, arith}
use Rattle.sub_base.specs.declared.depth.Depth.{Depth}
use Rattle.sub_base.specs.declared.depth.Depth.TheVariants.{Two, Four, Eight}
use Rattle.sub_base.specs.Depth.{bits_of, code_count}
use Rattle.string_painting.specs.Codes.{codes_in_byte, code_in}
use Rattle.string_painting.specs.Private.Packing.{ones_of, cut, with_code, PaintsByte}

-- each code of a byte of equal codes
pub code_of_all : (depth : Depth) (j code : ℕ) → j < codes_in_byte depth → code < code_count depth
    → code_in depth j (code * ones_of depth) ≡ code
code_of_all Two zero code h small = omega arith
code_of_all Two (suc zero) code h small = omega arith
code_of_all Two (suc (suc zero)) code h small = omega arith
code_of_all Two (suc (suc (suc zero))) code h small = omega arith
code_of_all Two (suc (suc (suc (suc j)))) code h small = absurd (omega arith)
code_of_all Four zero code h small = omega arith
code_of_all Four (suc zero) code h small = omega arith
code_of_all Four (suc (suc j)) code h small = absurd (omega arith)
code_of_all Eight zero code h small = omega arith
code_of_all Eight (suc j) code h small = absurd (omega arith)

-- the codes of the front byte come first
pub code_of_front : (depth : Depth) (codes j front back : ℕ) → j < codes → codes ≤ codes_in_byte depth
    → code_in depth j (cut depth codes front back) ≡ code_in depth j front
unfolding cut
code_of_front depth zero j front back h k = absurd (omega arith)
code_of_front Two (suc zero) zero front back h k = omega arith
code_of_front Two (suc zero) (suc j) front back h k = absurd (omega arith)
code_of_front Two (suc (suc zero)) zero front back h k = omega arith
code_of_front Two (suc (suc zero)) (suc zero) front back h k = omega arith
code_of_front Two (suc (suc zero)) (suc (suc j)) front back h k = absurd (omega arith)
code_of_front Two (suc (suc (suc zero))) zero front back h k = omega arith
code_of_front Two (suc (suc (suc zero))) (suc zero) front back h k = omega arith
code_of_front Two (suc (suc (suc zero))) (suc (suc zero)) front back h k = omega arith
code_of_front Two (suc (suc (suc zero))) (suc (suc (suc j))) front back h k = absurd (omega arith)
code_of_front Two (suc (suc (suc (suc zero)))) zero front back h k = omega arith
code_of_front Two (suc (suc (suc (suc zero)))) (suc zero) front back h k = omega arith
code_of_front Two (suc (suc (suc (suc zero)))) (suc (suc zero)) front back h k = omega arith
code_of_front Two (suc (suc (suc (suc zero)))) (suc (suc (suc zero))) front back h k = omega arith
code_of_front Two (suc (suc (suc (suc zero)))) (suc (suc (suc (suc j)))) front back h k = absurd (omega arith)
code_of_front Two (suc (suc (suc (suc (suc codes))))) j front back h k = absurd (omega arith)
code_of_front Four (suc zero) zero front back h k = omega arith
code_of_front Four (suc zero) (suc j) front back h k = absurd (omega arith)
code_of_front Four (suc (suc zero)) zero front back h k = omega arith
code_of_front Four (suc (suc zero)) (suc zero) front back h k = omega arith
code_of_front Four (suc (suc zero)) (suc (suc j)) front back h k = absurd (omega arith)
code_of_front Four (suc (suc (suc codes))) j front back h k = absurd (omega arith)
code_of_front Eight (suc zero) zero front back h k = omega arith
code_of_front Eight (suc zero) (suc j) front back h k = absurd (omega arith)
code_of_front Eight (suc (suc codes)) j front back h k = absurd (omega arith)

-- the codes of the back byte come behind
pub code_of_back : (depth : Depth) (codes j front back : ℕ) → codes ≤ j → j < codes_in_byte depth
    → code_in depth j (cut depth codes front back) ≡ code_in depth j back
unfolding cut
code_of_back Two zero zero front back h k = omega arith
code_of_back Two zero (suc zero) front back h k = omega arith
code_of_back Two zero (suc (suc zero)) front back h k = omega arith
code_of_back Two zero (suc (suc (suc zero))) front back h k = omega arith
code_of_back Two (suc zero) (suc zero) front back h k = omega arith
code_of_back Two (suc zero) (suc (suc zero)) front back h k = omega arith
code_of_back Two (suc zero) (suc (suc (suc zero))) front back h k = omega arith
code_of_back Two (suc (suc zero)) (suc (suc zero)) front back h k = omega arith
code_of_back Two (suc (suc zero)) (suc (suc (suc zero))) front back h k = omega arith
code_of_back Two (suc (suc (suc zero))) (suc (suc (suc zero))) front back h k = omega arith
code_of_back Two (suc codes) zero front back h k = absurd (omega arith)
code_of_back Two (suc (suc codes)) (suc zero) front back h k = absurd (omega arith)
code_of_back Two (suc (suc (suc codes))) (suc (suc zero)) front back h k = absurd (omega arith)
code_of_back Two (suc (suc (suc (suc codes)))) (suc (suc (suc zero))) front back h k = absurd (omega arith)
code_of_back Two codes (suc (suc (suc (suc j)))) front back h k = absurd (omega arith)
code_of_back Four zero zero front back h k = omega arith
code_of_back Four zero (suc zero) front back h k = omega arith
code_of_back Four (suc zero) (suc zero) front back h k = omega arith
code_of_back Four (suc codes) zero front back h k = absurd (omega arith)
code_of_back Four (suc (suc codes)) (suc zero) front back h k = absurd (omega arith)
code_of_back Four codes (suc (suc j)) front back h k = absurd (omega arith)
code_of_back Eight zero zero front back h k = omega arith
code_of_back Eight (suc codes) zero front back h k = absurd (omega arith)
code_of_back Eight codes (suc j) front back h k = absurd (omega arith)

-- such a byte, as it is reckoned in 32 bits, is a byte
pub cut_small : (depth : Depth) (codes front back : ℕ) → codes ≤ codes_in_byte depth → front < 256
    → front / 2 ^ (8 - bits_of depth * codes) * 2 ^ (8 - bits_of depth * codes) % 4294967296
    + back % (1 * 2 ^ (8 - bits_of depth * codes) % 4294967296) < 256
cut_small Two zero front back h k = omega arith
cut_small Two (suc zero) front back h k = omega arith
cut_small Two (suc (suc zero)) front back h k = omega arith
cut_small Two (suc (suc (suc zero))) front back h k = omega arith
cut_small Two (suc (suc (suc (suc zero)))) front back h k = omega arith
cut_small Two (suc (suc (suc (suc (suc codes))))) front back h k = absurd (omega arith)
cut_small Four zero front back h k = omega arith
cut_small Four (suc zero) front back h k = omega arith
cut_small Four (suc (suc zero)) front back h k = omega arith
cut_small Four (suc (suc (suc codes))) front back h k = absurd (omega arith)
cut_small Eight zero front back h k = omega arith
cut_small Eight (suc zero) front back h k = omega arith
cut_small Eight (suc (suc codes)) front back h k = absurd (omega arith)

-- a byte with some codes painted
pub paints_byte : (depth : Depth) (from to code byte : ℕ) → from ≤ to → to ≤ codes_in_byte depth
    → code < code_count depth
    → PaintsByte depth from to code byte (cut depth from byte (cut depth to (code * ones_of depth) byte))
paints_byte depth from to code byte order short small = record {
  covered = λ j after before.
      let inside : j < codes_in_byte depth = omega (arith, before, short) in
      code_of_back depth from j byte (cut depth to (code * ones_of depth) byte) after inside
      ∙ code_of_front depth to j (code * ones_of depth) byte before short
      ∙ code_of_all depth j code inside small;
  outside = λ j inside where_it_is. elim where_it_is [
    | inl before ↦ code_of_front depth from j byte (cut depth to (code * ones_of depth) byte) before
        (omega (arith, order, short))
    | inr after ↦ code_of_back depth from j byte (cut depth to (code * ones_of depth) byte)
        (omega (arith, order, after)) inside
        ∙ code_of_back depth to j (code * ones_of depth) byte after inside
  ];
}

-- a byte with one code in the place of another: that code is the new one
pub code_put : (depth : Depth) (index code byte : ℕ) → index < codes_in_byte depth → code < code_count depth
    → code_in depth index (with_code depth index code byte) ≡ code
unfolding with_code
code_put Two zero code byte h small = omega arith
code_put Two (suc zero) code byte h small = omega arith
code_put Two (suc (suc zero)) code byte h small = omega arith
code_put Two (suc (suc (suc zero))) code byte h small = omega arith
code_put Two (suc (suc (suc (suc index)))) code byte h small = absurd (omega arith)
code_put Four zero code byte h small = omega arith
code_put Four (suc zero) code byte h small = omega arith
code_put Four (suc (suc index)) code byte h small = absurd (omega arith)
code_put Eight zero code byte h small = omega arith
code_put Eight (suc index) code byte h small = absurd (omega arith)

not_other : (i : ℕ) → (i < i) ⊎ (i + 1 ≤ i) → ⊥
not_other i other = elim other [ inl e ↦ absurd (omega (arith, e)) | inr e ↦ absurd (omega (arith, e)) ]

-- and the others are as they were
pub code_left : (depth : Depth) (index j code byte : ℕ) → index < codes_in_byte depth → code < code_count depth
    → j < codes_in_byte depth → (j < index) ⊎ (index + 1 ≤ j)
    → code_in depth j (with_code depth index code byte) ≡ code_in depth j byte
unfolding with_code
code_left Two zero zero code byte h small k other = absurd (not_other _ other)
code_left Two zero (suc zero) code byte h small k other = omega arith
code_left Two zero (suc (suc zero)) code byte h small k other = omega arith
code_left Two zero (suc (suc (suc zero))) code byte h small k other = omega arith
code_left Two zero (suc (suc (suc (suc j)))) code byte h small k other = absurd (omega arith)
code_left Two (suc zero) zero code byte h small k other = omega arith
code_left Two (suc zero) (suc zero) code byte h small k other = absurd (not_other _ other)
code_left Two (suc zero) (suc (suc zero)) code byte h small k other = omega arith
code_left Two (suc zero) (suc (suc (suc zero))) code byte h small k other = omega arith
code_left Two (suc zero) (suc (suc (suc (suc j)))) code byte h small k other = absurd (omega arith)
code_left Two (suc (suc zero)) zero code byte h small k other = omega arith
code_left Two (suc (suc zero)) (suc zero) code byte h small k other = omega arith
code_left Two (suc (suc zero)) (suc (suc zero)) code byte h small k other = absurd (not_other _ other)
code_left Two (suc (suc zero)) (suc (suc (suc zero))) code byte h small k other = omega arith
code_left Two (suc (suc zero)) (suc (suc (suc (suc j)))) code byte h small k other = absurd (omega arith)
code_left Two (suc (suc (suc zero))) zero code byte h small k other = omega arith
code_left Two (suc (suc (suc zero))) (suc zero) code byte h small k other = omega arith
code_left Two (suc (suc (suc zero))) (suc (suc zero)) code byte h small k other = omega arith
code_left Two (suc (suc (suc zero))) (suc (suc (suc zero))) code byte h small k other = absurd (not_other _ other)
code_left Two (suc (suc (suc zero))) (suc (suc (suc (suc j)))) code byte h small k other = absurd (omega arith)
code_left Two (suc (suc (suc (suc index)))) j code byte h small k other = absurd (omega arith)
code_left Four zero zero code byte h small k other = absurd (not_other _ other)
code_left Four zero (suc zero) code byte h small k other = omega arith
code_left Four zero (suc (suc j)) code byte h small k other = absurd (omega arith)
code_left Four (suc zero) zero code byte h small k other = omega arith
code_left Four (suc zero) (suc zero) code byte h small k other = absurd (not_other _ other)
code_left Four (suc zero) (suc (suc j)) code byte h small k other = absurd (omega arith)
code_left Four (suc (suc index)) j code byte h small k other = absurd (omega arith)
code_left Eight zero zero code byte h small k other = absurd (not_other _ other)
code_left Eight zero (suc j) code byte h small k other = absurd (omega arith)
code_left Eight (suc index) j code byte h small k other = absurd (omega arith)

-- such a byte, as it is reckoned in 32 bits: nothing below 0 comes of it, and it is a byte
pub put_small : (depth : Depth) (index code byte : ℕ) → index < codes_in_byte depth → code < code_count depth
    → byte < 256
    → (code_in depth index byte * 2 ^ (8 - bits_of depth * (index + 1)) % 4294967296 ≤ byte)
    × (byte - code_in depth index byte * 2 ^ (8 - bits_of depth * (index + 1)) % 4294967296
    + code * 2 ^ (8 - bits_of depth * (index + 1)) % 4294967296 ≡ with_code depth index code byte)
    × (with_code depth index code byte < 256)
unfolding with_code
put_small Two zero code byte h small k = (omega arith, omega arith, omega arith)
put_small Two (suc zero) code byte h small k = (omega arith, omega arith, omega arith)
put_small Two (suc (suc zero)) code byte h small k = (omega arith, omega arith, omega arith)
put_small Two (suc (suc (suc zero))) code byte h small k = (omega arith, omega arith, omega arith)
put_small Two (suc (suc (suc (suc index)))) code byte h small k = absurd (omega arith)
put_small Four zero code byte h small k = (omega arith, omega arith, omega arith)
put_small Four (suc zero) code byte h small k = (omega arith, omega arith, omega arith)
put_small Four (suc (suc index)) code byte h small k = absurd (omega arith)
put_small Eight zero code byte h small k = (omega arith, omega arith, omega arith)
put_small Eight (suc index) code byte h small k = absurd (omega arith)

-- a byte with one code painted
pub paints_once : (depth : Depth) (index code byte : ℕ) → index < codes_in_byte depth → code < code_count depth
    → PaintsByte depth index (index + 1) code byte (with_code depth index code byte)
paints_once depth index code byte inside small = record {
  covered = λ j after before.
      let e : index ≡ j = omega (arith, after, before) in
      subst (λ (i : ℕ). code_in depth i (with_code depth index code byte) ≡ code) e
      (code_put depth index code byte inside small);
  outside = λ j j_inside other. code_left depth index j code byte inside small j_inside other;
}
