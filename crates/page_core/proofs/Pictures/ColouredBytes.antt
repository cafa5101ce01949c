-- The places of a row that have the colours of one byte's codes.
use Rattle.std.proofs.Common.{◌≡◌, ◌≢◌, ◌∙◌, refl, sym, ap, inl, inr, ℕ, ◌+◌, ◌/◌, ◌%◌, ◌<◌, ◌≤◌, ◌⊎◌, List, length, get_or, arith}
use Rattle.std.specs.Prelude.{slice_set}
use Rattle.std.proofs.Math.ListN.{length-set}
use Rattle.std.proofs.lemmas.Bool.{cases_lt}
use Rattle.std.proofs.lemmas.List.{get_or-set_same, get_or-set_other, get_or_default}
use Rattle.sub_base.specs.Colour.{clear}
use Rattle.sub_base.specs.declared.colour.Colour.{Colour}
use Rattle.sub_base.specs.declared.depth.Depth.TheVariants.{Two, Four}
use Rattle.pixel_store.specs.Codes.{code_in}
use Rattle.page_core.specs.Coloured.{colour_of, IsByteColoured}

-- what a read past the end of a list of colours gives where code reads it
abbrev pub no_colour : Colour
no_colour = record { y = 0; cr = 0; cb = 0; t = 0 }

-- a place that was written, and then others
there : (row : List Colour) (place : ℕ) (colour : Colour) → place < length row
    → colour_of (slice_set row place colour) place ≡ colour
there row place colour inside = get_or-set_same row place colour clear inside

elsewhere : (row : List Colour) (place other : ℕ) (colour : Colour) → other ≢ place
    → colour_of (slice_set row place colour) other ≡ colour_of row other
elsewhere row place other colour ne = get_or-set_other row place other colour clear ne

-- a colour that is read by a code
read_by : (colours : List Colour) (code other : ℕ) → code < length colours → code ≡ other
    → get_or colours code no_colour ≡ colour_of colours other
read_by colours code other inside same =
    get_or_default colours code no_colour clear inside ∙ ap (colour_of colours) same

-- so many places from one on have these colours, and all others are as they were
record ArePut (place count : ℕ) (colour_at : ℕ → Colour) (old new : List Colour) : Type 0 where
  pub size : length new ≡ length old
  pub covered : (j : ℕ) → j < count → colour_of new (place + j) ≡ colour_at j
  pub beside : (x : ℕ) → (x < place) ⊎ (place + count ≤ x) → colour_of new x ≡ colour_of old x

none_put : (place : ℕ) (colour_at : ℕ → Colour) (row : List Colour) → ArePut place 0 colour_at row row
none_put place colour_at row =
    record { size = refl; covered = λ j inside. absurd (omega arith); beside = λ x where_it_is. refl }

one_more : (place count next : ℕ) (colour_at : ℕ → Colour) (colour : Colour) (old new : List Colour)
    → ArePut place count colour_at old new → next ≡ place + count → next < length old
    → colour ≡ colour_at count
    → ArePut place (count + 1) colour_at old (slice_set new next colour)
one_more place count next colour_at colour old new put at inside is = record {
  size = length-set new next colour ∙ put.size;
  covered = λ j below. elim (cases_lt j count) [
    | inl earlier ↦ elsewhere new next (place + j) colour (λ e. omega arith) ∙ put.covered j earlier
    | inr last ↦
        let same : j ≡ count = omega arith in
        ap (colour_of (slice_set new next colour)) (omega arith) ∙ there new next colour (omega (arith, put.size))
        ∙ is ∙ ap colour_at (sym same)
  ];
  beside = λ x where_it_is.
      elsewhere new next x colour (λ e. elim where_it_is [ inl before ↦ omega arith | inr behind ↦ omega arith ])
      ∙ put.beside x (elim where_it_is [ inl before ↦ inl before | inr behind ↦ inr (omega arith) ]);
}

-- two codes of four bits
pub four_bits : (byte place first second : ℕ) (colours row : List Colour) → length colours ≡ 16 → byte < 256
    → first ≡ byte / 16 → second ≡ byte % 16 → place + 2 ≤ length row
    → IsByteColoured Four byte place colours row
    (slice_set (slice_set row place (get_or colours first no_colour)) (place + 1) (get_or colours second no_colour))
four_bits byte place first second colours row size small first_is second_is room =
    let Colour_at : ℕ → Colour = λ j. colour_of colours (code_in Four j byte) in
    let one : ArePut place 1 Colour_at row (slice_set row place (get_or colours first no_colour))
    = one_more place 0 place Colour_at (get_or colours first no_colour) row row (none_put place Colour_at row)
    (omega arith) (omega arith) (read_by colours first (code_in Four 0 byte) (omega arith) (omega arith)) in
    let two : ArePut place 2 Colour_at row
    (slice_set (slice_set row place (get_or colours first no_colour)) (place + 1) (get_or colours second no_colour))
    = one_more place 1 (place + 1) Colour_at (get_or colours second no_colour) row
    (slice_set row place (get_or colours first no_colour)) one refl (omega arith)
    (read_by colours second (code_in Four 1 byte) (omega arith) (omega arith)) in
    record { covered = two.covered; beside = two.beside }

-- four codes of two bits
pub two_bits : (byte place a b c d : ℕ) (colours row : List Colour) → length colours ≡ 4 → byte < 256
    → a ≡ byte / 64 → b ≡ byte / 16 % 4 → c ≡ byte / 4 % 4 → d ≡ byte % 4 → place + 4 ≤ length row
    → IsByteColoured Two byte place colours row
    (slice_set
    (slice_set
    (slice_set (slice_set row place (get_or colours a no_colour)) (place + 1) (get_or colours b no_colour))
    (place + 2) (get_or colours c no_colour)) (place + 3) (get_or colours d no_colour))
two_bits byte place a b c d colours row size small a_is b_is c_is d_is room =
    let Colour_at : ℕ → Colour = λ j. colour_of colours (code_in Two j byte) in
    let row1 : List Colour = slice_set row place (get_or colours a no_colour) in
    let row2 : List Colour = slice_set row1 (place + 1) (get_or colours b no_colour) in
    let row3 : List Colour = slice_set row2 (place + 2) (get_or colours c no_colour) in
    let row4 : List Colour = slice_set row3 (place + 3) (get_or colours d no_colour) in
    let one : ArePut place 1 Colour_at row row1
    = one_more place 0 place Colour_at (get_or colours a no_colour) row row (none_put place Colour_at row) (omega arith)
    (omega arith) (read_by colours a (code_in Two 0 byte) (omega arith) (omega arith)) in
    let two : ArePut place 2 Colour_at row row2
    = one_more place 1 (place + 1) Colour_at (get_or colours b no_colour) row row1 one refl (omega arith)
    (read_by colours b (code_in Two 1 byte) (omega arith) (omega arith)) in
    let three : ArePut place 3 Colour_at row row3
    = one_more place 2 (place + 2) Colour_at (get_or colours c no_colour) row row2 two refl (omega arith)
    (read_by colours c (code_in Two 2 byte) (omega arith) (omega arith)) in
    let four : ArePut place 4 Colour_at row row4
    = one_more place 3 (place + 3) Colour_at (get_or colours d no_colour) row row3 three refl (omega arith)
    (read_by colours d (code_in Two 3 byte) (omega arith) (omega arith)) in
    record { covered = four.covered; beside = four.beside }
