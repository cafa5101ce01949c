-- The colours of all CLUTs by clut, depth and number.
use Rattle.std.proofs.Common.{◌≡◌, ℕ, ◌+◌, ◌-◌, ◌*◌, ◌%◌, ◌<◌, Bool, ◌&&◌, ◌==◌, List, [], ◌∷◌, length, false, true, refl, sym, ap, ◌∙◌, arith, inl, inr}
use Rattle.std.specs.Prelude.{nat_lt, slice_index_or, slice_set}
use Rattle.std.specs.List.{list_any}
use Rattle.std.proofs.lemmas.Bool.{cases_eq, eqb-true}
use Rattle.std.proofs.lemmas.List.Elements.{All-nil, All-head, All-tail}
use Rattle.std.proofs.lemmas.Grind.{get_or-set_at}
use Rattle.std.proofs.lemmas.List.{get_or-set_other, length-set}
use Rattle.std.proofs.lemmas.Bool.Decides.{nat_tests}
use Rattle.sub_base.specs.Colour.{clear, default_of}
use Rattle.sub_base.specs.Depth.{code_count}
use Rattle.sub_base.specs.Depth as depths
use Rattle.decoder_model.specs.Nodes.{TableEntry, is_same_entry}
use Rattle.sub_base.specs.declared.colour.Colour.{Colour}
use Rattle.sub_base.specs.declared.depth.Depth.{Depth}
use Rattle.sub_base.specs.declared.depth.Depth.TheVariants.{Two, Four, Eight}
use Rattle.page_core.specs.Private.Inks.{default_ink, AreDefaults, ink_count}
use Rattle.page_core.specs.Memory.{AreDefaultsBeside, AreInks, IsInTable, ink_place, first_of_table, colours_of_clut}

-- the default colour at the index of an entry is that of the entry
pub default_there : (depth : Depth) (number : ℕ) → number < code_count depth
    → default_ink (first_of_table depth + number) ≡ default_of depth number
default_there Two number low =
    let two : nat_lt (0 + number) 4 ≡ true = grind (arith, nat_tests) in
    let same : 0 + number ≡ number = omega arith in
    rw two (ap (default_of Two) same)
default_there Four number low =
    let two : nat_lt (4 + number) 4 ≡ false = grind (arith, nat_tests) in
    let four : nat_lt (4 + number) 20 ≡ true = grind (arith, nat_tests) in
    let same : 4 + number - 4 ≡ number = omega arith in
    rw (two, four) (ap (default_of Four) same)
default_there Eight number low =
    let two : nat_lt (20 + number) 4 ≡ false = grind (arith, nat_tests) in
    let four : nat_lt (20 + number) 20 ≡ false = grind (arith, nat_tests) in
    let same : 20 + number - 20 ≡ number = omega arith in
    rw (two, four) (ap (default_of Eight) same)

pub in_clut : (depth : Depth) (number : ℕ) → number < code_count depth
    → first_of_table depth + number < colours_of_clut
in_clut Two number low = omega arith
in_clut Four number low = omega arith
in_clut Eight number low = omega arith

index_in_clut : (clut k : ℕ) → k < 276 → (clut * 276 + k) % 276 ≡ k
index_in_clut clut k low = omega arith

-- default colours everywhere are those of all entries
defaults_there : (inks : List Colour) → length inks ≡ ink_count → AreDefaults inks → AreDefaultsBeside [] inks
defaults_there inks whole each clut depth number byte low none =
    let within = in_clut depth number low in
    let same : ink_place clut depth number ≡ clut * 276 + (first_of_table depth + number) = omega arith in
    each (ink_place clut depth number) (omega (arith, same, whole))
    ∙ ap (λ k. default_ink (k % colours_of_clut)) same
    ∙ ap default_ink (index_in_clut clut (first_of_table depth + number) within)
    ∙ default_there depth number low

pub all_default : (inks : List Colour) → length inks ≡ ink_count → AreDefaults inks → AreInks [] inks
all_default inks whole each =
    record { tables = All-nil IsInTable; count = whole; defaults = defaults_there inks whole each }

-- one more item of a list that is filled from its front
pub filled_by_one : {X : Type 0} (xs : List X) (i k : ℕ) (x d : X) (f : ℕ → X) → i < length xs
    → x ≡ f i → ((j : ℕ) → j < i → slice_index_or xs j d ≡ f j) → k < i + 1
    → slice_index_or (slice_set xs i x) k d ≡ f k
filled_by_one xs i k x d f inside is before low =
    elim (cases_eq i k) [
      | inl same ↦ get_or-set_at xs i k x d (sym same) inside ∙ is ∙ ap f same
      | inr other ↦ get_or-set_other xs i k x d (λ e. other (sym e)) ∙ before k (omega arith)
    ]

-- ---- one entry less

-- the index of an entry tells which one it is
pub same_place : (clut clut' : ℕ) (depth depth' : Depth) (number number' : ℕ) → number < code_count depth
    → number' < code_count depth' → ink_place clut depth number ≡ ink_place clut' depth' number'
    → (clut ≡ clut') × (depth ≡ depth') × (number ≡ number')
same_place clut clut' Two Two number number' low low' is = (omega arith, refl, omega arith)
same_place clut clut' Two Four number number' low low' is = absurd (omega arith)
same_place clut clut' Two Eight number number' low low' is = absurd (omega arith)
same_place clut clut' Four Two number number' low low' is = absurd (omega arith)
same_place clut clut' Four Four number number' low low' is = (omega arith, refl, omega arith)
same_place clut clut' Four Eight number number' low low' is = absurd (omega arith)
same_place clut clut' Eight Two number number' low low' is = absurd (omega arith)
same_place clut clut' Eight Four number number' low low' is = absurd (omega arith)
same_place clut clut' Eight Eight number number' low low' is = (omega arith, refl, omega arith)

pub same_depth : (a b : Depth) → (depths.bits_of a == depths.bits_of b) ≡ true → a ≡ b
same_depth Two Two is = refl
same_depth Two Four is = absurd (cc)
same_depth Two Eight is = absurd (cc)
same_depth Four Two is = absurd (cc)
same_depth Four Four is = refl
same_depth Four Eight is = absurd (cc)
same_depth Eight Two is = absurd (cc)
same_depth Eight Four is = absurd (cc)
same_depth Eight Eight is = refl

-- equal entries have one index
pub place_of_same : (a b : TableEntry) → is_same_entry a b ≡ true
    → ink_place a.clut a.depth a.entry ≡ ink_place b.clut b.depth b.entry
place_of_same a b is =
    let first =
    and_left (a.clut == b.clut) ((depths.bits_of a.depth == depths.bits_of b.depth) && (a.entry == b.entry)) is in
    let rest =
    and_right (a.clut == b.clut) ((depths.bits_of a.depth == depths.bits_of b.depth) && (a.entry == b.entry)) is in
    let depth =
    same_depth a.depth b.depth
    (and_left (depths.bits_of a.depth == depths.bits_of b.depth) (a.entry == b.entry) rest) in
    let number =
    eqb-true a.entry b.entry
    (and_right (depths.bits_of a.depth == depths.bits_of b.depth) (a.entry == b.entry) rest) in
    let clut = eqb-true a.clut b.clut first in
    λ i. ink_place (clut i) (depth i) (number i)
  where
    and_left : (x y : Bool) → (x && y) ≡ true → x ≡ true
    and_left true y both = refl
    and_left false y both = both

    and_right : (x y : Bool) → (x && y) ≡ true → y ≡ true
    and_right true y both = both
    and_right false y both = absurd (cc)

none_before : (a b : TableEntry) (set : List TableEntry) (hit : Bool) → is_same_entry a b ≡ hit
    → (hit ≡ true → ⊥) → list_any (is_same_entry a) set ≡ false
    → list_any (is_same_entry a) (b ∷ set) ≡ false
none_before a b set true is other rest = absurd (other refl)
none_before a b set false is other rest = rw is rest

-- an entry that has its default colour again is set no more
pub set_no_more : (entry : TableEntry) (set : List TableEntry) (inks : List Colour) → AreInks (entry ∷ set) inks
    → AreInks set (slice_set inks (ink_place entry.clut entry.depth entry.entry) (default_of entry.depth entry.entry))
set_no_more entry set inks are =
    let here = All-head IsInTable entry set are.tables in
    let place = ink_place entry.clut entry.depth entry.entry in
    let colour = default_of entry.depth entry.entry in
    let within = in_clut entry.depth entry.entry here.1 in
    let inside : place < length inks = omega (arith, are.count, here.0, within) in
    record {
      tables = All-tail IsInTable entry set are.tables;
      count = length-set inks place colour ∙ are.count;
      defaults = λ clut depth number byte low none.
          elim (cases_eq place (ink_place clut depth number)) [
            | inl same ↦
                let is = same_place entry.clut clut entry.depth depth entry.entry number here.1 low same in
                get_or-set_at inks place (ink_place clut depth number) colour clear (sym same) inside
                ∙ (λ i. default_of (is.1 i) (is.2 i))
            | inr other ↦
                let asked : TableEntry = record { clut = clut; depth = depth; entry = number } in
                get_or-set_other inks place (ink_place clut depth number) colour clear (λ e. other (sym e))
                ∙ are.defaults clut depth number byte low
                (none_before asked entry set (is_same_entry asked entry) refl
                (λ hit. other (sym (place_of_same asked entry hit))) none)
          ];
    }
