-- Marks at entries of tables.
use Rattle.std.proofs.Common.{◌≡◌, ◌∙◌, ℕ, ◌==◌, ◌||◌, ◌&&◌, Bool, true, false, cond, List, [], ◌∷◌, ◌++◌, length, map, refl, sym, ap, arith}
use Rattle.std.specs.Prelude.{slice_set, slice_index_or}
use Rattle.std.specs.List.{list_any}
use Rattle.std.proofs.lemmas.Bool.{eqb-true, eq-eqb}
use Rattle.std.proofs.lemmas.Grind.{get_or-set_at}
use Rattle.std.proofs.lemmas.List.Folds.{list_any-append}
use Rattle.std.proofs.lemmas.List.{get_or-set_other, get_or-map, length-map, length-set}
use Rattle.sub_base.specs.Depth as depths
use Rattle.sub_base.specs.declared.depth.Depth.{Depth}
use Rattle.decoder_model.specs.Nodes.{TableEntry, is_same_entry}
use Rattle.page_core.specs.Private.Inks.{ink_count}
use Rattle.page_core.specs.Private.Marks.{AreDifferent, AreMarked, mark_for, uncounted}
use Rattle.page_core.specs.Memory.{IsInTable, ink_place}
use Rattle.page_core.specs.declared.marks.Mark.{Mark}
use Rattle.page_core.specs.declared.marks.Mark.TheVariants.{Unset, Counted, Set}
use Rattle.page_core.proofs.ColourTables.InkTables.{place_of_same, same_depth, same_place}
use Rattle.page_core.proofs.Counts.MarkLaws.{place_inside}

-- ---- entries

-- an entry is the same as itself, and no other is
pub same_itself : (entry : TableEntry) → is_same_entry entry entry ≡ true
same_itself entry =
    let clut : (entry.clut == entry.clut) ≡ true = eq-eqb entry.clut entry.clut refl in
    let depth : (depths.bits_of entry.depth == depths.bits_of entry.depth) ≡ true =
    eq-eqb (depths.bits_of entry.depth) (depths.bits_of entry.depth) refl in
    let number : (entry.entry == entry.entry) ≡ true = eq-eqb entry.entry entry.entry refl in
    rw (clut, depth, number) refl

pub same_entry : (a b : TableEntry) → is_same_entry a b ≡ true → a ≡ b
same_entry a b is =
    let first =
    and_left (a.clut == b.clut) ((depths.bits_of a.depth == depths.bits_of b.depth) && (a.entry == b.entry)) is in
    let rest =
    and_right (a.clut == b.clut) ((depths.bits_of a.depth == depths.bits_of b.depth) && (a.entry == b.entry)) is in
    let depth =
    same_depth a.depth b.depth
    (and_left (depths.bits_of a.depth == depths.bits_of b.depth) (a.entry == b.entry) rest) in
    let number =
    eqb-true a.entry b.entry
    (and_right (depths.bits_of a.depth == depths.bits_of b.depth) (a.entry == b.entry) rest) in
    let clut = eqb-true a.clut b.clut first in
    λ i. record { clut = clut i; depth = depth i; entry = number i }
  where
    and_left : (x y : Bool) → (x && y) ≡ true → x ≡ true
    and_left true y both = refl
    and_left false y both = both

    and_right : (x y : Bool) → (x && y) ≡ true → y ≡ true
    and_right true y both = both
    and_right false y both = absurd (cc)

-- ---- one entry is marked

pub same_by_place : (asked entry : TableEntry) → IsInTable asked → IsInTable entry
    → ink_place entry.clut entry.depth entry.entry ≡ ink_place asked.clut asked.depth asked.entry
    → asked ≡ entry
same_by_place asked entry in_asked in_entry is =
    let same =
    same_place asked.clut entry.clut asked.depth entry.depth asked.entry entry.entry in_asked.1 in_entry.1 (sym is)
    in
    λ i. record { clut = same.0 i; depth = same.1 i; entry = same.2 i }

-- what stands at an entry where one is marked
pub mark_there : (asked entry : TableEntry) (mark : Mark) (marks : List Mark) → IsInTable asked → IsInTable entry
    → length marks ≡ ink_count
    → slice_index_or (slice_set marks (ink_place entry.clut entry.depth entry.entry) mark)
    (ink_place asked.clut asked.depth asked.entry) Unset
    ≡ cond (is_same_entry asked entry) mark
    (slice_index_or marks (ink_place asked.clut asked.depth asked.entry) Unset)
mark_there asked entry mark marks in_asked in_entry count = by (is_same_entry asked entry) refl
  where
    asked_place : ℕ
    asked_place = ink_place asked.clut asked.depth asked.entry

    place : ℕ
    place = ink_place entry.clut entry.depth entry.entry

    by : (same : Bool) → is_same_entry asked entry ≡ same
        → slice_index_or (slice_set marks place mark) asked_place Unset
        ≡ cond same mark (slice_index_or marks asked_place Unset)
    by true is =
        get_or-set_at marks place asked_place mark Unset (place_of_same asked entry is)
        (let inside = place_inside entry.clut entry.depth entry.entry in_entry.0 in_entry.1 in omega
        (arith, inside, count))
    by false is =
        get_or-set_other marks place asked_place mark Unset
        (λ e. let yes : is_same_entry asked entry
        ≡ true = ap (λ (one : TableEntry). is_same_entry asked one)
        (sym (same_by_place asked entry in_asked in_entry (sym e))) ∙ same_itself asked in absurd (cc))

abbrev pub of_asked : (clut : ℕ) (depth : Depth) (number : ℕ) → TableEntry
of_asked clut depth number = record { clut = clut; depth = depth; entry = number }

-- one more is set
pub set_marked : (entry : TableEntry) (set counted : List TableEntry) (marks : List Mark) → IsInTable entry
    → list_any (is_same_entry entry) set ≡ false → AreMarked set counted marks
    → AreMarked (set ++ entry ∷ []) counted (slice_set marks (ink_place entry.clut entry.depth entry.entry) Set)
set_marked entry set counted marks inside new are = record {
  different = one_more set new are.different;
  count = length-set marks (ink_place entry.clut entry.depth entry.entry) Set ∙ are.count;
  each = λ clut depth number byte low.
      let asked = of_asked clut depth number in
      mark_there asked entry Set marks (byte, low) inside are.count
      ∙ ap (cond (is_same_entry asked entry) Set) (are.each clut depth number byte low)
      ∙ by (list_any (is_same_entry asked) set) (is_same_entry asked entry) (list_any (is_same_entry asked) counted)
      ∙ ap (λ b. mark_for b (list_any (is_same_entry asked) counted))
      (sym (list_any-append (is_same_entry asked) set (entry ∷ [])));
}
  where
    by : (a b c : Bool) → cond b Set (mark_for a c) ≡ mark_for (a || (b || false)) c
    by true true c = refl
    by true false c = refl
    by false true c = refl
    by false false c = refl

    turned : (b : Bool) (a : TableEntry) → is_same_entry entry a ≡ b → b ≡ false
        → is_same_entry a entry ≡ false
    turned b a is none = other (is_same_entry a entry) refl
      where
        other : (found : Bool) → is_same_entry a entry ≡ found → found ≡ false
        other false at = refl
        other true at =
            absurd (let yes : is_same_entry entry a ≡ true = ap (is_same_entry entry) (same_entry a entry at)
            ∙ same_itself entry in cc)

    one_more : (xs : List TableEntry) → list_any (is_same_entry entry) xs ≡ false → AreDifferent xs
        → AreDifferent (xs ++ entry ∷ [])
    one_more [] none all = (refl, tt)
    one_more (x ∷ xs) none all =
        let parts = neither (is_same_entry entry x) (list_any (is_same_entry entry) xs) none in
        let last : is_same_entry x entry ≡ false = turned (is_same_entry entry x) x refl parts.0 in (
          list_any-append (is_same_entry x) xs (entry ∷ [])
              ∙ ap (λ b. b || (is_same_entry x entry || false)) all.0
              ∙ ap (λ b. b || false) last,
          one_more xs parts.1 all.1,
        )
      where
        neither : (a b : Bool) → (a || b) ≡ false → (a ≡ false) × (b ≡ false)
        neither false b is = (refl, is)
        neither true b is = absurd (cc)

-- one less
pub unset_marked : (entry : TableEntry) (set : List TableEntry) (marks : List Mark) → IsInTable entry
    → AreMarked (entry ∷ set) [] marks
    → AreMarked set [] (slice_set marks (ink_place entry.clut entry.depth entry.entry) Unset)
unset_marked entry set marks inside are = record {
  different = are.different.1;
  count = length-set marks (ink_place entry.clut entry.depth entry.entry) Unset ∙ are.count;
  each = λ clut depth number byte low.
      let asked = of_asked clut depth number in
      mark_there asked entry Unset marks (byte, low) inside are.count
      ∙ ap (cond (is_same_entry asked entry) Unset) (are.each clut depth number byte low)
      ∙ by (is_same_entry asked entry) (list_any (is_same_entry asked) set)
      (λ is. ap (λ (one : TableEntry). list_any (is_same_entry one) set) (same_entry asked entry is)
      ∙ are.different.0);
}
  where
    by : (b a : Bool) → (b ≡ true → a ≡ false) → cond b Unset (mark_for (b || a) false) ≡ mark_for a false
    by true a none = ap (λ x. mark_for x false) (sym (none refl))
    by false a none = refl

-- one more is counted
pub count_marked : (entry : TableEntry) (set counted : List TableEntry) (marks : List Mark) → IsInTable entry
    → list_any (is_same_entry entry) set ≡ false → AreMarked set counted marks
    → AreMarked set (entry ∷ counted) (slice_set marks (ink_place entry.clut entry.depth entry.entry) Counted)
count_marked entry set counted marks inside new are = record {
  different = are.different;
  count = length-set marks (ink_place entry.clut entry.depth entry.entry) Counted ∙ are.count;
  each = λ clut depth number byte low.
      let asked = of_asked clut depth number in
      mark_there asked entry Counted marks (byte, low) inside are.count
      ∙ ap (cond (is_same_entry asked entry) Counted) (are.each clut depth number byte low)
      ∙ by (list_any (is_same_entry asked) set) (is_same_entry asked entry) (list_any (is_same_entry asked) counted)
      (λ is. ap (λ (one : TableEntry). list_any (is_same_entry one) set) (same_entry asked entry is) ∙ new);
}
  where
    by : (a b c : Bool) → (b ≡ true → a ≡ false) → cond b Counted (mark_for a c) ≡ mark_for a (b || c)
    by a true c none =
        ap (λ x. cond true Counted (mark_for x c)) (none refl) ∙ ap (λ x. mark_for x true) (sym (none refl))
    by a false c none = refl

-- none is counted any more
pub counted_forgotten : (set counted : List TableEntry) (marks : List Mark) → AreMarked set counted marks
    → AreMarked set [] (map uncounted marks)
counted_forgotten set counted marks are = record {
  different = are.different;
  count = length-map marks uncounted ∙ are.count;
  each = λ clut depth number byte low.
      let asked = of_asked clut depth number in
      get_or-map uncounted marks (ink_place clut depth number) Unset Unset
      (let inside = place_inside clut depth number byte low in omega (arith, inside, are.count))
      ∙ ap uncounted (are.each clut depth number byte low)
      ∙ by (list_any (is_same_entry asked) set) (list_any (is_same_entry asked) counted);
}
  where
    by : (a c : Bool) → uncounted (mark_for a c) ≡ mark_for a false
    by true c = refl
    by false true = refl
    by false false = refl
