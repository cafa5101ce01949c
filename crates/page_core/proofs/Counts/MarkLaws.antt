-- Marks by their stamps.
use Rattle.std.proofs.Common.{◌≡◌, ◌∙◌, ℕ, ◌+◌, ◌==◌, ◌<◌, ◌⊎◌, Bool, true, false, cond, List, [], length, get_or, map, replicate, refl, sym, ap, subst, inl, inr, arith}
use Rattle.std.specs.Prelude.{slice_set, All}
use Rattle.std.proofs.lemmas.Bool.{eq-eqb, ne_eqb}
use Rattle.std.proofs.lemmas.List.{get_or-map, get_or-replicate, length-map, length-replicate, map-set, ext_get_or}
use Rattle.std.proofs.lemmas.List.Elements.{All-replicate, All-get_or}
use Rattle.sub_base.specs.Depth.{code_count}
use Rattle.sub_base.specs.declared.depth.Depth.{Depth}
use Rattle.page_core.specs.Private.Inks.{ink_count}
use Rattle.page_core.specs.Private.Marks.{AreMarked, AreStamps, AreSwept, IsStamp, all_set, mark_by, uncounted}
use Rattle.page_core.specs.Memory.{ink_place}
use Rattle.page_core.specs.declared.marks.Mark.{Mark}
use Rattle.page_core.specs.declared.marks.Mark.TheVariants.{Unset}
use Rattle.page_core.proofs.ColourTables.InkTables.{in_clut}

-- the index of an entry is one of all
pub place_inside : (clut : ℕ) (depth : Depth) (number : ℕ) → clut < 256 → number < code_count depth
    → ink_place clut depth number < ink_count
place_inside clut depth number byte low = let within = in_clut depth number low in omega (arith, within, byte)

-- ---- none is set

pub first_stamps : (count : ℕ) (stamps : List ℕ) → count ≡ ink_count → stamps ≡ replicate count 0
    → AreStamps 1 stamps
first_stamps count stamps size are = record {
  count = ap length are ∙ length-replicate {A = ℕ} count 0 ∙ size;
  low = omega arith;
  high = omega arith;
  each =
      (let all : All (IsStamp 1) (replicate count 0) = All-replicate (IsStamp 1) count 0 (inl (omega arith)) in subst'
      all);
}
  where
    subst' : All (IsStamp 1) (replicate count 0) → All (IsStamp 1) stamps
    subst' all = subst (All (IsStamp 1)) (sym are) all

pub none_marked : (count current : ℕ) (stamps : List ℕ) → count ≡ ink_count → current ≡ 1
    → stamps ≡ replicate count 0 → AreMarked [] [] (map (mark_by current) stamps)
none_marked count current stamps size now are =
    let sized : length stamps ≡ count = ap length are ∙ length-replicate {A = ℕ} count 0 in record {
      different = tt;
      count = length-map stamps (mark_by current) ∙ sized ∙ size;
      each = λ clut depth number byte low.
          let inside : ink_place clut depth number < count =
          omega (arith, place_inside clut depth number byte low, size) in
          let within : ink_place clut depth number < length stamps = omega (arith, inside, sized) in
          get_or-map (mark_by current) stamps (ink_place clut depth number) 0 Unset within
          ∙ ap (mark_by current)
          (ap (λ (xs : List ℕ). get_or xs (ink_place clut depth number) 0) are
          ∙ get_or-replicate count (ink_place clut depth number) 0 0 inside)
          ∙ ap (λ n. mark_by n 0) now;
    }

-- ---- one is marked

pub put_marked : (current i stamp : ℕ) (mark : Mark) (stamps : List ℕ) (old : List Mark)
    → map (mark_by current) stamps ≡ old → mark_by current stamp ≡ mark
    → map (mark_by current) (slice_set stamps i stamp) ≡ slice_set old i mark
put_marked current i stamp mark stamps old view is =
    map-set (mark_by current) stamps i stamp ∙ ap (λ (m : Mark). slice_set (map (mark_by current) stamps) i m) is
    ∙ ap (λ (ms : List Mark). slice_set ms i mark) view

-- ---- counted marks are taken off

by_stamp : (current next stamp : ℕ) → current < all_set → next < all_set → current < next
    → IsStamp current stamp → mark_by next stamp ≡ uncounted (mark_by current stamp)
by_stamp current next stamp high higher up (inr set) =
    let is : (stamp == all_set) ≡ true = eq-eqb stamp all_set set in rw is refl
by_stamp current next stamp high higher up (inl low) =
    let other : (stamp == all_set) ≡ false = ne_eqb stamp all_set (λ e. omega arith) in
    let later : (stamp == next) ≡ false = ne_eqb stamp next (λ e. omega arith) in
    by (stamp == current) other later refl
  where
    by : (b : Bool) → (stamp == all_set) ≡ false → (stamp == next) ≡ false → (stamp == current) ≡ b
        → mark_by next stamp ≡ uncounted (mark_by current stamp)
    by true other later is = rw (other, later, is) refl
    by false other later is = rw (other, later, is) refl

-- by counting on
pub counted_on : (current next : ℕ) (stamps : List ℕ) (old : List Mark) → map (mark_by current) stamps ≡ old
    → AreStamps current stamps → next ≡ current + 1 → next < all_set
    → map (mark_by next) stamps ≡ map uncounted old
counted_on current next stamps old view are is high =
    ext_get_or Unset (map (mark_by next) stamps) (map uncounted old)
    (length-map stamps (mark_by next) ∙ sym (length-map stamps (mark_by current)) ∙ ap length view
    ∙ sym (length-map old uncounted))
    (λ i within.
    let inside : i < length stamps = omega (arith, within, length-map stamps (mark_by next)) in
    let there : i < length old = omega (arith, inside, ap length view, length-map stamps (mark_by current)) in
    get_or-map (mark_by next) stamps i 0 Unset inside
    ∙ by_stamp current next (get_or stamps i 0) are.high high (omega arith)
    (All-get_or (IsStamp current) stamps i 0 inside are.each)
    ∙ ap uncounted
    (sym (get_or-map (mark_by current) stamps i 0 Unset inside)
    ∙ ap (λ (ms : List Mark). get_or ms i Unset) view)
    ∙ sym (get_or-map uncounted old i Unset Unset there))

-- and where the count is at its end, by a walk over all of them
swept_stamp : (current stamp : ℕ) → (stamp == all_set) ≡ true ⊎ (stamp == all_set) ≡ false
    → mark_by 1 (cond (stamp == all_set) all_set 0) ≡ uncounted (mark_by current stamp)
swept_stamp current stamp (inl set) = rw set refl
swept_stamp current stamp (inr other) = by (stamp == current) refl other
  where
    by : (b : Bool) → (stamp == current) ≡ b → (stamp == all_set) ≡ false
        → mark_by 1 (cond (stamp == all_set) all_set 0) ≡ uncounted (mark_by current stamp)
    by true is other = rw (other, is) refl
    by false is other = rw (other, is) refl

either : (b : Bool) → b ≡ true ⊎ b ≡ false
either true = inl refl
either false = inr refl

pub swept : (current : ℕ) (stamps new : List ℕ) (old : List Mark) → map (mark_by current) stamps ≡ old
    → AreSwept stamps new → length new ≡ length stamps → map (mark_by 1) new ≡ map uncounted old
swept current stamps new old view are size =
    ext_get_or Unset (map (mark_by 1) new) (map uncounted old)
    (length-map new (mark_by 1) ∙ size ∙ sym (length-map stamps (mark_by current)) ∙ ap length view
    ∙ sym (length-map old uncounted))
    (λ i within.
    let inside : i < length stamps = omega (arith, within, length-map new (mark_by 1), size) in
    let there : i < length old = omega (arith, inside, ap length view, length-map stamps (mark_by current)) in
    get_or-map (mark_by 1) new i 0 Unset (omega (arith, inside, size))
    ∙ ap (mark_by 1) (are i inside)
    ∙ swept_stamp current (get_or stamps i 0) (either (get_or stamps i 0 == all_set))
    ∙ ap uncounted
    (sym (get_or-map (mark_by current) stamps i 0 Unset inside)
    ∙ ap (λ (ms : List Mark). get_or ms i Unset) view)
    ∙ sym (get_or-map uncounted old i Unset Unset there))
