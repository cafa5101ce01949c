-- What is written to a region of a store: nothing, and one thing after another.
use Rattle.std.proofs.Common.{◌≡◌, ◌∙◌, refl, sym, ap, subst, ℕ, ◌<◌, List, [], ◌∷◌, Option, Some, None}
use Rattle.std.specs.Prelude.{unwrap_or}
use Rattle.std.specs.Option.{option_or}
use Rattle.sub_base.specs.Lists.{last_given}
use Rattle.pixel_store.specs.Regions.{Regions, KeepsOthers, region_at, code_of}
use Rattle.block_painting.specs.Writing.{IsWritten}

pub keeps_all : (slot : ℕ) (store : Regions) → KeepsOthers slot store store
keeps_all slot store =
    record {
      count = refl;
      others = λ other ne. refl;
      width = refl;
      height = refl;
      depth = refl;
      size = refl;
      free = refl;
    }

pub keeps_twice : (slot : ℕ) (a b c : Regions) → KeepsOthers slot a b → KeepsOthers slot b c
    → KeepsOthers slot a c
keeps_twice slot a b c first second = record {
  count = second.count ∙ first.count;
  others = λ other ne. second.others other ne ∙ first.others other ne;
  width = second.width ∙ first.width;
  height = second.height ∙ first.height;
  depth = second.depth ∙ first.depth;
  size = second.size ∙ first.size;
  free = second.free ∙ first.free;
}

pub nothing_written : (slot : ℕ) (written : ℕ → ℕ → Option ℕ) (store : Regions)
    → ((x y : ℕ) → written x y ≡ None) → IsWritten slot written store store
nothing_written slot written store none = record {
  others = keeps_all slot store;
  codes = λ x y narrow low. sym (ap (λ found. unwrap_or found (code_of (region_at store slot) x y)) (none x y));
}

pub later_first : (second first : Option ℕ) (code : ℕ)
    → unwrap_or second (unwrap_or first code) ≡ unwrap_or (option_or second first) code
later_first None first code = refl
later_first (Some found) first code = refl

pub written_twice : (slot : ℕ) (first second : ℕ → ℕ → Option ℕ) (a b c : Regions)
    → IsWritten slot first a b → IsWritten slot second b c
    → IsWritten slot (λ x y. option_or (second x y) (first x y)) a c
written_twice slot first second a b c before after = record {
  others = keeps_twice slot a b c before.others after.others;
  codes = λ x y narrow low.
      after.codes x y (subst (λ (n : ℕ). x < n) (sym before.others.width) narrow)
      (subst (λ (n : ℕ). y < n) (sym before.others.height) low)
      ∙ ap (unwrap_or (second x y)) (before.codes x y narrow low)
      ∙ later_first (second x y) (first x y) (code_of (region_at a slot) x y);
}

pub written_as : (slot : ℕ) (one other : ℕ → ℕ → Option ℕ) (old new : Regions)
    → ((x y : ℕ) → one x y ≡ other x y) → IsWritten slot one old new → IsWritten slot other old new
written_as slot one other old new same is = record {
  others = is.others;
  codes =
      λ x y narrow low. is.codes x y narrow low
      ∙ ap (λ found. unwrap_or found (code_of (region_at old slot) x y)) (same x y);
}

-- ---- one item after another

-- after some items of which each writes something: whatever the others write is, behind what these wrote, what all
-- write
pub record IsWriting {X : Type 0} (slot : ℕ) (code_by : ℕ → ℕ → X → Option ℕ) (all : List X)
    (begin : Regions) (rest : List X) (now : Regions) : Type 0 where
  pub others : KeepsOthers slot begin now
  pub whole : (end : Regions) → IsWritten slot (λ x y. last_given (code_by x y) rest) now end
      → IsWritten slot (λ x y. last_given (code_by x y) all) begin end

pub writing_begins : {X : Type 0} (slot : ℕ) (code_by : ℕ → ℕ → X → Option ℕ) (all : List X)
    (store : Regions) → IsWriting slot code_by all store all store
writing_begins slot code_by all store = record { others = keeps_all slot store; whole = λ end rest. rest }

pub writing_goes_on : {X : Type 0} (slot : ℕ) (code_by : ℕ → ℕ → X → Option ℕ) (all : List X)
    (begin : Regions) (item : X) (rest : List X) (now next : Regions)
    → IsWriting slot code_by all begin (item ∷ rest) now → IsWritten slot (λ x y. code_by x y item) now next
    → IsWriting slot code_by all begin rest next
writing_goes_on slot code_by all begin item rest now next writing written = record {
  others = keeps_twice slot begin now next writing.others written.others;
  whole =
      λ end after. writing.whole end
      (written_twice slot (λ x y. code_by x y item) (λ x y. last_given (code_by x y) rest) now next end written
      after);
}

pub writing_ends : {X : Type 0} (slot : ℕ) (code_by : ℕ → ℕ → X → Option ℕ) (all : List X)
    (begin now : Regions) → IsWriting slot code_by all begin [] now
    → IsWritten slot (λ x y. last_given (code_by x y) all) begin now
writing_ends slot code_by all begin now writing =
    writing.whole now (nothing_written slot (λ x y. None) now (λ x y. refl))
