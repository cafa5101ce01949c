-- What is known of the definitions of an epoch, with one more, and once it is over.
use Rattle.std.proofs.Common.{◌≡◌, ◌∙◌, ℕ, ◌+◌, ◌<◌, ◌≤◌, eqb, Bool, true, false, cond, List, [], ◌∷◌, length, get_or, set, Some, None, All, refl, ap, subst, arith}
use Rattle.std.specs.Option.{option_or}
use Rattle.std.proofs.lemmas.Bool.Decides.{nat_tests}
use Rattle.std.proofs.lemmas.List.{get_or-set_same, get_or-set_other}
use Rattle.std.proofs.lemmas.List.Elements.{All-get_or}
use Rattle.set_definitions.specs.Definitions.{last_said}
use Rattle.set_definitions.specs.Knowing.{Knowledge, Knows, Learns, never_told, said_at, said_by}
use Rattle.set_definitions.specs.declared.definition.Definition.{Definition}
use Rattle.set_definitions.specs.declared.definition.Said.{Said}
use Rattle.set_definitions.specs.declared.definition.TheConstants.{NAMES}
use Rattle.set_definitions.specs.declared.known.Told.{Told}

-- where all that was told is of earlier epochs, nothing is known
pub none_known : (told : List Told) (stamp : ℕ)
    → ((name : ℕ) → name < NAMES → (get_or told name never_told).stamp < stamp)
    → Knows (record { told = told; stamp = stamp }) []
none_known told stamp past = record {
  says = λ name within. other (get_or told name never_told) (past name within);
}
  where
    other : (one : Told) → one.stamp < stamp → said_by stamp one ≡ None
    other one before =
        let test : eqb one.stamp stamp ≡ false = grind (arith, nat_tests) in
        ap (λ (b : Bool). cond b (Some one.said) None) test

-- so of stamps that are all 0, all earlier, and all swept
pub known_at_first : (told : List Told) → length told ≡ NAMES → All (λ (one : Told). one.stamp ≡ 0) told
    → Knows (record { told = told; stamp = 1 }) []
known_at_first told whole zero = none_known told 1
    (λ name within.
    let is = All-get_or (λ (one : Told). one.stamp ≡ 0) told name never_told (omega (arith, within, whole)) zero in
    omega (arith, is))

pub known_later : (told : List Told) (stamp : ℕ) → length told ≡ NAMES
    → All (λ (one : Told). one.stamp ≤ stamp) told → Knows (record { told = told; stamp = stamp + 1 }) []
known_later told stamp whole past = none_known told (stamp + 1)
    (λ name within.
    let is = All-get_or (λ (one : Told). one.stamp ≤ stamp) told name never_told (omega (arith, within, whole)) past in
    omega (arith, is))

pub known_swept : (told swept : List Told) → length told ≡ NAMES
    → ((name : ℕ) → name < length told → get_or swept name never_told ≡ never_told)
    → Knows (record { told = swept; stamp = 1 }) []
known_swept told swept whole are = none_known swept 1
    (λ name within.
    let is = ap (λ (one : Told). one.stamp) (are name (omega (arith, within, whole))) in omega (arith, is))

-- a definition more is known
same_stamp : (stamp : ℕ) (said : Said) → said_by stamp (record { stamp = stamp; said = said }) ≡ Some said
same_stamp stamp said =
    let test : eqb stamp stamp ≡ true = grind (arith, nat_tests) in
    ap (λ (b : Bool). cond b (Some said) None) test

pub learned : (told : List Told) (stamp : ℕ) (one : Definition) → one.name < length told
    → Learns (record { told = told; stamp = stamp })
    (record { told = set told one.name (record { stamp = stamp; said = one.said }); stamp = stamp }) one
learned told stamp one within = record {
  here =
      ap (said_by stamp) (get_or-set_same told one.name (record { stamp = stamp; said = one.said }) never_told within)
      ∙ same_stamp stamp one.said;
  beside = λ name other.
      ap (said_by stamp)
      (get_or-set_other told one.name name (record { stamp = stamp; said = one.said }) never_told other);
}

pub knows_more : (old new : Knowledge) (one : Definition) (earlier : List Definition) → Knows old earlier
    → Learns old new one → Knows new (one ∷ earlier)
knows_more old new one earlier knows learns = record {
  says = λ name within. by name within (eqb one.name name) refl;
}
  where
    by : (name : ℕ) → name < NAMES → (same : Bool) → eqb one.name name ≡ same
        → said_at new name ≡ option_or (cond same (Some one.said) None) (last_said name earlier)
    by name within true is =
        let here : one.name ≡ name = grind (arith, nat_tests) in
        subst (λ (n : ℕ). said_at new n ≡ Some one.said) here learns.here
    by name within false is =
        let other : name ≡ one.name → ⊥ =
        λ e. (let e2 = e in absurd (let t : true ≡ false = grind (arith, nat_tests) in cc)) in
        learns.beside name other ∙ knows.says name within
