-- Tests one after another, the first of which that fails is told.
use Rattle.std.proofs.Common.{◌≡◌, refl, Bool, true, false, not, ◌&&◌, ◌||◌, List, ◌∷◌, Option, Some, None}
use Rattle.cue_records.specs.declared.fault.ScriptKind.{ScriptKind}
use Rattle.cue_records.specs.CellFaults.{first_of, fails}

-- the first of tests that pass passes, and so do the others
pub passed : (test : Option ScriptKind) (tests : List (Option ScriptKind)) → first_of (test ∷ tests) ≡ None
    → (test ≡ None) × (first_of tests ≡ None)
passed None tests h = (refl, h)
passed (Some kind) tests h = absurd (let never : Some kind ≡ None = h in cc)

-- a test that passes
pub not-wrong : (wrong : Bool) (kind : ScriptKind) (tests : List (Option ScriptKind))
    → first_of (fails wrong kind ∷ tests) ≡ None → (wrong ≡ false) × (first_of tests ≡ None)
not-wrong true kind tests h = absurd (let never : Some kind ≡ None = h in cc)
not-wrong false kind tests h = (refl, h)

pub not-false : (b : Bool) → not b ≡ false → b ≡ true
not-false true h = refl
not-false false h = absurd (let never : true ≡ false = h in cc)

pub both-true : (a b : Bool) → (a && b) ≡ true → (a ≡ true) × (b ≡ true)
both-true true b h = (refl, h)
both-true false b h = absurd (let never : false ≡ true = h in cc)

pub both-false : (a b : Bool) → (a || b) ≡ false → (a ≡ false) × (b ≡ false)
both-false true b h = absurd (let never : true ≡ false = h in cc)
both-false false b h = (refl, h)
