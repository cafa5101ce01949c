-- What `clap` reads of an argument and a command that are built step by step.
use Rattle.std.proofs.Common.{◌≡◌, ◌∙◌, List, ℕ, Option, Some, None, ap, ap₂}
use Rattle.std.specs.Option.{IsSomeAnd}
use Rattle.clap.specs.Simple.{new_rule}
use Rattle.clap.specs.Walk.{Rule, rule_of}
use Rattle.clap.specs.declared.builder.arg.Arg.{Arg}
use Rattle.clap.specs.declared.builder.range.ValueRange.{ValueRange}

is_range : (found : Option ValueRange) (range : ValueRange) → IsSomeAnd found (λ r. r ≡ range)
    → found ≡ Some range
is_range None range e = absurd e
is_range (Some r) range e = ap (λ (x : ValueRange). Some x) e

-- a new argument that takes so many values
pub ranged : (old new : Arg) (id : List ℕ) (range : ValueRange) → rule_of old ≡ new_rule id
    → new ≡ record old { num_vals = new.num_vals }
    → IsSomeAnd new.num_vals (λ r. r ≡ range) → rule_of new ≡ record (new_rule id) { range = Some range }
ranged old new id range is same some =
    ap rule_of same
    ∙ ap₂ (λ (rule : Rule) (r : Option ValueRange). record rule { range = r }) is
    (is_range new.num_vals range some)
