use Rattle.std.proofs.Common.{ℕ, Option, Some, refl, sym, subst}
use Rattle.splice.specs.Private.Surveys.{IsPlacedAt}
use Rattle.splice.proofs.prepared.placed_at.Goals as goal

pub returns-in_ok-sending_of-in-Some : goal.returns-in_ok-sending_of-in-Some
returns-in_ok-sending_of-in-Some c = λ segments. λ are.
    subst (λ (at : Option ℕ). IsPlacedAt at segments
    (Some (record { time = c.in-Some.time; sending = c.in_ok-sending_of-in-Some.field-0 }))) (sym c.in-Some.is) (
      record { time = c.in-Some.time; sending = c.in_ok-sending_of-in-Some.field-0 },
      refl,
      refl,
      λ some. c.in_ok-sending_of-in-Some.ensures (record { time = c.in-Some.time; segments = segments }) refl are some,
    )
