-- A check that was fed nothing.
use Rattle.std.proofs.Common.{◌∙◌, ap, sym, subst, arith}
use Rattle.buffer_model.specs.Meters.{Meter}
use Rattle.decoder_model.specs.Received.{Reception}
use Rattle.sub_base.specs.Pace.{pace_of}
use Rattle.check_text.specs.Checking.{IsSlow, own_slot}
use Rattle.check_text.proofs.CheckLaws.{few_in_profile, nothing_checked, slow_pace}
use Rattle.check_text.proofs.check.Check.make.Goals as goal

pub make-requires-2-clause-coded : goal.make-requires-2-clause-coded
make-requires-2-clause-coded c = (few_in_profile c.args.profile.now c.requires.profile).0

pub make-requires-2-clause-nodes : goal.make-requires-2-clause-nodes
make-requires-2-clause-nodes c = (few_in_profile c.args.profile.now c.requires.profile).1

pub invariant_of-result : goal.invariant_of-result
invariant_of-result c =
    subst (λ (meter : Meter). IsSlow meter.pace) (sym c.in_ok-make.ensures.meter)
    (subst IsSlow (sym c.in_ok-levels.ensures.pace)
    (slow_pace c.args.origin c.args.profile.now c.requires.profile (omega (arith, c.requires.origin))))

pub returns-clause-nothing : goal.returns-clause-nothing
returns-clause-nothing c =
    nothing_checked c.in_ok-make.field-0 (c.in_ok-make.ensures.nothing own_slot)
    (ap (λ (meter : Meter). meter.pace) c.in_ok-make.ensures.meter ∙ c.in_ok-levels.ensures.pace
    ∙ ap (λ (made : Reception). pace_of made.anchor made.profile) (sym c.in_ok-make.ensures.made))
    (ap (λ (meter : Meter). meter.last) c.in_ok-make.ensures.meter ∙ c.in_ok-levels.ensures.last)
