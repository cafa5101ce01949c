use Rattle.std.proofs.Common.{List, sym, subst, ◌∙◌}
use Rattle.std.specs.Prelude.{Any, Contains}
use Rattle.set_coder.specs.declared.coded_picture.Slots.{Slots}
use Rattle.set_coder.specs.KeptBlocks.{IsOf, AreLedTo}
use Rattle.set_coder.proofs.KeptLaws.{some_given, kept_found}
use Rattle.set_coder.proofs.coded_picture.KeptBlocks.holds.Goals as goal

pub returns : goal.returns
returns c =
    let among = c.lookup.result.coded.now in
    let slots = c.lookup.result.slots.now in
    let led : AreLedTo slots among =
    subst (λ (ss : List Slots). AreLedTo ss among) (sym c.lookup.ensures.slots)
    (subst (AreLedTo c.args.self.now.slots.items) (sym c.lookup.ensures.coded) c.requires) in (
      λ given.
          let found =
          some_given (λ coded. IsOf c.args.number c.args.region coded.now) (λ coded. Contains among coded.now)
          c.led_to.result c.led_to.ensures.named c.led_to.ensures.among (sym c.is_some.ensures ∙ given) in
          subst (Any (IsOf c.args.number c.args.region)) c.lookup.ensures.coded
          (kept_found c.args.number c.args.region found.0.now among found.1 found.2),
      λ any. c.is_some.ensures
          ∙ c.led_to.ensures.found led
          (subst (Any (IsOf c.args.number c.args.region)) (sym c.lookup.ensures.coded) any),
    )
