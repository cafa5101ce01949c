-- A receiver that was fed nothing.
use Rattle.std.proofs.Common.{◌∙◌, sym, ap}
use Rattle.sub_base.specs.declared.profile.Profile.{Profile}
use Rattle.set_receiver.proofs.Takes.{none_given}
use Rattle.set_receiver.proofs.receiver.SetReceiver.make.Goals as goal

pub returns-clause-stands : goal.returns-clause-stands
returns-clause-stands c = record {
  coded =
      c.in_ok-make.ensures.coded ∙ ap (λ (profile : Profile). profile.coded) (sym c.in_ok-make-2.ensures.profile);
  reads = c.in_ok-make.ensures.stands;
  holds = none_given _ c.in_ok-make-2.ensures.stands;
}
