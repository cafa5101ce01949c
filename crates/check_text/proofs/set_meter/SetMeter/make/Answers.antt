-- A meter of sets that was fed nothing.
use Rattle.std.proofs.Common.{◌≤◌, sym, subst}
use Rattle.decoder_model.specs.Received.{Reception}
use Rattle.check_text.proofs.MeteredLaws.{nothing_metered}
use Rattle.check_text.proofs.set_meter.SetMeter.make.Goals as goal
use Rattle.sub_base.specs.declared.profile.TheConstants.{LARGEST_BUFFER}

pub invariant_of-result : goal.invariant_of-result
invariant_of-result c = record {
  none = c.in_ok-make.ensures.none;
  coded =
      subst (λ (made : Reception). made.profile.coded ≤ LARGEST_BUFFER) (sym c.in_ok-make.ensures.made)
      c.requires.coded;
}

pub returns-clause-nothing : goal.returns-clause-nothing
returns-clause-nothing c = λ slot_of.
    nothing_metered slot_of c.in_ok-make.field-0 c.args.levels c.in_ok-make.ensures.stands c.requires.new
