use Rattle.std.proofs.Common.{Option, sym, subst}
use Rattle.splice.specs.Private.Refusals.{IsRefusalOf}
use Rattle.splice.specs.declared.splice_fault.SpliceFault.{SpliceFault}
use Rattle.splice.proofs.RefusalLaws.{by_surveys}
use Rattle.splice.proofs.refusal.refusal_of.Goals as goal

pub returns : goal.returns
returns c streams joined are =
    subst (λ (found : Option SpliceFault). IsRefusalOf c.args.splicing streams joined found)
    (sym c.fault_of_surveys.ensures)
    (by_surveys c.args.splicing streams joined c.args.first c.args.second c.args.last are)
