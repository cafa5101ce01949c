use Rattle.std.proofs.Common.{◌∙◌, ℕ, arith}
use Rattle.decoder_model.specs.Received.{Reception}
use Rattle.decoder_model.specs.declared.pages.Pages.{Pages}
use Rattle.sub_base.specs.declared.profile.Profile.{Profile}
use Rattle.dump_text.proofs.DumpLaws.{no_packets, nothing_told}
use Rattle.dump_text.proofs.dump.Dump.make.Goals as goal

pub invariant_of-result : goal.invariant_of-result
invariant_of-result c = record {
  asked = c.requires.asked;
  none = c.in_ok-make.ensures.none;
  within = omega arith;
}

pub returns-clause-made : goal.returns-clause-made
returns-clause-made c =
    c.in_ok-make.ensures.made
    ∙ (λ i. asked_in c.args.profile.now c.args.pid c.args.pages (c.anchor.ensures i))
  where
    asked_in : Profile → ℕ → Pages → ℕ → Reception
    asked_in profile pid pages anchor = record { profile = profile; pid = pid; pages = pages; anchor = anchor }

pub returns-clause-nothing : goal.returns-clause-nothing
returns-clause-nothing c = record {
  within = omega arith;
  told = nothing_told c.in_ok-make.field-0 c.args.ticks.now c.in_ok-make.ensures.stands;
  all =
      no_packets c.in_ok-make.field-0.showing.core.profile.coded c.in_ok-make.field-0.demux.pid
      c.in_ok-make.field-0.sets.pages;
}
