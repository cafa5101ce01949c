-- A set that does not go on with an epoch finds nothing.
use Rattle.std.proofs.Common.{◌∙◌, ap}
use Rattle.decoder_model.specs.Verdict.{sets_since}
use Rattle.page_core.specs.Memory.{Memory}
use Rattle.page_core.proofs.Handed.Pasts.{begun_by}
use Rattle.page_core.proofs.memory.Core.begin.Goals as goal

pub returns-in_default : goal.returns-in_default
returns-in_default c = record {
  last = c.forget.ensures.last;
  same = record {
    profile = c.forget.ensures.same.profile ∙ ap (λ (memory : Memory). memory.profile) c.self.view_is;
    page = c.forget.ensures.same.page ∙ ap (λ (memory : Memory). memory.page) c.self.view_is;
    anchor = c.forget.ensures.same.anchor ∙ ap (λ (memory : Memory). memory.anchor) c.self.view_is;
  };
  begun =
      λ past set stands is. begun_by (sets_since c.args.self.now.profile c.args.self.now.anchor past) set c.args.start
      c.forget.new.self c.in_default.not-GoesOn is c.forget.ensures.forgotten;
}
