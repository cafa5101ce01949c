-- A kept set waits, is broken by itself, or is one of an epoch.
use Rattle.std.proofs.Common.{◌∙◌, ap}
use Rattle.decoder_model.specs.Faults.{contents_in}
use Rattle.decoder_model.specs.Verdict.{sets_since}
use Rattle.page_core.specs.Memory.{Memory}
use Rattle.page_core.proofs.memory.Core.take_early.Goals as goal

pub returns-in-Err-clause-taken : goal.returns-in-Err-clause-taken
returns-in-Err-clause-taken c past pts size readings stands lifted are =
    let known = ap (λ (memory : Memory). memory.known) c.self.view_is ∙ stands.known in
    let verdict =
    c.in-Err.ensures.accepted c.args.self.now.profile
    (sets_since c.args.self.now.profile c.args.self.now.anchor past) readings known are in (
      c.end_early.ensures.stands past pts size readings c.in-Err.end stands lifted verdict
          c.in-Err.ensures.early,
      verdict,
      c.in-Err.ensures.early,
    )

pub returns-in-Ok-clause-taken : goal.returns-in-Ok-clause-taken
returns-in-Ok-clause-taken c past pts size readings stands lifted are =
    let known = ap (λ (memory : Memory). memory.known) c.self.view_is ∙ stands.known in
    let set =
    c.in-Ok.ensures.accepted c.args.self.now.profile
    (sets_since c.args.self.now.profile c.args.self.now.anchor past) readings known are in
    (set, c.begin.ensures.begun past (contents_in readings) stands set.start)
