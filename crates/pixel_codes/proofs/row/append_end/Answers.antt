use Rattle.std.proofs.Common.{◌++◌, ap, ◌∙◌, List, ℕ}
use Rattle.std.proofs.lemmas.Result.{on_ok_weaker}
use Rattle.pixel_codes.specs.Private.Stream.{stream}
use Rattle.pixel_codes.proofs.row.append_end.Goals as goal

pub returns-clause-text : goal.returns-clause-text
returns-clause-text c =
    on_ok_weaker c.push.result
    (λ e. e ∙ ap (λ (t : List ℕ). stream c.args.out.now.items c.args.pending.now ++ t)
    c.end_width.ensures.spelled) c.push.ensures.text
