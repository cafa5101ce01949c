use Rattle.std.proofs.Common.{sym}
use Rattle.cue_records.proofs.ShortRunLaws.{short}
use Rattle.cue_records.proofs.runs.short_run.Goals as goal

pub returns-clause-run : goal.returns-clause-run
returns-clause-run c =
    short c.args.depth c.args.text.now c.in_ok-star.star c.in_ok-count.count c.in_ok-code.code c.in_ok-code.digits
    c.in_ok-star.ensures.near.0 c.in_ok-star.ensures.near.1 c.in_ok-star.ensures.long c.in_ok-star.ensures.star
    (sym c.in_ok-count.ensures.value) c.in_ok-code.ensures.code c.in_ok-code.ensures.space c.in_ok-code.ensures.few
