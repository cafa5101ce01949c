use Rattle.std.proofs.Common.{◌+◌, ◌/◌, ◌%◌, replicate}
use Rattle.generated_script.proofs.ListLaws.{pieces_more}
use Rattle.generated_script.proofs.picture.push_row.Goals as goal

pub loop-run-preserved : goal.loop-run-preserved
loop-run-preserved c =
    pieces_more (λ run. replicate 8 ((run + c.args.y / 3 + c.args.number) % 16)) c.loop-run.run c.args.codes.now.items
    c.loop-run.codes.items c.push_run.new.codes.items c.loop-run.invariant c.in_ok-push_run.ensures
