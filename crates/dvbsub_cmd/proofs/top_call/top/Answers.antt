use Rattle.dvbsub_cmd.proofs.CauseLaws.{complete}
use Rattle.dvbsub_cmd.proofs.HeadlineLaws.{shown_by_cause}
use Rattle.dvbsub_cmd.proofs.top_call.top.Goals as goal

pub returns-clause-complete : goal.returns-clause-complete
returns-clause-complete g c =
    complete c.args.words.now _ _ _ _ _ (c.run-status.result, c.run-status.ensures.cause, c.tell.ensures)

pub returns-clause-shown : goal.returns-clause-shown
returns-clause-shown g c =
    shown_by_cause c.args.words.now _ _ _ _ _ (c.run-status.result, c.run-status.ensures.cause, c.tell.ensures)
