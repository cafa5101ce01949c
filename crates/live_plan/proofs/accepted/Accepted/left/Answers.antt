use Rattle.std.proofs.Common.{◌∙◌, sym, ap, subst}
use Rattle.cue_list.specs.SeenReaders.{seen_of}
use Rattle.cue_list.specs.TakenRows.{IsScriptOf, Kept}
use Rattle.live_plan.specs.LiveRows.{records_in, rows_in}
use Rattle.live_plan.specs.Private.Accepting.{inserter_in}
use Rattle.live_plan.proofs.LeftLaws.{batch_left, blocks_whole, epoch_found, rows_unsent}
use Rattle.live_plan.proofs.accepted.Accepted.left.Goals as goal

pub returns-then-not-has_epoch-clause-left : goal.returns-then-not-has_epoch-clause-left
returns-then-not-has_epoch-clause-left c = λ past are.
    sym (epoch_found c.args.self.now.font past (seen_of c.args.self.now.reader) are.stands)
    ∙ sym c.has_epoch.ensures ∙ c.if-not-has_epoch.true

pub returns-in-Err-left-clause-refused : goal.returns-in-Err-left-clause-refused
returns-in-Err-left-clause-refused c = λ past are.
    let own = c.args.self.now in
    rows_unsent (inserter_in own) past c.script.result.now c.in-Err-left.fault
    (sym (epoch_found own.font past (seen_of own.reader) are.stands) ∙ sym c.has_epoch.ensures
    ∙ c.if-not-has_epoch.false)
    (subst (IsScriptOf own.font (records_in past)) (sym c.script.ensures)
    (c.in-Ok.ensures.script own.font (rows_in past) are.stands))
    c.in-Err-left.ensures.refused

pub returns-in-Ok-left-clause-left : goal.returns-in-Ok-left-clause-left
returns-in-Ok-left-clause-left c = λ past are.
    let own = c.args.self.now in
    batch_left (inserter_in own) past c.args.sent c.script.result.now c.in-Ok-left.left
    (sym (epoch_found own.font past (seen_of own.reader) are.stands) ∙ sym c.has_epoch.ensures
    ∙ c.if-not-has_epoch.false)
    (subst (IsScriptOf own.font (records_in past)) (sym c.script.ensures)
    (c.in-Ok.ensures.script own.font (rows_in past) are.stands))
    c.in-Ok-left.ensures.left

pub returns-in-Ok-left-clause-blocks : goal.returns-in-Ok-left-clause-blocks
returns-in-Ok-left-clause-blocks c =
    blocks_whole (seen_of c.args.self.now.reader).pictures c.script.result.now.pictures _
    (ap (λ script. script.pictures) c.script.ensures ∙ ap (λ (kept : Kept). kept.pictures) c.in-Ok.ensures.lent)
    c.in-Ok-left.ensures.grown
