-- The next segment of a type.
use Rattle.decoder_model.specs.Readings.{read}
use Rattle.page_core.proofs.Sets.NextContents.{next_is}
use Rattle.page_core.proofs.walking.next_of.Goals as goal

pub returns-in-Ok-clause-next : goal.returns-in-Ok-clause-next
returns-in-Ok-clause-next c set are =
    let n = c.in_ok-front.ensures.next set are in
    next_is c.args.kind set c.in_ok-front.front c.in-Ok.segment n
    (c.in-Ok.ensures.matches n.segment (read n.content) n.framed n.is_content)

pub returns-in-Err-clause-next : goal.returns-in-Err-clause-next
returns-in-Err-clause-next c set are =
    let n = c.in_ok-front.ensures.next set are in
    absurd (c.in-Err.ensures.matches n.segment (read n.content) n.framed n.is_content)
