use Rattle.pid_text.proofs.TallyLaws.{is_first, is_later, tallied_pes}
use Rattle.pid_text.proofs.pid_tally.PidTally.take_pes.Goals as goal
use Rattle.pid_text.proofs.pid_tally.PidTally.take_pes.Goals.{then-self-eq0, else-self-eq0}

pub returns : goal.returns
returns c units tallied =
    tallied_pes units _ c.args.self.now c.if-self-eq0.self _ c.note_field.new.pages _ tallied
    (elim c.if-self-eq0.branch [
      | then-self-eq0 w ↦ is_first w.if-self-eq0.true w.self-is
      | else-self-eq0 w ↦ is_later w.if-self-eq0.false w.self-is
    ])
    c.saturating_add-self.ensures c.note_field.ensures c.close.ensures
