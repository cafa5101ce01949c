use Rattle.std.proofs.Common.{◌∙◌, [], append-nil}
use Rattle.command_text.proofs.PutLaws.{PutsOut-nothing}
use Rattle.pid_text.proofs.pids.PidsPacketTeller.take_packet.Goals as goal

pub returns-clause-told : goal.returns-clause-told
returns-clause-told g c = record {
  goes = λ packets text counted has. (
    [],
    record {
      watched = c.take.ensures packets has.watched;
      nothing = append-nil text ∙ has.nothing;
    },
    PutsOut-nothing _ _,
  );
}
