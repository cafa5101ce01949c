use Rattle.std.proofs.Common.{refl}
use Rattle.service_text.proofs.TellLaws.{on_err, one_more_told, stays_told}
use Rattle.service_text.proofs.teller.PidTellerPacketTeller.take_packet.Goals as goal

pub returns-in_err-take_packet-clause-kept : goal.returns-in_err-take_packet-clause-kept
returns-in_err-take_packet-clause-kept g c =
    on_err c.from_residual.result _
    (stays_told _ _ c.args.self.now (record {
      pids = c.take_packet.new.self;
      programmes = c.args.self.now.programmes;
      services = c.args.self.now.services;
    })
    c.args.buffer.now c.take_packet.new._buffer c.in_err-take_packet.ensures.kept refl refl)

pub returns-clause-told : goal.returns-clause-told
returns-clause-told g c =
    one_more_told _ _ c.args.self.now (record {
      pids = c.take_packet.new.self;
      programmes = c.feed-came.new.self;
      services = c.args.self.now.services;
    })
    c.args.buffer.now c.take_packet.new._buffer c.args.place c.args.packet.now c.in_ok-take_packet.ensures.told
    c.feed-came.ensures.read refl
