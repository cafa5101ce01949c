use Rattle.std.proofs.Common.{refl, arith}
use Rattle.packet_source.proofs.GaveLaws.{length-whole_packets}
use Rattle.service_mux.proofs.LaneLaws.{passed_one}
use Rattle.service_mux.proofs.lane.Lane.pass.Goals as goal

pub overflow_add-self : goal.overflow_add-self
overflow_add-self c =
    omega (
      arith,
      length-whole_packets c.args.self.now.packets.bytes,
      c.requires.reached.there
          refl,
      c.requires.sound.limit,
    )

pub returns-clause-passes : goal.returns-clause-passes
returns-clause-passes c = passed_one c.args.self.now _ refl refl refl (c.requires.reached.there refl)
