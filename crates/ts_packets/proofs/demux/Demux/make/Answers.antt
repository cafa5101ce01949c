use Rattle.std.proofs.Common.{refl}
use Rattle.stream_syntax.specs.Units.{last_counter, parts_of, hand_after}
use Rattle.ts_packets.proofs.demux.Demux.make.Goals as goal

pub returns-clause-stands : goal.returns-clause-stands
unfolding last_counter parts_of hand_after
returns-clause-stands c = record { counter = refl; hand = refl }
