use Rattle.std.proofs.Common.{◌≡◌, ◌≤◌}
use Rattle.schedule.specs.Packets.{first_packet}
use Rattle.script_stream.proofs.first.first_sets.Given as goal

abbrev pub invariant-loop-set : goal.invariant-loop-set
invariant-loop-set l = record { packets : l.packets ≡ first_packet l.loads l.set; few : l.packets ≤ l.most }
