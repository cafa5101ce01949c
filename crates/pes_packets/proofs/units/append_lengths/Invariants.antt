use Rattle.std.proofs.Common.{◌≡◌, ℕ, ◌+◌, ◌-◌, ◌^◌, ◌≤◌, ◌++◌, List, min, length, take, vec_capacity}
use Rattle.pes_packets.specs.Units.{IsOpenAfter}
use Rattle.pes_packets.proofs.units.append_lengths.Given as goal

abbrev pub invariant-loop-segment : goal.invariant-loop-segment
invariant-loop-segment l =
    record {
      taken : (lengths : List ℕ) × IsOpenAfter (take l.segment-index l.segments) lengths l.unit.bytes
          × (l.out.items ≡ l.fn.out.items ++ lengths);
      room : length l.out.items + (length l.segments - l.segment-index) + min 1 l.unit.bytes ≤ vec_capacity l.out;
      short : l.unit.bytes ≤ 2 ^ 31;
    }
