use Rattle.std.proofs.Common.{◌≡◌, ◌≤◌, ◌+◌, ◌-◌, ◌++◌}
use Rattle.pixel_codes.specs.Lists.{Extends}
use Rattle.pixel_codes.specs.Private.Maximal.{IsOneRun, HasEnds}
use Rattle.pixel_codes.specs.Private.Rows.{text_from}
use Rattle.pixel_codes.specs.Private.Stream.{stream}
use Rattle.pixel_codes.proofs.row.append_ended.Given as goal

abbrev pub invariant-loop-ends : goal.invariant-loop-ends
invariant-loop-ends l = record {
  low : l.from ≤ l.at + 64;
  ends : HasEnds l.codes l.at l.from l.ends;
  alike : IsOneRun l.codes l.from l.at;
  text : stream l.out.items l.pending ++ text_from l.depth l.codes l.from
      ≡ stream l.fn.out.items l.fn.pending ++ text_from l.depth l.codes l.begin;
  extends : Extends l.fn.out.items l.out.items;
}

abbrev pub decreases-loop-ends : goal.decreases-loop-ends
decreases-loop-ends l = l.at + 64 - l.from
