use Rattle.std.proofs.Common.{◌≡◌, ◌++◌, take, map}
use Rattle.std.specs.List.{flat_map}
use Rattle.stream_syntax.specs.Segments.{spelled}
use Rattle.set_coder.specs.SetSegments.{clut_segment_of}
use Rattle.set_coder.proofs.set_segments.append_cluts.Given as goal

abbrev pub invariant-loop-sent : goal.invariant-loop-sent
invariant-loop-sent l =
    l.field.items ≡ l.initial.field.items
    ++ flat_map (spelled l.page) (map (clut_segment_of l.epoch) (take l.sent-index l.cluts))
