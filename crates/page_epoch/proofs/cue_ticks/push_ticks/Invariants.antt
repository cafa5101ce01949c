use Rattle.std.proofs.Common.{◌≡◌, ◌++◌, map, take}
use Rattle.page_epoch.proofs.cue_ticks.push_ticks.Given as goal

abbrev pub invariant-loop-cue : goal.invariant-loop-cue
invariant-loop-cue l = (l.starts.items ≡ l.initial.starts.items ++ map (λ cue. cue.start) (take l.cue-index l.cues))
    × (l.ends.items ≡ l.initial.ends.items ++ map (λ cue. cue.end) (take l.cue-index l.cues))
