use Rattle.std.proofs.Common.{◌≡◌, ◌++◌, take}
use Rattle.std.specs.List.{flat_map}
use Rattle.page_epoch.specs.Rows.{events_of_cue}
use Rattle.page_epoch.proofs.events.push_cue_events.Given as goal

abbrev pub invariant-loop-cue : goal.invariant-loop-cue
invariant-loop-cue l =
    l.events.items ≡ l.initial.events.items ++ flat_map events_of_cue (take l.cue-index l.epoch.cues)
