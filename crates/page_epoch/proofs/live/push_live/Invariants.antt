use Rattle.std.proofs.Common.{◌≡◌, ◌++◌, filter, map, take}
use Rattle.cue_list.specs.Authored.{is_live}
use Rattle.page_epoch.specs.Live.{cue_at}
use Rattle.page_epoch.proofs.live.push_live.Given as goal

abbrev pub invariant-loop-start : goal.invariant-loop-start
invariant-loop-start l =
    l.live.items ≡ l.initial.live.items
    ++ filter (λ place. is_live l.tick (cue_at l.cues place))
    (map (λ start. start.place) (take l.start-index l.starts))
