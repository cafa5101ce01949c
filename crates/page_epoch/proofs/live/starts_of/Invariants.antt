use Rattle.std.proofs.Common.{◌≡◌, ◌==◌, filter, map}
use Rattle.page_epoch.specs.Live.{cue_at, start_at, places_below}
use Rattle.page_epoch.proofs.live.starts_of.Given as goal

abbrev pub invariant-loop-place : goal.invariant-loop-place
invariant-loop-place l =
    l.starts.items
    ≡ map (start_at l.cues) (filter (λ place. (cue_at l.cues place).region == l.region) (places_below l.place))
