use Rattle.std.proofs.Common.{◌≡◌, ◌++◌, map, take}
use Rattle.page_epoch.specs.Rows.{event}
use Rattle.page_epoch.proofs.events.push_colour_events.Given as goal

abbrev pub invariant-loop-colour : goal.invariant-loop-colour
invariant-loop-colour l =
    l.events.items ≡ l.initial.events.items
    ++ map (λ row. event row.tick row.row) (take l.colour-index l.epoch.colours)
