use Rattle.std.proofs.Common.{◌≡◌, take}
use Rattle.std.specs.List.{flat_map}
use Rattle.page_epoch.specs.Rows.{events_of}
use Rattle.page_epoch.proofs.events.all_events.Given as goal

abbrev pub invariant-loop-epoch : goal.invariant-loop-epoch
invariant-loop-epoch l = l.events.items ≡ flat_map events_of (take l.epoch-index l.epochs)
