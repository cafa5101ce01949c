-- What a receiver holds of a script behind a display set is within what the plan needs for that set.
use Rattle.std.specs.Prelude.{ℕ, ◌≤◌, List, length, Some}
use Rattle.cue_list.specs.declared.epoch.Epoch.{Epoch}
use Rattle.page_epoch.specs.Needs.{pixel_need, node_need}
use Rattle.page_epoch.specs.declared.planned_set.PlannedSet.{PlannedSet}
use Rattle.decoder_model.specs.Free.{pixels_held, nodes_held}
use Rattle.decoder_model.specs.Readings.{Content}

-- the bytes of regions and the composition nodes that a receiver holds for these sets of an epoch, the latest first,
-- are at most those that the plan needs for a set, with the instants of the epoch up to it
pub record IsWithinNeed (epoch : Epoch) (seen : List ℕ) (set : PlannedSet)
    (known : List (List Content)) : Type 0 where
  pub pixels : pixels_held (Some known) ≤ pixel_need epoch.regions
  pub nodes : nodes_held (Some known) ≤ node_need epoch seen (length set.shown)
