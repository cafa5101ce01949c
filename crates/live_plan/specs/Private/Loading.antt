-- An outlet that takes what is left of a batch.
use Rattle.std.specs.Prelude.{◌≤◌, Option, Some, None}
use Rattle.slot_stream.specs.KeptPackets.{HaveRisingSlots}
use Rattle.live_plan.specs.Outlets.{OutletState}
use Rattle.script_stream.specs.declared.left.PacketsLeft.{PacketsLeft}

-- the batch has all slots that are due
pub record HasRoomFor (outlet : OutletState) (left : PacketsLeft) : Type 0 where
  pub enough : outlet.due ≤ left.count
  pub kept : HaveRisingSlots left.kept

-- the outlet with what is left of a batch, where there is one
abbrev pub loaded : OutletState → Option PacketsLeft → OutletState
loaded outlet None = outlet
loaded outlet (Some left) = record outlet { kept = left.kept; count = left.count }
