-- What a receiver shows of packets at a tick is one view.
use Rattle.std.proofs.Common.{◌≡◌, ◌∙◌, ℕ, List, reverse, Bool, sym, ap}
use Rattle.decoder_model.specs.Received.{Reception, sets_received}
use Rattle.decoder_model.specs.Shown.{View, view_at, IsShown}
use Rattle.reading_laws.proofs.OneReading.{same_past}

-- the view of packets at a tick is one
pub one_view : (reception : Reception) (ended : Bool) (packets : List (List ℕ)) (tick : ℕ) (shown other : View)
    → IsShown reception ended packets tick shown → IsShown reception ended packets tick other → shown ≡ other
one_view reception ended packets tick shown other h k =
    h.is_view
    ∙ ap (view_at reception.profile reception.anchor tick)
    (same_past (reverse (sets_received reception ended packets)) h.past k.past h.received k.received)
    ∙ sym k.is_view
