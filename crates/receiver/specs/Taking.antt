-- Sets that are taken from a receiver, whatever it was fed.
use Rattle.std.specs.Prelude.{◌≡◌, ℕ, Bool, List}
use Rattle.decoder_model.specs.Received.{sets_received}
use Rattle.decoder_model.specs.Sets.{Delivery}
use Rattle.receiver.specs.Receiving.{IsNext, Receiving, Stands, reception}

-- whatever was fed and taken so far, a set or loss comes next
abbrev pub HasNext : Receiving → Type 0
HasNext receiving = (ended : Bool) (packets : List (List ℕ)) (given : List (Delivery (List ℕ)))
    → Stands ended packets given receiving
    → (delivery : Delivery (List ℕ)) × (rest : List (Delivery (List ℕ)))
    × IsNext ended packets given delivery rest receiving

-- all sets and losses of what was fed were taken
abbrev pub AllTaken : Receiving → Type 0
AllTaken receiving = (fed : List (List ℕ)) (ended : Bool) (given : List (Delivery (List ℕ)))
    → Stands ended fed given receiving
    → sets_received (reception receiving) ended fed ≡ given
