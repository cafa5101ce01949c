-- The display sets of a stream that are kept, at their lifted times (EN 300 743, clause 5.1).
use Rattle.std.specs.Prelude.{ℕ, true, List, [], ◌∷◌, ◌++◌, reverse, Option, Some, None}
use Rattle.decoder_model.specs.Kept.{lifted_time}
use Rattle.decoder_model.specs.Received.{Reception, sets_received}
use Rattle.decoder_model.specs.Sets.{Delivery, lost, whole, refused}
use Rattle.sent_sets.specs.RawSets.{RawSet}

-- what is handed over as a set with that lifted time: a whole set that is kept; a loss, and a set that is refused or
-- not kept, is none
abbrev pub set_at : Option ℕ → Delivery (List ℕ) → List RawSet
set_at None delivery = []
set_at (Some lifted) lost = []
set_at (Some lifted) (whole time size bytes) = record { time = lifted; segments = bytes } ∷ []
set_at (Some lifted) (refused time size fault) = []

-- the whole sets that are kept among what was handed over, which stands the latest first, in a receiver with that
-- anchor; the first of them stands first
abbrev pub kept_among : ℕ → List (Delivery (List ℕ)) → List RawSet
kept_among anchor [] = []
kept_among anchor (delivery ∷ past) = kept_among anchor past ++ set_at (lifted_time anchor past delivery) delivery

-- the whole sets that are kept of the packets of a stream that has ended, in a receiver for that
abbrev pub kept_sets : Reception → List (List ℕ) → List RawSet
kept_sets reception packets = kept_among reception.anchor (reverse (sets_received reception true packets))
