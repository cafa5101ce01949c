-- A set that is put behind others, where it is sent.
use Rattle.std.specs.Prelude.{◌≡◌, ℕ, ◌^◌, ◌<◌, List, [], ◌∷◌, ◌++◌, Option, Some, None}
use Rattle.sent_sets.specs.RawSets.{RawSet}
use Rattle.splice.specs.SplicedSets.{ArePaintedIn}
use Rattle.splice.specs.Private.JoinedSets.{IsJoinedOf}
use Rattle.splice.specs.Private.Sendings.{IsSendingOf}
use Rattle.splice.specs.declared.joined.Joined.{Joined}
use Rattle.splice.specs.declared.prepared.Placed.{Placed}

-- the set with so many ticks of painting is kept behind those that were kept, where there is one to be sent; and where
-- there is none, these stay as they are
abbrev pub IsPut : Option Placed → ℕ → Joined → Joined → Type 0
IsPut None painted old new = new ≡ old
IsPut (Some one) painted old new =
    (sets : List RawSet) (set : RawSet) → IsJoinedOf sets old → IsSendingOf set one.sending → set.time ≡ one.time
    → one.time < 2 ^ 62 → ArePaintedIn set.segments painted → painted < 2 ^ 62 → IsJoinedOf (sets ++ set ∷ []) new
