-- How a set stands to the epoch before it (EN 300 743, clauses 5.1 and 7.2.2, page_state).
use Rattle.std.specs.Prelude.{◌≡◌, List, [], ◌∷◌, filter_map, Some, None}
use Rattle.stream_syntax.specs.Segments.{Page, Display}
use Rattle.decoder_model.specs.Contents.{page_of, display_of}
use Rattle.decoder_model.specs.Kept.{epoch_of}
use Rattle.decoder_model.specs.Readings.{Content}
use Rattle.page_core.specs.declared.epoch.Start.{Start}
use Rattle.page_core.specs.declared.epoch.Start.TheVariants as start

-- with a set, behind kept sets: an epoch begins, the one that is known goes on, or none is known
abbrev pub IsStart : List (List Content) → List Content → Start → Type 0
IsStart sets set start.Begins = epoch_of (set ∷ sets) ≡ Some (set ∷ [])
IsStart sets set start.GoesOn =
    (epoch : List (List Content)) × (epoch_of sets ≡ Some epoch)
    × (epoch_of (set ∷ sets) ≡ Some (set ∷ epoch))
IsStart sets set start.Waits = epoch_of (set ∷ sets) ≡ None

-- a set has no other page
abbrev pub HasOnePage : List Content → Page → Type 0
HasOnePage set page = filter_map page_of set ≡ page ∷ []

-- and no other display
abbrev pub HasOneDisplay : List Content → Display → Type 0
HasOneDisplay set display = filter_map display_of set ≡ display ∷ []
