-- What a receiver at work tells is what it was asked for.
use Rattle.std.proofs.Common.{◌≡◌, ◌∙◌, ℕ, Bool, List, subst}
use Rattle.decoder_model.specs.Received.{Reception}
use Rattle.receiver.specs.Asking.{reception}
use Rattle.dump_text.specs.DumpText.{IsDumpText}
use Rattle.dump_text.specs.Dumping.{Dumping, IsSameDump, dump_tells}

pub tells_as_asked : (asked : Reception) (ticks : List ℕ) (made walked : Dumping) (ended : Bool)
    (packets : List (List ℕ)) (text : List ℕ) → IsSameDump made walked → reception made.receiving ≡ asked
    → made.ticks ≡ ticks → dump_tells walked ended packets text → IsDumpText asked ticks ended packets text
tells_as_asked asked ticks made walked ended packets text same made_is ticks_are is =
    subst (λ (one : Reception). IsDumpText one ticks ended packets text) (same.receiver ∙ made_is)
    (subst (λ (t : List ℕ). IsDumpText (reception walked.receiving) t ended packets text) (same.ticks ∙ ticks_are) is)
