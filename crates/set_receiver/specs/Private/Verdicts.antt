-- What a verdict says of the segments of a set.
use Rattle.std.specs.Prelude.{◌≡◌, List, None}
use Rattle.decoder_model.specs.Faults.{segment_fault}
use Rattle.decoder_model.specs.Readings.{Reading}
use Rattle.decoder_model.specs.declared.set_end.SetEnd.{SetEnd}
use Rattle.decoder_model.specs.declared.set_end.SetEnd.TheVariants.{Shown, Waiting, Broken, NotLater}

-- none of the segments of a set that is shown, or waits, has a fault
abbrev pub IsVerdictOf : List Reading → SetEnd → Type 0
IsVerdictOf readings Shown = segment_fault readings ≡ None
IsVerdictOf readings Waiting = segment_fault readings ≡ None
IsVerdictOf readings (Broken fault) = Unit {0}
IsVerdictOf readings (NotLater last) = Unit {0}
