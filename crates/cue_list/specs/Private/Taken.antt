-- What a reader that is told outside keeps.
use Rattle.cue_list.specs.declared.reader.Reader.{Reader}
use Rattle.cue_list.specs.Private.State.{past_of}
use Rattle.cue_list.specs.TakenRows.{Kept}

-- what a reader keeps, as it is told outside: what looking back over its records finds, and their pictures
abbrev pub kept_of : Reader → Kept
kept_of reader = record { past = past_of reader; pictures = reader.pictures.items }
