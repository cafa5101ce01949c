-- What is seen of a reader of scripts, of the way back, and of a script that it lends.
use Rattle.cue_list.specs.declared.kept_rows.LentScript.{LentScript}
use Rattle.cue_list.specs.declared.script.Script.{Script}
use Rattle.cue_list.specs.declared.kept_rows.RowBefore.{RowBefore}
use Rattle.cue_list.specs.declared.kept_rows.ScriptReader.{ScriptReader}
use Rattle.cue_list.specs.Private.State.{past_of}
use Rattle.cue_list.specs.Private.Taken.{kept_of}
use Rattle.cue_list.specs.TakenRows.{Kept, Mark, heads_of}

-- what a reader keeps
abbrev pub seen_of : ScriptReader → Kept
seen_of reader = kept_of reader.kept

-- what was kept before a row, but for the pictures
abbrev pub mark_of : RowBefore → Mark
mark_of before = record { past = past_of before.kept; count = before.count }

-- the script that is lent
abbrev pub script_in : LentScript → Script
script_in lent = lent.script

-- what its reader keeps
abbrev pub lent_seen : LentScript → Kept
lent_seen lent = record {
  past = record (past_of lent.kept) { heads = heads_of lent.script.pictures };
  pictures = lent.script.pictures;
}
