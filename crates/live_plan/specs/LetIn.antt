-- What was let in row by row, and scripts of what was let in.
use Rattle.std.specs.Prelude.{◌≡◌, true, List, [], ◌∷◌}
use Rattle.cue_records.specs.Rows.{Row}
use Rattle.cue_list.specs.TakenRows.{IsScriptOf}
use Rattle.cue_list.specs.declared.script.Script.{Script}
use Rattle.live_plan.specs.LiveRows.{Inserter, IsLetIn, RowOrTick, has_epoch, records_in, taken_as}

-- each was let in behind those before it
abbrev pub LetIn : Inserter → List RowOrTick → Type 0
LetIn inserter [] = Unit {0}
LetIn inserter (taken ∷ past) =
    ((cells : Row) × (taken ≡ taken_as cells) × IsLetIn inserter past cells) × LetIn inserter past

-- the script of the rows that were let in
pub record IsScriptBehind (inserter : Inserter) (past : List RowOrTick) (script : Script) : Type 0 where
  pub epoch : has_epoch (records_in past) ≡ true
  pub valid : IsScriptOf inserter.font (records_in past) script
