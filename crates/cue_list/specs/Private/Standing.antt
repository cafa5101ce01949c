-- What is true of a reader that can go back, and of one whose pictures are lent.
use Rattle.std.specs.Prelude.{ℕ, ◌+◌, ◌≤◌, List, length}
use Rattle.sub_base.specs.Picture.{Picture}
use Rattle.cue_list.specs.declared.reader.Reader.{Reader}
use Rattle.cue_list.specs.Private.State.{IsReader}

-- what a reader kept before a record, and how many pictures there were
pub record IsBefore (kept : Reader) (count : ℕ) : Type 0 where
  pub reader : IsReader kept
  pub few : count ≤ kept.named + kept.cues

-- what a reader keeps while its pictures are lent
pub record IsLent (kept : Reader) (pictures : List Picture) : Type 0 where
  pub reader : IsReader kept
  pub few : length pictures ≤ kept.named + kept.cues
