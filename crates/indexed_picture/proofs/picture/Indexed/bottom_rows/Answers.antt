use Rattle.std.proofs.Common.{subst, sym, All, List, ℕ}
use Rattle.sub_base.specs.Picture.{IsPicture, IsRow}
use Rattle.sub_base.proofs.PictureLaws.{All-every_second_row}
use Rattle.indexed_picture.proofs.picture.Indexed.bottom_rows.Goals as goal

pub returns-clause-rows : goal.returns-clause-rows
returns-clause-rows c =
    let P : List (List ℕ) → Type 0 = All (IsRow c.args.self.now) in
    subst P (sym c.starting_at.ensures)
    (All-every_second_row c.args.self.now (subst IsPicture c.self.view_is c.self.invariant) 1)
