use Rattle.std.proofs.Common.{◌∙◌, sym, ap, ◌+◌, ◌<◌, ℕ, List, ◌∷◌, length, arith}
use Rattle.sub_base.specs.Picture.{every_second_row}
use Rattle.sub_base.proofs.PictureLaws.{every_second_row-cons}
use Rattle.indexed_picture.proofs.fields.FieldRowsIterator.next.Goals as goal

pub returns-clause-steps : goal.returns-clause-steps
returns-clause-steps c =
    let inside : c.self.inside.next < c.self.inside.picture.now.height = omega arith in
    sym c.self.view_is ∙ every_second_row-cons c.self.inside.picture.now c.self.inside.next inside
    ∙ ap (λ (row : List ℕ). row ∷ every_second_row c.self.inside.picture.now (c.self.inside.next + 2))
    (sym c.row-row.ensures.value)

pub returns-clause-goes : goal.returns-clause-goes
returns-clause-goes c =
    let fewer = ap length (returns-clause-steps c) in
    record { on = λ _. (tt, tt, omega (arith, fewer)); keeps = tt; rests = λ _. tt }
