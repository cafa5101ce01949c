use Rattle.std.proofs.Common.{◌∙◌, ◌==◌, ℕ, ap}
use Rattle.std.proofs.lemmas.Bool.{eq-eqb, ne_eqb}
use Rattle.page_epoch.specs.SentCluts.{row_at}
use Rattle.page_epoch.proofs.ListLaws.{keep_place, pass_place}
use Rattle.page_epoch.proofs.clut_rows.rows_of_clut.Goals as goal
use Rattle.page_epoch.proofs.clut_rows.rows_of_clut.Goals.{then-row-clut+in_ok-push, else-row-clut}

pub loop-place-preserved : goal.loop-place-preserved
loop-place-preserved c =
    let p = λ (place : ℕ). (row_at c.args.colours.now place).clut == c.args.clut in
    elim c.if-row-clut.branch [
      | then-row-clut+in_ok-push w ↦
          keep_place p c.loop-place.place c.loop-place.own.items _ c.loop-place.invariant
          (eq-eqb _ _ w.if-row-clut.true) (ap (λ own. own.items) w.own-is ∙ w.in_ok-push.ensures.items)
      | else-row-clut w ↦ pass_place p c.loop-place.place _
          (ap (λ own. own.items) w.own-is ∙ c.loop-place.invariant) (ne_eqb _ _ w.if-row-clut.false)
    ]
