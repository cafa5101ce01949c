use Rattle.std.proofs.Common.{◌≡◌, ◌+◌, ◌*◌, ℕ, subst, arith}
use Rattle.cue_list.specs.Planes.{PaintsRows, SetsRow}
use Rattle.cue_list.proofs.PlaneLaws.{PaintsRows-more}
use Rattle.cue_list.proofs.painting.paint_rows.Goals as goal

pub loop-row-preserved : goal.loop-row-preserved
loop-row-preserved c =
    let At : ℕ
    → Type 0 = λ start. SetsRow c.args.entries.now c.row.result.now start c.args.see_through c.loop-row.plane
    c.paint_row.new.plane in
    let start : (c.args.top + c.from.result) * c.args.width + c.args.left
    ≡ (c.args.top + c.loop-row.row) * c.args.width + c.args.left = cc in
    PaintsRows-more c.args.entries.now c.args.picture.now c.args.left c.args.top c.args.see_through c.args.width
    c.loop-row.row
    c.args.plane.now c.loop-row.plane c.paint_row.new.plane c.requires.across c.height-row-end.ensures.picture
    (omega arith)
    c.loop-row.invariant c.row.result.now c.row.ensures.value (subst At start c.paint_row.ensures)

pub returns : goal.returns
returns c height =
    let all : c.loop-row.row ≡ c.args.picture.now.height = omega arith in
    subst (λ (n : ℕ). PaintsRows c.args.entries.now c.args.picture.now c.args.left c.args.top c.args.see_through
    c.args.width height n c.args.plane.now c.loop-row.plane)
    all (c.loop-row.invariant height)
