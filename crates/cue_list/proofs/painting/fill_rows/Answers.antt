use Rattle.std.proofs.Common.{◌≡◌, ◌+◌, ◌*◌, ℕ, subst, arith}
use Rattle.cue_list.specs.Planes.{FillsRows, SetsAll}
use Rattle.cue_list.proofs.PlaneLaws.{FillsRows-more}
use Rattle.cue_list.proofs.painting.fill_rows.Goals as goal

pub loop-row-preserved : goal.loop-row-preserved
loop-row-preserved c height =
    let At : ℕ → ℕ → Type 0 =
    λ start count. SetsAll c.args.colour start count c.loop-row.plane c.fill_row.new.plane in
    let start : (c.from.result + c.from-in-loop-row.result) * c.from-in-loop-row-2.result + c.from-in-loop-row-3.result
    ≡ (c.args.region.y + c.loop-row.row) * c.args.width + c.args.region.x = cc in
    let sets =
    subst (λ (n : ℕ). At ((c.args.region.y + c.loop-row.row) * c.args.width + c.args.region.x) n)
    c.from-in-loop-row-4.ensures
    (subst (λ (n : ℕ). At n c.from-in-loop-row-4.result) start c.fill_row.ensures) in
    FillsRows-more c.args.colour c.args.region c.args.width height c.loop-row.row c.args.plane.now c.loop-row.plane
    c.fill_row.new.plane
    c.requires.across (c.loop-row.invariant height) sets

pub returns : goal.returns
returns c height =
    let all : c.loop-row.row ≡ c.args.region.height = omega arith in
    subst (λ (n : ℕ). FillsRows c.args.colour c.args.region c.args.width height n c.args.plane.now c.loop-row.plane)
    all (c.loop-row.invariant height)
