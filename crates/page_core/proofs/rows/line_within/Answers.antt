use Rattle.std.proofs.Common.{◌≡◌, ◌∙◌, ap, ◌-◌, length, take, drop, ℕ, arith, length-drop}
use Rattle.std.proofs.lemmas.List.{length-take-le}
use Rattle.pixel_store.specs.Regions.{region_at, code_of as code_at}
use Rattle.page_core.specs.Coloured.{colour_of}
use Rattle.page_core.proofs.Pictures.DrawnRows.{drawn_within}
use Rattle.page_core.proofs.rows.line_within.Goals as goal

pub returns : goal.returns
returns c =
    let region = region_at c.args.store.now c.args.region.now.slot in
    let row = c.args.row.now in
    let order = c.requires.order in
    let inside = c.requires.row in
    let wide : length (take (c.args.to - c.args.from) (drop c.args.from row)) ≡ c.args.to - c.args.from =
    length-take-le (c.args.to - c.args.from) (drop c.args.from row) (omega (arith, length-drop c.args.from row)) in
    drawn_within region c.args.line c.args.colours.now c.args.from c.args.to row c.line_into.new.row order inside
    (omega (arith, c.line_into.auto.row, wide))
    (λ x narrow. c.line_into.ensures.covered x (omega arith) (omega (arith, wide))
    ∙ ap (λ (n : ℕ). colour_of c.args.colours.now (code_at region n c.args.line)) (omega arith))
