use Rattle.std.proofs.Common.{◌≡◌, ◌+◌, ◌-◌, ◌<◌, ◌≤◌, min, length, subst, ℕ, arith}
use Rattle.stream_syntax.specs.declared.display.Window.{Window}
use Rattle.pixel_store.specs.Regions.{region_at}
use Rattle.page_core.specs.Rows.{IsLineDrawn, window_at}
use Rattle.page_core.proofs.Pictures.DrawnRows.{line_over}
use Rattle.page_core.proofs.rows.region_into.Goals as goal

pub returns-then-left-end : goal.returns-then-left-end
returns-then-left-end c =
    let head = c.args.region.now.head in
    let window : Window = window_at c.args.place in
    let region = region_at c.args.store.now c.args.region.now.slot in
    let row = c.args.row.now in
    let left : c.args.place.left + c.from.result ≡ window.left + c.args.entry.x = omega arith in
    let top : c.args.place.top + c.from-2.result ≡ window.top + c.args.entry.y = omega arith in
    let line : c.args.place.y - (c.args.place.top + c.from-2.result)
    ≡ c.args.place.y - (window.top + c.args.entry.y) =
    omega arith in
    let below : window.top + c.args.entry.y ≤ c.args.place.y = omega arith in
    let within : c.args.place.y - (window.top + c.args.entry.y) < head.height = omega arith in
    let low : c.args.place.y ≤ window.bottom = omega arith in
    let end : c.min-end.result
    ≡ min (min (window.left + c.args.entry.x + head.width) (window.right + 1)) (length row) = omega arith in
    line_over head region c.args.colours.now window (window.left + c.args.entry.x) (window.top + c.args.entry.y)
    c.args.place.y row c.line_within.new.row
    (c.args.place.y - (c.args.place.top + c.from-2.result)) c.min-end.result line below within (omega arith)
    (omega arith) low end
    (subst (λ (n : ℕ). IsLineDrawn region (c.args.place.y - (c.args.place.top + c.from-2.result)) c.args.colours.now
    n c.min-end.result row c.line_within.new.row) left c.line_within.ensures)
