use Rattle.std.proofs.Common.{ap, ◌+◌, ℕ, arith}
use Rattle.pixel_store.proofs.Spans.{Paints-parts}
use Rattle.pixel_store.proofs.span.paint.Goals as goal

pub returns-else-first-last : goal.returns-else-first-last
returns-else-first-last c =
    let head = rw (c.codes_over-begin.ensures, c.codes_per_byte.ensures) at c.paint_in_byte-else-first-last.ensures in
    let tail = rw c.codes_over-end.ensures at c.paint_in_byte-else-first-last-2.ensures in
    Paints-parts c.args.depth c.args.start c.args.from c.args.to (c.args.start + c.whole_bytes.result)
    (c.args.start + c.whole_bytes-2.result) c.args.code
    c.args.bytes.now c.paint_in_byte-else-first-last.new.bytes c.fill_codes.new.bytes
    c.paint_in_byte-else-first-last-2.new.bytes
    (omega arith) (omega arith) c.requires.order (ap (λ (n : ℕ). c.args.start + n) c.whole_bytes.ensures)
    (ap (λ (n : ℕ). c.args.start + n) c.whole_bytes-2.ensures)
    c.if-first-last.false head c.fill_codes.ensures tail
