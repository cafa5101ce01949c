use Rattle.std.proofs.Common.{◌≡◌, ◌+◌, ◌-◌, ◌≤◌, ℕ, subst, arith}
use borrow.Rule.Slice.PartMut.{mid_of}
use Rattle.sub_base.specs.declared.depth.Depth.{Depth}
use Rattle.string_painting.specs.Codes.{packed_code}
use Rattle.string_painting.specs.Painting.{laid_over, LaysPixels, pixels_of_codes}
use Rattle.pixel_store.specs.Private.Extents.{stride_of}
use Rattle.pixel_store.proofs.LentRows.{lent_keeps, lent_laid}
use Rattle.pixel_store.proofs.string_rows.paint_string_in.Goals as goal

pub returns-clause-keeps : goal.returns-clause-keeps
returns-clause-keeps c =
    let a = c.row_start-start.result in
    let k = c.row_start-start.result + c.stride.result - c.row_start-start.result in
    let wide : k ≡ stride_of c.args.extent = omega (arith, c.stride.ensures) in
    lent_keeps a k c.args.bytes.now c.paint_string.new.row c.args.extent c.args.y c.requires.fits c.requires.y
    c.row_start-start.ensures wide c.paint_string.auto.row
    (subst (λ (depth : Depth). (x : ℕ) → c.args.extent.width ≤ x
    → packed_code depth c.paint_string.new.row x ≡ packed_code depth (mid_of a k c.args.bytes.now) x)
    c.requires.region c.paint_string.ensures.beside)

pub returns-clause-painted : goal.returns-clause-painted
returns-clause-painted c = λ codes front rest e s.
    let a = c.row_start-start.result in
    let k = c.row_start-start.result + c.stride.result - c.row_start-start.result in
    let wide : k ≡ stride_of c.args.extent = omega (arith, c.stride.ensures) in
    let over = laid_over c.args.brush c.args.table.now in
    let pixels = pixels_of_codes c.args.brush.string codes in
    lent_laid a k c.args.bytes.now c.paint_string.new.row c.args.extent c.args.y c.requires.fits c.requires.y
    c.row_start-start.ensures wide c.paint_string.auto.row over c.args.x pixels
    (subst (λ (depth : Depth).
    LaysPixels depth over c.args.extent.width c.args.x pixels (mid_of a k c.args.bytes.now) c.paint_string.new.row)
    c.requires.region (c.paint_string.ensures.painted codes front rest e s))
