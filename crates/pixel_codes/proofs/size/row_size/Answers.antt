use Rattle.std.proofs.Common.{◌≡◌, length, sym, ap, ◌∙◌}
use Rattle.stream_syntax.specs.PixelCodes.{ending}
use Rattle.code_strings.proofs.Bits.{length-bits}
use Rattle.pixel_codes.proofs.RowStrings.{row_size}
use Rattle.pixel_codes.proofs.RowSizes.{row_sized}
use Rattle.pixel_codes.proofs.Sizes.{one_row_size}
use Rattle.pixel_codes.proofs.size.row_size.Goals as goal

pub returns-clause-size : goal.returns-clause-size
returns-clause-size c =
    let ends : c.end_width.result ≡ length (ending c.args.depth) =
    sym (length-bits c.end_width.result 0) ∙ ap length c.end_width.ensures.spelled in
    row_sized c.args.depth c.args.codes.now c.row_bits.result c.from.result c.row_bits.ensures.least
    (c.from.ensures ∙ ends)

pub returns-clause-written : goal.returns-clause-written
returns-clause-written c =
    let ends : c.end_width.result ≡ length (ending c.args.depth) =
    sym (length-bits c.end_width.result 0) ∙ ap length c.end_width.ensures.spelled in
    let size =
    row_sized c.args.depth c.args.codes.now c.row_bits.result c.from.result c.row_bits.ensures.least
    (c.from.ensures ∙ ends) in
    λ bytes is. one_row_size c.args.depth c.args.codes.now _ (length bytes) size
    (row_size c.args.depth c.args.codes.now bytes is)
