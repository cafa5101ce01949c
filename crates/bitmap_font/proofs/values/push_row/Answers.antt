use Rattle.std.proofs.Common.{◌∙◌, ap}
use Rattle.std.specs.Option.{unwrap_or}
use Rattle.bitmap_font.proofs.ValueLaws.{bytes_from-more}
use Rattle.bitmap_font.proofs.values.push_row.Goals as goal

pub loop-place-preserved : goal.loop-place-preserved
loop-place-preserved c =
    c.in_ok-push.ensures.items
    ∙ bytes_from-more c.args.line.now c.loop-place.place c.unwrap_or-high.result c.unwrap_or-low.result
    c.loop-place.bytes.items c.args.bytes.now.items c.loop-place.invariant
    (c.unwrap_or-high.ensures ∙ ap (λ digit. unwrap_or digit 0) c.hex_value.ensures.value)
    (c.unwrap_or-low.ensures ∙ ap (λ digit. unwrap_or digit 0) c.hex_value-in-loop-place.ensures.value)
