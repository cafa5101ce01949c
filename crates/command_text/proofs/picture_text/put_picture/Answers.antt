use Rattle.std.proofs.Common.{◌∙◌, refl, sym}
use Rattle.command_text.proofs.PictureLaws.{picture_shown, shown_is_wide}
use Rattle.command_text.proofs.picture_text.put_picture.Goals as goal

pub put_rows-requires : goal.put_rows-requires
put_rows-requires g c = record {
  wide =
      shown_is_wide c.args.width c.args.height c.args.plane.now c.requires.plane
      (sym c.is_clear.ensures ∙ c.if-is_clear.false);
  plane = c.requires.plane;
}

pub returns : goal.returns
returns g c =
    picture_shown _ _ _ c.args.buffer.now c.put.new.buffer c.put_rows.new.buffer c.args.tick c.args.width c.args.height
    _ _ c.args.plane.now c.as_bytes.result.now
    (sym c.is_clear.ensures ∙ c.if-is_clear.false) (c.as_bytes.ensures ∙ c.sides_line.ensures.line) c.put.ensures
    refl refl c.put_rows.ensures
