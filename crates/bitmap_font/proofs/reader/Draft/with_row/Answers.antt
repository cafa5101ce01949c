use Rattle.std.proofs.Common.{◌≡◌, ◌∙◌, ◌+◌, ◌*◌, ◌/◌, length, ap, length-append, arith}
use Rattle.bitmap_font.specs.Font.{row_bytes}
use Rattle.bitmap_font.specs.LineFaults.{width_of}
use Rattle.bitmap_font.specs.Private.Reader.{draft_of}
use Rattle.bitmap_font.specs.Values.{bytes_from}
use Rattle.bitmap_font.proofs.ValueLaws.{row_done, length-bytes_from}
use Rattle.bitmap_font.proofs.reader.Draft.with_row.Goals as goal

pub returns-clause-draft : goal.returns-clause-draft
returns-clause-draft c =
    let row = row_bytes (width_of (draft_of c.args.self)) in
    let digits : length c.args.text.now ≡ 2 * row =
    c.is_row.ensures.digits c.if-not-is_row.false ∙ ap (λ n. 2 * n) c.row_bytes.ensures.value in
    let more : length c.push_row.new.bytes.items ≡ length c.args.self.bytes.items + row =
    omega (
      arith,
      ap length c.in_ok-push_row.ensures,
      length-append c.args.self.bytes.items (bytes_from c.args.text.now (length c.args.text.now / 2)),
      length-bytes_from c.args.text.now (length c.args.text.now / 2),
    ) in
    record {
      lines =
          record {
            given = c.requires.draft.lines.given;
            blank = λ none. absurd
                (omega (arith, (c.requires.draft.lines.blank none).0));
          };
      shape = c.requires.draft.shape;
      advance = c.requires.draft.advance;
      whole = λ bitmap. omega (arith, c.requires.draft.whole bitmap, row_done c.args.self.left row c.requires.due);
    }
