use Rattle.std.proofs.Common.{◌∙◌, refl, sym}
use Rattle.dvbsub_cmd.proofs.ExpectLaws.{written_whole, written_front}
use Rattle.dvbsub_cmd.specs.Private.Generating.{told_lines}
use Rattle.dvbsub_cmd.proofs.gen_text.write_gen_text.Goals as goal

pub returns-then-has_failed : goal.returns-then-has_failed
returns-then-has_failed g c =
    let front = written_front _ _ _ c.in-Ok-make.buffer c.put_told.new.buffer c.flush.new.buffer _ c.in-Ok-make.ensures
    c.put_told.ensures c.flush.ensures.puts (sym c.has_failed.ensures ∙ c.if-has_failed.true) in
    (told_lines c.in-Ok.told, c.in-Ok.ensures, front.0, front.1)

pub returns : goal.returns
returns g c =
    let well = sym c.has_failed.ensures ∙ c.if-has_failed.false in (
      told_lines c.in-Ok.told,
      c.in-Ok.ensures,
      written_whole _ _ _ c.in-Ok-make.buffer c.put_told.new.buffer c.flush.new.buffer _ c.in-Ok-make.ensures
          c.put_told.ensures c.flush.ensures.puts well (c.flush.ensures.empty well),
      refl,
    )
