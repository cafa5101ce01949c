use Rattle.std.proofs.Common.{◌∙◌, ap, refl, sym}
use Rattle.dvbsub_cmd.specs.ExpectOutcome.{expect_text}
use Rattle.dvbsub_cmd.proofs.ExpectLaws.{written_whole, written_front}
use Rattle.dvbsub_cmd.proofs.expect.expect.Goals as goal

pub returns-then-has_failed-clause-cause : goal.returns-then-has_failed-clause-cause
returns-then-has_failed-clause-cause g c =
    let front =
    written_front _ _ _ c.in-Ok-make.buffer c.put_pictures.new.buffer c.flush.new.buffer _ c.in-Ok-make.ensures
    c.put_pictures.ensures c.flush.ensures.puts (sym c.has_failed.ensures ∙ c.if-has_failed.true) in (
      _,
      record {
        script = c.in-Ok.script;
        reads = c.in-Ok.ensures.reads;
        whole = ap (expect_text c.in-Ok.script)
            (c.as_slice.ensures.value ∙ c.in-Ok-ticks_of.ensures);
      },
      front.0,
      front.1,
    )

pub returns-clause-cause : goal.returns-clause-cause
returns-clause-cause g c =
    let well = sym c.has_failed.ensures ∙ c.if-has_failed.false in (
      _,
      record {
        script = c.in-Ok.script;
        reads = c.in-Ok.ensures.reads;
        whole = ap (expect_text c.in-Ok.script)
            (c.as_slice.ensures.value ∙ c.in-Ok-ticks_of.ensures);
      },
      written_whole _ _ _ c.in-Ok-make.buffer c.put_pictures.new.buffer c.flush.new.buffer _ c.in-Ok-make.ensures
          c.put_pictures.ensures c.flush.ensures.puts well (c.flush.ensures.empty well),
      refl,
    )
