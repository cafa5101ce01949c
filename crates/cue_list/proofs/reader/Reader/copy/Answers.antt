use Rattle.std.proofs.Common.{sym, subst, arith}
use Rattle.std.proofs.lemmas.Grind.{common_steps}
use Rattle.cue_list.specs.Private.Ticks.{AreSpans}
use Rattle.cue_list.proofs.reader.Reader.copy.Goals as goal

pub returns-clause-reader : goal.returns-clause-reader
returns-clause-reader c =
    let old = c.requires.reader in
    record {
      ticks = subst AreSpans (sym c.in_ok-copy.ensures) old.ticks;
      origin = old.origin;
      few_colours = old.few_colours;
      few_named = old.few_named;
      few_cues = old.few_cues;
      few_pictures = grind (arith, common_steps);
      few_codes = old.few_codes;
    }
