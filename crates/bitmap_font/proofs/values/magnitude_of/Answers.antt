use Rattle.std.proofs.Common.{arith}
use Rattle.std.proofs.lemmas.Grind.{common_steps}
use Rattle.bitmap_font.proofs.ValueLaws.{value_taken}
use Rattle.bitmap_font.proofs.values.magnitude_of.Goals as goal

pub loop-digit-preserved : goal.loop-digit-preserved
loop-digit-preserved c = record {
  digits = grind (arith, common_steps);
  number =
      omega (
        arith,
        value_taken c.args.digits.now c.loop-digit.digit-index (omega arith),
        c.loop-digit.invariant.number,
        c.min-magnitude.ensures,
      );
}
