use Rattle.std.proofs.Common.{◌*◌}
use Rattle.sub_base.specs.declared.depth.Depth.TheVariants.{Four}
use Rattle.page_core.specs.Coloured.{AreColouredTo}
use Rattle.page_core.proofs.colours.four_bit_bytes.Given as goal

abbrev pub invariant-loop-i : goal.invariant-loop-i
invariant-loop-i l = AreColouredTo (2 * l.i) Four l.packed l.colours l.row
