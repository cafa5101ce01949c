use Rattle.std.proofs.Common.{◌*◌}
use Rattle.sub_base.specs.declared.depth.Depth.TheVariants.{Two}
use Rattle.page_core.specs.Coloured.{AreColouredTo}
use Rattle.page_core.proofs.colours.two_bit_bytes.Given as goal

abbrev pub invariant-loop-i : goal.invariant-loop-i
invariant-loop-i l = AreColouredTo (4 * l.i) Two l.packed l.colours l.row
