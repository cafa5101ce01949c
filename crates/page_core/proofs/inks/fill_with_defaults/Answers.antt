-- One more default colour.
use Rattle.std.proofs.Common.{◌%◌, arith}
use Rattle.sub_base.specs.Colour.{clear}
use Rattle.page_core.specs.Private.Inks.{default_ink}
use Rattle.page_core.specs.Memory.{colours_of_clut}
use Rattle.page_core.proofs.ColourTables.InkTables.{filled_by_one}
use Rattle.page_core.proofs.inks.fill_with_defaults.Goals as goal

pub loop-index-preserved : goal.loop-index-preserved
loop-index-preserved c k low =
    filled_by_one c.loop-index.colours c.loop-index.index k c.default_ink.result clear
    (λ j. default_ink (j % colours_of_clut)) (omega arith) c.default_ink.ensures c.loop-index.invariant low
