-- All colours are the default ones.
use Rattle.std.proofs.Common.{◌∙◌}
use Rattle.page_core.proofs.ColourTables.InkTables.{all_default}
use Rattle.page_core.proofs.inks.Inks.make.Goals as goal

pub returns : goal.returns
returns c =
    all_default c.fill_defaults.new.colours.items (c.fill_defaults.ensures.count ∙ c.in_ok-colours.ensures)
    c.fill_defaults.ensures.defaults
