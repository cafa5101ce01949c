use Rattle.std.proofs.Common.{◌≡◌, true, take}
use Rattle.std.specs.List.{list_all}
use Rattle.sub_base.specs.Colour.{clear}
use Rattle.command_text.specs.PictureText.{is_same_colour}
use Rattle.command_text.proofs.picture_text.is_clear.Given as goal

abbrev pub invariant-loop-colour : goal.invariant-loop-colour
invariant-loop-colour l = list_all (is_same_colour clear) (take l.colour-index l.plane) ≡ true
