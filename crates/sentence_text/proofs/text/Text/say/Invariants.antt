use Rattle.std.proofs.Common.{◌≡◌, ◌++◌, take}
use Rattle.std.specs.List.{flat_map}
use Rattle.sentence_text.specs.Parts.{part_text}
use Rattle.sentence_text.proofs.text.Text.say.Given as goal

-- the parts before this one stand at the end
abbrev pub invariant-loop-part : goal.invariant-loop-part
invariant-loop-part l = l.self ≡ l.fn.self ++ flat_map part_text (take l.part-index l.parts)
