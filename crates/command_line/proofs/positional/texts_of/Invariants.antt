use Rattle.std.proofs.Common.{◌≡◌, map, take}
use Rattle.command_line.proofs.positional.texts_of.Given as goal

abbrev pub invariant-loop-place : goal.invariant-loop-place
invariant-loop-place l = map (λ text. text.now) l.texts.items ≡ take l.place l.words
