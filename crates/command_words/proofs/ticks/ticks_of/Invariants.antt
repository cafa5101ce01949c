use Rattle.std.proofs.Common.{◌≡◌, ◌-◌, map, take, drop}
use Rattle.command_words.specs.Ticks.{tick_or_zero}
use Rattle.command_words.proofs.ticks.ticks_of.Given as goal

abbrev pub invariant-loop-place : goal.invariant-loop-place
invariant-loop-place l = l.ticks.items ≡ map tick_or_zero (take (l.place - l.fn.place) (drop l.fn.place l.words))
