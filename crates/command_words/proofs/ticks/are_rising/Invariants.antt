use Rattle.std.proofs.Common.{◌≡◌, drop, None}
use Rattle.command_words.specs.Ticks.{are_rising}
use Rattle.command_words.proofs.ticks.are_rising.Given as goal

abbrev pub invariant-loop-place : goal.invariant-loop-place
invariant-loop-place l = are_rising None (drop l.fn.place l.words) ≡ are_rising l.before (drop l.place l.words)
