use Rattle.std.proofs.Common.{take}
use Rattle.splice.specs.Private.Sendings.{IsGreatest}
use Rattle.splice.proofs.sending.longest_of.Given as goal

abbrev pub invariant-loop-length : goal.invariant-loop-length
invariant-loop-length l = IsGreatest (take l.length-index l.lengths) l.longest
