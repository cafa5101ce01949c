use Rattle.dvbsub_cmd.proofs.EntryLaws.{IsLeft}
use Rattle.dvbsub_cmd.proofs.entries.entry_of.Given as goal

abbrev pub invariant-loop-number : goal.invariant-loop-number
invariant-loop-number l = IsLeft l.missed l.schedule l.sets l.number
