use Rattle.cue_records.proofs.CodesLaws.{AreDouble}
use Rattle.cue_records.proofs.codes.put_double_codes.Given as goal

abbrev pub invariant-loop-place : goal.invariant-loop-place
invariant-loop-place l = AreDouble l.text l.codes l.place l.valid
