use Rattle.cue_records.proofs.CodesLaws.{AreSingle}
use Rattle.cue_records.proofs.codes.put_single_codes.Given as goal

abbrev pub invariant-loop-place : goal.invariant-loop-place
invariant-loop-place l = AreSingle l.limit l.text l.codes l.place l.valid
