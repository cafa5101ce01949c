use Rattle.std.proofs.Common.{◌≡◌, map}
use Rattle.std.specs.List.{range_with_len, AllZip}
use Rattle.cue_list.specs.declared.epoch.Cue.{Cue}
use Rattle.generated_script.specs.Generated.{IsGeneratedCue}
use Rattle.generated_script.proofs.epoch.cues.Given as goal

abbrev pub invariant-loop-place : goal.invariant-loop-place
invariant-loop-place l = record {
  each : AllZip IsGeneratedCue (range_with_len l.first l.place) l.cues.items;
  rows : map (λ (cue : Cue). cue.row) l.cues.items ≡ range_with_len l.row l.place;
}
