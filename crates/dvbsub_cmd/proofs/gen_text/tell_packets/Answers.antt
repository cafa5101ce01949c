use Rattle.std.proofs.Common.{◌∙◌, ℕ, List, ap, length, refl}
use Rattle.std.proofs.lemmas.List.{length-map}
use Rattle.page_epoch.specs.declared.planned_set.PlannedSet.{PlannedSet}
use Rattle.dvbsub_cmd.proofs.gen_text.tell_packets.Goals as goal

pub returns : goal.returns
returns g c = record {
  sets_are = ap (λ (times : List ℕ). length times) c.requires.of.times_are
      ∙ length-map c.args.generated.now.sent.sets (λ (set : PlannedSet). set.pts);
  packets_are = refl;
  peak_is = c.in_ok-peak.ensures;
  whole_is = c.in_ok-whole.ensures;
  third_is = c.in_ok-third.ensures;
  two_thirds_are = c.in_ok-two_thirds.ensures;
}
