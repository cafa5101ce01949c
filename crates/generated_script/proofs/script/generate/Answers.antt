use Rattle.std.proofs.Common.{◌∙◌, ◌+◌, ◌/◌, List, refl, sym, subst, arith}
use Rattle.std.specs.List.{range_with_len, AllZip}
use Rattle.std.proofs.lemmas.Grind.{common_steps}
use Rattle.cue_list.specs.declared.epoch.Epoch.{Epoch}
use Rattle.cue_list.specs.Sound.{IsSoundScript}
use Rattle.generated_script.specs.Generated.{IsGeneratedEpoch}
use Rattle.generated_script.proofs.SoundLaws.{sound}
use Rattle.generated_script.proofs.script.generate.Goals as goal

pub invariant_of-result : goal.invariant_of-result
invariant_of-result c =
    let epochs : AllZip (IsGeneratedEpoch c.args.number) (range_with_len 0 ((c.args.number + 15) / 16)) c.new.result =
    subst (λ (es : List Epoch). AllZip (IsGeneratedEpoch c.args.number)
    (range_with_len 0 ((c.args.number + 15) / 16)) es) (sym c.new.ensures) c.in_ok-epochs.ensures in
    let made : IsSoundScript 0 320 180 450000 c.new.result c.new-2.result =
    sound c.args.number c.new.result c.new-2.result c.requires.some c.requires.few epochs
    (c.new-2.ensures ∙ c.in_ok-pictures.ensures) in
    record { sound = grind (arith, common_steps) }

pub returns : goal.returns
returns c = record {
  made = record {
    origin = refl;
    width = refl;
    height = refl;
    refresh = refl;
    epochs =
        subst (λ (es : List Epoch). AllZip (IsGeneratedEpoch c.args.number)
        (range_with_len 0 ((c.args.number + 15) / 16)) es) (sym c.new.ensures) c.in_ok-epochs.ensures;
    pictures = c.new-2.ensures ∙ c.in_ok-pictures.ensures;
  };
}
