use Rattle.std.proofs.Common.{◌∙◌, refl, ap, arith}
use Rattle.cue_list.specs.Private.Taken.{kept_of}
use Rattle.cue_list.proofs.StandsLaws.{IsScriptOf-stands, few-stands, script-sound}
use Rattle.cue_list.proofs.lent_script.lent_of.Goals as goal

pub overflow_mul-script : goal.overflow_mul-script
overflow_mul-script c =
    let few = few-stands c.args.kept c.requires.reader c.requires.stands c.requires.epoch in
    omega (arith, few)

pub invariant_of-script : goal.invariant_of-script
invariant_of-script c = record {
  sound =
      script-sound c.args.kept c.new-2.result c.new-3.result c.requires.reader c.requires.stands c.requires.epoch
      (c.new-2.ensures ∙ c.requires.epochs)
      (c.new-3.ensures ∙ ap (λ v. v.items) c.replace-pictures.ensures.value);
}

pub returns-clause-script : goal.returns-clause-script
returns-clause-script c = λ font rows stands.
    IsScriptOf-stands font rows (kept_of c.args.kept) _ stands c.requires.epoch refl refl refl refl
    (c.new-2.ensures ∙ c.requires.epochs)
    (c.new-3.ensures ∙ ap (λ v. v.items) c.replace-pictures.ensures.value)
