use Rattle.std.proofs.Common.{◌≡◌, ◌∙◌, ◌*◌, [], arith}
use Rattle.std.proofs.lemmas.Grind.{common_steps}
use Rattle.cue_list.specs.Past.{with_last}
use Rattle.cue_list.specs.ScriptRows.{IsScript}
use Rattle.cue_list.specs.Sound.{IsSoundScript}
use Rattle.cue_list.proofs.ScriptLaws.{IsSound-read, IsScript-read, few-seconds}
use Rattle.cue_list.proofs.read.script_of.Goals as goal

-- what holds of two lists holds of the same lists
of-both : {A B : Type 0} (P : A → B → Type 0) (x y : A) (v w : B) → y ≡ x → w ≡ v → P x v → P y w
of-both P x y v w first second holds = rw (first, second) holds

pub overflow_mul-refresh : goal.overflow_mul-refresh
overflow_mul-refresh c =
    let few =
    few-seconds _ _ _ _ _ _
    (IsSound-read c.args.bytes.now c.args.font.now [] c.in_ok-reader.reader c.in_ok-reader.ensures.read
    c.in_ok-reader.ensures.epoch) in
    omega (arith, few)

pub invariant_of-result : goal.invariant_of-result
invariant_of-result c =
    let reader = c.in_ok-reader.reader in
    let sound : IsSoundScript reader.origin reader.width reader.height (90000 * reader.seconds) c.new.result
    c.new-2.result =
    of-both (IsSoundScript reader.origin reader.width reader.height (90000 * reader.seconds))
    (with_last reader.ended.items reader.epoch) c.new.result reader.pictures.items c.new-2.result
    (c.new.ensures ∙ c.in_ok-epochs.ensures.epochs) c.new-2.ensures
    (IsSound-read c.args.bytes.now c.args.font.now [] reader c.in_ok-reader.ensures.read c.in_ok-reader.ensures.epoch)
    in
    record { sound = grind (arith, common_steps) }

pub returns-clause-script : goal.returns-clause-script
returns-clause-script c =
    let reader = c.in_ok-reader.reader in
    of-both (IsScript c.args.bytes.now c.args.font.now reader.origin reader.width reader.height
    (90000 * reader.seconds)) (with_last reader.ended.items reader.epoch) c.new.result reader.pictures.items
    c.new-2.result (c.new.ensures ∙ c.in_ok-epochs.ensures.epochs) c.new-2.ensures
    (IsScript-read c.args.bytes.now c.args.font.now reader c.in_ok-reader.ensures.read c.in_ok-reader.ensures.epoch)

pub returns-clause-sound : goal.returns-clause-sound
returns-clause-sound c =
    let reader = c.in_ok-reader.reader in
    of-both (IsSoundScript reader.origin reader.width reader.height (90000 * reader.seconds))
    (with_last reader.ended.items reader.epoch) c.new.result reader.pictures.items c.new-2.result
    (c.new.ensures ∙ c.in_ok-epochs.ensures.epochs) c.new-2.ensures
    (IsSound-read c.args.bytes.now c.args.font.now [] reader c.in_ok-reader.ensures.read c.in_ok-reader.ensures.epoch)
