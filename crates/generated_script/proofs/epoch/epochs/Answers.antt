use Rattle.std.proofs.Common.{◌≡◌, ℕ, ◌+◌, subst, arith}
use Rattle.generated_script.specs.Generated.{IsGeneratedEpoch}
use Rattle.generated_script.proofs.ListLaws.{item_more}
use Rattle.generated_script.proofs.epoch.epochs.Goals as goal

pub loop-number-preserved : goal.loop-number-preserved
loop-number-preserved c =
    let same : c.loop-number.number ≡ 0 + c.loop-number.number = omega arith in
    item_more (IsGeneratedEpoch c.args.cues) 0 c.loop-number.number c.loop-number.epochs.items c.push.new.self.items
    c.in_ok-epoch.field-0 c.loop-number.invariant
    (subst (λ (e : ℕ). IsGeneratedEpoch c.args.cues e c.in_ok-epoch.field-0) same c.in_ok-epoch.ensures)
    c.in_ok-push.ensures.items
