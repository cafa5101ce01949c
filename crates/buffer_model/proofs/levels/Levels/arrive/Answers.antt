use Rattle.std.proofs.Common.{ℕ, arith, ap, sum_by}
use Rattle.buffer_model.specs.declared.waiting.Waiting.{Waiting}
use Rattle.buffer_model.proofs.MeterLaws.{held-most}
use Rattle.buffer_model.proofs.levels.Levels.arrive.Goals as goal

pub overflow_add-level-in-None : goal.overflow_add-level-in-None
overflow_add-level-in-None c =
    let bytes : Waiting → ℕ = λ (set : Waiting). set.bytes in
    let most = held-most c.tick.result c.deref.result.now in
    let all = ap (sum_by bytes) c.deref.ensures.value in
    omega (
      arith,
      c.held.ensures,
      most,
      all,
      c.self.invariant.0.bytes,
      c.self.invariant.0.level
          c.in-None.is,
      c.self.invariant.0.coded,
      c.requires.bytes,
    )
