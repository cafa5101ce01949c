use Rattle.std.proofs.Common.{arith}
use Rattle.std.proofs.lemmas.List.Sums.{sum_by_more_le_part}
use Rattle.buffer_model.specs.Meters.{held_of}
use Rattle.buffer_model.proofs.MeterLaws.{held_of-most, none}
use Rattle.buffer_model.proofs.waiting.held.Goals as goal

pub overflow_add-bytes : goal.overflow_add-bytes
overflow_add-bytes c =
    omega (
      arith,
      sum_by_more_le_part (held_of c.args.tick) (λ set. set.bytes) c.args.waiting.now c.loop-set.set-index
          none c.loop-set-test.true (held_of-most c.args.tick),
    )
