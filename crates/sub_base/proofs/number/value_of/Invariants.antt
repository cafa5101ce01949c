use Rattle.std.proofs.Common.{◌≡◌, ◌<◌, ◌^◌, drop}
use Rattle.sub_base.specs.Number.{value_from}
use Rattle.sub_base.proofs.number.value_of.Given as goal

abbrev pub invariant-loop-digit : goal.invariant-loop-digit
invariant-loop-digit l =
    record {
      small : l.value < 10 ^ l.digit-index;
      told : value_from l.value (drop l.digit-index l.digits) ≡ value_from 0 l.digits;
    }
