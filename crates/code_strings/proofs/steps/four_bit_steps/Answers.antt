use Rattle.std.proofs.Common.{arith}
use Rattle.code_strings.proofs.Told.{four_told, four_few}
use Rattle.code_strings.proofs.steps.four_bit_steps.Goals as goal

pub returns-clause-told : goal.returns-clause-told
returns-clause-told c = rw (c.from-2.ensures, c.from.ensures) (four_told c.args.byte (omega arith))

pub returns-clause-few : goal.returns-clause-few
returns-clause-few c = rw (c.from-2.ensures, c.from.ensures) (four_few c.args.byte)
