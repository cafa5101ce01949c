use Rattle.std.proofs.Common.{arith}
use Rattle.code_strings.proofs.Told.{two_told, two_few}
use Rattle.code_strings.proofs.steps.two_bit_steps.Goals as goal

pub returns-clause-told : goal.returns-clause-told
returns-clause-told c = rw (c.from-2.ensures, c.from.ensures) (two_told c.args.byte (omega arith))

pub returns-clause-few : goal.returns-clause-few
returns-clause-few c = rw (c.from-2.ensures, c.from.ensures) (two_few c.args.byte)
