use Rattle.std.proofs.Common.{arith}
use Rattle.code_strings.proofs.Shown.{shown_there}
use Rattle.code_strings.proofs.walk.word_at.Goals as goal

pub returns : goal.returns
returns c =
    rw c.from_be_bytes-whole.ensures
    (shown_there c.args.body.now c.args.place (omega arith) (λ j. omega (arith, c.type_inv.body j)))
