use Rattle.std.proofs.Common.{◌≡◌, ◌+◌, ◌-◌, ◌/◌, ◌%◌, arith}
use Rattle.code_strings.proofs.Bits.{field_is}
use Rattle.code_strings.proofs.walk.byte_at.Goals as goal

pub returns : goal.returns
returns c =
    let bytes = c.args.body.now in
    let place = c.args.place in
    let below : 16 - place % 8 - 8 ≡ 8 - place % 8 = omega arith in
    let small = c.type_inv.body (place / 8 + 1) in
    let is = field_is bytes place 8 (omega arith) (omega arith) (omega arith) (omega (arith, small)) in
    rw (c.from.ensures, c.from-2.ensures) (rw below at is)
