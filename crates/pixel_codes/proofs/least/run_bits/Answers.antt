use Rattle.std.proofs.Common.{◌≡◌, ◌+◌, ◌*◌, ◌%◌, ◌≤◌, subst, arith}
use Rattle.std.proofs.lemmas.Nat.{mul-le}
use Rattle.std.proofs.Math.Nat.{div-le_self}
use Rattle.stream_syntax.specs.PixelCodes.{IsLeast}
use Rattle.pixel_codes.specs.Private.Least.{table_bits}
use Rattle.pixel_codes.proofs.Chosen.{table_least, longest_bits-le, rest_bits-le}
use Rattle.pixel_codes.proofs.least.run_bits.Goals as goal

pub overflow_add-result : goal.overflow_add-result
overflow_add-result c =
    let few : c.longest_bits.result ≤ 24 = omega (arith, longest_bits-le c.args.depth c.args.code) in
    let rest : c.rest_bits.result ≤ 24 =
    omega (arith, rest_bits-le c.args.depth c.args.code (c.args.length % c.longest-most.result)) in
    let times : c.from.result ≤ 4294967296 = omega (arith, div-le_self c.args.length c.longest-most.result) in
    let product = mul-le c.longest_bits.result c.from.result 24 4294967296 few times in
    omega (arith, product, rest)

pub returns : goal.returns
returns c =
    let table : table_bits c.args.depth c.args.code c.args.length
    ≡ c.longest_bits.result * c.from.result + c.rest_bits.result = cc in
    subst (IsLeast c.args.depth c.args.code c.args.length) table
    (table_least c.args.depth c.args.code c.args.length c.requires.code)
