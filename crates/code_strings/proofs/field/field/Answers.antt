use Rattle.std.proofs.Common.{◌≡◌, ℕ, ◌+◌, ◌*◌, ◌/◌, ◌%◌, ◌^◌, ◌<◌, get_or, arith, sym, ap, ◌∙◌}
use Rattle.std.proofs.lemmas.Nat.{one_shl}
use Rattle.std.specs.Prelude.{Option, unwrap_or}
use Rattle.stream_syntax.specs.PixelCodes.{bits_of}
use Rattle.code_strings.proofs.Bits.{field_is, field_past, length-bits_of}
use Rattle.code_strings.proofs.field.field.Goals as goal

pub returns-then-bytes-place-clause-value : goal.returns-then-bytes-place-clause-value
returns-then-bytes-place-clause-value c =
    sym (field_past (bits_of c.args.bytes.now) c.args.place c.args.width
    (omega (arith, length-bits_of c.args.bytes.now)))

pub returns-clause-value : goal.returns-clause-value
returns-clause-value c =
    let bytes = c.args.bytes.now in
    let at = c.args.place / 8 in
    let low : c.from-2.result ≡ get_or bytes (at + 1) 0 =
    c.from-2.ensures ∙ c.unwrap_or-low.ensures ∙ ap (λ (o : Option ℕ). unwrap_or o 0) c.copied.ensures
    ∙ c.get.ensures.lookup.4 (omega arith) 0 in
    let small : get_or bytes (at + 1) 0 < 256 = omega (arith, c.type_inv.bytes (at + 1)) in
    let shift : 1 * 2 ^ c.args.width % 4294967296 ≡ 2 ^ c.args.width = one_shl c.args.width 32 (omega arith) in
    let is = field_is bytes c.args.place c.args.width (omega arith) (omega arith) (omega arith) small in
    rw (c.from.ensures, low, shift) (sym is)
