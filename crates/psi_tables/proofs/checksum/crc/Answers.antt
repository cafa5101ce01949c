use Rattle.std.proofs.Common.{arith, length, sym, ap, ◌≡◌, ◌∙◌, drop}
use Rattle.stream_syntax.specs.PixelCodes.{bits_of}
use Rattle.psi_tables.specs.Crc.{crc_behind}
use Rattle.psi_tables.proofs.CrcLaws.{crc_end}
use Rattle.psi_tables.proofs.checksum.crc.Goals as goal

pub returns : goal.returns
returns c =
    let all : c.loop-byte.byte-index ≡ length c.args.bytes.now =
    omega (arith, c.loop-byte-test.false, c.loop-byte.auto.byte-index-end) in
    sym (c.loop-byte.invariant ∙ ap (λ n. crc_behind c.loop-byte.register (bits_of (drop n c.args.bytes.now))) all
    ∙ crc_end c.loop-byte.register c.args.bytes.now)
