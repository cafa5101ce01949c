use Rattle.std.proofs.Common.{◌≡◌, ◌∙◌, ℕ, ◌/◌, List, length, ap, arith}
use Rattle.packet_source.proofs.GaveLaws.{length-whole_packets}
use Rattle.splice.proofs.input.whole_count.Goals as goal

pub returns : goal.returns
returns c =
    let count : length c.packets.result.now ≡ length c.args.packets.now.bytes / 188 =
    ap (λ (l : List (List ℕ)). length l) c.packets.ensures ∙ length-whole_packets c.args.packets.now.bytes in
    omega (arith, c.first.ensures, count)
