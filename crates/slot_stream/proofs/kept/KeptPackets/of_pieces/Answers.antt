use Rattle.std.proofs.Common.{◌≡◌, ◌∙◌, ℕ, List, length, All, ap, sym, subst}
use Rattle.std.specs.List.Sorted.{IsStrictlyIncreasing}
use Rattle.slot_stream.proofs.KeptLaws.{length-numbered, numbered_whole}
use Rattle.slot_stream.proofs.kept.KeptPackets.of_pieces.Goals as goal

pub invariant_of-result : goal.invariant_of-result
invariant_of-result c =
    let pieces = c.args.pieces.now in
    let slots = c.in_ok-from_slice.ensures.items in
    let packets = c.in_ok-packets.ensures in
    record {
      pairs = ap (λ (xs : List ℕ). length xs) slots ∙ c.requires.pairs
          ∙ sym (length-numbered c.args.pid c.args.number pieces)
          ∙ sym (ap (λ (xs : List (List ℕ)). length xs) packets);
      rising = subst IsStrictlyIncreasing (sym slots) c.requires.rising;
      whole = subst (λ (xs : List (List ℕ)). All (λ (packet : List ℕ). length packet ≡ 188) xs) (sym packets)
          (numbered_whole c.args.pid c.args.number pieces c.requires.each);
    }
