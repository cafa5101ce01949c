-- One segment more, and all of them.
use Rattle.std.proofs.Common.{List, ℕ, length, All, arith, sym, ap, refl, subst}
use Rattle.std.proofs.lemmas.List.Elements.{All-nil}
use Rattle.pes_packets.specs.Units.{IsSegmentLength}
use Rattle.splice.proofs.WalkLaws.{AreLengthsSo, lengths_begin, lengths_end}
use Rattle.splice.proofs.segment_walk.segment_lengths.Goals as goal

pub loop-segment-init : goal.loop-segment-init
loop-segment-init c = record {
  so =
      subst (λ (items : List ℕ). AreLengthsSo c.args.bytes.now c.args.bytes.now items)
      (sym c.new-lengths.ensures.items) (lengths_begin c.args.bytes.now);
  each = subst (λ (items : List ℕ). All IsSegmentLength items) (sym c.new-lengths.ensures.items)
      (All-nil IsSegmentLength);
  few = omega (arith, ap length c.new-lengths.ensures.items);
}

pub returns-clause-lengths : goal.returns-clause-lengths
returns-clause-lengths c segments are =
    lengths_end c.args.bytes.now c.loop-segment.rest.now c.loop-segment.lengths.items segments
    c.loop-segment.invariant.so (c.in_default.ensures.none refl) are
