use Rattle.std.proofs.Common.{ℕ, ◌+◌, ◌++◌, List, length, length-append, drop, sym, ap, subst, ◌∙◌, arith}
use Rattle.std.specs.Prelude.{slice_index}
use Rattle.std.specs.List.{concat}
use Rattle.std.proofs.lemmas.List.{append-nil, drop_more, drop_all}
use Rattle.slot_stream.specs.UnitBytes.{AreUnitsOf}
use Rattle.slot_stream.specs.SlotStream.{all_pieces}
use Rattle.slot_stream.proofs.UnitLaws.{first_unit, no_unit, next_unit}
use Rattle.slot_stream.proofs.pieces.push_units.Goals as goal

pub split_at-requires : goal.split_at-requires
split_at-requires c =
    let lengths = c.args.lengths.now in
    let i = c.loop-length.length-index in
    let left = c.loop-length.invariant.units c.requires.units.0 c.requires.units.1 in
    let first =
    first_unit (drop (i + 1) lengths) c.loop-length.left.now (slice_index lengths i) left.0
    (subst (λ (ns : List ℕ). AreUnitsOf ns c.loop-length.left.now left.0)
    (drop_more lengths i 0 c.loop-length-test.true) left.1) in
    omega (arith, first.size_is, ap length first.whole, length-append first.unit (concat first.rest))

pub loop-length-preserved : goal.loop-length-preserved
loop-length-preserved c =
    let lengths = c.args.lengths.now in
    let i = c.loop-length.length-index in
    record {
      units = λ units are.
          let left = c.loop-length.invariant.units units are in
          next_unit (drop (i + 1) lengths) c.loop-length.left.now c.split_at.result.0.now c.split_at.result.1.now
          (slice_index lengths i) left.0 (c.args.pieces.now.items
          ++ all_pieces units) (c.loop-length.pieces.items) (c.push_pieces.new.pieces.items)
          (subst (λ (ns : List ℕ). AreUnitsOf ns c.loop-length.left.now left.0)
          (drop_more lengths i 0 c.loop-length-test.true) left.1) c.split_at.ensures.front c.split_at.ensures.back
          c.in_ok-push_pieces.ensures.pieces left.2;
      each = c.in_ok-push_pieces.ensures.each;
    }

pub returns-clause-pieces : goal.returns-clause-pieces
returns-clause-pieces c = λ units are.
    let left = c.loop-length.invariant.units units are in
    let none =
    no_unit c.loop-length.left.now left.0
    (subst (λ (ns : List ℕ). AreUnitsOf ns c.loop-length.left.now left.0)
    (drop_all c.loop-length.length-index c.args.lengths.now c.loop-length-test.false) left.1) in
    sym (left.2 ∙ ap (λ (us : List (List ℕ)). c.loop-length.pieces.items ++ all_pieces us) none
    ∙ append-nil (c.loop-length.pieces.items))
