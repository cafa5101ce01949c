use Rattle.std.proofs.Common.{ℕ, ◌+◌, ◌++◌, List, map, length, length-append, drop, sym, ap, subst, ◌∙◌, arith}
use Rattle.std.specs.Prelude.{slice_index}
use Rattle.std.specs.List.{concat}
use Rattle.std.proofs.lemmas.List.{append-nil, drop_more, drop_all}
use Rattle.pixel_codes.proofs.Writing.{extends_trans}
use Rattle.set_coder.specs.Private.UnitParts.{AreUnitParts, part_packet}
use Rattle.set_coder.proofs.UnitPartLaws.{first_part, no_part, next_packet}
use Rattle.set_coder.proofs.set_packets.append_units.Goals as goal

pub overflow_sub-length : goal.overflow_sub-length
overflow_sub-length c =
    let lengths = c.args.lengths.now in
    let i = c.loop-length.length-index in
    let left = c.loop-length.invariant.parts c.requires.parts.0 c.requires.parts.1 in
    let first =
    first_part c.loop-length.left.now (drop (i + 1) lengths) (slice_index lengths i) left.0
    (subst (λ (ns : List ℕ). AreUnitParts c.loop-length.left.now ns left.0)
    (drop_more lengths i 0 c.loop-length-test.true) left.1) in
    omega (arith, first.size_is)

pub split_at-requires : goal.split_at-requires
split_at-requires c =
    let lengths = c.args.lengths.now in
    let i = c.loop-length.length-index in
    let left = c.loop-length.invariant.parts c.requires.parts.0 c.requires.parts.1 in
    let first =
    first_part c.loop-length.left.now (drop (i + 1) lengths) (slice_index lengths i) left.0
    (subst (λ (ns : List ℕ). AreUnitParts c.loop-length.left.now ns left.0)
    (drop_more lengths i 0 c.loop-length-test.true) left.1) in
    omega (arith, first.size_is, ap length first.whole, length-append first.part (concat first.rest))

pub write_unit-requires-clause-fits : goal.write_unit-requires-clause-fits
write_unit-requires-clause-fits c =
    let lengths = c.args.lengths.now in
    let i = c.loop-length.length-index in
    let left = c.loop-length.invariant.parts c.requires.parts.0 c.requires.parts.1 in
    let first =
    first_part c.loop-length.left.now (drop (i + 1) lengths) (slice_index lengths i) left.0
    (subst (λ (ns : List ℕ). AreUnitParts c.loop-length.left.now ns left.0)
    (drop_more lengths i 0 c.loop-length-test.true) left.1) in
    omega (arith, first.size_is, first.fits, c.split_at.ensures.front_len)

pub loop-length-preserved : goal.loop-length-preserved
loop-length-preserved c =
    let lengths = c.args.lengths.now in
    let i = c.loop-length.length-index in
    let old = c.args.out.now.items in
    let out = c.loop-length.out.items in
    let new = c.write_unit.new.out.items in
    record {
      parts = λ parts are.
          let left = c.loop-length.invariant.parts parts are in
          next_packet c.args.time (old ++ concat (map (part_packet c.args.time) parts)) out new c.loop-length.left.now
          c.split_at.result.0.now c.split_at.result.1.now (drop (i + 1) lengths) (slice_index lengths i) left.0
          (subst (λ (ns : List ℕ). AreUnitParts c.loop-length.left.now ns left.0)
          (drop_more lengths i 0 c.loop-length-test.true) left.1) c.split_at.ensures.front c.split_at.ensures.back
          c.in_ok-write_unit.ensures.bytes left.2;
      extends =
          extends_trans old out new c.loop-length.invariant.extends
          (part_packet c.args.time c.split_at.result.0.now, c.in_ok-write_unit.ensures.bytes);
    }

pub returns-clause-packets : goal.returns-clause-packets
returns-clause-packets c = λ parts are.
    let left = c.loop-length.invariant.parts parts are in
    let none =
    no_part c.loop-length.left.now left.0
    (subst (λ (ns : List ℕ). AreUnitParts c.loop-length.left.now ns left.0)
    (drop_all c.loop-length.length-index c.args.lengths.now c.loop-length-test.false) left.1) in
    sym (left.2
    ∙ ap (λ (ps : List (List ℕ)). c.loop-length.out.items ++ concat (map (part_packet c.args.time) ps)) none
    ∙ append-nil c.loop-length.out.items)
