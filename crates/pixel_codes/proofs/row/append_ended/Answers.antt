use Rattle.std.proofs.Common.{refl, ◌+◌, ◌-◌, w64, arith, rules}
use Rattle.std.specs.Int.{trailing_zeros}
use Rattle.pixel_codes.specs.Private.Stream.{stream}
use Rattle.pixel_codes.proofs.Writing.{extends_none, extends_trans}
use Rattle.pixel_codes.proofs.Rows.{one_run, last_of_run}
use Rattle.pixel_codes.proofs.RunEnds.{first_end, other_ends, block_begins, block_passed}
use Rattle.pixel_codes.proofs.row.append_ended.Goals as goal

pub loop-ends-init : goal.loop-ends-init
loop-ends-init c = record {
  low = omega (arith, c.requires.run.ordered);
  ends = block_begins c.args.codes.now c.args.at c.args.begin _ c.requires.run.ordered c.ends_of_block-ends.ensures;
  alike = c.requires.run.alike;
  text = refl;
  extends = extends_none c.args.out.now.items;
}

pub overflow_sub-last : goal.overflow_sub-last
overflow_sub-last c =
    let l = c.loop-ends in
    let row = c.args.codes.now in
    let first = first_end row c.args.at l.from l.ends l.invariant.ends l.invariant.alike (omega arith) (search rules) in
    omega (arith, first.1)

pub loop-ends-smaller : goal.loop-ends-smaller
loop-ends-smaller c =
    let l = c.loop-ends in
    let row = c.args.codes.now in
    let first = first_end row c.args.at l.from l.ends l.invariant.ends l.invariant.alike (omega arith) (search rules) in
    omega (arith, first.0, first.1)

pub loop-ends-preserved : goal.loop-ends-preserved
loop-ends-preserved c =
    let l = c.loop-ends in
    let row = c.args.codes.now in
    let last = c.args.at + trailing_zeros w64 l.ends in
    let first = first_end row c.args.at l.from l.ends l.invariant.ends l.invariant.alike (omega arith) (search rules) in
    let r =
    one_run c.args.depth row l.from last 1 (last + 1 - l.from) (stream l.out.items l.pending)
    (stream c.append_run.new.out.items c.append_run.new.pending) _ first.1 (omega (arith, first.0)) first.2
    (last_of_run row last (omega (arith, first.0)) first.3) refl c.in_ok-append_run.ensures.text l.invariant.text in
    record {
      low = omega (arith, first.0);
      ends = other_ends row c.args.at l.from l.ends l.invariant.ends l.invariant.alike (omega arith) (search rules);
      alike = λ place low high. absurd (omega (arith, low, high));
      text = r.2;
      extends =
          extends_trans c.args.out.now.items l.out.items c.append_run.new.out.items l.invariant.extends
          c.append_run.ensures.extends;
    }

pub returns-clause-text : goal.returns-clause-text
returns-clause-text c = c.loop-ends.invariant.text

pub returns-clause-run : goal.returns-clause-run
returns-clause-run c =
    let l = c.loop-ends in
    block_passed c.args.codes.now c.args.at l.from l.ends c.requires.block l.invariant.low (omega arith)
    l.invariant.ends l.invariant.alike
