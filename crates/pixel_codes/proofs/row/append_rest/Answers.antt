use Rattle.std.proofs.Common.{refl, ◌+◌, ◌-◌, arith}
use Rattle.pixel_codes.specs.Private.Stream.{stream}
use Rattle.pixel_codes.proofs.Writing.{extends_trans}
use Rattle.pixel_codes.proofs.Rows.{one_run, no_run, counted_from}
use Rattle.pixel_codes.proofs.RunEnds.{begins_at}
use Rattle.pixel_codes.proofs.row.append_rest.Goals as goal

pub loop-at-preserved : goal.loop-at-preserved
loop-at-preserved c =
    let l = c.loop-at in
    let more = c.run_length.result in
    let run = l.invariant.run in
    let r =
    one_run c.args.depth c.args.codes.now l.from l.at more (l.at + more - l.from) (stream l.out.items l.pending)
    (stream c.append_run.new.out.items c.append_run.new.pending) _ run.ordered c.loop-at-test.true run.alike
    (counted_from c.args.codes.now l.at more c.loop-at-test.true c.run_length.ensures.count) refl
    c.in_ok-append_run.ensures.text l.invariant.text in
    record {
      run = begins_at c.args.codes.now (l.at + more) r.1;
      text = r.2;
      extends =
          extends_trans c.args.out.now.items l.out.items c.append_run.new.out.items l.invariant.extends
          c.append_run.ensures.extends;
    }

pub returns-clause-text : goal.returns-clause-text
returns-clause-text c =
    let l = c.loop-at in
    no_run c.args.depth c.args.codes.now l.from (stream l.out.items l.pending) _
    (omega (arith, l.invariant.run.ended c.loop-at-test.false, c.loop-at-test.false)) l.invariant.text
