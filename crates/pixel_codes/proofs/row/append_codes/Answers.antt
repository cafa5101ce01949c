use Rattle.pixel_codes.specs.Private.Stream.{stream}
use Rattle.pixel_codes.proofs.Writing.{extends_trans}
use Rattle.pixel_codes.proofs.Rows.{one_code, no_code}
use Rattle.pixel_codes.proofs.row.append_codes.Goals as goal

pub loop-left-preserved : goal.loop-left-preserved
loop-left-preserved c =
    let l = c.loop-left in
    let f = c.first_spelling-first in
    record {
      text =
          one_code c.args.depth c.args.code l.left f.result.width f.result.bits f.result.pixels
          (stream l.out.items l.pending) (stream c.push.new.out.items c.push.new.self) _ c.requires
          c.loop-left-test.true f.ensures.bits f.ensures.width f.ensures.pixels c.in_ok-push.ensures.text
          l.invariant.text;
      extends =
          extends_trans c.args.out.now.items l.out.items c.push.new.out.items l.invariant.extends
          c.push.ensures.extends;
    }

pub returns-clause-text : goal.returns-clause-text
returns-clause-text c =
    no_code c.args.depth c.args.code c.loop-left.left _ _ c.loop-left-test.false c.loop-left.invariant.text
