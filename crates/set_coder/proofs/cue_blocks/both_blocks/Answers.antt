use Rattle.std.proofs.Common.{◌∙◌, ap, arith, drop, length, length-append, refl, take}
use Rattle.set_coder.proofs.BlockLaws.{are_blocks, are_both}
use Rattle.set_coder.specs.SetParts.{bytes_in}
use Rattle.set_coder.proofs.cue_blocks.both_blocks.Goals as goal

pub invariant_of-result : goal.invariant_of-result
invariant_of-result c =
    let bytes = bytes_in c.args.bytes in
    let top = c.args.lengths.top in
    let w = c.requires.blocks.written in
    record {
      blocks =
          are_blocks c.args._picture.now c.args._region bytes (take top bytes) (drop top bytes) top c.requires.blocks
          refl refl;
      within = omega (arith, ap length w.2 ∙ length-append w.0 w.1, w.3);
      top_short = omega arith;
      bottom_short = omega (arith, c.requires.whole);
    }

pub returns-clause-blocks : goal.returns-clause-blocks
returns-clause-blocks c =
    let bytes = bytes_in c.args.bytes in
    let top = c.args.lengths.top in
    (are_both c.args._picture.now c.args._region bytes (take top bytes) (drop top bytes) top c.requires.blocks refl
    refl).0

pub returns-clause-drawn : goal.returns-clause-drawn
returns-clause-drawn c =
    let bytes = bytes_in c.args.bytes in
    let top = c.args.lengths.top in
    (are_both c.args._picture.now c.args._region bytes (take top bytes) (drop top bytes) top c.requires.blocks refl
    refl).1
