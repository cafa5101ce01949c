-- One more CLUT segment is taken.
use Rattle.segments.specs.Contents.{clut_value}
use Rattle.page_core.proofs.ColourTables.ClutLaws.{kept_as_it_was}
use Rattle.page_core.proofs.ColourTables.ClutSegments.{kept_on, taking_begins, taking_ends, taking_goes_on}
use Rattle.page_core.proofs.cluts.take_cluts.Goals as goal

pub loop-next-init : goal.loop-next-init
loop-next-init c =
    record {
      coloured = c.requires;
      keeps = kept_as_it_was c.args.composition.now;
      taking = taking_begins
          c.args.composition.now c.args.inks.now c.args.bytes.now;
    }

pub loop-next-preserved : goal.loop-next-preserved
loop-next-preserved c = record {
  coloured = c.take_clut.ensures.coloured;
  keeps =
      kept_on c.args.composition.now c.loop-next.composition c.take_clut.new.composition c.loop-next.invariant.keeps
      c.take_clut.ensures.keeps;
  taking =
      taking_goes_on c.args.composition.now c.loop-next.composition c.take_clut.new.composition c.args.inks.now
      c.loop-next.inks c.take_clut.new.inks c.args.bytes.now c.loop-next.rest.now c.in-Some.next.rest.now
      (clut_value c.in-Some.next.segment) c.in-Some.ensures.next c.take_clut.ensures.keeps c.take_clut.ensures.taken
      c.loop-next.invariant.taking;
}

pub returns : goal.returns
returns c = record {
  coloured = c.loop-next.invariant.coloured;
  keeps = c.loop-next.invariant.keeps;
  taken = λ older set has are room.
      taking_ends c.args.composition.now c.loop-next.composition c.args.inks.now c.loop-next.inks c.args.bytes.now
      c.loop-next.rest.now older set c.in_default.ensures.next c.loop-next.invariant.taking has are room;
}
