-- One more CLUT segment is counted.
use Rattle.std.proofs.Common.{◌∙◌, refl}
use Rattle.segments.specs.Contents.{clut_value}
use Rattle.page_core.proofs.Counts.ClutCounts.{cluts_begin, cluts_end, cluts_go_on}
use Rattle.page_core.proofs.counting.clut_nodes.Goals as goal

pub loop-next-init : goal.loop-next-init
loop-next-init c =
    record {
      marks = refl;
      counting = cluts_begin c.args.composition.now c.args.marks.now c.args.bytes.now
          c.no_versions-versions.result c.no_versions-versions.ensures;
    }

pub loop-next-preserved : goal.loop-next-preserved
loop-next-preserved c = record {
  marks = c.count_clut.ensures.marks ∙ c.loop-next.invariant.marks;
  counting =
      cluts_go_on c.args.composition.now c.args.marks.now c.loop-next.marks c.count_clut.new.marks c.args.bytes.now
      c.loop-next.rest.now c.in-Some.next.rest.now c.loop-next.versions c.count_clut.new.versions
      (clut_value c.in-Some.next.segment)
      c.loop-next.nodes c.count_clut.result c.saturating_add-nodes.result c.in-Some.ensures.next
      c.count_clut.ensures.counted c.saturating_add-nodes.ensures c.loop-next.invariant.counting;
}

pub returns : goal.returns
returns c = record {
  marks = c.loop-next.invariant.marks;
  counted = λ base set known counted are few.
      cluts_end c.args.composition.now c.args.marks.now c.loop-next.marks c.args.bytes.now c.loop-next.rest.now
      c.loop-next.versions c.loop-next.nodes base set c.in_default.ensures.next c.loop-next.invariant.counting known
      counted are few;
}
