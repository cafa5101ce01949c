-- One region after another is taken.
use Rattle.std.proofs.Common.{◌∙◌, refl}
use Rattle.segments.specs.Contents.{region_value}
use Rattle.page_core.proofs.Regions.RegionReady.{taking_starts, taking_goes_on, taking_ends}
use Rattle.page_core.proofs.region_taking.take_all.Goals as goal

pub loop-next-init : goal.loop-next-init
loop-next-init c = (
  c.requires,
  record { size = refl; entries = refl; cluts = refl; set_entries = refl },
  refl,
  λ profile older set are apart ready. taking_starts profile older set c.args.composition.now c.args.store.now
      c.args.bytes.now are apart ready,
)

pub loop-next-preserved : goal.loop-next-preserved
loop-next-preserved c =
    let beside = c.loop-next.invariant.1 in (
      c.take_one.ensures.stored,
      record {
        size = c.take_one.ensures.beside.size ∙ beside.size;
        entries = c.take_one.ensures.beside.entries ∙ beside.entries;
        cluts = c.take_one.ensures.beside.cluts ∙ beside.cluts;
        set_entries = c.take_one.ensures.beside.set_entries ∙ beside.set_entries;
      },
      c.take_one.ensures.size ∙ c.loop-next.invariant.2,
      λ profile older set are apart ready. taking_goes_on profile older set c.loop-next.composition
          c.take_one.new.composition c.loop-next.store c.take_one.new.store c.loop-next.rest.now c.in-Some.next.rest.now
          (region_value c.in-Some.next.segment) c.loop-next.invariant.0 c.in-Some.ensures.next c.take_one.ensures.taken
          (c.loop-next.invariant.3 profile older set are apart ready),
    )

pub returns-clause-taken : goal.returns-clause-taken
returns-clause-taken c profile older set are apart ready =
    taking_ends profile older set c.loop-next.composition c.loop-next.store c.loop-next.rest.now
    c.in_default.ensures.next (c.loop-next.invariant.3 profile older set are apart ready)
