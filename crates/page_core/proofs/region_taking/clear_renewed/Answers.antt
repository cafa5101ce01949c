-- One region after another is cleared.
use Rattle.std.proofs.Common.{refl}
use Rattle.segments.specs.Contents.{region_value}
use Rattle.page_core.proofs.Regions.RenewedRegions.{apart_cleared, beside_cleared, stored_cleared, clearing_starts, clearing_goes_on, clearing_ends}
use Rattle.page_core.proofs.region_taking.clear_renewed.Goals as goal

pub loop-next-init : goal.loop-next-init
loop-next-init c = (
  c.requires,
  record { size = refl; entries = refl; cluts = refl; set_entries = refl },
  (λ store
      stored. stored),
  λ set are. clearing_starts set c.args.composition.now c.args.bytes.now are,
)

pub loop-next-preserved : goal.loop-next-preserved
loop-next-preserved c =
    let head = (region_value c.in-Some.next.segment).head in (
      apart_cleared head c.loop-next.composition c.clear_if_renewed.new.composition c.clear_if_renewed.ensures
          c.loop-next.invariant.0,
      beside_cleared head c.args.composition.now c.loop-next.composition c.clear_if_renewed.new.composition
          c.clear_if_renewed.ensures c.loop-next.invariant.1,
      (λ store stored. stored_cleared head c.loop-next.composition c.clear_if_renewed.new.composition store
          c.clear_if_renewed.ensures (c.loop-next.invariant.2 store stored)),
      λ set are. clearing_goes_on set c.args.composition.now c.loop-next.composition c.clear_if_renewed.new.composition
          c.loop-next.rest.now c.in-Some.next.rest.now (region_value c.in-Some.next.segment) c.loop-next.invariant.0
          c.in-Some.ensures.next c.clear_if_renewed.ensures (c.loop-next.invariant.3 set are),
    )

pub returns-clause-bare : goal.returns-clause-bare
returns-clause-bare c set are =
    clearing_ends set c.args.composition.now c.loop-next.composition c.loop-next.rest.now c.in_default.ensures.next
    (c.loop-next.invariant.3 set are)
