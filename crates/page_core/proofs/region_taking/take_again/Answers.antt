-- A region that is known is renewed.
use Rattle.std.proofs.Common.{◌≡◌, ◌∙◌, true, sym, ap, subst, arith}
use Rattle.decoder_model.specs.Faults.{has_same_shape}
use Rattle.pixel_store.specs.Regions.{KeepsOthers}
use Rattle.segments.specs.Contents.{region_value}
use Rattle.page_core.specs.Private.Painted.{HasRegion}
use Rattle.page_core.proofs.Regions.RegionsStored.{region_again, stored_again}
use Rattle.page_core.proofs.region_taking.take_again.Goals as goal

pub renew-requires-clause-placed : goal.renew-requires-clause-placed
renew-requires-clause-placed c =
    let head = (region_value c.args.region.now).head in
    let kept = c.requires.known.0 in
    let same : has_same_shape head kept.head ≡ true =
    ap (has_same_shape head) (sym c.requires.known.2.head) ∙ sym c.has_same_shape.ensures
    ∙ c.if-has_same_shape.true in
    subst (λ slot. HasRegion head slot c.args.store.now) (sym c.requires.known.2.slot)
    (region_again c.args.composition.now c.args.store.now head kept c.requires.stored c.requires.known.1 same)

pub returns-then-count-free-clause-stored : goal.returns-then-count-free-clause-stored
returns-then-count-free-clause-stored c =
    let region = region_value c.args.region.now in
    let kept = c.requires.known.0 in
    let same : has_same_shape region.head kept.head ≡ true =
    ap (has_same_shape region.head) (sym c.requires.known.2.head) ∙ sym c.has_same_shape.ensures
    ∙ c.if-has_same_shape.true in
    stored_again c.args.composition.now c.renew.new.composition c.args.store.now c.renew.new.store region.head kept
    region.listings c.renew.ensures.composition
    (subst (λ slot. KeepsOthers slot c.args.store.now c.renew.new.store) c.requires.known.2.slot
    c.renew.ensures.filled.others) c.requires.stored c.requires.known.1 same
    (omega (arith, c.if-count-free.true, c.count.ensures, c.free.ensures)) c.requires.valid
