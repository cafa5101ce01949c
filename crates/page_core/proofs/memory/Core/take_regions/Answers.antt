-- The regions of a set are taken.
use Rattle.std.proofs.Common.{refl, sym, subst, filter}
use Rattle.page_core.specs.Memory.{HoldsSegments}
use Rattle.page_core.specs.Private.RegionSteps.{AreRegionsValid}
use Rattle.page_core.specs.Private.Walks.{is_region}
use Rattle.page_core.proofs.Counts.RegionNeeds.{are_regions}
use Rattle.page_core.proofs.Regions.RegionsBegin.{ready_begins}
use Rattle.page_core.proofs.Regions.RegionsHeld.{core_behind, held_behind, keeps_from, keeps_regions, stored_whole}
use Rattle.page_core.proofs.memory.Core.take_regions.Goals as goal

pub take_all-requires : goal.take_all-requires
take_all-requires c = c.clear_renewed.ensures.stored c.self.inside.store (stored_whole _ c.self.invariant.whole)

pub invariant_of-self : goal.invariant_of-self
invariant_of-self c =
    core_behind _ _ _ c.self.invariant
    (keeps_regions _ _ refl refl refl refl refl refl refl c.clear_renewed.ensures.beside c.take_all.ensures.beside refl)
    c.take_all.ensures.stored c.take_all.ensures.size

pub returns-clause-holds : goal.returns-clause-holds
returns-clause-holds c older set holds are apart right =
    let before = subst (HoldsSegments older) (sym c.self.view_is) holds in
    let rights = subst (AreRegionsValid older set) (sym c.self.view_is) right in
    let stored = c.clear_renewed.ensures.stored c.self.inside.store (stored_whole _ c.self.invariant.whole) in
    let ready =
    ready_begins older set _ c.clear_renewed.new.composition before c.self.invariant.whole apart rights
    (c.clear_renewed.ensures.bare set are) c.clear_renewed.ensures.beside stored in
    held_behind older (filter is_region set) _ _ before (are_regions set)
    (keeps_regions _ _ refl refl refl refl refl refl refl c.clear_renewed.ensures.beside c.take_all.ensures.beside refl)
    (c.take_all.ensures.taken c.self.inside.profile older set are apart ready).regions

pub returns-clause-pixels : goal.returns-clause-pixels
returns-clause-pixels c older set holds are apart right =
    let before = subst (HoldsSegments older) (sym c.self.view_is) holds in
    let rights = subst (AreRegionsValid older set) (sym c.self.view_is) right in
    let stored = c.clear_renewed.ensures.stored c.self.inside.store (stored_whole _ c.self.invariant.whole) in
    let ready =
    ready_begins older set _ c.clear_renewed.new.composition before c.self.invariant.whole apart rights
    (c.clear_renewed.ensures.bare set are) c.clear_renewed.ensures.beside stored in
    (c.take_all.ensures.taken c.self.inside.profile older set are apart ready).free

pub returns-clause-rest : goal.returns-clause-rest
returns-clause-rest c =
    keeps_from _ _ _ c.self.view_is
    (keeps_regions _ _ refl refl refl refl refl refl refl c.clear_renewed.ensures.beside c.take_all.ensures.beside
    refl)
