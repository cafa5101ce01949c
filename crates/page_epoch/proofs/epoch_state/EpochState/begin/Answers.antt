use Rattle.std.proofs.Common.{◌∙◌, List, Option, ℕ, All, length, sym, ap, subst}
use Rattle.std.proofs.lemmas.List.{length-map}
use Rattle.page_epoch.specs.declared.region_state.RegionState.{RegionState}
use Rattle.page_epoch.specs.EpochStates.{IsSmallRegionState, IsSmallVersion}
use Rattle.page_epoch.proofs.EpochWalkLaws.{small_first, small_none}
use Rattle.page_epoch.proofs.epoch_state.EpochState.begin.Goals as goal

pub returns-clause-safe : goal.returns-clause-safe
returns-clause-safe c = record {
  regions =
      ap length c.in_ok-first_region_states.ensures ∙ length-map c.as_slice.result.now _
      ∙ ap length c.as_slice.ensures;
  small_regions =
      subst (λ (xs : List RegionState). All IsSmallRegionState xs) (sym c.in_ok-first_region_states.ensures)
      (small_first c.as_slice.result.now);
  versions =
      ap length c.in_ok-first_versions.ensures ∙ length-map c.as_slice-2.result.now _
      ∙ ap length c.as_slice-2.ensures;
  small_versions =
      subst (λ (xs : List (Option ℕ)). All IsSmallVersion xs) (sym c.in_ok-first_versions.ensures)
      (small_none c.as_slice-2.result.now);
}
