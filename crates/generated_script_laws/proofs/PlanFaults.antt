-- The plan of a generated script is never refused by a receiver, whatever its profile.
use Rattle.std.proofs.Common.{◌≡◌, ◌∙◌, ◌⊎◌, inl, inr, ℕ, ◌≤◌, true, List, length, reverse, ap, refl, arith}
use Rattle.std.specs.List.{sum_by}
use Rattle.sub_base.specs.declared.profile.Profile.{Profile}
use Rattle.sub_base.specs.declared.profile.ProfileName.{ProfileName}
use Rattle.sub_base.specs.declared.profile.ProfileName.TheVariants.{Sd, Hd}
use Rattle.sub_base.specs.Profile.{profile_of, IsProfile}
use Rattle.sub_base.proofs.ProfileLaws.{every_profile}
use Rattle.cue_records.specs.declared.row_values.ColourRow.{ColourRow}
use Rattle.cue_list.specs.declared.epoch.Epoch.{Epoch}
use Rattle.cue_records.specs.declared.region.Region.{Region}
use Rattle.cue_list.specs.declared.script.Script.{Script}
use Rattle.generated_script.specs.Generated.{IsGenerated, IsGeneratedEpoch}
use Rattle.page_epoch.specs.declared.fault.PlanFault.{PlanFault}
use Rattle.page_epoch.specs.declared.fault.PlanFault.TheVariants.{Memory, DisplayTooLarge, PixelFull, CompositionFull}
use Rattle.page_epoch.specs.Needs.{pixel_need, clut_nodes, node_need}
use Rattle.page_epoch.specs.Refusals.{IsFirstUnheld, IsPlanCause}
use Rattle.page_epoch.specs.SentCluts.{sent_cluts}
use Rattle.page_epoch.specs.States.{seen_of}
use Rattle.page_epoch.specs.SentRegions.{drawn_count}
use Rattle.generated_script_laws.proofs.LiveCues.{few_held}
use Rattle.generated_script_laws.proofs.ListedCues.{no_cluts, few_shown, epoch_there}

-- what an epoch needs
pub pixels_of : (number e : ℕ) (epoch : Epoch) → IsGeneratedEpoch number e epoch
    → pixel_need epoch.regions ≡ 4608
pixels_of number e epoch is = ap pixel_need is.regions

pub nodes_of : (number e : ℕ) (epoch : Epoch) (seen : List ℕ) (shown : ℕ) → IsGeneratedEpoch number e epoch
    → shown ≤ 2 → node_need epoch seen shown ≤ 7
nodes_of number e epoch seen shown is few =
    let two = ap length is.regions in
    let first = few_held number e epoch is 0 seen in
    let second = few_held number e epoch is 1 seen in
    let held_both =
    ap (λ (rs : List Region). sum_by (λ (region : Region). drawn_count epoch.cues region.id seen) rs) is.regions
    in
    let none =
    ap clut_nodes (ap (λ (rows : List ColourRow). sent_cluts rows true seen) is.colours ∙ no_cluts true seen) in
    omega arith

-- the first set that could not be drawn_count
record IsSmall (pixels nodes : ℕ) : Type 0 where
  pixels_few : pixels ≡ 4608
  nodes_few : nodes ≤ 7

small : (number : ℕ) (script : Script) (profile : Profile) (row pixels nodes : ℕ) → IsGenerated number script
    → IsFirstUnheld script.epochs script.refresh profile row pixels nodes → IsSmall pixels nodes
small number script profile row pixels nodes is unheld =
    let needs = unheld.needs in
    let next = unheld.next in
    let generated = epoch_there number script unheld.set.epoch needs.epoch is needs.found in
    let shown =
    few_shown number unheld.set.epoch next.epoch unheld.set.pts unheld.set.shown
    (epoch_there number script unheld.set.epoch next.epoch is next.place.found) next.carried.shown in
    let all =
    nodes_of number unheld.set.epoch needs.epoch (seen_of needs.epoch.start (reverse unheld.before) unheld.set.pts)
    (length unheld.set.shown) generated shown in
    let nodes_are = needs.nodes_are in
    record {
      pixels_few = needs.pixels_are
          ∙ pixels_of number unheld.set.epoch needs.epoch generated;
      nodes_few = omega arith;
    }

-- every profile holds what is needed
pub plan_never_refused : (number : ℕ) (script : Script) (profile : Profile) (fault : PlanFault) → IsProfile profile
    → IsGenerated number script → IsPlanCause script profile fault → fault ≡ Memory
plan_never_refused number script profile Memory enough is cause = refl
plan_never_refused number script profile (DisplayTooLarge row) enough is cause =
    let width = is.width in
    let height = is.height in
    absurd (elim cause.large [ inl wide ↦ omega (arith, enough.wide) | inr high ↦ omega (arith, enough.high) ])
plan_never_refused number script profile (PixelFull row need) enough is cause =
    let few = small number script profile row need cause.1.nodes is cause.1.unheld in
    let full = cause.1.full in
    absurd (omega (arith, enough.pixels, few.pixels_few))
plan_never_refused number script profile (CompositionFull row need) enough is cause =
    let few = small number script profile row cause.1.pixels need is cause.1.unheld in
    let full = cause.1.full in
    absurd (omega (arith, enough.nodes.0, few.nodes_few))

-- so those of receivers of standard and of high definition
pub no_plan_fault : (number : ℕ) (script : Script) (name : ProfileName) (fault : PlanFault) → (name ≡ Sd)
    ⊎ (name ≡ Hd) → IsGenerated number script → IsPlanCause script (profile_of name) fault → fault ≡ Memory
no_plan_fault number script name fault which is cause =
    plan_never_refused number script (profile_of name) fault (every_profile name) is cause
