-- Behind each set of the plan that is in a run the page memory holds the script.
use Rattle.std.proofs.Common.{◌≡◌, ◌∙◌, ℕ, ◌<◌, ◌≤◌, List, [], ◌∷◌, ◌++◌, length, reverse, Some, refl, sym, ap, subst, arith, length-append}
use Rattle.std.specs.List.{AllByRecursion}
use Rattle.std.specs.List.Sorted.{IsStrictlyIncreasing}
use Rattle.std.proofs.lemmas.List.{reverse-reverse}
use Rattle.sub_base.specs.declared.profile.Profile.{Profile}
use Rattle.cue_list.specs.declared.script.Script.{Script}
use Rattle.page_epoch.specs.Plan.{IsPlan}
use Rattle.page_epoch.specs.States.{seen_of}
use Rattle.page_epoch.specs.declared.planned_set.PlannedSet.{PlannedSet}
use Rattle.decoder_model.specs.Kept.{lifted_time, epoch_of}
use Rattle.decoder_model.specs.Readings.{Content, Reading}
use Rattle.decoder_model.specs.Sets.{Delivery}
use Rattle.decoder_model.specs.Taken.{segments_of, taken_of}
use Rattle.decoder_model.specs.Verdict.{sets_since, known_epoch}
use Rattle.shown_plan.proofs.Steps.FaultFree.{page_value, page_is}
use Rattle.shown_plan.proofs.Pictures.Holds.{keeps_holds, memory_within}
use Rattle.shown_plan.proofs.Pictures.Runs.{RunKeeps}
use Rattle.shown_plan.specs.HoldsScript.{HoldsScript}
use Rattle.shown_plan.specs.WithinNeed.{IsWithinNeed}
use Rattle.shown_stream.specs.HoldsWhole.{HoldsSet, HoldsWhole}
use Rattle.shown_stream.proofs.Sent.PlannedOrder.{rest_rises, all_above}
use Rattle.shown_stream.proofs.Sent.PlannedTimes.{pts_of, pts_rise}
use Rattle.shown_stream.proofs.Shown.ShownSets.{IsShownSet}

-- ---- one set of a time

later_in : (time : ℕ) (front back : List PlannedSet) (set : PlannedSet)
    → AllByRecursion (λ y. time ≤ y) (pts_of (front ++ set ∷ back)) → time ≤ set.pts
later_in time [] back set all = all.0
later_in time (first ∷ front) back set all = later_in time front back set all.1

-- the set at the front of a plan is earlier than all others
pub front_earlier : (front back : List PlannedSet) (first set : PlannedSet)
    → IsStrictlyIncreasing (pts_of (first ∷ (front ++ set ∷ back))) → first.pts < set.pts
front_earlier [] back first set rise = rise 0 (omega arith)
front_earlier (next ∷ front) back first set rise =
    let here : first.pts < next.pts = rise 0 (omega arith) in
    let most =
    later_in next.pts front back set
    (all_above next.pts (pts_of (front ++ set ∷ back))
    (rest_rises first.pts (pts_of (next ∷ (front ++ set ∷ back))) rise)) in
    omega arith

-- two sets of a plan at one time are one
pub one_of_time : (front front' back back' : List PlannedSet) (set set' : PlannedSet)
    → front ++ set ∷ back ≡ front' ++ set' ∷ back' → IsStrictlyIncreasing (pts_of (front ++ set ∷ back))
    → set.pts ≡ set'.pts → (front ≡ front') × (set ≡ set')
one_of_time [] [] back back' set set' e rise same = let head : set ≡ set' = cc in (refl, head)
one_of_time [] (first ∷ front') back back' set set' e rise same =
    let head : set ≡ first = cc in
    let earlier : first.pts < set'.pts =
    front_earlier front' back' first set'
    (subst (λ (all : List PlannedSet). IsStrictlyIncreasing (pts_of all)) e rise) in
    absurd (omega (arith, earlier, same, ap (λ (one : PlannedSet). one.pts) head))
one_of_time (first ∷ front) [] back back' set set' e rise same =
    let head : first ≡ set' = cc in
    let earlier : first.pts < set.pts = front_earlier front back first set rise in
    absurd (omega (arith, earlier, same, ap (λ (one : PlannedSet). one.pts) head))
one_of_time (first ∷ front) (first' ∷ front') back back' set set' e rise same =
    let head : first ≡ first' = cc in
    let tail : front ++ set ∷ back ≡ front' ++ set' ∷ back' = cc in
    let rest =
    one_of_time front front' back back' set set' tail (rest_rises first.pts (pts_of (front ++ set ∷ back)) rise)
    same in
    (ap (λ one. one ∷ front) head ∙ ap (λ more. first' ∷ more) rest.0, rest.1)

-- ---- what is held

-- with each set that a receiver has got, and whose epoch is known, the page memory holds the script
abbrev pub HoldsEach : Script → Profile → ℕ → List PlannedSet → List (Delivery Reading) → Type 0
HoldsEach script profile anchor sets past = HoldsWhole script profile anchor sets (λ number set. Unit {0}) past

no_more : {X : Type 0} (later before : List X) (x : X) → [] ≡ later ++ x ∷ before → ⊥
no_more later before x e = omega (arith, ap length e, length-append later (x ∷ before))

pub holds_none : (script : Script) (profile : Profile) (anchor : ℕ) (sets : List PlannedSet)
    (ComesWhole : ℕ → PlannedSet → Type 0) → HoldsWhole script profile anchor sets ComesWhole []
holds_none script profile anchor sets ComesWhole later before delivery e front back set parts come lifted known is =
    absurd (no_more later before delivery e)

same_some : (a b : ℕ) → Some a ≡ Some b → a ≡ b
same_some a b e = cc

pub holds_next : (script : Script) (profile : Profile) (anchor : ℕ) (sets : List PlannedSet)
    (ComesWhole : ℕ → PlannedSet → Type 0) (past : List (Delivery Reading)) (plan left : List PlannedSet)
    (set : PlannedSet) (delivery : Delivery Reading) → IsPlan script profile sets
    → sets ≡ reverse plan ++ (set ∷ left)
    → lifted_time anchor past delivery ≡ Some set.pts
    → (ComesWhole (length (reverse plan)) set → (known : List (List Content))
    → known_epoch profile anchor (delivery ∷ past) ≡ Some known → HoldsSet script plan set known)
    → HoldsWhole script profile anchor sets ComesWhole past
    → HoldsWhole script profile anchor sets ComesWhole (delivery ∷ past)
holds_next script profile anchor sets ComesWhole past plan left set delivery is_plan parts lifted here holds later
    before other e front back one parts_too come lifted_too known is = by later e
  where
    by : (later : List (Delivery Reading)) → delivery ∷ past ≡ later ++ other ∷ before
        → HoldsSet script (reverse front) one known
    by [] whole =
        let first : delivery ≡ other = cc in
        let rest : past ≡ before = cc in
        let same : lifted_time anchor past delivery ≡ lifted_time anchor before other =
        ap (λ one. lifted_time anchor past one) first ∙ ap (λ all. lifted_time anchor all other) rest in
        let time : set.pts ≡ one.pts = same_some set.pts one.pts (sym lifted ∙ same ∙ lifted_too) in
        let rise : IsStrictlyIncreasing (pts_of (reverse plan ++ (set ∷ left))) =
        subst (λ (all : List PlannedSet). IsStrictlyIncreasing (pts_of all)) parts
        (pts_rise script profile sets is_plan) in
        let both = one_of_time (reverse plan) front left back set one (sym parts ∙ parts_too) rise time in
        let earlier : plan ≡ reverse front = sym (reverse-reverse plan) ∙ ap reverse both.0 in
        let mine : ComesWhole (length (reverse plan)) set =
        subst (λ (one : PlannedSet). ComesWhole (length (reverse plan)) one) (sym both.1)
        (subst (λ (n : ℕ). ComesWhole n one) (sym (ap length both.0)) come) in
        let found : known_epoch profile anchor (delivery ∷ past) ≡ Some known =
        ap (λ all. known_epoch profile anchor all) whole ∙ is in
        subst (λ (found_set : PlannedSet). HoldsSet script (reverse front) found_set known) both.1
        (subst (λ (before_it : List PlannedSet). HoldsSet script before_it set known) earlier
        (here mine known found))
    by (first ∷ more) whole =
        let rest : past ≡ more ++ other
        ∷ before = cc in holds more before other rest front back one parts_too come lifted_too known is

-- behind a run it is held
pub kept_holds : {script : Script} (profile : Profile) (anchor : ℕ) (past : List (Delivery Reading))
    (plan : List PlannedSet) (set : PlannedSet) (latest : List Content) (delivery : Delivery Reading)
    (kept : RunKeeps script profile plan set latest (sets_since profile anchor past))
    → IsShownSet script profile anchor past plan set latest delivery kept → (known : List (List Content))
    → known_epoch profile anchor (delivery ∷ past) ≡ Some known → HoldsSet script plan set known
kept_holds {script = script} profile anchor past plan set latest delivery kept shown known is =
    let epoch = kept.place.epoch in
    let page = page_is script epoch set latest kept.read in
    let same : Some known ≡ Some (latest ∷ kept.older) = sym is ∙ ap epoch_of shown.sets ∙ kept.known in
    let are : known ≡ latest ∷ kept.older = cc in
    let seen : set.pts ∷ kept.place.earlier ≡ seen_of epoch.start plan set.pts =
    ap (λ times. set.pts ∷ times) kept.place.before in
    record {
      epoch = epoch;
      found = kept.place.place.found;
      latest = latest;
      older = kept.older;
      are = are;
      page = page_value script epoch set;
      is_page = page;
      holds =
          subst (λ (sets : List (List Content)). HoldsScript script epoch (seen_of epoch.start plan set.pts) set
          (page_value script epoch set) (taken_of (segments_of sets))) (sym are)
          (subst (λ (times : List ℕ). HoldsScript script epoch times set (page_value script epoch set)
          (taken_of (segments_of (latest ∷ kept.older)))) seen
          (keeps_holds script profile plan set latest (sets_since profile anchor past) kept
          (page_value script epoch set) page));
      within =
          subst (λ (sets : List (List Content)). IsWithinNeed epoch (seen_of epoch.start plan set.pts) set sets)
          (sym are)
          (subst (λ (times : List ℕ). IsWithinNeed epoch times set (latest ∷ kept.older)) seen
          (memory_within script profile plan set latest (sets_since profile anchor past) kept));
    }
