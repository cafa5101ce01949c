-- Behind a run of the plan's sets the page of its last set shows the authored picture, until the time of the next set.
use Rattle.std.proofs.Common.{◌≡◌, ◌∙◌, ℕ, ◌<◌, ◌≤◌, List, [], ◌∷◌, ◌++◌, reverse, Some, subst, arith, All}
use Rattle.std.specs.List.{AllByRecursion}
use Rattle.std.specs.List.Sorted.{IsStrictlyIncreasing}
use Rattle.std.proofs.lemmas.List.Elements.{All-from_recursion}
use Rattle.sub_base.specs.declared.profile.Profile.{Profile}
use Rattle.cue_list.specs.declared.script.Script.{Script}
use Rattle.page_epoch.specs.Plan.{IsPlan}
use Rattle.page_epoch.specs.declared.planned_set.PlannedSet.{PlannedSet}
use Rattle.page_epoch.proofs.ListLaws.{All-none}
use Rattle.decoder_model.specs.Readings.{Content}
use Rattle.decoder_model.specs.Shown.{Agrees, view_of}
use Rattle.shown_plan.proofs.Steps.Fair.{fair}
use Rattle.shown_plan.proofs.Steps.FaultFree.{page_value, page_is}
use Rattle.shown_plan.proofs.Pictures.InTime.{IsLastBy, named_still, shown_in_time}
use Rattle.shown_plan.proofs.Pictures.Pictures.{view_of_run}
use Rattle.shown_plan.proofs.Pictures.Runs.{RunKeeps}
use Rattle.shown_stream.specs.Shows.{authored_view}
use Rattle.shown_stream.proofs.Shown.ComingSets.{turned_more}
use Rattle.shown_stream.proofs.Sent.PlannedOrder.{rest_rises, all_above}
use Rattle.shown_stream.proofs.Sent.PlannedTimes.{pts_of, pts_rise}
use Rattle.shown_stream.proofs.Shown.ShownSets.{page_behind}

-- a tick lies before the first of these sets
abbrev pub IsBefore : ℕ → List PlannedSet → Type 0
IsBefore tick [] = Unit {0}
IsBefore tick (next ∷ sets) = tick < next.pts

-- the times of the sets behind others rise too
pub behind_rises : (front back : List PlannedSet) → IsStrictlyIncreasing (pts_of (front ++ back))
    → IsStrictlyIncreasing (pts_of back)
behind_rises [] back rise = rise
behind_rises (first ∷ front) back rise = behind_rises front back (rest_rises first.pts (pts_of (front ++ back)) rise)

all_later : (tick time : ℕ) (back : List PlannedSet) → tick < time
    → AllByRecursion (λ y. time ≤ y) (pts_of back)
    → AllByRecursion (λ (other : PlannedSet). tick < other.pts) back
all_later tick time [] early h = tt
all_later tick time (other ∷ back) early h = let here = h.0 in (omega arith, all_later tick time back early h.1)

-- before the first of sets in order a tick is before all of them
before_all : (tick : ℕ) (back : List PlannedSet) → IsStrictlyIncreasing (pts_of back) → IsBefore tick back
    → All (λ (other : PlannedSet). tick < other.pts) back
before_all tick [] rise early = All-none _
before_all tick (next ∷ back) rise early =
    All-from_recursion (λ (other : PlannedSet). tick < other.pts) (next ∷ back)
    (early, all_later tick next.pts back early (all_above next.pts (pts_of back) rise))

pub run_shows : (script : Script) (profile : Profile) (sets plan back : List PlannedSet) (set : PlannedSet)
    (latest : List Content) (before : List (List Content)) → IsPlan script profile sets
    → sets ≡ reverse (set ∷ plan) ++ back
    → (kept : RunKeeps script profile plan set latest before) → (tick : ℕ) → set.pts ≤ tick
    → IsBefore tick back → Agrees (view_of tick (Some (page_behind kept))) (authored_view script tick)
run_shows script profile sets plan back set latest before is_plan parts kept tick come early =
    view_of_run script profile plan set latest before kept (page_value script kept.place.epoch set) tick
    (page_is script kept.place.epoch set latest kept.read) come
    (named_still script profile sets (reverse plan) back set tick is_plan last)
    (λ some. shown_in_time script profile sets (reverse plan) back set tick (fair script) is_plan last some)
  where
    rise : IsStrictlyIncreasing (pts_of back)
    rise =
        behind_rises (reverse (set ∷ plan)) back
        (subst (λ (all : List PlannedSet). IsStrictlyIncreasing (pts_of all)) parts
        (pts_rise script profile sets is_plan))

    last : IsLastBy sets (reverse plan) back set tick
    last = record { whole = parts ∙ turned_more plan back set; come = come; later = before_all tick back rise early }
