-- How long the sets of a plan are painted in a receiver: those that come whole as the plan says.
use Rattle.std.proofs.Common.{◌≡◌, ◌∙◌, ◌⊎◌, inl, inr, ℕ, ◌+◌, List, [], ◌∷◌, ◌++◌, map, Option, Some, None, refl, ap, arith}
use Rattle.std.specs.Prelude.{All, filter_map}
use Rattle.std.specs.List.{AllByRecursion, sum_by, cons_option}
use Rattle.std.proofs.lemmas.List.Elements.{All-head, All-tail}
use Rattle.std.proofs.lemmas.List.Sums.{sum_by-cons}
use Rattle.sub_base.specs.Lists.{with_earlier}
use Rattle.sub_base.specs.declared.profile.Profile.{Profile}
use Rattle.stream_syntax.specs.Segments.{SegmentValue, Region as RegionValue, end_of_set}
use Rattle.stream_syntax.specs.declared.page.State.{State}
use Rattle.stream_syntax.specs.declared.page.State.TheVariants.{Normal, Acquisition, ModeChange}
use Rattle.cue_list.specs.declared.epoch.Epoch.{Epoch}
use Rattle.cue_list.specs.declared.script.Script.{Script}
use Rattle.page_epoch.specs.declared.planned_set.PlannedSet.{PlannedSet}
use Rattle.page_epoch.specs.declared.planned_set.SentClut.{SentClut}
use Rattle.page_epoch.specs.declared.planned_set.SentRegion.{SentRegion}
use Rattle.buffer_model.specs.Calls.{Call, Arrived, SetWhole, Dropped}
use Rattle.set_coder.specs.SetSegments as planned
use Rattle.set_coder.specs.SetSizes.{sent_painting, IsPaintedIn}
use Rattle.decoder_model.specs.Contents.{region_in, region_of}
use Rattle.decoder_model.specs.Faults.{contents_in}
use Rattle.decoder_model.specs.Kept.{lifted_time}
use Rattle.decoder_model.specs.Painting.{region_painting, set_painting, painting_by, set_load}
use Rattle.decoder_model.specs.Readings.{Content, Reading}
use Rattle.decoder_model.specs.Sets.{Delivery}
use Rattle.decoder_model.specs.Verdict.{verdict_of}
use Rattle.decoder_model.specs.declared.set_end.SetEnd.TheVariants.{Shown, Waiting}
use Rattle.shown_plan.specs.NamedSets.{Names, named_region}
use Rattle.shown_plan.proofs.Segments.ReadSets.{plain, IsObject, IsReadSet, objects_of}
use Rattle.shown_plan.proofs.Steps.RegionSteps.{sent_value}
use Rattle.received_level_laws.specs.StreamCalls.{call_by, set_call}
use Rattle.shown_stream.proofs.Shown.ComingSets.{SetComes, reading_of}
use Rattle.shown_stream.proofs.Late.LateRest.{IsNoRegion}
use Rattle.sent_sets.proofs.Units.{TimedSet}

-- ---- the contents of a set

-- how long contents are painted
abbrev paint : List Content → ℕ
paint contents = sum_by region_painting (filter_map region_of contents)

-- what is no region is not painted
none_painted : (values : List SegmentValue) (more : List Content) → AllByRecursion IsNoRegion values
    → paint (map plain values ++ more) ≡ paint more
none_painted [] more none = refl
none_painted (value ∷ values) more none = one (region_in value) none.0 ∙ none_painted values more none.1
  where
    one : (found : Option RegionValue) → found ≡ None
        → sum_by region_painting (cons_option found (filter_map region_of (map plain values ++ more)))
        ≡ paint (map plain values ++ more)
    one found e =
        ap (λ option. sum_by region_painting (cons_option option (filter_map region_of (map plain values ++ more)))) e

cluts_none : (epoch : Epoch) (sent : List SentClut)
    → AllByRecursion IsNoRegion (map (planned.clut_segment_of epoch) sent)
cluts_none epoch [] = tt
cluts_none epoch (one ∷ sent) = (refl, cluts_none epoch sent)

-- regions are painted as the plan says, whatever the numbers of the objects that they list
regions_painted : (names : Names) (epoch : Epoch) (sent : List SentRegion) (behind : List SegmentValue)
    (more : List Content)
    → paint (map plain (map (named_region names epoch) sent ++ behind) ++ more)
    ≡ sum_by (sent_painting epoch) sent + paint (map plain behind ++ more)
regions_painted names epoch [] behind more = omega arith
regions_painted names epoch (one ∷ sent) behind more =
    omega (
      arith,
      sum_by-cons region_painting (sent_value names epoch one)
          (filter_map region_of (map plain (map (named_region names epoch) sent ++ behind) ++ more)),
      sum_by-cons (sent_painting epoch) one sent,
      regions_painted names epoch sent behind more,
    )

objects_none : (objects : List Content) → All IsObject objects → paint (objects ++ plain end_of_set ∷ []) ≡ 0
objects_none [] all = refl
objects_none (object ∷ objects) all =
    ap (λ found. sum_by region_painting
    (cons_option found (filter_map region_of (objects ++ plain end_of_set ∷ []))))
    (ap region_in (All-head IsObject object objects all).is)
    ∙ objects_none objects (All-tail IsObject object objects all)

behind_display : (script : Script) (state : State) (values : List SegmentValue) (more : List Content)
    → paint (map plain (planned.display_segments script state ++ values) ++ more) ≡ paint (map plain values ++ more)
behind_display script Normal values more = refl
behind_display script Acquisition values more = refl
behind_display script ModeChange values more = refl

-- a set that is read is painted as the plan says
pub set_painted : (script : Script) (epoch : Epoch) (set : PlannedSet) (contents : List Content)
    → IsReadSet script epoch set contents
    → set_painting contents ≡ sum_by (sent_painting epoch) set.regions
set_painted script epoch set contents is =
    let cluts = map (planned.clut_segment_of epoch) is.cluts in
    let back = is.objects ++ plain end_of_set ∷ [] in
    ap set_painting is.are
    ∙ behind_display script set.state _ back
    ∙ regions_painted is.names epoch set.regions cluts back
    ∙ omega (arith, none_painted cluts back (cluts_none epoch is.cluts), objects_none is.objects (objects_of is))

-- ---- the call of a set

-- how long the set of calls is painted
abbrev pub painting_in : List Call → ℕ
painting_in [] = 0
painting_in (Arrived slot bytes ∷ calls) = 0
painting_in (SetWhole load ∷ calls) = load.painted
painting_in (Dropped ∷ calls) = 0

-- the calls of sets behind others, in their order
abbrev pub calls_behind : Profile → ℕ → List (Delivery Reading) → List (Delivery Reading) → List (List Call)
calls_behind profile anchor older received =
    map (λ (placed : Delivery Reading × List (Delivery Reading)). set_call profile anchor placed.1 placed.0)
    (with_earlier older received)

-- the call is painted as the plan says of a set
abbrev pub IsPaintedAs : Script → PlannedSet → List Call → Type 0
IsPaintedAs script set calls = IsPaintedIn script set (painting_in calls)

-- a set that comes whole and is not broken is
pub painted_as : {set : PlannedSet} {sent : TimedSet} (script : Script) (profile : Profile) (anchor : ℕ)
    (past : List (Delivery Reading)) (comes : SetComes script set sent)
    → lifted_time anchor past (reading_of comes) ≡ Some set.pts
    → (verdict_of profile anchor past (reading_of comes) ≡ Some Shown)
    ⊎ (verdict_of profile anchor past (reading_of comes) ≡ Some Waiting)
    → IsPaintedAs script set (set_call profile anchor past (reading_of comes))
painted_as {set = set} {sent = sent} script profile anchor past comes lifted kept = record {
  epoch = comes.epoch;
  found = comes.found;
  sum =
      ap (λ found. painting_in (call_by found (set_load profile anchor past (reading_of comes)))) lifted ∙ by kept
      ∙ ap set_painting comes.contents_are ∙ set_painted script comes.epoch set comes.contents comes.is;
}
  where
    by : (verdict_of profile anchor past (reading_of comes) ≡ Some Shown)
        ⊎ (verdict_of profile anchor past (reading_of comes) ≡ Some Waiting)
        → painting_by comes.readings (verdict_of profile anchor past (reading_of comes))
        ≡ set_painting (contents_in comes.readings)
    by (inl shown) = ap (painting_by comes.readings) shown
    by (inr waits) = ap (painting_by comes.readings) waits
