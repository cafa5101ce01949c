-- The times of the sets of a plan rise, and all lie within the ten hours of a script: told modulo 2 to the 33 they
-- differ.
use Rattle.std.proofs.Common.{◌≡◌, ◌∙◌, ◌≢◌, ℕ, zero, suc, ◌+◌, ◌*◌, ◌%◌, ◌<◌, ◌≤◌, inl, inr, false, eqb, List, [], ◌∷◌, length, get_or, map, take, sym, ap, subst, arith, All}
use Rattle.std.specs.List.{AllByRecursion}
use Rattle.std.specs.List.Sorted.{IsStrictlyIncreasing}
use Rattle.std.proofs.Math.Logic.{∥∥₁_elim}
use Rattle.std.proofs.Props.{props}
use Rattle.std.proofs.lemmas.Bool.Decides.{nat_tests}
use Rattle.std.proofs.lemmas.List.Elements.{recursion_from_All, All-weaker, All-contains}
use Rattle.sub_base.specs.Picture.{Picture}
use Rattle.sub_base.specs.declared.profile.Profile.{Profile}
use Rattle.stream_syntax.specs.declared.wire.TheConstants.{TIME_ROUND, HALF_ROUND}
use Rattle.cue_list.specs.Sound.{IsSoundScript, IsTick, IsColourRow, IsCue}
use Rattle.cue_records.specs.declared.row_values.ColourRow.{ColourRow}
use Rattle.cue_list.specs.declared.epoch.Cue.{Cue}
use Rattle.cue_list.specs.declared.epoch.Epoch.{Epoch}
use Rattle.cue_list.specs.declared.script.Script.{Script}
use Rattle.page_epoch.specs.Instants.{named_ticks, IsInstant}
use Rattle.page_epoch.specs.Plan.{IsPlan}
use Rattle.page_epoch.specs.declared.planned_set.PlannedSet.{PlannedSet}
use Rattle.page_epoch.proofs.SoundLaws.{epoch_ticks, all_ticks}
use Rattle.shown_stream.proofs.Sent.CompiledSets.{AreSentAs}
use Rattle.shown_stream.proofs.Sent.PlannedOrder.{rest_rises}
use Rattle.shown_stream.proofs.Sent.SentPlaces.{front_rises}
use Rattle.sent_sets.proofs.Runs.{HaveDifferentTimes}
use Rattle.sent_sets.proofs.Units.{TimedSet}

-- ---- instants

-- all ticks that a script names lie from its origin on, at most so many ticks later
abbrev AreInSpan : ℕ → List Epoch → Type 0
AreInSpan origin epochs = All (IsTick origin) (named_ticks epochs)

span_prop : (origin : ℕ) (epochs : List Epoch) → IsProp (AreInSpan origin epochs)
span_prop origin epochs = hlevel props

span_from : (origin width height refresh : ℕ) (epochs : List Epoch) (pictures : List Picture)
    → IsSoundScript origin width height refresh epochs pictures → AreInSpan origin epochs
span_from origin width height refresh epochs pictures sound =
    all_ticks (IsTick origin) epochs (λ k d h. let epoch = get_or epochs k d in let is = sound.each k d h in
    epoch_ticks (IsTick origin) epoch is.starts
    (All-weaker (IsColourRow origin epoch.start) (λ (row : ColourRow). IsTick origin row.tick)
    (λ row good. good.tick) epoch.colours is.colours)
    (All-weaker (IsCue origin epoch.start epoch.regions pictures)
    (λ (cue : Cue). IsTick origin cue.start × IsTick origin cue.end) (λ cue good. (good.starts, good.ends))
    epoch.cues is.cues))

in_span : (script : Script) → AreInSpan script.origin script.epochs
in_span script =
    ∥∥₁_elim script.sound (span_prop script.origin script.epochs)
    (span_from script.origin script.width script.height script.refresh script.epochs script.pictures)

-- and so do all instants at which a set is shown
instant_in_span : (origin : ℕ) (epochs : List Epoch) (refresh tick : ℕ) → AreInSpan origin epochs
    → IsInstant epochs refresh tick → IsTick origin tick
instant_in_span origin epochs refresh tick span (inl named) =
    All-contains (IsTick origin) (named_ticks epochs) tick span named
instant_in_span origin epochs refresh tick span (inr refreshed) =
    let last =
    (All-contains (IsTick origin) (named_ticks epochs) refreshed.last span refreshed.neighbours.has_first).late in
    let next =
    (All-contains (IsTick origin) (named_ticks epochs) refreshed.next span refreshed.neighbours.has_second).early in
    let after = refreshed.after in
    let room = refreshed.room in
    let on : 0 ≤ refreshed.times * refresh = omega arith in
    record { late = omega arith; early = omega arith }

-- ---- the sets of a plan

abbrev pub pts_of : List PlannedSet → List ℕ
pts_of sets = map (λ (set : PlannedSet). set.pts) sets

take_all_by : (P : ℕ → Type 0) (n : ℕ) (xs : List ℕ) → AllByRecursion P xs → AllByRecursion P (take n xs)
take_all_by P zero xs h = tt
take_all_by P (suc n) [] h = tt
take_all_by P (suc n) (x ∷ xs) h = (h.0, take_all_by P n xs h.1)

pub times_in_span : (script : Script) (profile : Profile) (sets : List PlannedSet) → IsPlan script profile sets
    → AllByRecursion (IsTick script.origin) (pts_of sets)
times_in_span script profile sets plan =
    let planned = plan.planned in
    let span = in_span script in
    let all : All (IsTick script.origin) planned.instants =
    All-weaker (IsInstant script.epochs script.refresh) (IsTick script.origin)
    (λ tick is. instant_in_span script.origin script.epochs script.refresh tick span is) planned.instants
    planned.are_instants.each in
    subst (AllByRecursion (IsTick script.origin)) (sym planned.first.times)
    (take_all_by (IsTick script.origin) (length sets) planned.instants
    (recursion_from_All (IsTick script.origin) planned.instants all))

pub pts_rise : (script : Script) (profile : Profile) (sets : List PlannedSet) → IsPlan script profile sets
    → IsStrictlyIncreasing (pts_of sets)
pts_rise script profile sets plan =
    let planned = plan.planned in
    subst IsStrictlyIncreasing (sym planned.first.times)
    (front_rises planned.instants (length sets) planned.first.few planned.are_instants.rise)

-- times that are near each other are told as different ones
pub differ : (start end : ℕ) → start < end → end < start + HALF_ROUND
    → (start % TIME_ROUND) ≢ (end % TIME_ROUND)
differ start end rising near = omega arith

told_apart : (start end : ℕ) → start < end → end < start + HALF_ROUND
    → eqb (start % TIME_ROUND) (end % TIME_ROUND) ≡ false
told_apart start end rising near =
    let apart = differ start end rising near in grind (arith, nat_tests)

different_by : (script : Script) (page : ℕ) (sets : List PlannedSet) (units : List (List (List ℕ)))
    (sent : List TimedSet) → AreSentAs script page sets units sent → IsStrictlyIncreasing (pts_of sets)
    → AllByRecursion (IsTick script.origin) (pts_of sets)
    → HaveDifferentTimes sent
different_by script page [] [] [] are rise span = tt
different_by script page [] [] (one ∷ sent) are rise span = absurd are
different_by script page [] (packets ∷ units) sent are rise span = absurd are
different_by script page (set ∷ sets) [] sent are rise span = absurd are
different_by script page (set ∷ sets) (packets ∷ units) [] are rise span = absurd are
different_by script page (set ∷ []) (packets ∷ []) (one ∷ []) are rise span = (tt, tt)
different_by script page (set ∷ []) (packets ∷ []) (one ∷ next ∷ sent) are rise span = absurd are.1
different_by script page (set ∷ []) (packets ∷ more ∷ units) (one ∷ sent) are rise span = absurd are.1
different_by script page (set ∷ after ∷ sets) (packets ∷ []) (one ∷ sent) are rise span = absurd are.1
different_by script page (set ∷ after ∷ sets) (packets ∷ more ∷ units) (one ∷ []) are rise span = absurd are.1
different_by script page (set ∷ after ∷ sets) (packets ∷ more ∷ units) (one ∷ next ∷ sent) are rise span =
    let first : set.pts < after.pts = rise 0 (omega arith) in
    let late = span.0.late in
    let early = span.1.0.early in (
      ap (λ time. eqb time next.time) are.0.time ∙ ap (eqb (set.pts % TIME_ROUND)) are.1.0.time
          ∙ told_apart set.pts after.pts first (omega arith),
      different_by script page (after ∷ sets) (more ∷ units) (next ∷ sent) are.1
          (rest_rises set.pts (pts_of (after ∷ sets)) rise) span.1,
    )

-- so neighbouring sets of a plan have different times in a receiver
pub different_times : (script : Script) (profile : Profile) (page : ℕ) (sets : List PlannedSet)
    (units : List (List (List ℕ))) (sent : List TimedSet) → IsPlan script profile sets
    → AreSentAs script page sets units sent
    → HaveDifferentTimes sent
different_times script profile page sets units sent plan are =
    different_by script page sets units sent are (pts_rise script profile sets plan)
    (times_in_span script profile sets plan)
