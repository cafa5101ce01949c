-- What losses, later units of a set and units of an open set change in a receiver.
use Rattle.std.proofs.Common.{◌≡◌, ◌∙◌, ℕ, zero, suc, ◌%◌, ◌<◌, ◌≤◌, List, [], ◌∷◌, ◌++◌, take, drop, reverse, Option, Some, None, refl, sym, ap, arith, append_assoc}
use Rattle.std.specs.Option.{option_or}
use Rattle.sub_base.specs.declared.profile.Profile.{Profile}
use Rattle.cue_list.specs.declared.script.Script.{Script}
use Rattle.page_epoch.specs.declared.planned_set.PlannedSet.{PlannedSet}
use Rattle.decoder_model.specs.Kept.{lifted_behind, lifted_time, last_time, epoch_of}
use Rattle.decoder_model.specs.Readings.{Reading, AreReadings, IsDeliveryRead, AreDeliveriesRead}
use Rattle.decoder_model.specs.Sets.{Delivery, lost, whole}
use Rattle.decoder_model.specs.Shown.{view_at}
use Rattle.decoder_model.specs.Verdict.{sets_since, known_epoch}
use Rattle.decoder_model.specs.declared.set_end.SetEnd.TheVariants.{Broken}
use Rattle.decoder_model.specs.declared.set_fault.SetFault.TheVariants.{NoPage}
use Rattle.decoder_model.proofs.Views.{view_without}
use Rattle.shown_stream.specs.HoldsWhole.{HoldsSet, HoldsWhole}
use Rattle.shown_stream.proofs.Shown.ComingSets.{SetComes}
use Rattle.shown_stream.proofs.Sent.CompiledSets.{IsSentAs}
use Rattle.shown_stream.proofs.Shown.SentShown.{part_read, rest_read}
use Rattle.shown_stream.proofs.Shown.EnteredRuns.{turned}
use Rattle.shown_stream.proofs.Late.LateRest.{IsPlannedWell, rest_is_broken}
use Rattle.shown_stream.proofs.Lost.LostStretches.{losts, part_of_set}
use Rattle.shown_stream.proofs.Shown.ShownSets.{IsAheadOf, lifted_at, verdict_is, sets_are, none_known}
use Rattle.stream_syntax.specs.declared.wire.TheConstants.{TIME_ROUND, TICK_LIMIT}
use Rattle.sent_sets.proofs.LateSets.{rest_of_set}
use Rattle.sent_sets.proofs.SetEnds.{delivered}
use Rattle.sent_sets.proofs.Units.{SetUnit, TimedSet, segments_of_units, size_of_units, all_segments}

-- ---- losses

lost_time : (anchor : ℕ) (past : List (Delivery Reading))
    → last_time anchor (lost ∷ past) ≡ last_time anchor past
unfolding last_time
lost_time anchor past = refl

lost_known : (profile : Profile) (anchor : ℕ) (past : List (Delivery Reading))
    → known_epoch profile anchor (lost ∷ past) ≡ None
unfolding sets_since
lost_known profile anchor past = none_known

lost_holds : (script : Script) (profile : Profile) (anchor : ℕ) (sets : List PlannedSet)
    (ComesWhole : ℕ → PlannedSet → Type 0) (past : List (Delivery Reading))
    → HoldsWhole script profile anchor sets ComesWhole past
    → HoldsWhole script profile anchor sets ComesWhole (lost ∷ past)
lost_holds script profile anchor sets ComesWhole past holds later before delivery e front back set parts own lifted
    known is = by later e
  where
    by : (later : List (Delivery Reading)) → lost ∷ past ≡ later ++ delivery ∷ before
        → HoldsSet script (reverse front) set known
    by [] placed =
        let first : lost ≡ delivery = cc in
        let none : lifted_time anchor before lost ≡ Some set.pts = ap (lifted_time anchor before) first ∙ lifted in
        absurd (cc)
    by (one ∷ more) placed =
        let rest : past ≡ more ++ delivery
        ∷ before = cc in holds more before delivery rest front back set parts own lifted known is

-- behind so many losses the times and the views are as before, and where there are some no epoch is known
pub record Pushed (script : Script) (profile : Profile) (anchor : ℕ) (sets : List PlannedSet)
    (ComesWhole : ℕ → PlannedSet → Type 0) (n : ℕ) (taken : List (Delivery (List ℕ)))
    (past : List (Delivery Reading)) : Type 0 where
  pub now : List (Delivery Reading)
  pub read : AreDeliveriesRead (turned (losts n) taken) now
  pub last : last_time anchor now ≡ last_time anchor past
  pub view : (tick : ℕ) → view_at profile anchor tick now ≡ view_at profile anchor tick past
  pub none : n ≡ 0 → now ≡ past
  pub some : 1 ≤ n → known_epoch profile anchor now ≡ None
  pub holds : HoldsWhole script profile anchor sets ComesWhole now
  pub more : List (Delivery Reading)
  pub over : now ≡ more ++ past

pub push_losts : (script : Script) (profile : Profile) (anchor : ℕ) (sets : List PlannedSet)
    (ComesWhole : ℕ → PlannedSet → Type 0) (n : ℕ) (taken : List (Delivery (List ℕ)))
    (past : List (Delivery Reading)) → AreDeliveriesRead taken past
    → HoldsWhole script profile anchor sets ComesWhole past
    → Pushed script profile anchor sets ComesWhole n taken past
push_losts script profile anchor sets ComesWhole zero taken past read holds =
    record {
      now = past;
      read = read;
      last = refl;
      view = λ tick. refl;
      none = λ e. refl;
      some = λ any. absurd
          (omega arith);
      holds = holds;
      more = [];
      over = refl;
    }
push_losts script profile anchor sets ComesWhole (suc n) taken past read holds =
    let more =
    push_losts script profile anchor sets ComesWhole n (lost ∷ taken) (lost ∷ past) (refl, read)
    (lost_holds script profile anchor sets ComesWhole past holds) in
    record {
      now = more.now;
      read = more.read;
      last = more.last ∙ lost_time anchor past;
      view = λ tick. more.view tick ∙ view_without profile anchor tick past lost refl;
      none = λ e. absurd (omega arith);
      some = λ any. unknown n more.none more.some;
      holds = more.holds;
      more = more.more ++ lost ∷ [];
      over = more.over ∙ sym (append_assoc more.more (lost ∷ []) past);
    }
  where
    unknown : {now : List (Delivery Reading)} (n : ℕ) → (n ≡ 0 → now ≡ lost ∷ past)
        → (1 ≤ n → known_epoch profile anchor now ≡ None) → known_epoch profile anchor now ≡ None
    unknown zero none some = ap (known_epoch profile anchor) (none refl) ∙ lost_known profile anchor past
    unknown (suc n) none some = some (omega arith)

-- ---- units of a set

-- a set of a plan as it is sent and read
pub record SetSent (script : Script) (page : ℕ) (set : PlannedSet) (sent : TimedSet) : Type 0 where
  pub packets : List (List ℕ)
  pub is : IsSentAs script page set packets sent
  pub well : IsPlannedWell set
  pub comes : SetComes script set sent

-- units of a set that are kept at its time
pub record KeptPart (anchor : ℕ) (set : PlannedSet) (one : TimedSet) (past : List (Delivery Reading)) : Type 0 where
  pub delivery : Delivery Reading
  pub is_read : IsDeliveryRead (delivered one) delivery
  pub lifted : lifted_time anchor past delivery ≡ Some set.pts
  pub last : last_time anchor (delivery ∷ past) ≡ Some set.pts

last_is_its : (anchor pts : ℕ) (past : List (Delivery Reading)) (delivery : Delivery Reading)
    → lifted_time anchor past delivery ≡ Some pts → last_time anchor (delivery ∷ past) ≡ Some pts
unfolding last_time
last_is_its anchor pts past delivery lifted = ap (λ found. option_or found (last_time anchor past)) lifted

kept_part : (anchor : ℕ) (set : PlannedSet) (one : TimedSet) (past : List (Delivery Reading)) (last : Option ℕ)
    (readings : List Reading) → one.time ≡ set.pts % TIME_ROUND → AreReadings (all_segments one) readings
    → last_time anchor past ≡ last → IsAheadOf anchor last set.pts
    → set.pts < TICK_LIMIT → KeptPart anchor set one past
kept_part anchor set one past last readings time are before ahead low =
    let delivery : Delivery Reading = whole one.time (size_of_units one.units) readings in
    let lifted : lifted_time anchor past delivery ≡ Some set.pts =
    ap (λ found. lifted_behind anchor found one.time) before ∙ ap (lifted_behind anchor last) time
    ∙ lifted_at anchor last set.pts ahead low in
    record {
      delivery = delivery;
      is_read = (readings, are, refl);
      lifted = lifted;
      last = last_is_its anchor set.pts
          past delivery lifted;
    }

-- the front of segments that are read is read
front_read : (xs ys : List (List ℕ)) (readings : List Reading) → AreReadings (xs ++ ys) readings
    → (some : List Reading) × AreReadings xs some
front_read [] ys readings are = ([], tt)
front_read (x ∷ xs) ys [] are = absurd are
front_read (x ∷ xs) ys (reading ∷ readings) are =
    let more = front_read xs ys readings are.1 in (reading ∷ more.0, (are.0, more.1))

units_read : (p : ℕ) (units : List SetUnit) (readings : List Reading)
    → AreReadings (segments_of_units units) readings → (some : List Reading)
    × AreReadings (segments_of_units (take p units)) some
units_read zero units readings are = ([], tt)
units_read (suc p) [] readings are = ([], tt)
units_read (suc p) (one ∷ units) readings are =
    let first = front_read one.segments (segments_of_units units) readings are in
    let rest = part_read one.segments (segments_of_units units) readings are in
    let more = units_read p units rest.0 rest.1 in
    (first.0 ++ more.0, joined one.segments (segments_of_units (take p units)) first.0 more.0 first.1 more.1)
  where
    joined : (xs ys : List (List ℕ)) (first more : List Reading) → AreReadings xs first → AreReadings ys more
        → AreReadings (xs ++ ys) (first ++ more)
    joined [] ys [] more a b = b
    joined [] ys (reading ∷ first) more a b = absurd a
    joined (x ∷ xs) ys [] more a b = absurd a
    joined (x ∷ xs) ys (reading ∷ first) more a b = (a.0, joined xs ys first more a.1 b)

-- some units of a set without its end are kept
pub open_part : {script : Script} {page : ℕ} {set : PlannedSet} {sent : TimedSet} (anchor k p : ℕ)
    (past : List (Delivery Reading)) (last : Option ℕ) → SetSent script page set sent
    → last_time anchor past ≡ last → IsAheadOf anchor last set.pts → set.pts < TICK_LIMIT
    → KeptPart anchor set (part_of_set k p sent) past
open_part {set = set} {sent = sent} anchor k p past last its before ahead low =
    let rest = rest_read k sent.units its.comes.readings its.comes.are in
    let part = units_read p (drop k sent.units) rest.0 rest.1 in
    kept_part anchor set (part_of_set k p sent) past last part.0 its.comes.time part.1 before ahead low

-- later units of a set are kept, and broken: no epoch is known behind them
pub record BrokenPart (profile : Profile) (anchor : ℕ) (set : PlannedSet) (one : TimedSet)
    (past : List (Delivery Reading)) : Type 0 where
  pub kept : KeptPart anchor set one past
  pub unknown : known_epoch profile anchor (kept.delivery ∷ past) ≡ None

pub later_part : {script : Script} {page : ℕ} {set : PlannedSet} {sent : TimedSet} (profile : Profile)
    (anchor k : ℕ) (past : List (Delivery Reading)) (last : Option ℕ) → 1 ≤ k → SetSent script page set sent
    → last_time anchor past ≡ last → IsAheadOf anchor last set.pts
    → set.pts < TICK_LIMIT → BrokenPart profile anchor set (rest_of_set k sent) past
unfolding last_time kept_part
later_part {script = script} {page = page} {set = set} {sent = sent} profile anchor k past last some its before ahead
    low =
    let rest = rest_read k sent.units its.comes.readings its.comes.are in
    let part = kept_part anchor set (rest_of_set k sent) past last rest.0 its.comes.time rest.1 before ahead low in
    let broken =
    rest_is_broken profile script page set its.packets sent its.is its.well k some (sets_since profile anchor past)
    rest.0 rest.1 in
    let size = size_of_units (drop k sent.units) in
    let is = verdict_is profile anchor set.pts past sent.time size rest.0 (Broken NoPage) part.lifted broken in
    record {
      kept = part;
      unknown = ap epoch_of (sets_are profile anchor past part.delivery (Broken NoPage) is)
          ∙ none_known;
    }
