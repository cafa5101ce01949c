-- What is used of the sets of a compiled stream of which some packets are lost.
use Rattle.std.proofs.Common.{◌≡◌, ◌∙◌, ℕ, suc, ◌+◌, ◌<◌, ◌≤◌, Bool, true, List, [], ◌∷◌, ◌++◌, length, take, drop, get_or, reverse, None, Some, refl, sym, ap, subst, arith, length-append}
use Rattle.std.specs.Prelude.{slice_get}
use Rattle.std.specs.List.{AllByRecursion, AllZip}
use Rattle.std.specs.List.Sorted.{IsStrictlyIncreasing}
use Rattle.std.proofs.Math.Seq.{take-append_seam, drop-append_seam}
use Rattle.std.proofs.lemmas.Grind.{flat_map-append}
use Rattle.std.proofs.lemmas.List.{drop-drop, length-drop, reverse-append}
use Rattle.sub_base.specs.declared.profile.Profile.{Profile}
use Rattle.stream_syntax.specs.Cutting.{IsUnit}
use Rattle.cue_list.specs.Sound.{IsTick}
use Rattle.cue_list.specs.declared.script.Script.{Script}
use Rattle.page_epoch.specs.declared.planned_set.PlannedSet.{PlannedSet}
use Rattle.decoder_model.specs.Frames.{only}
use Rattle.shown_stream.specs.Compiled.{all_units}
use Rattle.slot_stream.specs.SlotStream.{pieces_of, all_pieces}
use Rattle.shown_stream.proofs.Shown.ComingSets.{SetComes}
use Rattle.shown_stream.proofs.Sent.CompiledSets.{AreSentAs}
use Rattle.shown_stream.proofs.Late.LatePlaces.{same_many}
use Rattle.shown_stream.proofs.Late.LateRest.{IsPlannedWell}
use Rattle.shown_stream.proofs.Lost.LostKept.{NoneBefore}
use Rattle.shown_stream.proofs.Lost.LostPlaces.{all_of, some_of, all_whole, some_whole, whole-append, length-whole}
use Rattle.shown_stream.proofs.Lost.LostUnits.{come_whole}
use Rattle.shown_stream.proofs.Lost.LostViews.{AreFit}
use Rattle.shown_stream.proofs.Lost.LostWalk.{IsFit}
use Rattle.shown_stream.proofs.Sent.PlannedOrder.{rest_rises, all_above}
use Rattle.shown_stream.proofs.Sent.PlannedTimes.{pts_of}
use Rattle.shown_stream.proofs.Shown.ShownSets.{IsAheadOf}
use Rattle.stream_syntax.specs.declared.wire.TheConstants.{TIME_ROUND}
use Rattle.sent_sets.proofs.Runs.{HaveDifferentTimes}
use Rattle.sent_sets.proofs.Units.{TimedSet, IsTimedSet}

-- the flags of the pieces of a set, among those of the pieces of all that are left
abbrev pub flags_at : List (List (List ℕ)) → List Bool → ℕ → List Bool
flags_at units flags n =
    take (length (all_pieces (get_or units n []))) (drop (length (all_pieces (all_units (take n units)))) flags)

-- all later times are above that of the first
pub above_first : (time : ℕ) (left : List PlannedSet) → IsStrictlyIncreasing (time ∷ pts_of left)
    → AllByRecursion (λ later. time < later) (pts_of left)
above_first time [] rise = tt
above_first time (set ∷ left) rise =
    let first : time < set.pts = rise 0 (omega arith) in
    (first, by left (all_above set.pts (pts_of left) (rest_rises time (pts_of (set ∷ left)) rise)) first)
  where
    by : (left : List PlannedSet) → AllByRecursion (λ later. set.pts ≤ later) (pts_of left) → time < set.pts
        → AllByRecursion (λ later. time < later) (pts_of left)
    by [] h first = tt
    by (other ∷ left) h first = let here = h.0 in (omega arith, by left h.1 first)

module _ (script : Script) (profile : Profile) (anchor origin page : ℕ) (sets : List PlannedSet)
    (ComesWhole : ℕ → PlannedSet → Type 0) where
  -- what is said of each set that is left, by its number among these
  pub record AreTold (number : ℕ) (left : List PlannedSet) (units : List (List (List ℕ)))
      (flags : List Bool) : Type 0 where
    pub well : (n : ℕ) (set : PlannedSet) → slice_get left n ≡ Some set → IsPlannedWell set
    pub whole : (n : ℕ) (set : PlannedSet) → slice_get left n ≡ Some set → ComesWhole (number + n) set
        → all_of (flags_at units flags n) ≡ true
    pub suits : (n : ℕ) (set : PlannedSet) → slice_get left n ≡ Some set
        → some_of (flags_at units flags n) ≡ true → NoneBefore ComesWhole sets (number + n)
        → IsAheadOf anchor None set.pts

  pub are_fit : (number : ℕ) (plan left : List PlannedSet) (units : List (List (List ℕ))) (sent : List TimedSet)
      (flags : List Bool) → origin < TIME_ROUND → length (reverse plan) ≡ number
      → AreSentAs script page left units sent → AllZip (SetComes script) left sent
      → AllByRecursion (IsTimedSet profile.coded (only page)) sent
      → AllByRecursion (λ (one : TimedSet). 1 ≤ length one.units) sent → HaveDifferentTimes sent
      → AllByRecursion (IsTick origin) (pts_of left) → IsStrictlyIncreasing (pts_of left)
      → AllByRecursion (IsUnit profile.coded) (all_units units)
      → length (all_pieces (all_units units)) ≤ length flags → AreTold number left units flags
      → AreFit script profile anchor origin page sets ComesWhole plan left sent
      (come_whole profile.coded (only page) (all_units units) flags)
  are_fit number plan [] [] [] flags low many are come timed some apart within rise whole long told = tt
  are_fit number plan [] [] (one ∷ sent) flags low many are come timed some apart within rise whole long told =
      absurd are
  are_fit number plan [] (packets ∷ units) sent flags low many are come timed some apart within rise whole long told =
      absurd are
  are_fit number plan (set ∷ left) [] sent flags low many are come timed some apart within rise whole long told =
      absurd are
  are_fit number plan (set ∷ left) (packets ∷ units) [] flags low many are come timed some apart within rise whole
      long told = absurd are
  are_fit number plan (set ∷ left) (packets ∷ units) (one ∷ sent) flags low many are come timed some apart within
      rise whole long told = (
        fit,
        subst (AreFit script profile anchor origin page sets ComesWhole (set ∷ plan) left sent) (sym dropped)
            (are_fit (number + 1) (set ∷ plan) left units sent (drop count flags) low
            (ap length (reverse-append (set ∷ []) plan)
            ∙ omega (arith, length-append (reverse plan) (set ∷ []), many)) are.1 come.1 timed.1 some.1 apart.1
            within.1
            (rest_rises set.pts (pts_of left) rise) units_are.1 (omega (arith, long, total, length-drop count flags))
            rest),
      )
    where
      count : ℕ
      count = length (all_pieces packets)

      total : length (all_pieces (packets ++ all_units units)) ≡ count + length (all_pieces (all_units units))
      total =
          ap length (flat_map-append pieces_of packets (all_units units))
          ∙ length-append (all_pieces packets) (all_pieces (all_units units))

      units_are : AllByRecursion (IsUnit profile.coded) packets
          × AllByRecursion (IsUnit profile.coded) (all_units units)
      units_are = parts packets whole
        where
          parts : (xs : List (List ℕ)) → AllByRecursion (IsUnit profile.coded) (xs ++ all_units units)
              → AllByRecursion (IsUnit profile.coded) xs × AllByRecursion (IsUnit profile.coded) (all_units units)
          parts [] h = (tt, h)
          parts (x ∷ xs) h = let more = parts xs h.1 in ((h.0, more.0), more.1)

      all : come_whole profile.coded (only page) (packets ++ all_units units) flags
          ≡ come_whole profile.coded (only page) packets flags
          ++ come_whole profile.coded (only page) (all_units units) (drop count flags)
      all = whole-append profile.coded page packets (all_units units) flags

      size : length one.units ≡ length (come_whole profile.coded (only page) packets flags)
      size = same_many script page set packets one are.0 ∙ sym (length-whole profile.coded page packets flags)

      dropped : drop (length one.units) (come_whole profile.coded (only page) (packets ++ all_units units) flags)
          ≡ come_whole profile.coded (only page) (all_units units) (drop count flags)
      dropped =
          (λ i. drop (size i) (all i))
          ∙ drop-append_seam (come_whole profile.coded (only page) packets flags)
          (come_whole profile.coded (only page) (all_units units) (drop count flags))

      taken : take (length one.units) (come_whole profile.coded (only page) (packets ++ all_units units) flags)
          ≡ come_whole profile.coded (only page) packets flags
      taken =
          (λ i. take (size i) (all i))
          ∙ take-append_seam (come_whole profile.coded (only page) packets flags)
          (come_whole profile.coded (only page) (all_units units) (drop count flags))

      fit : IsFit script profile anchor origin page sets ComesWhole plan left set one sent
          (come_whole profile.coded (only page) (packets ++ all_units units) flags)
      fit = record {
        its = record { packets = packets; is = are.0; well = told.well 0 set refl; comes = come.0 };
        timed = timed.0;
        any = some.0;
        apart = apart.0;
        some = some.1;
        within = within.0;
        above = above_first set.pts left rise;
        low = (let early = within.0.early in omega (arith, early, low));
        suits =
            λ e none. told.suits 0 set refl
            (some_whole profile.coded page packets flags units_are.0 (omega (arith, long, total))
            (sym (ap some_of taken) ∙ e)) (λ i one before. none i one (omega (arith, before, many)));
        told =
            λ own. ap all_of taken
            ∙ all_whole profile.coded page packets flags
            (told.whole 0 set refl (subst (λ (n : ℕ). ComesWhole n set) (many ∙ omega arith) own));
      }

      behind : (n : ℕ) → flags_at (packets ∷ units) flags (suc n) ≡ flags_at units (drop count flags) n
      behind n =
          let split : length (all_pieces (packets ++ all_units (take n units)))
          ≡ count + length (all_pieces (all_units (take n units))) =
          ap length (flat_map-append pieces_of packets (all_units (take n units)))
          ∙ length-append (all_pieces packets) (all_pieces (all_units (take n units))) in
          ap (take (length (all_pieces (get_or units n []))))
          (ap (λ k. drop k flags) split
          ∙ sym (drop-drop (length (all_pieces (all_units (take n units)))) count flags))

      rest : AreTold (number + 1) left units (drop count flags)
      rest = record {
        well = λ n other found. told.well (suc n) other found;
        whole =
            λ n other found own. ap all_of (sym (behind n))
            ∙ told.whole (suc n) other found (subst (λ (k : ℕ). ComesWhole k other) (omega arith) own);
        suits =
            λ n other found e none. told.suits (suc n) other found (ap some_of (behind n) ∙ e)
            (λ i one before. none i one (omega (arith, before)));
      }
