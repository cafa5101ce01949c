-- The sets of a stream of which some packets are lost: those that come whole, later units of others, and losses.
use Rattle.std.proofs.Common.{◌≡◌, ◌∙◌, ℕ, suc, ◌+◌, ◌<◌, ◌≤◌, ◌⊎◌, inl, inr, Bool, true, false, cond, List, [], ◌∷◌, ◌++◌, length, map, take, drop, Some, None, refl, sym, ap, subst, arith, length-drop}
use Rattle.std.specs.Prelude.{find}
use Rattle.std.specs.Bool.{if◌then◌else◌}
use Rattle.std.specs.List.{AllByRecursion, AllZip, sum_by}
use Rattle.std.specs.Option.{option_map}
use Rattle.std.proofs.lemmas.List.{drop-drop, length-map}
use Rattle.sub_base.specs.Lists.{prefixes}
use Rattle.stream_syntax.specs.DataField.{Frame, segment}
use Rattle.decoder_model.specs.declared.pages.Pages.{Pages}
use Rattle.decoder_model.specs.Arrivals.{PesUnit, Arrival, loss, unit}
use Rattle.decoder_model.specs.Frames.{segments_in}
use Rattle.decoder_model.specs.Sets.{Stretch, loss_between, run, runs_of, joined_to, Delivery, whole, is_ended, frames_in, size_in, is_followed, set_of, sets_in}
use Rattle.decoder_model.proofs.Lists.{find-map}
use Rattle.shown_stream.proofs.Lost.LostKinds.{Kind, Fresh, Joined, Apart, Steps, no_step, more_steps, missed_from, losses, losses-add, Arrive, one_arrives, one_missed, lost_before}
use Rattle.sent_sets.proofs.LateSets.{rest_of_set, rest_is_set}
use Rattle.sent_sets.proofs.Runs.{IsApart, IsPlaced, first_time, run_frames, run_size}
use Rattle.sent_sets.proofs.SetEnds.{delivered, none_ends, front_bytes, front_not_ended, segments_are}
use Rattle.sent_sets.proofs.SetsCome.{handed_whole}
use Rattle.sent_sets.proofs.Units.{SetUnit, TimedSet, TimedUnit, timed, timed_units, segments_of_units, IsTimedSet, unit_of}
use Rattle.shown_stream.proofs.Lost.LostStretches.{missed_step, count_before, join_step, losts, losts-add, lose_first, before_is, AllFalse, gap_led, part_of_set, all_come, some_come, none_left, Bound, MissedOut, goes_by, stays_open, lose_more, from_apart, weaken, IsOther, joins, next_other, GroupEnds, group_all, group_part, Group, Suffix}

module _ (coded : ℕ) (pages : Pages) where
  -- ---- a run that is not ended

  none_found : (test : List Frame → Bool) (frames : List Frame)
      → ((k : ℕ) → test (take (suc k) frames) ≡ false) → find test (prefixes frames) ≡ None
  none_found test [] h = refl
  none_found test (frame ∷ frames) h =
      ap (λ passes. cond passes (Some (frame ∷ []))
      (find test (map (λ (front : List Frame). frame ∷ front) (prefixes frames)))) (h 0)
      ∙ find-map test (λ (front : List Frame). frame ∷ front) (prefixes frames)
      ∙ ap (option_map (λ (front : List Frame). frame ∷ front))
      (none_found (λ front. test (frame ∷ front)) frames (λ k. h (suc k)))

  -- units of a set without its end are handed on where the stream ends behind them, and dropped where a loss follows
  handed_open : (set : TimedSet) (k p : ℕ) (first : PesUnit) (more : List PesUnit) (followed : Bool)
      → IsTimedSet coded pages set → k + p < length set.units
      → AllZip (IsPlaced set.time) (first ∷ more) (take p (drop k set.units))
      → set_of coded first.time (first ∷ more) followed
      (find (is_ended coded) (prefixes (frames_in (first ∷ more))))
      ≡ (if followed then delivered (part_of_set k p set) ∷ [] else [])
  handed_open set k p first more followed is within placed =
      let inside : k < length set.units = omega (arith, within) in
      let rest = rest_is_set coded pages k set is inside in
      let segments = segments_of_units (take p (drop k set.units)) in
      let fits = rest.fits in
      let before = none_ends pages (drop k set.units) p rest.units (omega (arith, within, length-drop k set.units)) in
      let small : sum_by length segments ≤ coded = omega (arith, fits, front_bytes (drop k set.units) p) in
      let frames = run_frames set.time (first ∷ more) (take p (drop k set.units)) placed in
      ap (λ all. set_of coded first.time (first ∷ more) followed (find (is_ended coded) (prefixes all))) frames
      ∙ ap (set_of coded first.time (first ∷ more) followed)
      (none_found (is_ended coded) (map segment segments)
      (λ n. front_not_ended coded pages segments (suc n) before small))
      ∙ ap (λ all. if followed then whole first.time (size_in (first ∷ more)) (segments_in all) ∷ [] else [])
      frames
      ∙ (λ i. if followed
      then whole (first_time set.time first more (take p (drop k set.units)) placed i)
      (run_size set.time (first ∷ more) (take p (drop k set.units)) placed i) (segments_are segments i) ∷ []
      else [])

  -- what is handed on of a run of units of a set without its end, and of what stands behind it
  open_out : (kind : Kind) (set : TimedSet) (k p : ℕ) (sets : List TimedSet) (come : List Bool) (first : PesUnit)
      (more : List PesUnit) (behind : List Stretch) → IsTimedSet coded pages set → k + p < length set.units
      → AllZip (IsPlaced set.time) (first ∷ more) (take p (drop k set.units))
      → ((behind ≡ []) × Arrive Apart (timed_units sets) come [])
      ⊎ ((rest : List Stretch) × (behind ≡ loss_between ∷ rest))
      → MissedOut coded pages Apart set sets come (sets_in coded true behind)
      → MissedOut coded pages (missed_from kind) set sets come (sets_in coded true (run first more ∷ behind))
  open_out kind set k p sets come first more behind is within placed (inl none) out =
      stays_open 0 k p none.1 (
      ap (λ front. front ++ sets_in coded true behind)
      (handed_open set k p first more (is_followed true behind) is within placed)
      ∙ ap (λ all. (if is_followed true all then delivered (part_of_set k p set) ∷ [] else [])
      ++ sets_in coded true all) none.0)
  open_out kind set k p sets come first more behind is within placed (inr some) out =
      let same : sets_in coded true (run first more ∷ behind) ≡ sets_in coded true behind =
      ap (λ front. front ++ sets_in coded true behind)
      (handed_open set k p first more (is_followed true behind) is within placed)
      ∙ ap (λ all. (if is_followed true all then delivered (part_of_set k p set) ∷ [] else [])
      ++ sets_in coded true behind) some.1 in
      subst (MissedOut coded pages (missed_from kind) set sets come) (sym same)
      (from_apart coded pages kind set sets come (sets_in coded true behind) out)

  -- a unit of a set, and those behind it
  suffix : (set : TimedSet) (k : ℕ) (units : List SetUnit) (sets : List TimedSet) (come : List Bool)
      → IsTimedSet coded pages set → IsApart set.time sets
      → AllByRecursion (λ (one : TimedSet). 1 ≤ length one.units) sets → 1 ≤ k → units ≡ drop k set.units
      → Suffix coded pages set units sets come
  suffix set k [] sets come is apart some first are = (
    λ arrivals
        arrive. record {
          found = [];
          behind = runs_of arrivals;
          are = refl;
          other = next_other coded pages set.time sets come
              arrivals apart some arrive;
          ends = group_all refl tt
              (record { arrivals = arrivals; arrive = arrive; are = refl });
        },
    λ kind arrivals arrive. goes_by kind 0 [] (sets_in coded true (runs_of arrivals)) (no_step kind) tt
        (record { arrivals = arrivals; arrive = arrive; are = refl }) refl,
  )
  suffix set k (one ∷ units) sets [] is apart some first are =
      (λ arrivals arrive. elim arrive [ ], λ kind arrivals arrive. elim arrive [ ])
  suffix set k (one ∷ units) sets (come ∷ more) is apart some first are =
      by come (suffix set (suc k) units sets more is apart some (omega arith)
      (next_units k (one ∷ units) set.units are))
    where
      next_units : (k : ℕ) (units all : List SetUnit) → units ≡ drop k all → drop 1 units ≡ drop (suc k) all
      next_units k units all e =
          let same : k + 1 ≡ suc k = omega arith in ap (drop 1) e ∙ drop-drop 1 k all ∙ ap (λ n. drop n all) same

      inside : k < length set.units
      inside = omega (arith, ap length are, length-drop k set.units)

      many : suc (length units) + k ≡ length set.units
      many = omega (arith, ap length are, length-drop k set.units)

      by : (come : Bool) → Suffix coded pages set units sets more
          → Suffix coded pages set (one ∷ units) sets (come ∷ more)
      by true behind = (grouped, out)
        where
          grouped : (arrivals : List Arrival)
              → Arrive Joined (timed set.time one ∷ (map (timed set.time) units ++ timed_units sets))
              (true ∷ more) arrivals → Group coded pages set (one ∷ units) sets (true ∷ more) (runs_of arrivals)
          grouped arrivals (one_arrives {arrivals = left} place rest) =
              let group = behind.0 left rest in
              by_ends group group.ends
            where
              by_ends : (group : Group coded pages set units sets more (runs_of left))
                  → GroupEnds coded pages set units sets more group.found group.behind
                  → Group coded pages set (one ∷ units) sets (true ∷ more)
                  (joined_to (unit_of place set.time one) (runs_of left))
              by_ends group (group_all all placed bound) = record {
                found = unit_of place set.time one ∷ group.found;
                behind = group.behind;
                are =
                    ap (joined_to (unit_of place set.time one)) group.are
                    ∙ joins coded pages place set.time one group.found units group.behind placed group.other;
                other = group.other;
                ends = group_all all ((place, refl), placed) bound;
              }
              by_ends group (group_part p within all placed led out) = record {
                found = unit_of place set.time one ∷ group.found;
                behind = group.behind;
                are =
                    ap (joined_to (unit_of place set.time one)) group.are
                    ∙ joins coded pages place set.time one group.found (take p units) group.behind placed group.other;
                other = group.other;
                ends = group_part (suc p) (omega (arith, within)) all ((place, refl), placed) led out;
              }

          out : (kind : Kind) (arrivals : List Arrival)
              → Arrive kind (timed set.time one ∷ (map (timed set.time) units ++ timed_units sets)) (true ∷ more)
              arrivals → MissedOut coded pages kind set sets (drop (length units) more)
              (sets_in coded true (runs_of arrivals))
          out kind arrivals (one_arrives {arrivals = left} place rest) =
              let group = behind.0 left rest in
              subst (MissedOut coded pages kind set sets (drop (length units) more))
              (sym (ap (λ all. sets_in coded true (runs_of all))
              (before_is kind (unit (unit_of place set.time one) ∷ left))
              ∙ lose_first coded (count_before kind) (unit (unit_of place set.time one) ∷ left)))
              (lose_more coded pages kind Joined (count_before kind) set sets (drop (length units) more)
              (sets_in coded true (joined_to (unit_of place set.time one) (runs_of left))) (join_step kind)
              (by_ends group group.ends))
            where
              by_ends : (group : Group coded pages set units sets more (runs_of left))
                  → GroupEnds coded pages set units sets more group.found group.behind
                  → MissedOut coded pages Joined set sets (drop (length units) more)
                  (sets_in coded true (joined_to (unit_of place set.time one) (runs_of left)))
              by_ends group (group_all all placed bound) =
                  let runs =
                  ap (joined_to (unit_of place set.time one)) group.are
                  ∙ joins coded pages place set.time one group.found units group.behind placed group.other in
                  let mine : AllZip (IsPlaced set.time) (unit_of place set.time one ∷ group.found)
                  (drop k set.units) =
                  subst (AllZip (IsPlaced set.time) (unit_of place set.time one ∷ group.found)) are
                  ((place, refl), placed) in
                  goes_by Joined 0 (rest_of_set k set ∷ []) (sets_in coded true group.behind) tt
                  (k, refl, first, inside, refl) bound
                  (ap (sets_in coded true) runs
                  ∙ ap (λ front. front ++ sets_in coded true group.behind)
                  (handed_whole coded pages (rest_of_set k set) (unit_of place set.time one) group.found
                  (is_followed true group.behind) (rest_is_set coded pages k set is inside) mine))
              by_ends group (group_part p within all placed led out) =
                  let runs =
                  ap (joined_to (unit_of place set.time one)) group.are
                  ∙ joins coded pages place set.time one group.found (take p units) group.behind placed group.other in
                  let mine : AllZip (IsPlaced set.time) (unit_of place set.time one ∷ group.found)
                  (take (suc p) (drop k set.units)) = subst
                  (λ (its : List SetUnit). AllZip (IsPlaced set.time) (unit_of place set.time one ∷ group.found)
                  (take (suc p) its)) are ((place, refl), placed) in
                  subst (MissedOut coded pages Joined set sets (drop (length units) more))
                  (sym (ap (sets_in coded true) runs))
                  (weaken coded pages Joined set sets (drop (length units) more)
                  (sets_in coded true (run (unit_of place set.time one) group.found ∷ group.behind))
                  (open_out Joined set k (suc p) sets (drop (length units) more) (unit_of place set.time one)
                  group.found group.behind is (omega (arith, many, within)) mine led out))
      by false behind = (grouped, out)
        where
          missed : (kind : Kind) (arrivals : List Arrival)
              → Arrive kind (timed set.time one ∷ (map (timed set.time) units ++ timed_units sets)) (false ∷ more)
              arrivals → MissedOut coded pages (missed_from kind) set sets (drop (length units) more)
              (sets_in coded true (runs_of arrivals))
          missed kind arrivals (one_missed {next = next} {arrivals = left} count steps rest) =
              subst (MissedOut coded pages (missed_from kind) set sets (drop (length units) more))
              (sym (lose_first coded count left))
              (lose_more coded pages (missed_from kind) next count set sets (drop (length units) more)
              (sets_in coded true (runs_of left)) steps (behind.1 next left rest))

          out : (kind : Kind) (arrivals : List Arrival)
              → Arrive kind (timed set.time one ∷ (map (timed set.time) units ++ timed_units sets)) (false ∷ more)
              arrivals → MissedOut coded pages kind set sets (drop (length units) more)
              (sets_in coded true (runs_of arrivals))
          out kind arrivals arrive =
              weaken coded pages kind set sets (drop (length units) more) (sets_in coded true (runs_of arrivals))
              (missed kind arrivals arrive)

          led : (arrivals : List Arrival)
              → Arrive Joined (timed set.time one ∷ (map (timed set.time) units ++ timed_units sets))
              (false ∷ more) arrivals
              → ((runs_of arrivals ≡ []) × Arrive Apart (timed_units sets) (drop (length units) more) [])
              ⊎ ((rest : List Stretch) × (runs_of arrivals ≡ loss_between ∷ rest))
          led arrivals (one_missed {arrivals = left} count steps rest) = told
              (gap_led (false ∷ more) (losses count ++ left) (one_missed {one = timed set.time one} count steps rest))
            where
              told : ((losses count ++ left ≡ []) × AllFalse (false ∷ more))
                  ⊎ ((rest : List Arrival) × (losses count ++ left ≡ loss ∷ rest))
                  → ((runs_of (losses count ++ left) ≡ [])
                  × Arrive Apart (timed_units sets) (drop (length units) more) [])
                  ⊎ ((rest : List Stretch) × (runs_of (losses count ++ left) ≡ loss_between ∷ rest))
              told (inl none) =
                  let same : length (map (timed set.time) units) ≡ length units = length-map units (timed set.time) in
                  inl (
                    ap runs_of none.0,
                    subst (λ (n : ℕ). Arrive Apart (timed_units sets) (drop n more) []) same
                        (none_left (timed set.time one ∷ map (timed set.time) units) (timed_units sets)
                        (false ∷ more)
                        (losses count ++ left) (one_missed {one = timed set.time one} count steps rest) none.0),
                  )
              told (inr more_of) = inr (runs_of more_of.0, ap runs_of more_of.1)

          grouped : (arrivals : List Arrival)
              → Arrive Joined (timed set.time one ∷ (map (timed set.time) units ++ timed_units sets))
              (false ∷ more) arrivals
              → Group coded pages set (one ∷ units) sets (false ∷ more) (runs_of arrivals)
          grouped arrivals arrive = record {
            found = [];
            behind = runs_of arrivals;
            are = refl;
            other = led_is (led arrivals arrive);
            ends = group_part 0 (omega arith) refl tt (led arrivals arrive) (missed Joined arrivals arrive);
          }
            where
              led_is : ((runs_of arrivals ≡ []) × Arrive Apart (timed_units sets) (drop (length units) more) [])
                  ⊎ ((rest : List Stretch) × (runs_of arrivals ≡ loss_between ∷ rest))
                  → IsOther coded pages set.time (runs_of arrivals)
              led_is (inl none) = subst (IsOther coded pages set.time) (sym none.0) tt
              led_is (inr some) = subst (IsOther coded pages set.time) (sym some.1) tt

  -- ---- sets

  -- what is handed of a set and those behind it: the set, where it comes whole, and else what is handed of it
  pub data SetOut (kind : Kind) (set : TimedSet) (sets : List TimedSet) (come : List Bool)
      (deliveries : List (Delivery (List ℕ))) : Bool → Type 0 where
    set_whole : (left : List (Delivery (List ℕ))) → Bound coded pages Joined sets come left
        → deliveries ≡ losts (count_before kind) ++ delivered set ∷ left
        → SetOut kind set sets come deliveries true
    set_missed : MissedOut coded pages (missed_from kind) set sets come deliveries
        → SetOut kind set sets come deliveries false

  pub set_out : (kind : Kind) (set : TimedSet) (sets : List TimedSet) (come : List Bool)
      (left : List (Delivery (List ℕ))) → IsTimedSet coded pages set → 1 ≤ length set.units
      → IsApart set.time sets → AllByRecursion (λ (one : TimedSet). 1 ≤ length one.units) sets
      → Bound coded pages kind (set ∷ sets) come left
      → SetOut kind set sets (drop (length set.units) come) left (all_come (length set.units) come)
  set_out kind set sets come left is any apart some bound =
      subst (λ (all : List (Delivery (List ℕ))). SetOut kind set sets (drop (length set.units) come) all
      (all_come (length set.units) come)) (sym bound.are) (by set.units refl come bound.arrivals any bound.arrive)
    where
      Out : List SetUnit → List Bool → List Arrival → Type 0
      Out units come arrivals =
          SetOut kind set sets (drop (length units) come) (sets_in coded true (runs_of arrivals))
          (all_come (length units) come)

      by : (units : List SetUnit) → set.units ≡ units → (come : List Bool) (arrivals : List Arrival)
          → 1 ≤ length units → Arrive kind (map (timed set.time) units ++ timed_units sets) come arrivals
          → SetOut kind set sets (drop (length units) come) (sets_in coded true (runs_of arrivals))
          (all_come (length units) come)
      by [] same come arrivals any arrive = absurd (omega arith)
      by (one ∷ units) same [] arrivals any arrive = elim arrive [ ]
      by (one ∷ units) same (false ∷ more) arrivals any
          (one_missed {next = next} {arrivals = left} count steps rest) =
          let behind = suffix set 1 units sets more is apart some (omega arith) (sym (ap (drop 1) same)) in
          set_missed
          (subst (MissedOut coded pages (missed_from kind) set sets (drop (length units) more))
          (sym (lose_first coded count left))
          (lose_more coded pages (missed_from kind) next count set sets (drop (length units) more)
          (sets_in coded true (runs_of left)) steps (behind.1 next left rest)))
      by (one ∷ units) same (true ∷ more) arrivals any (one_arrives {arrivals = left} place rest) =
          let group = (suffix set 1 units sets more is apart some (omega arith) (sym (ap (drop 1) same))).0 left rest in
          by_ends group group.ends
        where
          first : PesUnit
          first = unit_of place set.time one

          lost_first : sets_in coded true (runs_of (lost_before kind ++ unit first ∷ left))
              ≡ losts (count_before kind) ++ sets_in coded true (joined_to first (runs_of left))
          lost_first =
              ap (λ all. sets_in coded true (runs_of all)) (before_is kind (unit first ∷ left))
              ∙ lose_first coded (count_before kind) (unit first ∷ left)

          lost_out : (before : Kind) (deliveries : List (Delivery (List ℕ)))
              → MissedOut coded pages Apart set sets (drop (length units) more) deliveries
              → MissedOut coded pages (missed_from before) set sets (drop (length units) more)
              (losts (count_before before) ++ deliveries)
          lost_out Fresh deliveries out =
              from_apart coded pages Fresh set sets (drop (length units) more) deliveries out
          lost_out Joined deliveries out = out
          lost_out Apart deliveries out =
              lose_more coded pages Apart Apart 1 set sets (drop (length units) more) deliveries tt out

          by_ends : (group : Group coded pages set units sets more (runs_of left))
              → GroupEnds coded pages set units sets more group.found group.behind
              → SetOut kind set sets (drop (length units) more)
              (sets_in coded true (runs_of (lost_before kind ++ unit first ∷ left)))
              (all_come (length units) more)
          by_ends group (group_all all placed bound) =
              let runs =
              ap (joined_to first) group.are
              ∙ joins coded pages place set.time one group.found units group.behind placed group.other in
              let mine : AllZip (IsPlaced set.time) (first ∷ group.found) set.units =
              subst (AllZip (IsPlaced set.time) (first ∷ group.found)) (sym same) ((place, refl), placed) in
              subst (SetOut kind set sets (drop (length units) more)
              (sets_in coded true (runs_of (lost_before kind ++ unit first ∷ left)))) (sym all)
              (set_whole (sets_in coded true group.behind) bound (lost_first
              ∙ ap (λ rest. losts (count_before kind) ++ rest)
              (ap (sets_in coded true) runs
              ∙ ap (λ front. front ++ sets_in coded true group.behind)
              (handed_whole coded pages set first group.found (is_followed true group.behind) is mine))))
          by_ends group (group_part p within all placed led out) =
              let runs =
              ap (joined_to first) group.are
              ∙ joins coded pages place set.time one group.found (take p units) group.behind placed group.other in
              let mine : AllZip (IsPlaced set.time) (first ∷ group.found) (take (suc p) (drop 0 set.units)) =
              subst (λ (its : List SetUnit). AllZip (IsPlaced set.time) (first ∷ group.found) (take (suc p) its))
              (sym same) ((place, refl), placed) in
              let many : length set.units ≡ suc (length units) = ap length same in
              subst (SetOut kind set sets (drop (length units) more)
              (sets_in coded true (runs_of (lost_before kind ++ unit first ∷ left)))) (sym all)
              (set_missed
              (subst (MissedOut coded pages (missed_from kind) set sets (drop (length units) more))
              (sym (lost_first ∙ ap (λ rest. losts (count_before kind) ++ rest) (ap (sets_in coded true) runs)))
              (lost_out kind (sets_in coded true (run first group.found ∷ group.behind))
              (open_out Joined set 0 (suc p) sets (drop (length units) more) first group.found group.behind is
              (omega (arith, many, within)) mine led out))))

  -- ---- sets of which nothing comes

  -- of units of which none comes whole there are losses alone
  record NoneOut (kind : Kind) (more : List TimedUnit) (come : List Bool) (arrivals : List Arrival) : Type 0 where
    next : Kind
    count : ℕ
    left : List Arrival
    steps : Steps kind count next
    arrive : Arrive next more come left
    are : arrivals ≡ losses count ++ left

  none_out : (kind : Kind) (time : ℕ) (units : List SetUnit) (more : List TimedUnit) (come : List Bool)
      (arrivals : List Arrival) → some_come (length units) come ≡ false
      → Arrive kind (map (timed time) units ++ more) come arrivals
      → NoneOut kind more (drop (length units) come) arrivals
  none_out kind time [] more come arrivals none arrive =
      record { next = kind; count = 0; left = arrivals; steps = no_step kind; arrive = arrive; are = refl }
  none_out kind time (one ∷ units) more [] arrivals none arrive = elim arrive [ ]
  none_out kind time (one ∷ units) more (true ∷ come) arrivals none (one_arrives place rest) =
      absurd (let no : true ≡ false = none in cc)
  none_out kind time (one ∷ units) more (false ∷ come) arrivals none
      (one_missed {next = next} {arrivals = left} count steps rest) =
      let behind = none_out next time units more come left none rest in
      record {
        next = behind.next;
        count = count + behind.count;
        left = behind.left;
        steps = more_steps kind next behind.next count behind.count (missed_step kind next count steps) behind.steps;
        arrive = behind.arrive;
        are = ap (λ all. losses count ++ all) behind.are ∙ losses-add count behind.count behind.left;
      }

  -- what is handed of a set of which no unit comes whole
  pub record NothingOut (kind : Kind) (set : TimedSet) (sets : List TimedSet) (come : List Bool)
      (deliveries : List (Delivery (List ℕ))) : Type 0 where
    pub next : Kind
    pub n : ℕ
    pub left : List (Delivery (List ℕ))
    pub steps : Steps (missed_from kind) n next
    pub bound : Bound coded pages next sets (drop (length set.units) come) left
    pub are : deliveries ≡ losts n ++ left
    pub not_all : all_come (length set.units) come ≡ false

  pub nothing_out : (kind : Kind) (set : TimedSet) (sets : List TimedSet) (come : List Bool)
      (left : List (Delivery (List ℕ))) → 1 ≤ length set.units → some_come (length set.units) come ≡ false
      → Bound coded pages kind (set ∷ sets) come left → NothingOut kind set sets come left
  nothing_out kind set sets come left any none bound =
      by set.units refl any come bound.arrivals none bound.arrive bound.are
    where
      by : (units : List SetUnit) → set.units ≡ units → 1 ≤ length units
          → (come : List Bool) (arrivals : List Arrival) → some_come (length units) come ≡ false
          → Arrive kind (map (timed set.time) units ++ timed_units sets) come arrivals
          → left ≡ sets_in coded true (runs_of arrivals) → NothingOut kind set sets come left
      by [] same any come arrivals none arrive are = absurd (omega arith)
      by (one ∷ units) same any [] arrivals none arrive are = elim arrive [ ]
      by (one ∷ units) same any (true ∷ come) arrivals none arrive are =
          absurd (let no : true ≡ false = none in cc)
      by (one ∷ units) same any (false ∷ come) arrivals none
          (one_missed {next = next} {arrivals = rest} count steps arrive) are =
          let out = none_out next set.time units (timed_units sets) come rest none arrive in
          let many : length set.units ≡ suc (length units) = ap length same in
          record {
            next = out.next;
            n = count + out.count;
            left = sets_in coded true (runs_of out.left);
            steps = more_steps (missed_from kind) next out.next count out.count steps out.steps;
            bound =
                subst (λ (n : ℕ). Bound coded pages out.next sets (drop n (false ∷ come))
                (sets_in coded true (runs_of out.left))) (sym many)
                (record { arrivals = out.left; arrive = out.arrive; are = refl });
            are =
                are ∙ lose_first coded count rest
                ∙ ap (λ all. losts count ++ sets_in coded true (runs_of all)) out.are
                ∙ ap (λ all. losts count ++ all) (lose_first coded out.count out.left)
                ∙ losts-add count out.count (sets_in coded true (runs_of out.left));
            not_all = ap (λ n. all_come n (false ∷ come)) many;
          }
