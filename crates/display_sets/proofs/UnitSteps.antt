-- What becomes of a unit, by what it is to the run in hand.
use Rattle.std.proofs.Common.{◌≡◌, ◌∙◌, ℕ, ◌+◌, Bool, true, false, ◌==◌, List, [], ◌∷◌, ◌++◌, reverse, Option, Some, None, refl, sym, ap, subst, arith, append-nil, length-append}
use Rattle.std.specs.Bool.{if◌then◌else◌}
use Rattle.std.proofs.lemmas.Bool.{eq-eqb, eqb-true}
use Rattle.stream_syntax.specs.DataField.{Frame}
use Rattle.decoder_model.specs.Arrivals.{PesUnit, Arrival, unit, unit_with}
use Rattle.decoder_model.specs.PacketArrivals.{of_time, last_run, is_dropped}
use Rattle.decoder_model.specs.Sets.{Delivery, runs_of, sets_in, is_ended, frames_in, size_in}
use Rattle.decoder_model.proofs.Growth.{frames-append, ended_more}
use Rattle.display_sets.specs.Counted.{counted_in}
use Rattle.display_sets.specs.Filling.{AreOpen, Fills}
use Rattle.display_sets.specs.Gathered.{Gathered, ready_in, ready_sets, TakesUp}
use Rattle.display_sets.specs.Private.Hands.{hand_with, ready_head, meeting_of}
use Rattle.display_sets.specs.Standing.{AreOfTime, IsEndedRun, IsInHand, AreReady, HasGathered, IsUnitEnd}
use Rattle.display_sets.specs.declared.hand.Hand.{Hand}
use Rattle.display_sets.specs.declared.hand.Hand.TheVariants as hand
use Rattle.display_sets.specs.declared.hand.Head.{Head}
use Rattle.display_sets.specs.declared.hand.Meeting.{Meeting}
use Rattle.display_sets.specs.declared.hand.Meeting.TheVariants as meeting
use Rattle.display_sets.specs.declared.hand.UnitEnd.{UnitEnd}
use Rattle.display_sets.specs.declared.hand.UnitEnd.TheVariants as end
use Rattle.display_sets.proofs.Runs.{HaveTime, all_of_time, none_has_time, none_of_time}
use Rattle.display_sets.proofs.RunSets.{parted_by, ended_by, added_by, no_frames, makes-none, makes-same, makes-other, parted-none, parted-some, ended-open, ended-behind}
use Rattle.display_sets.proofs.LastRun.{have_time, have_time_too, latest_first, unit_adds}
use Rattle.display_sets.proofs.Meetings.{some_has_time, ended_hand, open_hand, run_ready, Finds, finds_by}
use Rattle.display_sets.proofs.Standings.{are_ready-append, all_given, none_parted, aside_stands}
use Rattle.display_sets.proofs.Units.{unit_taken}
use Rattle.sub_base.specs.Lists.{has_some}

abbrev Deliveries : Type 0
Deliveries = List (Delivery (List ℕ))

-- what is promised of a unit
pub record IsRight (old new : Gathered) (arrivals : List Arrival) (given : Deliveries) (arrival : Arrival)
    (answer : UnitEnd) : Type 0 where
  pub stands : HasGathered (arrivals ++ arrival ∷ []) false given new
  pub right_end : IsUnitEnd old.coded (last_run (reverse arrivals)) arrival answer

-- ---- a unit that counts

abbrev unit_of : ℕ → ℕ → ℕ → List Frame → PesUnit
unit_of place size time frames = record { place = place; size = size; time = time; frames = frames }

counts_as : (place size time : ℕ) (frames : List Frame) → has_some frames ≡ true
    → unit_with place size time frames ≡ unit (unit_of place size time frames)
counts_as place size time [] some = absurd (cc)
counts_as place size time (frame ∷ frames) some = refl

run_behind : (arrivals : List Arrival) (one : PesUnit) (joined : List PesUnit)
    → of_time one.time (last_run (reverse arrivals)) ≡ joined
    → last_run (reverse (arrivals ++ unit one ∷ [])) ≡ joined ++ one ∷ []
run_behind arrivals one joined is =
    ap last_run (latest_first arrivals (unit one)) ∙ ap (λ units. units ++ one ∷ []) is

-- the open set that a unit goes on with, or none, and what was put aside before
pub record IsMet (coded : ℕ) (units joined : List PesUnit) (one : PesUnit) (mid : Gathered)
    (total : ℕ) : Type 0 where
  pub same_coded : mid.coded ≡ coded
  pub joined_is : of_time one.time units ≡ joined
  pub so_far : AreOpen coded (frames_in joined) mid.bytes
  pub total_is : total ≡ size_in joined + one.size
  pub parted : AreReady (parted_by coded units one) (ready_in mid.parted mid.parted_bytes)

taken : (old mid new : Gathered) (arrivals : List Arrival) (given : Deliveries) (one : PesUnit) (joined : List PesUnit)
    (total : ℕ) (field : List ℕ) → HasGathered arrivals false given old → ready_sets old ≡ []
    → IsMet old.coded (last_run (reverse arrivals)) joined one mid total
    → one.frames ≡ counted_in mid.pages field → TakesUp mid new one.time total field
    → HasGathered (arrivals ++ unit one ∷ []) false given new
taken old mid new arrivals given one joined total field h none met frames takes =
    let coded = old.coded in
    let units = last_run (reverse arrivals) in
    let same : new.coded ≡ coded = takes.same_coded ∙ met.same_coded in
    let times : HaveTime one.time joined = subst (HaveTime one.time) met.joined_is (have_time one.time units) in
    let fills : Fills coded (frames_in joined) one.frames new.bytes takes.filled =
    subst (λ (more : List Frame). Fills coded (frames_in joined) more new.bytes takes.filled) (sym frames)
    (subst (λ (most : ℕ). Fills most (frames_in joined) (counted_in mid.pages field) new.bytes takes.filled)
    met.same_coded
    (takes.fills (frames_in joined)
    (subst (λ (most : ℕ). AreOpen most (frames_in joined) mid.bytes) (sym met.same_coded) met.so_far))) in
    let is_taken =
    unit_taken coded joined one total new.bytes takes.filled times met.so_far.no_end met.total_is fills in
    let added = added_by coded units one in
    record {
      in_hand =
          subst (λ (most : ℕ). IsInHand most (last_run (reverse (arrivals ++ unit one ∷ []))) new.hand new.bytes)
          (sym same)
          (subst (λ (all : List PesUnit). IsInHand coded all new.hand new.bytes)
          (sym (run_behind arrivals one joined met.joined_is))
          (subst (λ (own : Hand). IsInHand coded (joined ++ one ∷ []) own new.bytes) (sym takes.in_hand)
          is_taken.in_hand));
      waiting = added;
      sets =
          ap (λ (most : ℕ). sets_in most false (runs_of (arrivals ++ unit one ∷ []))) same
          ∙ unit_adds coded arrivals one ∙ ap (λ sets. sets ++ added) (all_given arrivals given old h none);
      are_ready =
          are_ready-append (parted_by coded units one) (ended_by coded units one) (ready_in new.parted new.parted_bytes)
          (ready_in (ready_head new.hand) new.bytes)
          (subst (λ (head : Option Head). AreReady (parted_by coded units one) (ready_in head new.parted_bytes))
          (sym takes.same_parted)
          (subst (λ (bytes : List ℕ). AreReady (parted_by coded units one) (ready_in mid.parted bytes))
          (sym takes.same_bytes) met.parted))
          (subst (λ (own : Hand). AreReady (ended_by coded units one) (ready_in (ready_head own) new.bytes))
          (sym takes.in_hand)
          (subst (λ (sets : Deliveries). AreReady sets
          (ready_in (ready_head (hand_with one.time total takes.filled)) new.bytes))
          (sym (ended-open coded units joined one met.joined_is met.so_far.no_end)) is_taken.ready));
    }

not_dropped : (coded : ℕ) (units joined : List PesUnit) (one : PesUnit) → of_time one.time units ≡ joined
    → is_ended coded (frames_in joined) ≡ false → false ≡ is_dropped coded units (Some (unit one))
not_dropped coded units joined one is open_still =
    sym (ap (λ (all : List PesUnit). is_ended coded (frames_in all)) is ∙ open_still)

-- an open set of no units
no_units_yet : (coded : ℕ) → AreOpen coded [] []
no_units_yet coded = record { no_end = no_frames coded; bytes_are = record { joined = refl; framed = tt } }

-- ---- by the run in hand

-- the gathering as it begins a set
abbrev pub started : Gathered → Gathered
started old = record old { hand = hand.Empty; bytes = [] }

pub begins_right : (old new : Gathered) (time size place : ℕ) (field : List ℕ) (met : Meeting)
    → ready_sets old ≡ [] → has_some (counted_in old.pages field) ≡ true
    → met ≡ meeting_of time old.hand → met ≡ meeting.Begins
    → TakesUp (started old) new time size field → (arrivals : List Arrival) (given : Deliveries)
    → HasGathered arrivals false given old
    → IsRight old new arrivals given (unit_with place size time (counted_in old.pages field)) end.Taken
begins_right old new time size place field met none some meets is takes arrivals given h =
    let one = unit_of place size time (counted_in old.pages field) in
    let units = last_run (reverse arrivals) in
    let found =
    subst (Finds old.coded units time old.bytes) is
    (finds_by old.coded units time old.hand old.bytes met meets h.in_hand) in
    let makes = makes-none old.coded units one found.1 in
    subst (λ (arrival : Arrival). IsRight old new arrivals given arrival end.Taken)
    (sym (counts_as place size time (counted_in old.pages field) some))
    (record {
      stands = taken old (started old) new arrivals given one [] size field h none
          (record {
            same_coded = refl;
            joined_is = found.0;
            so_far = no_units_yet old.coded;
            total_is = let zero_size : size ≡ 0 + size = omega arith in zero_size;
            parted =
                subst (λ (sets : Deliveries). AreReady sets (ready_in old.parted old.parted_bytes))
                (sym (parted-none old.coded units one makes)) (none_parted old none);
          })
          refl takes;
      right_end =
          record {
            passed_over = refl;
            dropped = not_dropped old.coded units [] one found.0 (no_frames old.coded);
            before = sym makes;
          };
    })

pub joins_right : (old new : Gathered) (time size place before : ℕ) (field : List ℕ) (met : Meeting)
    → ready_sets old ≡ [] → has_some (counted_in old.pages field) ≡ true
    → met ≡ meeting_of time old.hand → met ≡ meeting.Joins before
    → TakesUp old new time (before + size) field → (arrivals : List Arrival) (given : Deliveries)
    → HasGathered arrivals false given old
    → IsRight old new arrivals given (unit_with place size time (counted_in old.pages field)) end.Taken
joins_right old new time size place before field met none some meets is takes arrivals given h =
    let one = unit_of place size time (counted_in old.pages field) in
    let units = last_run (reverse arrivals) in
    let found =
    subst (Finds old.coded units time old.bytes) is
    (finds_by old.coded units time old.hand old.bytes met meets h.in_hand) in
    let makes = makes-same old.coded units one (some_has_time time units found.of_time) in
    let all = all_of_time time time units found.of_time.all (eq-eqb time time refl) in
    subst (λ (arrival : Arrival). IsRight old new arrivals given arrival end.Taken)
    (sym (counts_as place size time (counted_in old.pages field) some))
    (record {
      stands = taken old old new arrivals given one units (before + size) field h none
          (record {
            same_coded = refl;
            joined_is = all;
            so_far = found.frames;
            total_is = ap (λ sum. sum + size) found.size_is;
            parted =
                subst (λ (sets : Deliveries). AreReady sets (ready_in old.parted old.parted_bytes))
                (sym (parted-none old.coded units one makes)) (none_parted old none);
          })
          refl takes;
      right_end =
          record {
            passed_over = refl;
            dropped = not_dropped old.coded units units one all found.frames.no_end;
            before = sym makes;
          };
    })

-- the gathering with the set in hand put aside
abbrev pub put_aside : Gathered → Head → Gathered
put_aside old head =
    record old { hand = hand.Empty; bytes = old.parted_bytes; parted = Some head; parted_bytes = old.bytes }

pub parts_right : (old new : Gathered) (time size place : ℕ) (head : Head) (field : List ℕ) (met : Meeting)
    → ready_sets old ≡ [] → has_some (counted_in old.pages field) ≡ true → met ≡ meeting_of time old.hand
    → met ≡ meeting.Parts head → TakesUp (started (put_aside old head)) new time size field
    → (arrivals : List Arrival) (given : Deliveries) → HasGathered arrivals false given old
    → IsRight old new arrivals given (unit_with place size time (counted_in old.pages field)) end.Parted
parts_right old new time size place head field met none some meets is takes arrivals given h =
    let one = unit_of place size time (counted_in old.pages field) in
    let units = last_run (reverse arrivals) in
    let found =
    subst (Finds old.coded units time old.bytes) is
    (finds_by old.coded units time old.hand old.bytes met meets h.in_hand) in
    let own = found.0 in
    let makes =
    makes-other old.coded units one (open_hand old.coded units own.of_time.some own.frames.no_end)
    (none_has_time head.time time units own.of_time.all found.1) in
    let no_units = none_of_time head.time time units own.of_time.all found.1 in
    subst (λ (arrival : Arrival). IsRight old new arrivals given arrival end.Parted)
    (sym (counts_as place size time (counted_in old.pages field) some))
    (record {
      stands = taken old (started (put_aside old head)) new arrivals given one [] size field h none
          (record {
            same_coded = refl;
            joined_is = no_units;
            so_far = no_units_yet old.coded;
            total_is = let zero_size : size ≡ 0 + size = omega arith in zero_size;
            parted =
                subst (λ (sets : Deliveries). AreReady sets (ready_in (Some head) old.bytes))
                (sym (parted-some old.coded units one makes)) (run_ready old.coded units head old.bytes own found.2);
          })
          refl takes;
      right_end =
          record {
            passed_over = refl;
            dropped = not_dropped old.coded units [] one no_units (no_frames old.coded);
            before = sym makes;
          };
    })

-- a run that has ended is kept by its time alone
behind_hand : (coded : ℕ) (units : List PesUnit) (time : ℕ) (own : Hand) (bytes : List ℕ)
    → meeting_of time own ≡ meeting.Behind → AreOfTime time units → is_ended coded (frames_in units) ≡ true
    → IsInHand coded units own bytes
behind_hand coded units time hand.Empty bytes meets h ended = absurd (cc)
behind_hand coded units time (hand.Open own size) bytes meets h ended = absurd (by (own == time) meets)
  where
    by : (same : Bool)
        → (if same then meeting.Joins size else meeting.Parts (record { time = own; size = size; fault = None }))
        ≡ meeting.Behind → ⊥
    by true e = cc
    by false e = cc
behind_hand coded units time (hand.Ready head) bytes meets h ended =
    record { of_time = by (head.time == time) refl meets; ended = ended }
  where
    by : (same : Bool) → (head.time == time) ≡ same
        → (if same then meeting.Behind else meeting.Begins) ≡ meeting.Behind → AreOfTime head.time units
    by true is e = subst (λ (own : ℕ). AreOfTime own units) (sym (eqb-true head.time time is)) h
    by false is e = absurd (cc)
behind_hand coded units time (hand.Given own) bytes meets h ended =
    record { of_time = by (own == time) refl meets; ended = ended }
  where
    by : (same : Bool) → (own == time) ≡ same
        → (if same then meeting.Behind else meeting.Begins) ≡ meeting.Behind → AreOfTime own units
    by true is e = subst (λ (own : ℕ). AreOfTime own units) (sym (eqb-true own time is)) h
    by false is e = absurd (cc)

-- behind the end of its set
dropped : (old : Gathered) (arrivals : List Arrival) (given : Deliveries) (one : PesUnit)
    → HasGathered arrivals false given old → ready_sets old ≡ []
    → IsEndedRun old.coded (last_run (reverse arrivals)) one.time
    → meeting_of one.time old.hand ≡ meeting.Behind → HasGathered (arrivals ++ unit one ∷ []) false given old
dropped old arrivals given one h none run meets =
    let coded = old.coded in
    let units = last_run (reverse arrivals) in
    let all = all_of_time one.time one.time units run.of_time.all (eq-eqb one.time one.time refl) in
    let added : added_by coded units one ≡ [] =
    ap (λ sets. sets ++ ended_by coded units one)
    (parted-none coded units one (makes-none coded units one (ended_hand coded units run.ended)))
    ∙ ended-behind coded units units one all run.ended in
    let still : is_ended coded (frames_in (units ++ one ∷ [])) ≡ true =
    ap (is_ended coded) (frames-append units (one ∷ []))
    ∙ ended_more coded (frames_in units) (frames_in (one ∷ [])) run.ended in
    let more : AreOfTime one.time (units ++ one ∷ []) =
    record {
      some = omega (arith, length-append units (one ∷ []));
      all = have_time_too one.time units one
          run.of_time.all refl;
    } in
    record {
      in_hand =
          subst (λ (all : List PesUnit). IsInHand coded all old.hand old.bytes)
          (sym (run_behind arrivals one units all))
          (behind_hand coded (units ++ one ∷ []) one.time old.hand old.bytes meets more still);
      waiting = h.waiting;
      sets =
          unit_adds coded arrivals one ∙ ap (λ sets. sets_in coded false (runs_of arrivals) ++ sets) added
          ∙ append-nil (sets_in coded false (runs_of arrivals)) ∙ h.sets;
      are_ready = h.are_ready;
    }

pub behind_right : (old : Gathered) (time size place : ℕ) (field : List ℕ) (met : Meeting)
    → ready_sets old ≡ [] → has_some (counted_in old.pages field) ≡ true
    → met ≡ meeting_of time old.hand → met ≡ meeting.Behind
    → (arrivals : List Arrival) (given : Deliveries) → HasGathered arrivals false given old
    → IsRight old old arrivals given (unit_with place size time (counted_in old.pages field)) end.Dropped
behind_right old time size place field met none some meets is arrivals given h =
    let one = unit_of place size time (counted_in old.pages field) in
    let units = last_run (reverse arrivals) in
    let found =
    subst (Finds old.coded units time old.bytes) is
    (finds_by old.coded units time old.hand old.bytes met meets h.in_hand) in
    let all = all_of_time time time units found.of_time.all (eq-eqb time time refl) in
    subst (λ (arrival : Arrival). IsRight old old arrivals given arrival end.Dropped)
    (sym (counts_as place size time (counted_in old.pages field) some))
    (record {
      stands = dropped old arrivals given one h none found (sym meets ∙ is);
      right_end = record {
        passed_over = refl;
        dropped = sym (ap (λ (all : List PesUnit). is_ended old.coded (frames_in all)) all ∙ found.ended);
        before = sym (makes-none old.coded units one (ended_hand old.coded units found.ended));
      };
    })

no_frames_count : (frames : List Frame) → has_some frames ≡ false → frames ≡ []
no_frames_count [] none = refl
no_frames_count (frame ∷ frames) none = absurd (cc)

-- nothing counts
pub aside_right : (old : Gathered) (time size place : ℕ) (field : List ℕ)
    → has_some (counted_in old.pages field) ≡ false → (arrivals : List Arrival) (given : Deliveries)
    → HasGathered arrivals false given old
    → IsRight old old arrivals given (unit_with place size time (counted_in old.pages field)) end.Aside
aside_right old time size place field none arrivals given h =
    subst (λ (frames : List Frame). IsRight old old arrivals given (unit_with place size time frames) end.Aside)
    (sym (no_frames_count (counted_in old.pages field) none))
    (record {
      stands = aside_stands old arrivals given h;
      right_end = record { passed_over = refl; dropped = refl; before = refl };
    })

-- ---- what the call finds

pub counts_now : (inside now : Gathered) (field : List ℕ) (found some : Bool) → inside ≡ now
    → found ≡ has_some (counted_in inside.pages field) → found ≡ some
    → has_some (counted_in now.pages field) ≡ some
counts_now inside now field found some same is found_is =
    sym (ap (λ (old : Gathered). has_some (counted_in old.pages field)) same) ∙ sym is ∙ found_is

pub meets_now : (inside now : Gathered) (time : ℕ) (met : Meeting) → inside ≡ now
    → met ≡ meeting_of time inside.hand → met ≡ meeting_of time now.hand
meets_now inside now time met same is = is ∙ ap (λ (old : Gathered). meeting_of time old.hand) same

-- a set begun behind one that was put aside
pub begun_behind : (old mid new : Gathered) (head : Head) (time size : ℕ) (field : List ℕ)
    → mid ≡ put_aside old head → TakesUp (started mid) new time size field
    → TakesUp (started (put_aside old head)) new time size field
begun_behind old mid new head time size field is takes =
    subst (λ (mid : Gathered). TakesUp (started mid) new time size field) is takes
