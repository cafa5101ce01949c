-- Units of sets that come one after another: which sets are whole behind them, and what the packet of the next unit
-- means for the calls of the buffers.
use Rattle.std.proofs.Common.{◌≡◌, ◌∙◌, ℕ, zero, suc, ◌<◌, ◌≤◌, Bool, false, eqb, cond, ◌||◌, List, [], ◌∷◌, ◌++◌, length, map, take, take_all, reverse, Option, Some, None, refl, sym, ap, subst, arith, append-nil, append_assoc, length-append}
use Rattle.std.specs.Prelude.{find, flat_map}
use Rattle.std.specs.Option.{option_map}
use Rattle.std.specs.List.{AllByRecursion, AllZip, sum_by, slice_get}
use Rattle.std.proofs.lemmas.Grind.{flat_map-append}
use Rattle.std.proofs.lemmas.List.{map-append, reverse-append, length-take-le, length-map}
use Rattle.sub_base.specs.Lists.{prefixes}
use Rattle.buffer_model.specs.Calls.{Call}
use Rattle.stream_syntax.specs.DataField.{Frame, segment}
use Rattle.stream_syntax.specs.TransportPackets.{packet_fault}
use Rattle.stream_syntax.specs.Units.{each_after, event_at, unit_at}
use Rattle.decoder_model.specs.declared.pages.Pages.{Pages}
use Rattle.decoder_model.specs.Arrivals.{PesUnit, Arrival, loss, unit, arrival_of_unit, units_at, arrivals_at, packets_taken, arrivals_of}
use Rattle.decoder_model.specs.PacketArrivals.{of_time, last_run, makes_ready, is_dropped, run_before, unit_ended, packet_arrival, is_break}
use Rattle.decoder_model.specs.Sets.{Stretch, runs_of, is_ended, frames_in, set_of, sets_in, is_followed, has_ended, sets_of}
use Rattle.decoder_model.proofs.Growth.{flat-append}
use Rattle.decoder_model.proofs.Lists.{all-append, find-map}
use Rattle.decoder_model.proofs.SentUnits.{each_after-append, all_taken}
use Rattle.received_level_laws.specs.StreamCalls.{itself, count_with, calls_of_packet, arrived_in, drop_where}
use Rattle.shown_stream.proofs.Calls.BroughtPieces.{Brings, no_break}
use Rattle.sent_sets.proofs.Runs.{HaveDifferentTimes, IsPlaced, AreOwnRuns, no_run, own_run, own_runs, run_frames}
use Rattle.sent_sets.proofs.SetEnds.{front_not_ended, none_ends, front_bytes, delivered}
use Rattle.sent_sets.proofs.SetsCome.{handed_whole, all_handed, have_units}
use Rattle.sent_sets.proofs.Units.{SetUnit, TimedSet, timed, timed_units, segments_of_units, IsTimedSet, IsUnitOf, unit_of, arrives, IsArrivalOf}
use Rattle.shown_stream.proofs.Calls.RunsInHand.{IsRun, none_of_time, kept_of_run, run_of_some, zip_push, none_ready, front_open, none_in_hand}

-- ---- what came

-- behind these packets, these sets came, and then the first k units of a next one
pub record HaveCome (coded pid : ℕ) (pages : Pages) (before : List (List ℕ)) (sets : List TimedSet) (set : TimedSet)
    (k : ℕ) : Type 0 where
  pub sound : AllByRecursion (λ packet. packet_fault pid packet ≡ None) before
  pub come : AllZip IsArrivalOf (arrivals_of coded pid pages before)
      (timed_units sets ++ map (timed set.time) (take k set.units))
  pub last : IsRun coded set.time (last_run (reverse (arrivals_of coded pid pages before))) (take k set.units)

-- before the first packet nothing came
pub none_came : (coded pid : ℕ) (pages : Pages) (set : TimedSet) → HaveCome coded pid pages [] [] set 0
unfolding arrivals_of
none_came coded pid pages set = record { sound = tt; come = tt; last = (refl, refl) }

-- ---- the sets

pub front_apart : (sets : List TimedSet) (set part : TimedSet) → set.time ≡ part.time
    → HaveDifferentTimes (sets ++ set ∷ []) → HaveDifferentTimes (sets ++ part ∷ [])
front_apart [] set part same h = (tt, tt)
front_apart (first ∷ []) set part same h =
    (subst (λ (time : ℕ). eqb first.time time ≡ false) same h.0, front_apart [] set part same h.1)
front_apart (first ∷ next ∷ sets) set part same h = (h.0, front_apart (next ∷ sets) set part same h.1)

pub only_sets_apart : (sets : List TimedSet) (set : TimedSet) → HaveDifferentTimes (sets ++ set ∷ [])
    → HaveDifferentTimes sets
only_sets_apart [] set h = tt
only_sets_apart (first ∷ []) set h = (tt, tt)
only_sets_apart (first ∷ next ∷ sets) set h = (h.0, only_sets_apart (next ∷ sets) set h.1)

none_passes : (test : List Frame → Bool) (frames : List Frame)
    → ((k : ℕ) → k < length frames → test (take (suc k) frames) ≡ false)
    → find test (prefixes frames) ≡ None
none_passes test [] h = refl
none_passes test (frame ∷ frames) h =
    ap (λ passes. cond passes (Some (frame ∷ []))
    (find test (map (λ (front : List Frame). frame ∷ front) (prefixes frames)))) (h 0 (omega arith))
    ∙ find-map test (λ (front : List Frame). frame ∷ front) (prefixes frames)
    ∙ ap (option_map (λ (front : List Frame). frame ∷ front))
    (none_passes (λ front. test (frame ∷ front)) frames (λ k within. h (suc k) (omega arith)))

-- of a set that waits for more units nothing is handed on
waiting_gives_none : (coded : ℕ) (pages : Pages) (set : TimedSet) (k : ℕ) (first : PesUnit) (more : List PesUnit)
    → IsTimedSet coded pages set → k < length set.units
    → AllZip (IsPlaced set.time) (first ∷ more) (take k set.units)
    → set_of coded first.time (first ∷ more) false (find (is_ended coded) (prefixes (frames_in (first ∷ more))))
    ≡ []
waiting_gives_none coded pages set k first more is inside are =
    let fits = is.fits in
    let front = segments_of_units (take k set.units) in
    let none = none_ends pages set.units k is.units inside in
    let small : sum_by length front ≤ coded = omega (arith, fits, front_bytes set.units k) in
    ap (λ frames. set_of coded first.time (first ∷ more) false (find (is_ended coded) (prefixes frames)))
    (run_frames set.time (first ∷ more) (take k set.units) are)
    ∙ ap (set_of coded first.time (first ∷ more) false)
    (none_passes (is_ended coded) (map segment front)
    (λ n within. front_not_ended coded pages front (suc n) none small))

front_handed : (coded : ℕ) (pages : Pages) (stretches : List Stretch) (sets : List TimedSet) (set : TimedSet)
    (k : ℕ) → AllByRecursion (IsTimedSet coded pages) sets → IsTimedSet coded pages set → k < length set.units
    → AreOwnRuns stretches (sets ++ record { time = set.time; units = take k set.units } ∷ [])
    → sets_in coded false stretches ≡ map delivered sets
front_handed coded pages stretches [] set k whole is inside (own_run {first = first} {more = more} are no_run) = ap
    (λ front. front ++ []) (waiting_gives_none coded pages set k first more is inside are)
front_handed coded pages stretches (one ∷ sets) set k whole is inside
    (own_run {first = first} {more = more} {rest = rest} are all) =
    ap (λ front. front ++ sets_in coded false rest)
    (handed_whole coded pages one first more (is_followed false rest) whole.0 are)
    ∙ ap (λ others. delivered one ∷ others) (front_handed coded pages rest sets set k whole.1 is inside all)

some_more : (sets : List TimedSet) (part : TimedSet)
    → AllByRecursion (λ (set : TimedSet). 1 ≤ length set.units) sets → 1 ≤ length part.units
    → AllByRecursion (λ (set : TimedSet). 1 ≤ length set.units) (sets ++ part ∷ [])
some_more sets part all some =
    all-append (λ (set : TimedSet). 1 ≤ length set.units) sets (part ∷ []) all (some, tt)

-- what is handed on of arrivals: the sets that are whole, and nothing of the next
handed_so_far : (coded : ℕ) (pages : Pages) (arrivals : List Arrival) (sets : List TimedSet) (set : TimedSet)
    (k : ℕ) → AllByRecursion (IsTimedSet coded pages) sets → IsTimedSet coded pages set
    → HaveDifferentTimes (sets ++ set ∷ []) → k < length set.units
    → AllZip IsArrivalOf arrivals (timed_units sets ++ map (timed set.time) (take k set.units))
    → sets_in coded false (runs_of arrivals) ≡ map delivered sets
handed_so_far coded pages arrivals sets set zero whole is apart inside come =
    let own : AllZip IsArrivalOf arrivals (timed_units sets) =
    subst (AllZip IsArrivalOf arrivals) (append-nil (timed_units sets)) come in
    all_handed coded pages false (runs_of arrivals) sets whole
    (own_runs arrivals sets own (have_units coded pages sets whole) (only_sets_apart sets set apart))
handed_so_far coded pages arrivals sets set (suc k) whole is apart inside come =
    let part : TimedSet = record { time = set.time; units = take (suc k) set.units } in
    let all : timed_units (sets ++ part ∷ []) ≡ timed_units sets ++ map (timed set.time) (take (suc k) set.units) =
    flat_map-append (λ (set : TimedSet). map (timed set.time) set.units) sets (part ∷ [])
    ∙ ap (λ last. timed_units sets ++ last) (append-nil (map (timed set.time) (take (suc k) set.units))) in
    front_handed coded pages (runs_of arrivals) sets set (suc k) whole is inside
    (own_runs arrivals (sets ++ part ∷ []) (subst (AllZip IsArrivalOf arrivals) (sym all) come)
    (some_more sets part (have_units coded pages sets whole)
    (omega (arith, length-take-le (suc k) set.units (omega arith)))) (front_apart sets set part refl apart))

-- the sets behind these packets are those that came whole
pub sets_so_far : (coded pid : ℕ) (pages : Pages) (before : List (List ℕ)) (sets : List TimedSet) (set : TimedSet)
    (k : ℕ) → HaveCome coded pid pages before sets set k → AllByRecursion (IsTimedSet coded pages) sets
    → IsTimedSet coded pages set
    → HaveDifferentTimes (sets ++ set ∷ []) → k < length set.units
    → sets_of coded pid pages false before ≡ map delivered sets
unfolding sets_of has_ended
sets_so_far coded pid pages before sets set k came whole is apart inside =
    handed_so_far coded pages (arrivals_of coded pid pages before) sets set k whole is apart inside came.come

-- before the first unit of the next set these are all sets, whatever the next one is
pub sets_whole : (coded pid : ℕ) (pages : Pages) (before : List (List ℕ)) (sets : List TimedSet) (set : TimedSet)
    → HaveCome coded pid pages before sets set 0 → AllByRecursion (IsTimedSet coded pages) sets
    → HaveDifferentTimes sets → sets_of coded pid pages false before ≡ map delivered sets
unfolding sets_of has_ended
sets_whole coded pid pages before sets set came whole apart =
    let arrivals = arrivals_of coded pid pages before in
    let own : AllZip IsArrivalOf arrivals (timed_units sets) =
    subst (AllZip IsArrivalOf arrivals) (append-nil (timed_units sets)) came.come in
    all_handed coded pages false (runs_of arrivals) sets whole
    (own_runs arrivals sets own (have_units coded pages sets whole) apart)

-- ---- a packet more

-- what arrives with a packet more
arrivals_push : (coded pid : ℕ) (pages : Pages) (before : List (List ℕ)) (packet : List ℕ)
    → packets_taken pid before ≡ before → packets_taken pid (before ++ packet ∷ []) ≡ before ++ packet ∷ []
    → arrivals_of coded pid pages (before ++ packet ∷ []) ≡ arrivals_of coded pid pages before
    ++ arrivals_at coded pid pages before packet
unfolding arrivals_of
arrivals_push coded pid pages before packet taken all =
    ap (λ found. flat_map (λ (arrivals : List Arrival). arrivals) (each_after (arrivals_at coded pid pages) [] found))
    all
    ∙ ap (flat_map (λ (arrivals : List Arrival). arrivals))
    (each_after-append (arrivals_at coded pid pages) [] before (packet ∷ []))
    ∙ flat-append (each_after (arrivals_at coded pid pages) [] before)
    (arrivals_at coded pid pages before packet ∷ [])
    ∙ ap (λ last. flat_map (λ (arrivals : List Arrival). arrivals)
    (each_after (arrivals_at coded pid pages) [] before) ++ last)
    (append-nil (arrivals_at coded pid pages before packet))
    ∙ ap (λ found. flat_map (λ (arrivals : List Arrival). arrivals)
    (each_after (arrivals_at coded pid pages) [] found) ++ arrivals_at coded pid pages before packet) (sym taken)

sound_push : (pid : ℕ) (before : List (List ℕ)) (packet : List ℕ)
    → AllByRecursion (λ packet. packet_fault pid packet ≡ None) before → packet_fault pid packet ≡ None
    → AllByRecursion (λ packet. packet_fault pid packet ≡ None) (before ++ packet ∷ [])
sound_push pid before packet sound one =
    all-append (λ packet. packet_fault pid packet ≡ None) before (packet ∷ []) sound (one, tt)

arrivals_with : (coded pid : ℕ) (pages : Pages) (bytes : ℕ) (before : List (List ℕ)) (packet : List ℕ)
    (ended hand : Option (List ℕ)) (counter : Option ℕ)
    → AllByRecursion (λ packet. packet_fault pid packet ≡ None) before → packet_fault pid packet ≡ None
    → Brings pid coded before packet bytes ended hand counter
    → arrivals_of coded pid pages (before ++ packet ∷ []) ≡ arrivals_of coded pid pages before
    ++ units_at pages (length before) ended
arrivals_with coded pid pages bytes before packet ended hand counter sound one brings =
    arrivals_push coded pid pages before packet (all_taken pid before sound)
    (all_taken pid (before ++ packet ∷ []) (sound_push pid before packet sound one))
    ∙ ap (λ lossy. arrivals_of coded pid pages before
    ++ (cond lossy (loss ∷ []) [] ++ units_at pages (length before) (unit_at pid coded before packet)))
    brings.no_loss
    ∙ ap (λ found. arrivals_of coded pid pages before ++ units_at pages (length before) found) brings.unit

-- a packet that ends no unit leaves what came as it is
pub no_unit_more : (coded pid : ℕ) (pages : Pages) (bytes : ℕ) (before : List (List ℕ)) (packet : List ℕ)
    (hand : Option (List ℕ)) (counter : Option ℕ) (sets : List TimedSet) (set : TimedSet) (k : ℕ)
    → HaveCome coded pid pages before sets set k → packet_fault pid packet ≡ None
    → Brings pid coded before packet bytes None hand counter
    → HaveCome coded pid pages (before ++ packet ∷ []) sets set k
no_unit_more coded pid pages bytes before packet hand counter sets set k came one brings =
    let same =
    arrivals_with coded pid pages bytes before packet None hand counter came.sound one brings
    ∙ append-nil (arrivals_of coded pid pages before) in
    record {
      sound = sound_push pid before packet came.sound one;
      come =
          subst (λ (found : List Arrival). AllZip IsArrivalOf found
          (timed_units sets ++ map (timed set.time) (take k set.units))) (sym same) came.come;
      last =
          subst (λ (found : List Arrival). IsRun coded set.time (last_run (reverse found)) (take k set.units))
          (sym same) came.last;
    }

take_next : {X : Type 0} (k : ℕ) (xs : List X) (x : X) → slice_get xs k ≡ Some x
    → take (suc k) xs ≡ take k xs ++ x ∷ []
take_next {X} k [] x found = absurd (cc)
take_next {X} zero (first ∷ xs) x found = let same : first ≡ x = cc in ap {B = List X} (λ one. one ∷ []) same
take_next {X} (suc k) (first ∷ xs) x found = ap {B = List X} (λ rest. first ∷ rest) (take_next k xs x found)

pub slice_inside : {X : Type 0} (k : ℕ) (xs : List X) (x : X) → slice_get xs k ≡ Some x → k < length xs
slice_inside k [] x found = absurd (cc)
slice_inside zero (first ∷ xs) x found = omega arith
slice_inside (suc k) (first ∷ xs) x found = let more = slice_inside k xs x found in omega arith

-- a packet behind others, by which these sets came and k units of another one
pub record Following : Type 0 where
  pub coded : ℕ
  pub pid : ℕ
  pub pages : Pages
  pub before : List (List ℕ)
  pub packet : List ℕ
  pub sets : List TimedSet
  pub set : TimedSet
  pub k : ℕ

-- the packet ends the next unit of that set
pub record EndsNext (next : Following) : Type 0 where
  pub bytes : ℕ
  pub unit : List ℕ
  pub hand : Option (List ℕ)
  pub counter : Option ℕ
  pub one : SetUnit
  pub came : HaveCome next.coded next.pid next.pages next.before next.sets next.set next.k
  pub taken : packet_fault next.pid next.packet ≡ None
  pub brings : Brings next.pid next.coded next.before next.packet bytes (Some unit) hand counter
  pub found : slice_get next.set.units next.k ≡ Some one
  pub is : IsUnitOf next.pages unit (timed next.set.time one)

abbrev arrivals_behind : Following → List Arrival
arrivals_behind next = arrivals_of next.coded next.pid next.pages (next.before ++ next.packet ∷ [])

-- what came with the next unit of the set, however it goes on
record UnitMore (next : Following) : Type 0 where
  sound : AllByRecursion (λ packet. packet_fault next.pid packet ≡ None) (next.before ++ next.packet ∷ [])
  come : AllZip IsArrivalOf (arrivals_behind next)
      (timed_units next.sets ++ map (timed next.set.time) (take (suc next.k) next.set.units))
  placed : AllZip (IsPlaced next.set.time) (last_run (reverse (arrivals_behind next)))
      (take (suc next.k) next.set.units)

unit_more : (next : Following) → EndsNext next → UnitMore next
unit_more next ends =
    let set = next.set in
    let sets = next.sets in
    let k = next.k in
    let one = ends.one in
    let arrivals = arrivals_of next.coded next.pid next.pages next.before in
    let found_run = last_run (reverse arrivals) in
    let place = length next.before in
    let new = unit_of place set.time one in
    let more : arrivals_behind next ≡ arrivals ++ unit new ∷ [] =
    arrivals_with next.coded next.pid next.pages ends.bytes next.before next.packet (Some ends.unit) ends.hand
    ends.counter ends.came.sound ends.taken ends.brings
    ∙ ap (λ arrival. arrivals ++ arrival ∷ []) (arrives next.pages place ends.unit (timed set.time one) ends.is) in
    let units : take (suc k) set.units ≡ take k set.units ++ one ∷ [] = take_next k set.units one ends.found in
    let all : timed_units sets
    ++ map (timed set.time) (take (suc k) set.units)
    ≡ (timed_units sets ++ map (timed set.time) (take k set.units)) ++ timed set.time one ∷ [] =
    ap (λ own. timed_units sets ++ map (timed set.time) own) units
    ∙ ap (λ own. timed_units sets ++ own) (map-append (timed set.time) (take k set.units) (one ∷ []))
    ∙ sym (append_assoc (timed_units sets) (map (timed set.time) (take k set.units)) (timed set.time one ∷ []))
    in
    let run_is : last_run (reverse (arrivals ++ unit new ∷ [])) ≡ of_time set.time found_run ++ new ∷ [] =
    ap last_run (reverse-append arrivals (unit new ∷ [])) in
    record {
      sound = sound_push next.pid next.before next.packet ends.came.sound ends.taken;
      come =
          subst (λ (seen : List Arrival). AllZip IsArrivalOf seen
          (timed_units sets ++ map (timed set.time) (take (suc k) set.units))) (sym more)
          (subst (AllZip IsArrivalOf (arrivals ++ unit new ∷ [])) (sym all)
          (zip_push IsArrivalOf arrivals (timed_units sets ++ map (timed set.time) (take k set.units)) (unit new)
          (timed set.time one) ends.came.come (place, refl)));
      placed =
          subst (λ (seen : List Arrival). AllZip (IsPlaced set.time) (last_run (reverse seen))
          (take (suc k) set.units)) (sym more)
          (subst (λ (seen : List PesUnit). AllZip (IsPlaced set.time) seen (take (suc k) set.units)) (sym run_is)
          (subst (AllZip (IsPlaced set.time) (of_time set.time found_run ++ new ∷ [])) (sym units)
          (zip_push (IsPlaced set.time) (of_time set.time found_run) (take k set.units) new one
          (kept_of_run next.coded set.time found_run (take k set.units) ends.came.last) (place, refl))));
    }

-- a packet that ends the next unit of the set, not the last
pub next_unit_more : (next : Following) → EndsNext next
    → HaveCome next.coded next.pid next.pages (next.before ++ next.packet ∷ []) next.sets next.set (suc next.k)
next_unit_more next ends =
    let more = unit_more next ends in
    let set = next.set in
    let inside = slice_inside next.k set.units ends.one ends.found in
    record {
      sound = more.sound;
      come = more.come;
      last =
          run_of_some next.coded set.time (last_run (reverse (arrivals_behind next))) (take (suc next.k) set.units)
          (omega (arith, length-take-le (suc next.k) set.units (omega arith))) more.placed;
    }

-- a packet that ends the last unit of the set: the set is whole, and the next one, of another time, is waited for
pub last_unit_more : (next : Following) → EndsNext next → IsTimedSet next.coded next.pages next.set
    → suc next.k ≡ length next.set.units → (other : TimedSet) → eqb next.set.time other.time ≡ false
    → HaveCome next.coded next.pid next.pages (next.before ++ next.packet ∷ []) (next.sets ++ next.set ∷ []) other 0
last_unit_more next ends timed_set all other apart =
    let more = unit_more next ends in
    let set = next.set in
    let sets = next.sets in
    let k = next.k in
    let whole : take (suc k) set.units ≡ set.units = take_all (suc k) set.units (omega arith) in
    let found_run = last_run (reverse (arrivals_behind next)) in
    let placed : AllZip (IsPlaced set.time) found_run set.units =
    subst (AllZip (IsPlaced set.time) found_run) whole more.placed in
    let units : timed_units (sets ++ set ∷ []) ++ [] ≡ timed_units sets
    ++ map (timed set.time) (take (suc k) set.units) =
    append-nil (timed_units (sets ++ set ∷ []))
    ∙ flat_map-append (λ (set : TimedSet). map (timed set.time) set.units) sets (set ∷ [])
    ∙ ap (λ last. timed_units sets ++ last)
    (append-nil (map (timed set.time) set.units) ∙ ap (map (timed set.time)) (sym whole)) in
    record {
      sound = more.sound;
      come = subst (AllZip IsArrivalOf (arrivals_behind next)) (sym units) more.come;
      last = (
        none_in_hand next.coded next.pages set found_run timed_set placed,
        none_of_time set.time other.time found_run set.units apart placed,
      );
    }

-- ---- what the packet means

-- the packet brings its bytes, makes no set ready before them, and drops nothing
pub record IsPlain (coded pid : ℕ) (pages : Pages) (before : List (List ℕ)) (packet : List ℕ)
    (bytes : ℕ) : Type 0 where
  pub no_break : is_break (event_at pid coded before packet) ≡ false
  pub brought : packet_arrival coded pid pages before packet
      ≡ record { bytes = bytes; before = false; dropped = false }

plain_by : (coded pid : ℕ) (pages : Pages) (bytes : ℕ) (before : List (List ℕ)) (packet : List ℕ)
    (ended hand : Option (List ℕ)) (counter : Option ℕ) (arrival : Option Arrival)
    → Brings pid coded before packet bytes ended hand counter
    → option_map (arrival_of_unit pages (length before)) ended ≡ arrival
    → makes_ready coded (last_run (reverse (arrivals_of coded pid pages before))) arrival ≡ false
    → is_dropped coded (last_run (reverse (arrivals_of coded pid pages before))) arrival ≡ false
    → IsPlain coded pid pages before packet bytes
plain_by coded pid pages bytes before packet ended hand counter arrival brings is ready dropped =
    let found_run = last_run (reverse (arrivals_of coded pid pages before)) in
    let run_is : run_before coded pid pages before packet ≡ found_run =
    ap (λ lossy. last_run (cond lossy (loss ∷ []) [] ++ reverse (arrivals_of coded pid pages before)))
    brings.no_loss in
    let unit_is : unit_ended coded pid pages before packet ≡ arrival =
    ap (option_map (arrival_of_unit pages (length before))) brings.unit ∙ is in
    record {
      no_break = no_break (event_at pid coded before packet) brings.no_loss;
      brought = λ i. record {
        bytes = brings.bytes_are i;
        before =
            (ap (λ found. makes_ready coded found (unit_ended coded pid pages before packet)) run_is
            ∙ ap (makes_ready coded found_run) unit_is ∙ ready) i;
        dropped =
            (ap (λ over. over
            || is_dropped coded (run_before coded pid pages before packet) (unit_ended coded pid pages before packet))
            brings.fits
            ∙ ap (λ found. is_dropped coded found (unit_ended coded pid pages before packet)) run_is
            ∙ ap (is_dropped coded found_run) unit_is ∙ dropped) i;
      };
    }

-- a packet that ends no unit
pub plain_piece : (coded pid : ℕ) (pages : Pages) (bytes : ℕ) (before : List (List ℕ)) (packet : List ℕ)
    (hand : Option (List ℕ)) (counter : Option ℕ) → Brings pid coded before packet bytes None hand counter
    → IsPlain coded pid pages before packet bytes
plain_piece coded pid pages bytes before packet hand counter brings =
    plain_by coded pid pages bytes before packet None hand counter None brings refl refl refl

-- a packet that ends the next unit of a set
pub plain_last : (next : Following) (ends : EndsNext next) → IsTimedSet next.coded next.pages next.set
    → IsPlain next.coded next.pid next.pages next.before next.packet ends.bytes
plain_last next ends timed_set =
    let set = next.set in
    let place = length next.before in
    let found_run = last_run (reverse (arrivals_of next.coded next.pid next.pages next.before)) in
    plain_by next.coded next.pid next.pages ends.bytes next.before next.packet (Some ends.unit) ends.hand ends.counter
    (Some (unit (unit_of place set.time ends.one))) ends.brings
    (ap Some (arrives next.pages place ends.unit (timed set.time ends.one) ends.is))
    (none_ready next.coded place set.time found_run (take next.k set.units) ends.one ends.came.last)
    (front_open next.coded next.pages set next.k (of_time set.time found_run) timed_set
    (slice_inside next.k set.units ends.one ends.found)
    (kept_of_run next.coded set.time found_run (take next.k set.units) ends.came.last))

-- the calls of such a packet: its bytes, and then those of the sets that come with it
pub plain_calls : (coded pid : ℕ) (pages : Pages) (slot bytes : ℕ) (before : List (List ℕ)) (packet : List ℕ)
    (sets : List Call) → IsPlain coded pid pages before packet bytes
    → calls_of_packet itself (event_at pid coded before packet) (packet_arrival coded pid pages before packet) slot
    sets ≡ arrived_in itself slot bytes ++ sets
plain_calls coded pid pages slot bytes before packet sets plain =
    ap (λ arrival. calls_of_packet itself (event_at pid coded before packet) arrival slot sets) plain.brought
    ∙ ap (λ broken. drop_where itself broken ++ (arrived_in itself slot bytes ++ (sets ++ []))) plain.no_break
    ∙ ap (λ rest. arrived_in itself slot bytes ++ rest) (append-nil sets)

-- how many sets come with a packet, by those behind it and before it
pub count_is : (coded pid : ℕ) (pages : Pages) (before : List (List ℕ)) (packet : List ℕ)
    (sets more : List TimedSet) → sets_of coded pid pages false before ≡ map delivered sets
    → sets_of coded pid pages false (before ++ packet ∷ []) ≡ map delivered (sets ++ more)
    → count_with coded pid pages before packet ≡ length more
count_is coded pid pages before packet sets more at behind =
    omega (
      arith,
      ap length at,
      ap length behind,
      length-map sets delivered,
      length-map (sets ++ more)
          delivered,
      length-append sets more,
    )
