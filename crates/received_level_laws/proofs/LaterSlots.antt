-- The calls of packets that are told from a later slot on are the same, in slots that are so many later.
use Rattle.std.proofs.Common.{◌≡◌, ◌∙◌, ℕ, zero, suc, ◌+◌, ◌==◌, Bool, true, false, List, [], ◌∷◌, ◌++◌, map, take, drop, reverse, Option, Some, None, refl, sym, ap, arith}
use Rattle.std.specs.List.{AllByRecursion, drop-map, take-map}
use Rattle.std.specs.Bool.{if◌then◌else◌}
use Rattle.std.proofs.lemmas.List.{map-append, reverse-append}
use Rattle.sub_base.specs.Lists.{with_earlier, all_of}
use Rattle.sub_base.specs.declared.load.SetLoad.{SetLoad}
use Rattle.sub_base.specs.declared.profile.Profile.{Profile}
use Rattle.stream_syntax.specs.Units.{event_at}
use Rattle.stream_syntax.specs.declared.transport.Event.{Event}
use Rattle.buffer_model.specs.Calls.{Call, Arrived, SetWhole, Dropped}
use Rattle.buffer_model.specs.Within.{moved}
use Rattle.decoder_model.specs.declared.pages.Pages.{Pages}
use Rattle.decoder_model.specs.Arrivals.{packets_taken}
use Rattle.decoder_model.specs.Kept.{lifted_time}
use Rattle.decoder_model.specs.PacketArrivals.{PacketArrival, packet_arrival, is_break}
use Rattle.decoder_model.specs.Painting.{set_load}
use Rattle.decoder_model.specs.Readings.{Reading}
use Rattle.decoder_model.specs.Received.{Reception}
use Rattle.decoder_model.specs.Sets.{Delivery}
use Rattle.received_level_laws.specs.StreamCalls.{call_by, set_call, set_calls, count_with, itself, drop_where, arrived_in, calls_of_packet, calls_from, AreCallsOf}

-- a call in a slot that is so many later
abbrev shifted : ℕ → Call → Call
shifted by (Arrived slot bytes) = Arrived (slot + by) bytes
shifted by (SetWhole load) = SetWhole load
shifted by Dropped = Dropped

moved_is : (by : ℕ) (past : List Call) → moved by past ≡ map (shifted by) past
moved_is by [] = refl
moved_is by (Arrived slot bytes ∷ past) = ap (λ rest. Arrived (slot + by) bytes ∷ rest) (moved_is by past)
moved_is by (SetWhole load ∷ past) = ap (λ rest. SetWhole load ∷ rest) (moved_is by past)
moved_is by (Dropped ∷ past) = ap (λ rest. Dropped ∷ rest) (moved_is by past)

-- calls that are of no packet
abbrev AreOfSets : ℕ → List Call → Type 0
AreOfSets by calls = map (shifted by) calls ≡ calls

-- ---- a packet

dropped_later : (by : ℕ) (dropped : Bool)
    → drop_where itself dropped ≡ map (shifted by) (drop_where itself dropped)
dropped_later by true = refl
dropped_later by false = refl

arrived_later : (by slot bytes : ℕ) → arrived_in itself (slot + by) bytes
    ≡ map (shifted by) (arrived_in itself slot bytes)
arrived_later by slot bytes = by_test (bytes == 0)
  where
    by_test : (none : Bool) → (if none then [] else Arrived (slot + by) bytes ∷ [])
        ≡ map (shifted by) (if none then [] else Arrived slot bytes ∷ [])
    by_test true = refl
    by_test false = refl

first_later : (by : ℕ) (before : Bool) (sets : List Call) → AreOfSets by sets
    → (if before then take 1 sets else []) ≡ map (shifted by) (if before then take 1 sets else [])
first_later by true sets same = ap (take 1) (sym same) ∙ take-map (shifted by) 1 sets
first_later by false sets same = refl

rest_later : (by : ℕ) (before : Bool) (sets : List Call) → AreOfSets by sets
    → (if before then drop 1 sets else sets) ≡ map (shifted by) (if before then drop 1 sets else sets)
rest_later by true sets same = ap (drop 1) (sym same) ∙ drop-map (shifted by) 1 sets
rest_later by false sets same = sym same

joined_later : (by : ℕ) (a b x y : List Call) → a ≡ map (shifted by) x → b ≡ map (shifted by) y
    → a ++ b ≡ map (shifted by) (x ++ y)
joined_later by a b x y first rest =
    ap (λ l. l ++ b) first ∙ ap (λ l. map (shifted by) x ++ l) rest ∙ sym (map-append (shifted by) x y)

packet_later : (by slot : ℕ) (event : Event) (arrival : PacketArrival) (sets : List Call) → AreOfSets by sets
    → calls_of_packet itself event arrival (slot + by) sets
    ≡ map (shifted by) (calls_of_packet itself event arrival slot sets)
packet_later by slot event arrival sets same =
    joined_later by _ _ _ _ (dropped_later by (is_break event))
    (joined_later by _ _ _ _ (first_later by arrival.before sets same)
    (joined_later by _ _ _ _ (arrived_later by slot arrival.bytes)
    (joined_later by _ _ _ _ (rest_later by arrival.before sets same) (dropped_later by arrival.dropped))))

-- ---- a stream

all_later : (by : ℕ) (left : List (List Call)) → AllByRecursion (AreOfSets by) left → AreOfSets by (all_of left)
all_later by [] h = refl
all_later by (calls ∷ left) h = sym (joined_later by _ _ _ _ (sym h.0) (sym (all_later by left h.1)))

take_later : (by n : ℕ) (left : List (List Call)) → AllByRecursion (AreOfSets by) left
    → AllByRecursion (AreOfSets by) (take n left)
take_later by zero left h = tt
take_later by (suc n) [] h = tt
take_later by (suc n) (calls ∷ left) h = (h.0, take_later by n left h.1)

drop_later : (by n : ℕ) (left : List (List Call)) → AllByRecursion (AreOfSets by) left
    → AllByRecursion (AreOfSets by) (drop n left)
drop_later by zero left h = h
drop_later by (suc n) [] h = tt
drop_later by (suc n) (calls ∷ left) h = drop_later by n left h.1

calls_later : (coded pid : ℕ) (pages : Pages) (by slot : ℕ) (before packets : List (List ℕ)) (left : List (List Call))
    → AllByRecursion (AreOfSets by) left
    → calls_from itself coded pid pages (slot + by) before packets left
    ≡ map (shifted by) (calls_from itself coded pid pages slot before packets left)
calls_later coded pid pages by slot before [] left same = sym (all_later by left same)
calls_later coded pid pages by slot before (packet ∷ packets) left same =
    let many = count_with coded pid pages before packet in
    joined_later by _ _ _ _
    (packet_later by slot (event_at pid coded before packet) (packet_arrival coded pid pages before packet)
    (all_of (take many left)) (all_later by (take many left) (take_later by many left same)))
    (ap (λ (at : ℕ). calls_from itself coded pid pages at (before ++ packet ∷ []) packets (drop many left))
    (let next : slot + by + 1 ≡ slot + 1 + by = omega arith in next)
    ∙ calls_later coded pid pages by (slot + 1) (before ++ packet ∷ []) packets (drop many left)
    (drop_later by many left same))

-- ---- the calls of sets

call_same : (by : ℕ) (lifted : Option ℕ) (load : Option SetLoad) → AreOfSets by (call_by lifted load)
call_same by None None = refl
call_same by (Some time) None = refl
call_same by None (Some load) = refl
call_same by (Some time) (Some load) = refl

sets_same : (by : ℕ) (profile : Profile) (anchor : ℕ) (placed : List (Delivery Reading × List (Delivery Reading)))
    → AllByRecursion (AreOfSets by)
    (map (λ (one : Delivery Reading × List (Delivery Reading)). set_call profile anchor one.1 one.0) placed)
sets_same by profile anchor [] = tt
sets_same by profile anchor (one ∷ placed) = (
  call_same by (lifted_time anchor one.1 one.0) (set_load profile anchor one.1 one.0),
  sets_same by profile anchor placed,
)

map_reverse : {A B : Type 0} (f : A → B) (xs : List A) → map f (reverse xs) ≡ reverse (map f xs)
map_reverse f [] = refl
map_reverse f (x ∷ xs) =
    ap (map f) (reverse-append (x ∷ []) xs) ∙ map-append f (reverse xs) (x ∷ [])
    ∙ ap (λ l. l ++ f x ∷ []) (map_reverse f xs) ∙ sym (reverse-append (f x ∷ []) (map f xs))

-- the calls that packets give from slot 0 on are, moved, those that they give from a later slot on
pub told_later : (reception : Reception) (by : ℕ) (ended : Bool)
    (packets : List (List ℕ)) (calls : List Call)
    → AreCallsOf reception 0 ended packets calls
    → AreCallsOf reception by ended packets (moved by calls)
told_later reception by ended packets calls given =
    let sets = set_calls reception.profile reception.anchor (reverse given.past) in
    let taken = packets_taken reception.pid packets in
    record {
      past = given.past;
      received = given.received;
      are =
          moved_is by calls ∙ ap (map (shifted by)) given.are
          ∙ map_reverse (shifted by)
          (calls_from itself reception.profile.coded reception.pid reception.pages 0 [] taken sets)
          ∙ ap reverse
          (sym (calls_later reception.profile.coded reception.pid reception.pages by 0 [] taken sets
          (sets_same by reception.profile reception.anchor (with_earlier [] (reverse given.past))))
          ∙ ap (λ (at : ℕ). calls_from itself reception.profile.coded reception.pid reception.pages at [] taken sets)
          (let same : 0 + by ≡ by = omega arith in same));
    }
