-- Each call of a stream is told with its set: a set that is whole with its load, and a packet with none.
use Rattle.std.proofs.Common.{◌≡◌, ℕ, zero, suc, ◌+◌, ◌==◌, Bool, true, false, List, [], ◌∷◌, ◌++◌, map, take, drop, Option, Some, None, refl}
use Rattle.std.specs.Bool.{if◌then◌else◌}
use Rattle.std.specs.List.{AllByRecursion}
use Rattle.sub_base.specs.Lists.{all_of}
use Rattle.sub_base.specs.declared.load.SetLoad.{SetLoad}
use Rattle.sub_base.specs.declared.profile.Profile.{Profile}
use Rattle.stream_syntax.specs.Units.{event_at}
use Rattle.stream_syntax.specs.declared.transport.Event.{Event}
use Rattle.buffer_model.specs.Calls.{Call, Arrived, SetWhole, Dropped}
use Rattle.decoder_model.specs.declared.pages.Pages.{Pages}
use Rattle.decoder_model.specs.declared.set_end.SetEnd.{SetEnd}
use Rattle.decoder_model.specs.Kept.{lifted_time}
use Rattle.decoder_model.specs.PacketArrivals.{PacketArrival, packet_arrival, is_break}
use Rattle.decoder_model.specs.Readings.{Reading}
use Rattle.decoder_model.specs.Sets.{Delivery, lost, whole, refused}
use Rattle.decoder_model.proofs.Lists.{all-append}
use Rattle.received_level_laws.specs.StreamCalls.{call_by, count_with, calls_of_packet, calls_from}
use Rattle.received_level_laws.specs.ToldSets.{ToldSet, ToldCall, of_no_set, of_set, set_told, told_call, told_behind}

-- what a call of that kind is told with
abbrev pub IsToldSo : Call → Option ToldSet → Type 0
IsToldSo (Arrived slot bytes) set = set ≡ None
IsToldSo (SetWhole load) set = (end : SetEnd) × (set ≡ Some (record { end = end; load = load }))
IsToldSo Dropped set = Unit {0}

abbrev pub IsToldRightly : ToldCall → Type 0
IsToldRightly told = IsToldSo told.call told.set

-- ---- sets

by_time : (lifted : Option ℕ) (end : SetEnd) (load : SetLoad)
    → AllByRecursion IsToldRightly (map (of_set (set_told (Some end) (Some load))) (call_by lifted (Some load)))
by_time None end load = (tt, tt)
by_time (Some time) end load = ((end, refl), tt)

one_told : (profile : Profile) (anchor : ℕ) (past : List (Delivery Reading)) (delivery : Delivery Reading)
    → AllByRecursion IsToldRightly (told_call profile anchor past delivery)
one_told profile anchor past lost = tt
one_told profile anchor past (whole time size readings) =
    by_time (lifted_time anchor past (whole time size readings)) _ _
one_told profile anchor past (refused time size fault) =
    by_time (lifted_time anchor past (refused time size fault)) _ _

pub sets_told : (profile : Profile) (anchor : ℕ) (older received : List (Delivery Reading))
    → AllByRecursion (AllByRecursion IsToldRightly) (told_behind profile anchor older received)
sets_told profile anchor older [] = tt
sets_told profile anchor older (one ∷ received) =
    (one_told profile anchor older one, sets_told profile anchor (one ∷ older) received)

-- ---- any items

ahead : {X : Type 0} (P : X → Type 0) (n : ℕ) (xs : List X) → AllByRecursion P xs → AllByRecursion P (take n xs)
ahead P zero xs h = tt
ahead P (suc n) [] h = tt
ahead P (suc n) (x ∷ xs) h = (h.0, ahead P n xs h.1)

behind : {X : Type 0} (P : X → Type 0) (n : ℕ) (xs : List X) → AllByRecursion P xs → AllByRecursion P (drop n xs)
behind P zero xs h = h
behind P (suc n) [] h = tt
behind P (suc n) (x ∷ xs) h = behind P n xs h.1

either : {X : Type 0} (P : X → Type 0) (b : Bool) (xs ys : List X) → AllByRecursion P xs → AllByRecursion P ys
    → AllByRecursion P (if b then xs else ys)
either P true xs ys hx hy = hx
either P false xs ys hx hy = hy

joined : {X : Type 0} (P : X → Type 0) (sets : List (List X)) → AllByRecursion (AllByRecursion P) sets
    → AllByRecursion P (all_of sets)
joined P [] h = tt
joined P (set ∷ sets) h = all-append P set (all_of sets) h.0 (joined P sets h.1)

-- ---- packets

packet_told : (event : Event) (arrival : PacketArrival) (slot : ℕ) (sets : List ToldCall)
    → AllByRecursion IsToldRightly sets
    → AllByRecursion IsToldRightly (calls_of_packet of_no_set event arrival slot sets)
packet_told event arrival slot sets all =
    by (is_break event) arrival.before (arrival.bytes == 0) arrival.dropped
  where
    by : (broken before none last : Bool)
        → AllByRecursion IsToldRightly ((if broken then of_no_set Dropped ∷ [] else [])
        ++ ((if before then take 1 sets else [])
        ++ ((if none then [] else of_no_set (Arrived slot arrival.bytes) ∷ [])
        ++ ((if before then drop 1 sets else sets) ++ (if last then of_no_set Dropped ∷ [] else [])))))
    by broken before none last =
        all-append IsToldRightly (if broken then of_no_set Dropped ∷ [] else []) _
        (either IsToldRightly broken (of_no_set Dropped ∷ []) [] (tt, tt) tt)
        (all-append IsToldRightly (if before then take 1 sets else []) _
        (either IsToldRightly before (take 1 sets) [] (ahead IsToldRightly 1 sets all) tt)
        (all-append IsToldRightly (if none then [] else of_no_set (Arrived slot arrival.bytes) ∷ []) _
        (either IsToldRightly none [] (of_no_set (Arrived slot arrival.bytes) ∷ []) tt (refl, tt))
        (all-append IsToldRightly (if before then drop 1 sets else sets) _
        (either IsToldRightly before (drop 1 sets) sets (behind IsToldRightly 1 sets all) all)
        (either IsToldRightly last (of_no_set Dropped ∷ []) [] (tt, tt) tt))))

pub packets_told : (coded pid : ℕ) (pages : Pages) (slot : ℕ) (before packets : List (List ℕ))
    (left : List (List ToldCall)) → AllByRecursion (AllByRecursion IsToldRightly) left
    → AllByRecursion IsToldRightly (calls_from of_no_set coded pid pages slot before packets left)
packets_told coded pid pages slot before [] left all = joined IsToldRightly left all
packets_told coded pid pages slot before (packet ∷ packets) left all =
    let count = count_with coded pid pages before packet in
    let here = all_of (take count left) in
    all-append IsToldRightly
    (calls_of_packet of_no_set (event_at pid coded before packet) (packet_arrival coded pid pages before packet) slot
    here)
    (calls_from of_no_set coded pid pages (slot + 1) (before ++ packet ∷ []) packets (drop count left))
    (packet_told (event_at pid coded before packet) (packet_arrival coded pid pages before packet) slot here
    (joined IsToldRightly (take count left) (ahead (AllByRecursion IsToldRightly) count left all)))
    (packets_told coded pid pages (slot + 1) (before ++ packet ∷ []) packets (drop count left)
    (behind (AllByRecursion IsToldRightly) count left all))
