-- What stands for a call may tell less: the calls of packets are then the same.
use Rattle.std.proofs.Common.{◌≡◌, ◌∙◌, ℕ, ◌+◌, ◌==◌, Bool, true, false, List, [], ◌∷◌, ◌++◌, map, take, drop, refl, sym, ap}
use Rattle.std.specs.Bool.{if◌then◌else◌}
use Rattle.std.specs.List.{take-map, drop-map}
use Rattle.std.proofs.lemmas.List.{map-append}
use Rattle.stream_syntax.specs.Units.{event_at}
use Rattle.stream_syntax.specs.declared.transport.Event.{Event}
use Rattle.buffer_model.specs.Calls.{Call, Arrived, Dropped}
use Rattle.decoder_model.specs.declared.pages.Pages.{Pages}
use Rattle.decoder_model.specs.PacketArrivals.{PacketArrival, packet_arrival, is_break}
use Rattle.received_level_laws.specs.StreamCalls.{count_with, calls_of_packet, calls_from}
use Rattle.sub_base.specs.Lists.{all_of}

map_where : {X Y : Type 0} (f : X → Y) (b : Bool) (xs ys : List X)
    → map f (if b then xs else ys) ≡ (if b then map f xs else map f ys)
map_where f true xs ys = refl
map_where f false xs ys = refl

pub map_all_of : {X Y : Type 0} (f : X → Y) (sets : List (List X))
    → map f (all_of sets) ≡ all_of (map (map f) sets)
map_all_of f [] = refl
map_all_of {Y = Y} f (set ∷ sets) = map-append f set (all_of sets)
    ∙ ap {B = List Y} (λ rest. map f set ++ rest) (map_all_of f sets)

-- the calls of a packet
pub same_of_packet : {X Y : Type 0} (f : X → Y) (of : Call → X) (event : Event) (arrival : PacketArrival) (slot : ℕ)
    (sets : List X)
    → map f (calls_of_packet of event arrival slot sets) ≡ calls_of_packet (λ call. f (of call)) event arrival slot
    (map f sets)
same_of_packet {X} {Y} f of event arrival slot sets = by (is_break event) arrival.before
    (arrival.bytes == 0) arrival.dropped
  where
    by : (broken before none dropped : Bool)
        → map f ((if broken then of Dropped ∷ [] else [])
        ++ ((if before then take 1 sets else [])
        ++ ((if none then [] else of (Arrived slot arrival.bytes) ∷ [])
        ++ ((if before then drop 1 sets else sets) ++ (if dropped then of Dropped ∷ [] else [])))))
        ≡ (if broken then f (of Dropped) ∷ [] else [])
        ++ ((if before then take 1 (map f sets) else []) ++
        ((if none then [] else f (of (Arrived slot arrival.bytes)) ∷ [])
        ++ ((if before then drop 1 (map f sets) else map f sets) ++ (if dropped then f (of Dropped) ∷ [] else []))))
    by broken before none dropped =
        let drops : List X = if broken then of Dropped ∷ [] else [] in
        let firsts : List X = if before then take 1 sets else [] in
        let arrives : List X = if none then [] else of (Arrived slot arrival.bytes) ∷ [] in
        let others : List X = if before then drop 1 sets else sets in
        let behind : List X = if dropped then of Dropped ∷ [] else [] in
        map-append f drops (firsts ++ (arrives ++ (others ++ behind)))
        ∙ ap {B = List Y} (λ rest. map f drops ++ rest) (map-append f firsts (arrives ++ (others ++ behind)))
        ∙ ap {B = List Y} (λ rest. map f drops ++ (map f firsts ++ rest)) (map-append f arrives (others ++ behind))
        ∙ ap {B = List Y} (λ rest. map f drops ++ (map f firsts ++ (map f arrives ++ rest)))
        (map-append f others behind)
        ∙ ap {B = List Y} (λ mine. mine ++ (map f firsts ++ (map f arrives ++ (map f others ++ map f behind))))
        (map_where f broken (of Dropped ∷ []) [])
        ∙ ap {B = List Y} (λ mine. (if broken then f (of Dropped) ∷ [] else [])
        ++ (mine ++ (map f arrives ++ (map f others ++ map f behind)))) (first_mapped before)
        ∙ ap {B = List Y} (λ mine. (if broken then f (of Dropped) ∷ [] else [])
        ++ ((if before then take 1 (map f sets) else []) ++ (mine ++ (map f others ++ map f behind))))
        (map_where f none [] (of (Arrived slot arrival.bytes) ∷ []))
        ∙ ap {B = List Y} (λ mine. (if broken then f (of Dropped) ∷ [] else [])
        ++ ((if before then take 1 (map f sets) else []) ++
        ((if none then [] else f (of (Arrived slot arrival.bytes)) ∷ []) ++ (mine ++ map f behind))))
        (rest_mapped before)
        ∙ ap {B = List Y} (λ mine. (if broken then f (of Dropped) ∷ [] else [])
        ++ ((if before then take 1 (map f sets) else []) ++
        ((if none then [] else f (of (Arrived slot arrival.bytes)) ∷ [])
        ++ ((if before then drop 1 (map f sets) else map f sets) ++ mine))))
        (map_where f dropped (of Dropped ∷ []) [])
      where
        first_mapped : (before : Bool) → map f (if before then take 1 sets else [])
            ≡ (if before then take 1 (map f sets) else [])
        first_mapped true = sym (take-map f 1 sets)
        first_mapped false = refl

        rest_mapped : (before : Bool) → map f (if before then drop 1 sets else sets)
            ≡ (if before then drop 1 (map f sets) else map f sets)
        rest_mapped true = sym (drop-map f 1 sets)
        rest_mapped false = refl

-- the calls of packets
pub same_calls : {X Y : Type 0} (f : X → Y) (of : Call → X) (coded pid : ℕ) (pages : Pages) (slot : ℕ)
    (before packets : List (List ℕ))
    (left : List (List X))
    → map f (calls_from of coded pid pages slot before packets left)
    ≡ calls_from (λ call. f (of call)) coded pid pages slot before packets (map (map f) left)
same_calls f of coded pid pages slot before [] left = map_all_of f left
same_calls {X} {Y} f of coded pid pages slot before (packet ∷ packets) left =
    let count = count_with coded pid pages before packet in
    let event = event_at pid coded before packet in
    let arrival = packet_arrival coded pid pages before packet in
    let mine = all_of (take count left) in
    let rest = calls_from of coded pid pages (slot + 1) (before ++ packet ∷ []) packets (drop count left) in
    let told : Call → Y = λ call. f (of call) in
    map-append f (calls_of_packet of event arrival slot mine) rest
    ∙ ap {B = List Y} (λ calls. calls ++ map f rest) (same_of_packet f of event arrival slot mine
    ∙ ap {B = List Y} (calls_of_packet told event arrival slot)
    (map_all_of f (take count left) ∙ ap {B = List Y} (λ sets. all_of sets) (sym (take-map (map f) count left))))
    ∙ ap {B = List Y} (λ calls. calls_of_packet told event arrival slot (all_of (take count (map (map f) left)))
    ++ calls)
    (same_calls f of coded pid pages (slot + 1) (before ++ packet ∷ []) packets (drop count left)
    ∙ ap {B = List Y} (calls_from told coded pid pages (slot + 1) (before ++ packet ∷ []) packets)
    (sym (drop-map (map f) count left)))
