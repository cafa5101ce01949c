-- The calls of packets: those of some, and then those of the packets behind them.
use Rattle.std.proofs.Common.{◌≡◌, ◌∙◌, ℕ, suc, ◌+◌, ◌≤◌, Bool, false, List, [], ◌∷◌, ◌++◌, length, take, drop, None, refl, sym, ap, subst, arith, append-nil, append_assoc, length-append, length-drop}
use Rattle.std.specs.List.{AllByRecursion}
use Rattle.std.proofs.lemmas.List.{take-append-le, drop-append-le, take_all, drop_all}
use Rattle.stream_syntax.specs.TransportPackets.{packet_fault}
use Rattle.stream_syntax.specs.Units.{event_at}
use Rattle.buffer_model.specs.Calls.{Call}
use Rattle.decoder_model.specs.declared.pages.Pages.{Pages}
use Rattle.decoder_model.specs.Arrivals.{arrivals_of}
use Rattle.decoder_model.specs.PacketArrivals.{packet_arrival}
use Rattle.decoder_model.specs.Sets.{has_ended, sets_of}
use Rattle.decoder_model.proofs.Growth.{packets_add}
use Rattle.decoder_model.proofs.SentUnits.{all_taken}
use Rattle.received_level_laws.specs.StreamCalls.{count_with, calls_of_packet, calls_from}
use Rattle.sub_base.specs.Lists.{all_of}

-- ---- how many sets and losses come

-- no packet has a fault
abbrev pub AreSound : ℕ → List (List ℕ) → Type 0
AreSound pid packets = AllByRecursion (λ packet. packet_fault pid packet ≡ None) packets

pub sound_front : (pid : ℕ) (packets more : List (List ℕ)) → AreSound pid (packets ++ more)
    → AreSound pid packets
sound_front pid [] more h = tt
sound_front pid (packet ∷ packets) more h = (h.0, sound_front pid packets more h.1)

-- how many sets and losses packets give
abbrev pub many : ℕ → ℕ → Pages → List (List ℕ) → ℕ
many coded pid pages packets = length (sets_of coded pid pages false packets)

pub no_fewer : (coded pid : ℕ) (pages : Pages) (packets more : List (List ℕ)) → AreSound pid (packets ++ more)
    → many coded pid pages packets ≤ many coded pid pages (packets ++ more)
no_fewer coded pid pages packets more sound =
    let added = packets_add coded pid pages packets more (all_taken pid packets (sound_front pid packets more sound))
    (all_taken pid (packets ++ more) sound) in
    omega (arith, ap length added.1, length-append (sets_of coded pid pages false packets) added.0)

-- before the first packet there is none, be the stream ended with it or not
pub none_yet : (coded pid : ℕ) (pages : Pages) (ended : Bool) → sets_of coded pid pages ended [] ≡ []
unfolding sets_of arrivals_of has_ended
none_yet coded pid pages ended = refl

-- ---- packets, and those behind them

-- where packets give so many sets and losses as there are lists of calls in front, the calls of these packets are
-- made of them, and those of the packets behind are made of what is left
pub calls_onward : {X : Type 0} (of : Call → X) (coded pid : ℕ) (pages : Pages) (slot : ℕ)
    (before packets behind : List (List ℕ))
    (front back : List (List X))
    → AreSound pid (before ++ packets)
    → many coded pid pages (before ++ packets) ≡ many coded pid pages before + length front
    → calls_from of coded pid pages slot before (packets ++ behind) (front ++ back)
    ≡ calls_from of coded pid pages slot before packets front ++ calls_from of coded pid pages (slot + length packets)
    (before ++ packets) behind back
calls_onward {X} of coded pid pages slot before [] behind [] back sound used =
    let same : slot ≡ slot + 0 = omega arith in
    ap {B = List X} (λ n. calls_from of coded pid pages n before behind back) same
    ∙ ap {B = List X} (λ past. calls_from of coded pid pages (slot + 0) past behind back) (sym (append-nil before))
calls_onward of coded pid pages slot before [] behind (one ∷ front) back sound used =
    absurd (omega (arith, ap (many coded pid pages) (append-nil before)))
calls_onward {X} of coded pid pages slot before (packet ∷ packets) behind front back sound used =
    let count = count_with coded pid pages before packet in
    let grouped : (before ++ packet ∷ []) ++ packets ≡ before ++ packet ∷ packets =
    append_assoc before (packet ∷ []) packets in
    let sound_all = subst (AreSound pid) (sym grouped) sound in
    let first =
    no_fewer coded pid pages before (packet ∷ []) (sound_front pid (before ++ packet ∷ []) packets sound_all)
    in
    let later = no_fewer coded pid pages (before ++ packet ∷ []) packets sound_all in
    let all : many coded pid pages ((before ++ packet ∷ []) ++ packets)
    ≡ many coded pid pages before + length front = ap (many coded pid pages) grouped ∙ used in
    let few : count ≤ length front = omega (arith, first, later, all) in
    let left : many coded pid pages ((before ++ packet ∷ []) ++ packets)
    ≡ many coded pid pages (before ++ packet ∷ []) + length (drop count front) =
    omega (arith, first, later, all, length-drop count front) in
    let own = calls_of_packet of (event_at pid coded before packet) (packet_arrival coded pid pages before packet) slot
    (all_of (take count front)) in
    let mine = calls_from of coded pid pages (slot + 1) (before ++ packet ∷ []) packets (drop count front) in
    let following : slot + 1 + length packets ≡ slot + suc (length packets) = omega arith in
    ap {B = List X} (λ sets. calls_of_packet of (event_at pid coded before packet)
    (packet_arrival coded pid pages before packet) slot (all_of sets)
    ++ calls_from of coded pid pages (slot + 1) (before ++ packet ∷ []) (packets ++ behind)
    (drop count (front ++ back)))
    (take-append-le count front back few)
    ∙ ap {B = List X} (λ sets. own ++ calls_from of coded pid pages (slot + 1) (before ++ packet ∷ [])
    (packets ++ behind) sets) (drop-append-le count front back few)
    ∙ ap {B = List X} (λ rest. own ++ rest)
    (calls_onward of coded pid pages (slot + 1) (before ++ packet ∷ []) packets behind
    (drop count front) back sound_all left)
    ∙ sym (append_assoc own mine (calls_from of coded pid pages (slot + 1 + length packets)
    ((before ++ packet ∷ []) ++ packets) behind back))
    ∙ ap {B = List X} (λ n. (own ++ mine) ++ calls_from of coded pid pages n
    ((before ++ packet ∷ []) ++ packets) behind back) following
    ∙ ap {B = List X} (λ past. (own ++ mine) ++ calls_from of coded pid pages
    (slot + suc (length packets)) past behind back) grouped

-- one packet more adds its calls, which use up the lists of calls that are left
pub calls_of_last : {X : Type 0} (of : Call → X) (coded pid : ℕ) (pages : Pages) (slot : ℕ)
    (packets : List (List ℕ)) (packet : List ℕ)
    (front back : List (List X))
    → AreSound pid (packets ++ packet ∷ [])
    → many coded pid pages packets ≡ length front
    → many coded pid pages (packets ++ packet ∷ []) ≡ length (front ++ back)
    → calls_from of coded pid pages slot [] (packets ++ packet ∷ []) (front ++ back)
    ≡ calls_from of coded pid pages slot [] packets front
    ++ calls_of_packet of (event_at pid coded packets packet) (packet_arrival coded pid pages packets packet)
    (slot + length packets) (all_of back)
calls_of_last {X} of coded pid pages slot packets packet front back sound used used_all =
    let count : count_with coded pid pages packets packet ≡ length back =
    omega (arith, used, used_all, length-append front back) in
    let before : many coded pid pages packets ≡ many coded pid pages [] + length front =
    omega (arith, used, ap length (none_yet coded pid pages false)) in
    let mine = calls_from of coded pid pages slot [] packets front in
    let own : List (List X) → List X =
    λ sets. calls_of_packet of (event_at pid coded packets packet) (packet_arrival coded pid pages packets packet)
    (slot + length packets) (all_of sets) in
    calls_onward of coded pid pages slot [] packets (packet ∷ []) front back
    (sound_front pid packets (packet ∷ []) sound) before
    ∙ ap {B = List X} (λ n. mine ++ (own (take n back) ++ all_of (drop n back))) count
    ∙ ap {B = List X} (λ sets. mine ++ (own sets ++ all_of (drop (length back) back)))
    (take_all (length back) back (omega arith))
    ∙ ap {B = List X} (λ sets. mine ++ (own back ++ all_of sets)) (drop_all (length back) back (omega arith))
    ∙ ap {B = List X} (λ calls. mine ++ calls) (append-nil (own back))

-- the calls of sets that no packet makes ready come last
pub calls_at_end : {X : Type 0} (of : Call → X) (coded pid : ℕ) (pages : Pages) (slot : ℕ)
    (packets : List (List ℕ))
    (front back : List (List X))
    → AreSound pid packets → many coded pid pages packets ≡ length front
    → calls_from of coded pid pages slot [] packets (front ++ back)
    ≡ calls_from of coded pid pages slot [] packets front ++ all_of back
calls_at_end {X} of coded pid pages slot packets front back sound used =
    let before : many coded pid pages packets ≡ many coded pid pages [] + length front =
    omega (arith, used, ap length (none_yet coded pid pages false)) in
    ap {B = List X} (λ all. calls_from of coded pid pages slot [] all (front ++ back)) (sym (append-nil packets))
    ∙ calls_onward of coded pid pages slot [] packets [] front back sound before
