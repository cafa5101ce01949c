-- Units that are sent in packets of a PID one after another come out whole, in order and without a loss.
use Rattle.std.proofs.Common.{◌≡◌, ◌≢◌, ◌∙◌, ℕ, zero, suc, ◌+◌, ◌-◌, Bool, true, false, cond, List, [], ◌∷◌, ◌++◌, length, take, replicate, Option, Some, None, refl, sym, ap, subst, arith, append_assoc, append-nil}
use Rattle.std.specs.Prelude.{filter_map}
use Rattle.std.specs.List.{AllByRecursion, concat, cons_option, prefix_len, take_while}
use Rattle.std.specs.Option.{is_none}
use Rattle.std.proofs.lemmas.Bool.{ne_eqb}
use Rattle.stream_syntax.specs.Cutting.{IsUnit, IsCut, IsGapless, AnyCutting, NothingLost, units_behind, events_behind}
use Rattle.stream_syntax.specs.TransportPackets.{pid_of, packet_fault}
use Rattle.stream_syntax.specs.Units.{last_counter, part_after, parts_of, each_after, hand_after, unit_at, event_after, event_at, is_loss}
use Rattle.stream_syntax.specs.declared.transport.Event.{Event}
use Rattle.decoder_model.specs.Arrivals.{packets_taken}
use Rattle.decoder_model.proofs.Lists.{all-append}

-- the packets hand out these units, one after another, and none of them means a loss
pub record ComeWhole (pid size : ℕ) (packets units : List (List ℕ)) : Type 0 where
  pub taken : packets_taken pid packets ≡ packets
  pub no_loss : AllByRecursion (λ event. is_loss event ≡ false) (events_behind pid size [] packets)
  pub units_are : filter_map (λ found. found) (units_behind pid size [] packets) ≡ units

-- behind packets, these packets carry these units, one after another, each in pieces; other packets stand anywhere
-- between and packets of other PIDs behind the last
abbrev pub AreSent : ℕ → ℕ → List (List ℕ) → List (List ℕ) → List (List ℕ) → Type 0
AreSent pid size before [] packets = AllByRecursion (λ packet. pid_of packet ≢ pid) packets
AreSent pid size before (unit ∷ units) packets =
    (pieces front rest : List (List ℕ)) × IsUnit size unit × (unit ≡ concat pieces)
    × IsCut pid (last_counter pid before) true pieces front
    × IsGapless pid (last_counter pid before) front × (packets ≡ front ++ rest)
    × AreSent pid size (before ++ front) units rest

-- what stands at packets behind others, in two parts
pub each_after-append : {X : Type 0} (f : List (List ℕ) → List ℕ → X) (before xs ys : List (List ℕ))
    → each_after f before (xs ++ ys) ≡ each_after f before xs ++ each_after f (before ++ xs) ys
each_after-append f before [] ys = ap (λ past. each_after f past ys) (sym (append-nil before))
each_after-append {X} f before (x ∷ xs) ys =
    ap {B = List X} (λ rest. f before x ∷ rest) (each_after-append f (before ++ x ∷ []) xs ys
    ∙ ap (λ past. each_after f (before ++ x ∷ []) xs ++ each_after f past ys) (append_assoc before (x ∷ []) xs))

pub given-append : (xs ys : List (Option (List ℕ)))
    → filter_map (λ found. found) (xs ++ ys) ≡ filter_map (λ found. found) xs ++ filter_map (λ found. found) ys
given-append [] ys = refl
given-append (None ∷ xs) ys = given-append xs ys
given-append (Some x ∷ xs) ys = ap (λ rest. x ∷ rest) (given-append xs ys)

nothing_given : (n : ℕ) → filter_map (λ (found : Option (List ℕ)). found) (replicate n None) ≡ []
nothing_given zero = refl
nothing_given (suc n) = nothing_given n

-- ---- packets of other PIDs

no_unit_at : (pid size : ℕ) (before : List (List ℕ)) (packet : List ℕ) → pid_of packet ≢ pid
    → unit_at pid size before packet ≡ None
unfolding part_after
no_unit_at pid size before packet h = rw (ne_eqb (pid_of packet) pid h) refl

pub no_loss_at : (pid size : ℕ) (before : List (List ℕ)) (packet : List ℕ) → pid_of packet ≢ pid
    → is_loss (event_at pid size before packet) ≡ false
unfolding event_after
no_loss_at pid size before packet h = rw (ne_eqb (pid_of packet) pid h) refl

others_give_none : (pid size : ℕ) (before packets : List (List ℕ))
    → AllByRecursion (λ packet. pid_of packet ≢ pid) packets
    → filter_map (λ found. found) (units_behind pid size before packets) ≡ []
others_give_none pid size before [] h = refl
others_give_none pid size before (packet ∷ packets) h =
    ap (λ found. cons_option found
    (filter_map (λ found. found) (units_behind pid size (before ++ packet ∷ []) packets)))
    (no_unit_at pid size before packet h.0)
    ∙ others_give_none pid size (before ++ packet ∷ []) packets h.1

others_lose_none : (pid size : ℕ) (before packets : List (List ℕ))
    → AllByRecursion (λ packet. pid_of packet ≢ pid) packets
    → AllByRecursion (λ event. is_loss event ≡ false) (events_behind pid size before packets)
others_lose_none pid size before [] h = tt
others_lose_none pid size before (packet ∷ packets) h =
    (no_loss_at pid size before packet h.0, others_lose_none pid size (before ++ packet ∷ []) packets h.1)

-- ---- units

-- the units come out, one after another
pub units_of_sent : (pid size : ℕ) (before units packets : List (List ℕ)) → AnyCutting pid size
    → AreSent pid size before units packets
    → filter_map (λ found. found) (units_behind pid size before packets) ≡ units
units_of_sent pid size before [] packets cutting sent = others_give_none pid size before packets sent
units_of_sent pid size before (unit ∷ units) packets cutting sent =
    let front = sent.1 in
    let rest = sent.2 in
    let whole = cutting before front sent.0 unit sent.3 sent.4 sent.5 in
    ap (λ all. filter_map (λ found. found) (units_behind pid size before all)) sent.7
    ∙ ap (filter_map (λ found. found)) (each_after-append (unit_at pid size) before front rest)
    ∙ given-append (units_behind pid size before front) (units_behind pid size (before ++ front) rest)
    ∙ ap (λ first. filter_map (λ found. found) first
    ++ filter_map (λ found. found) (units_behind pid size (before ++ front) rest)) whole.0
    ∙ ap (λ first. first ++ filter_map (λ found. found) (units_behind pid size (before ++ front) rest))
    (given-append (replicate (length front - 1) None) (Some unit ∷ []))
    ∙ ap (λ none. (none ++ unit ∷ [])
    ++ filter_map (λ found. found) (units_behind pid size (before ++ front) rest))
    (nothing_given (length front - 1))
    ∙ ap (λ others. unit ∷ others) (units_of_sent pid size (before ++ front) units rest cutting sent.8)

-- and nothing is lost
pub none_lost : (pid size : ℕ) (before units packets : List (List ℕ)) → AnyCutting pid size
    → NothingLost pid size → hand_after pid size before ≡ None → AreSent pid size before units packets
    → AllByRecursion (λ event. is_loss event ≡ false) (events_behind pid size before packets)
none_lost pid size before [] packets cutting lossless hand sent = others_lose_none pid size before packets sent
none_lost pid size before (unit ∷ units) packets cutting lossless hand sent =
    let front = sent.1 in
    let rest = sent.2 in
    let whole = cutting before front sent.0 unit sent.3 sent.4 sent.5 in
    let here = lossless before front sent.0 unit sent.3 sent.4 sent.5 sent.6 hand in
    let there = none_lost pid size (before ++ front) units rest cutting lossless whole.1 sent.8 in
    subst (λ (all : List (List ℕ)). AllByRecursion (λ event. is_loss event ≡ false)
    (events_behind pid size before all)) (sym sent.7)
    (subst (AllByRecursion (λ (event : Event). is_loss event ≡ false))
    (sym (each_after-append (event_at pid size) before front rest))
    (all-append (λ event. is_loss event ≡ false) (events_behind pid size before front)
    (events_behind pid size (before ++ front) rest) here there))

-- ---- packets that are taken

-- where each item passes a test, none is left behind
pub all_pass : {X : Type 0} (test : X → Bool) (xs : List X) → AllByRecursion (λ x. test x ≡ true) xs
    → take_while test xs ≡ xs
all_pass test [] h = refl
all_pass {X} test (x ∷ xs) h =
    let one_more : 1 + prefix_len test xs ≡ suc (prefix_len test xs) = omega arith in
    ap {B = List X} (λ passes. take (cond passes (1 + prefix_len test xs) 0) (x ∷ xs)) h.0
    ∙ ap {B = List X} (λ n. take n (x ∷ xs)) one_more
    ∙ ap {B = List X} (λ rest. x ∷ rest) (all_pass test xs h.1)

none_faulty : (pid : ℕ) (packets : List (List ℕ))
    → AllByRecursion (λ packet. packet_fault pid packet ≡ None) packets
    → AllByRecursion (λ packet. is_none (packet_fault pid packet) ≡ true) packets
none_faulty pid [] h = tt
none_faulty pid (packet ∷ packets) h = (ap (λ fault. is_none fault) h.0, none_faulty pid packets h.1)

-- packets without a fault are all taken
pub all_taken : (pid : ℕ) (packets : List (List ℕ))
    → AllByRecursion (λ packet. packet_fault pid packet ≡ None) packets → packets_taken pid packets ≡ packets
all_taken pid packets h = all_pass (λ packet. is_none (packet_fault pid packet)) packets (none_faulty pid packets h)

-- before the first packet no unit is in hand
pub no_hand : (pid size : ℕ) → hand_after pid size [] ≡ None
unfolding hand_after parts_of
no_hand pid size = refl

-- packets that carry units hand them out whole
pub sent_come_whole : (size pid : ℕ) (packets units : List (List ℕ)) → AnyCutting pid size
    → NothingLost pid size → AllByRecursion (λ packet. packet_fault pid packet ≡ None) packets
    → AreSent pid size [] units packets
    → ComeWhole pid size packets units
sent_come_whole size pid packets units cutting lossless sound sent = record {
  taken = all_taken pid packets sound;
  no_loss = none_lost pid size [] units packets cutting lossless (no_hand pid size) sent;
  units_are = units_of_sent pid size [] units packets cutting sent;
}
