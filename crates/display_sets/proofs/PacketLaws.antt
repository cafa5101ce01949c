-- What arrives with one packet more, behind packets that were all taken.
use Rattle.std.proofs.Common.{◌≡◌, ◌∙◌, ℕ, suc, ◌+◌, Bool, true, false, ◌&&◌, cond, List, [], ◌∷◌, ◌++◌, take, None, refl, sym, ap, arith, append-nil}
use Rattle.std.specs.Prelude.{flat_map}
use Rattle.std.specs.List.{AllByRecursion, list_all, prefix_len, take_while}
use Rattle.std.specs.Option.{is_none}
use Rattle.stream_syntax.specs.TransportPackets.{packet_fault}
use Rattle.stream_syntax.specs.Units.{each_after}
use Rattle.decoder_model.specs.declared.pages.Pages.{Pages}
use Rattle.decoder_model.specs.Arrivals.{Arrival, arrivals_at, packets_taken, arrivals_of}
use Rattle.decoder_model.specs.Sets.{has_ended, sets_of, sets_in, runs_of}
use Rattle.decoder_model.proofs.Growth.{flat-append}
use Rattle.decoder_model.proofs.Lists.{all-append}
use Rattle.decoder_model.proofs.SentUnits.{each_after-append, all_pass}

abbrev is_sound : ℕ → List ℕ → Bool
is_sound pid packet = is_none (packet_fault pid packet)

-- what is taken from the front as a whole passes the test
passes_all : {X : Type 0} (test : X → Bool) (xs : List X) → take_while test xs ≡ xs
    → AllByRecursion (λ x. test x ≡ true) xs
passes_all test [] e = tt
passes_all {X} test (x ∷ xs) e = by (test x) refl (passes_all test xs) e
  where
    by : (b : Bool) → test x ≡ b → (take_while test xs ≡ xs → AllByRecursion (λ x. test x ≡ true) xs)
        → take (cond b (1 + prefix_len test xs) 0) (x ∷ xs) ≡ x ∷ xs
        → (test x ≡ true) × AllByRecursion (λ x. test x ≡ true) xs
    by true is behind e =
        let one_more : 1 + prefix_len test xs ≡ suc (prefix_len test xs) = omega arith in
        let whole : x ∷ take (prefix_len test xs) xs ≡ x ∷ xs =
        sym (ap (λ n. take n (x ∷ xs)) one_more) ∙ e in
        (is, behind (let rest : take (prefix_len test xs) xs ≡ xs = cc in rest))
    by false is behind e = absurd (cc)

-- one more packet without a fault is taken too
pub taken_more : (pid : ℕ) (packets : List (List ℕ)) (packet : List ℕ) → packets_taken pid packets ≡ packets
    → packet_fault pid packet ≡ None → packets_taken pid (packets ++ packet ∷ []) ≡ packets ++ packet ∷ []
taken_more pid packets packet taken sound =
    all_pass (is_sound pid) (packets ++ packet ∷ [])
    (all-append (λ packet. is_sound pid packet ≡ true) packets (packet ∷ [])
    (passes_all (is_sound pid) packets taken) (ap (λ fault. is_none fault) sound, tt))

pub arrivals_grow : (size pid : ℕ) (pages : Pages) (packets : List (List ℕ)) (packet : List ℕ)
    → packets_taken pid packets ≡ packets → packet_fault pid packet ≡ None
    → arrivals_of size pid pages (packets ++ packet ∷ []) ≡ arrivals_of size pid pages packets
    ++ arrivals_at size pid pages packets packet
unfolding arrivals_of
arrivals_grow size pid pages packets packet taken sound =
    let each = arrivals_at size pid pages in
    let here = arrivals_at size pid pages packets packet in
    let all : List (List ℕ) → List Arrival =
    λ found. flat_map (λ (arrivals : List Arrival). arrivals) (each_after each [] found) in
    ap all (taken_more pid packets packet taken sound)
    ∙ ap (flat_map (λ (arrivals : List Arrival). arrivals)) (each_after-append each [] packets (packet ∷ []))
    ∙ flat-append (each_after each [] packets) (here ∷ [])
    ∙ ap (λ last. all packets ++ last) (append-nil here)
    ∙ ap (λ found. all found ++ here) (sym taken)

-- no packet, no arrival
pub none_arrived : (size pid : ℕ) (pages : Pages) → arrivals_of size pid pages [] ≡ []
unfolding arrivals_of
none_arrived size pid pages = refl

-- ---- sets of packets

pub sets_of_packets : (coded pid : ℕ) (pages : Pages) (ended : Bool) (packets : List (List ℕ))
    → sets_of coded pid pages ended packets
    ≡ sets_in coded (has_ended ended pid packets) (runs_of (arrivals_of coded pid pages packets))
unfolding sets_of
sets_of_packets coded pid pages ended packets = refl

sound_all : {X : Type 0} (test : X → Bool) (xs : List X) → AllByRecursion (λ x. test x ≡ true) xs
    → list_all test xs ≡ true
sound_all test [] h = refl
sound_all test (x ∷ xs) h = ap (λ b. b && list_all test xs) h.0 ∙ sound_all test xs h.1

pub ended_packets : (ended : Bool) (pid : ℕ) (packets : List (List ℕ)) → packets_taken pid packets ≡ packets
    → has_ended ended pid packets ≡ ended
unfolding has_ended
ended_packets ended pid packets taken =
    ap (λ b. ended && b) (sound_all (is_sound pid) packets (passes_all (is_sound pid) packets taken)) ∙ by ended
  where
    by : (b : Bool) → (b && true) ≡ b
    by true = refl
    by false = refl
