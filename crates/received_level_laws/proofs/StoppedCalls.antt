-- The first packet that cannot be taken ends what is told.
use Rattle.std.proofs.Common.{◌≡◌, ◌∙◌, ℕ, suc, ◌+◌, Bool, true, false, cond, ◌&&◌, List, [], ◌∷◌, ◌++◌, take, reverse, Some, refl, sym, ap, subst, arith}
use Rattle.std.specs.Prelude.{flat_map}
use Rattle.std.specs.List.{list_all, prefix_len}
use Rattle.std.specs.Option.{is_none}
use Rattle.stream_syntax.specs.TransportPackets.{packet_fault}
use Rattle.stream_syntax.specs.Units.{each_after}
use Rattle.stream_syntax.specs.declared.transport.PacketFault.{PacketFault}
use Rattle.decoder_model.specs.declared.pages.Pages.{Pages}
use Rattle.decoder_model.specs.Arrivals.{Arrival, arrivals_at, packets_taken, arrivals_of}
use Rattle.decoder_model.specs.Readings.{AreDeliveriesRead}
use Rattle.decoder_model.specs.Received.{Reception}
use Rattle.decoder_model.specs.Sets.{Delivery, runs_of, has_ended, sets_of, sets_in}
use Rattle.received_level_laws.specs.ToldSets.{ToldCall, told_of, AreToldCalls}
use Rattle.received_level_laws.proofs.PacketCalls.{AreSound}
use Rattle.received_level_laws.proofs.TakenPackets.{sound_taken}

is_faulty : (pid : ℕ) (packet : List ℕ) (fault : PacketFault) → packet_fault pid packet ≡ Some fault
    → is_none (packet_fault pid packet) ≡ false
is_faulty pid packet fault e = ap (λ found. is_none found) e

-- those before it are taken, and no more
taken_before : (pid : ℕ) (packets : List (List ℕ)) (packet : List ℕ) (rest : List (List ℕ))
    → AreSound pid packets
    → is_none (packet_fault pid packet) ≡ false
    → packets_taken pid (packets ++ packet ∷ rest) ≡ packets
taken_before pid [] packet rest sound faulty =
    ap (λ b. take (cond b (1 + prefix_len (λ packet. is_none (packet_fault pid packet)) rest) 0) (packet ∷ rest))
    faulty
taken_before pid (first ∷ packets) packet rest sound faulty =
    let test : List ℕ → Bool = λ packet. is_none (packet_fault pid packet) in
    let many = prefix_len test (packets ++ packet ∷ rest) in
    let one_more : 1 + many ≡ suc many = omega arith in
    ap (λ b. take (cond b (1 + many) 0) (first ∷ (packets ++ packet ∷ rest)))
    (ap (λ found. is_none found) sound.0)
    ∙ ap (λ n. take n (first ∷ (packets ++ packet ∷ rest))) one_more
    ∙ ap (λ others. first ∷ others) (taken_before pid packets packet rest sound.1 faulty)

-- and the stream has not ended
not_all : (pid : ℕ) (packets : List (List ℕ)) (packet : List ℕ) (rest : List (List ℕ))
    → is_none (packet_fault pid packet) ≡ false
    → list_all (λ packet. is_none (packet_fault pid packet)) (packets ++ packet ∷ rest) ≡ false
not_all pid [] packet rest faulty = ap (λ b. b && list_all (λ packet. is_none (packet_fault pid packet)) rest) faulty
not_all pid (first ∷ packets) packet rest faulty =
    ap (λ b. is_none (packet_fault pid first) && b) (not_all pid packets packet rest faulty)
    ∙ by (is_none (packet_fault pid first))
  where
    by : (b : Bool) → (b && false) ≡ false
    by true = refl
    by false = refl

not_ended : (pid : ℕ) (ended : Bool) (packets : List (List ℕ)) (packet : List ℕ) (rest : List (List ℕ))
    → is_none (packet_fault pid packet) ≡ false
    → has_ended ended pid (packets ++ packet ∷ rest) ≡ has_ended false pid packets
unfolding has_ended
not_ended pid true packets packet rest faulty = not_all pid packets packet rest faulty
not_ended pid false packets packet rest faulty = refl

sets_before : (coded pid : ℕ) (pages : Pages) (ended : Bool) (packets : List (List ℕ)) (packet : List ℕ)
    (rest : List (List ℕ))
    → packets_taken pid packets ≡ packets → is_none (packet_fault pid packet) ≡ false
    → sets_of coded pid pages ended (packets ++ packet ∷ rest) ≡ sets_of coded pid pages false packets
unfolding sets_of arrivals_of
sets_before coded pid pages ended packets packet rest taken faulty =
    let from : Bool → List (List ℕ) → List (Delivery (List ℕ)) =
    λ ended. λ found. sets_in coded ended
    (runs_of (flat_map (λ (arrivals : List Arrival). arrivals) (each_after (arrivals_at coded pid pages) [] found)))
    in
    ap (λ end. from end (packets_taken pid (packets ++ packet ∷ rest)))
    (not_ended pid ended packets packet rest faulty)
    ∙ ap (from (has_ended false pid packets))
    (taken_before pid packets packet rest (sound_taken pid packets taken) faulty ∙ sym taken)

-- what is told of packets with one that cannot be taken is told of those before it
pub calls_stop : (reception : Reception) (slot : ℕ) (ended : Bool)
    (packets : List (List ℕ))
    (packet : List ℕ) (rest : List (List ℕ)) (fault : PacketFault) (told : List ToldCall)
    → packets_taken reception.pid packets ≡ packets → packet_fault reception.pid packet ≡ Some fault
    → AreToldCalls reception slot ended (packets ++ packet ∷ rest) told
    → AreToldCalls reception slot false packets told
calls_stop reception slot ended packets packet rest fault told taken faulty is =
    let none = is_faulty reception.pid packet fault faulty in
    record {
      past = is.past;
      received = subst (λ (sets : List (Delivery (List ℕ))). AreDeliveriesRead (reverse sets) is.past)
          (sets_before reception.profile.coded reception.pid reception.pages ended packets packet rest taken none)
          is.received;
      are = is.are ∙ ap (λ found. told_of reception slot found is.past)
          (taken_before reception.pid packets packet rest (sound_taken reception.pid packets taken) none ∙ sym taken);
    }
