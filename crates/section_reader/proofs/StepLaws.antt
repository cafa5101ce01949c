-- What a reader of sections does at a packet of each kind.
use Rattle.std.proofs.Common.{◌≡◌, ◌∙◌, ℕ, true, false, Bool, cond, nat_eq, List, ◌∷◌, length, take, drop, Option, Some, None, refl, sym, ap, subst}
use Rattle.std.specs.Prelude.{find, option_map, nat_lt}
use Rattle.stream_syntax.specs.TransportPackets.{pid_of, has_payload, has_start_flag, counter_of, payload_of}
use Rattle.stream_syntax.specs.Units.{succession}
use Rattle.section_reader.specs.Reading.{IsReadingOf, ReadsSectionsOn, SectionReading, Takes}
use Rattle.section_reader.specs.Sections.{Ended, by_counter, counts, ended_with, following, grown, hand_behind, is_broken, last_counter, sections_at, started}
use Rattle.section_reader.specs.Private.Following.{follows}
use Rattle.ts_packets.specs.Kinds.{IsPayloadOf}
use Rattle.section_reader.specs.Private.Steps.{Ends, StepsOn}
use Rattle.ts_packets.specs.declared.kind.Payload.{Payload}
use Rattle.section_reader.proofs.FollowingLaws.{takes_both, takes_nothing}

module _ {Taker Kept : Type 0} (stands : Taker → List (List ℕ) → Type 0) (kept : Taker → Kept) where
  -- ---- kinds of packets

  pub other_steps : (r : SectionReading) (taker : Taker) (packet : List ℕ)
      → nat_eq (pid_of packet) r.pid ≡ false → StepsOn stands kept r r taker taker packet
  unfolding ended_with
  other_steps r taker packet other = record {
    ends = rw other (record { pid = refl; hand = refl; taken = takes_nothing stands kept taker });
    last = rw other refl;
  }

  pub broken_steps : (r : SectionReading) (taker : Taker) (packet : List ℕ)
      → nat_eq (pid_of packet) r.pid ≡ true → is_broken packet ≡ true
      → StepsOn stands kept r (record r { hand = None }) taker taker packet
  unfolding ended_with
  broken_steps r taker packet same broken = record {
    ends = rw (same, broken) (record { pid = refl; hand = refl; taken = takes_nothing stands kept taker });
    last = rw (same, broken) refl;
  }

  pub empty_steps : (r : SectionReading) (taker : Taker) (packet : List ℕ)
      → nat_eq (pid_of packet) r.pid ≡ true → is_broken packet ≡ false → has_payload packet ≡ false
      → StepsOn stands kept r r taker taker packet
  unfolding ended_with
  empty_steps r taker packet same sound empty = record {
    ends = rw (same, sound, empty) (record { pid = refl; hand = refl; taken = takes_nothing stands kept taker });
    last = rw (same, sound, empty) refl;
  }

  payload_packet_steps : (old new : SectionReading) (was is : Taker) (packet : List ℕ)
      → nat_eq (pid_of packet) old.pid ≡ true → is_broken packet ≡ false → has_payload packet ≡ true
      → Ends stands kept old new was is
      (by_counter old.hand (succession old.last (counter_of packet)) (has_start_flag packet) (payload_of packet))
      → new.last ≡ Some (counter_of packet) → StepsOn stands kept old new was is packet
  unfolding ended_with
  payload_packet_steps old new was is packet same sound full ends last = record {
    ends = rw (same, sound, full) ends;
    last = rw (same, sound, full) last;
  }

  pub payload_steps : (old new : SectionReading) (was is : Taker) (packet : List ℕ) (payload : Payload)
      → nat_eq (pid_of packet) old.pid ≡ true → is_broken packet ≡ false → has_payload packet ≡ true
      → IsPayloadOf packet payload
      → Ends stands kept old new was is
      (by_counter old.hand (succession old.last payload.counter) payload.start payload.bytes.now)
      → new.last ≡ Some payload.counter → StepsOn stands kept old new was is packet
  payload_steps old new was is packet payload same sound full says ends last =
      payload_packet_steps old new was is packet same sound full
      (rw (says.counter, says.start, says.bytes) at ends)
      (rw says.counter at last)

  -- ---- a payload that begins with a pointer

  pub started_ends : (old mid new : SectionReading) (was then is : Taker) (pointer : ℕ) (rest : List ℕ)
      → nat_lt (length rest) pointer ≡ false
      → Ends stands kept old mid was then (grown old.hand (take pointer rest))
      → Ends stands kept mid new then is (follows (drop pointer rest))
      → follows (drop pointer rest) ≡ following (length rest) (drop pointer rest)
      → Ends stands kept old new was is (started old.hand (pointer ∷ rest))
  started_ends old mid new was then is pointer rest within one other same = rw within (record {
    pid = other.pid ∙ one.pid;
    hand = other.hand ∙ ap (λ (e : Ended). e.hand) same;
    taken = takes_both stands kept was then is (grown old.hand (take pointer rest)).sections
        (following (length rest) (drop pointer rest)).sections one.taken
        (subst (λ (e : Ended). Takes stands kept then is e.sections) same other.taken);
  })

-- ---- packets of a list

counter_more : (b : Bool) (packet : List ℕ) (o : Option (List ℕ))
    → option_map counter_of (cond b (Some packet) o) ≡ cond b (Some (counter_of packet)) (option_map counter_of o)
counter_more true packet o = refl
counter_more false packet o = refl

hand_more : (old : SectionReading) (packet : List ℕ) (before : List (List ℕ)) → IsReadingOf old before
    → (ended_with old.pid old.last old.hand packet).hand ≡ hand_behind old.pid (packet ∷ before)
unfolding hand_behind
hand_more old packet before reads =
    ap (λ (last : Option ℕ). (ended_with old.pid last old.hand packet).hand) reads.last
    ∙ ap (λ (hand : Option (List ℕ)). (ended_with old.pid (last_counter old.pid before) hand packet).hand)
    reads.hand

module _ {Taker Kept : Type 0} (stands : Taker → List (List ℕ) → Type 0) (kept : Taker → Kept) where
  -- a reader that steps on at a packet goes on over it
  pub steps_goes_on : (old new : SectionReading) (was is : Taker) (packet : List ℕ)
      → StepsOn stands kept old new was is packet → ReadsSectionsOn old new packet
  steps_goes_on old new was is packet steps = record {
    pid = steps.ends.pid;
    stands = λ before reads. record {
      last = steps.last
          ∙ ap (λ (last : Option ℕ). cond (counts old.pid packet) (Some (counter_of packet)) last) reads.last
          ∙ sym (counter_more (counts old.pid packet) packet (find (counts old.pid) before))
          ∙ ap (λ (pid : ℕ). last_counter pid (packet ∷ before)) (sym steps.ends.pid);
      hand =
          steps.ends.hand ∙ hand_more old packet before reads
          ∙ ap (λ (pid : ℕ). hand_behind pid (packet ∷ before)) (sym steps.ends.pid);
    };
  }

  -- and the sections that end in it were taken
  pub steps_taken : (old new : SectionReading) (was is : Taker) (packet : List ℕ)
      → StepsOn stands kept old new was is packet → (before : List (List ℕ)) → IsReadingOf old before
      → Takes stands kept was is (sections_at old.pid before packet)
  steps_taken old new was is packet steps before reads =
      subst (λ (l : List (List ℕ)). Takes stands kept was is l)
      (ap (λ (last : Option ℕ). (ended_with old.pid last old.hand packet).sections) reads.last
      ∙ ap (λ (hand : Option (List ℕ)). (ended_with old.pid (last_counter old.pid before) hand packet).sections)
      reads.hand)
      steps.ends.taken
