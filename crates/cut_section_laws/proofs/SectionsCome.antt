-- A section comes out whole however it is cut into packets.
use Rattle.std.proofs.Common.{◌≡◌, ◌≢◌, ◌∙◌, ℕ, suc, ◌-◌, ◌≤◌, Bool, true, false, List, [], ◌∷◌, ◌++◌, length, replicate, Option, Some, sym, ap, subst, inl, inr, arith, append_assoc, length-append}
use Rattle.std.specs.List.{concat}
use Rattle.std.proofs.lemmas.List.{append-nil}
use Rattle.stream_syntax.specs.TransportPackets.{counter_of}
use Rattle.stream_syntax.specs.Units.{Succession, Next}
use Rattle.section_reader.specs.Sections.{Ended, by_counter, ended_with, grown, hand_behind, last_counter, sections_at}
use Rattle.cut_section_laws.specs.SectionCuts.{Carries, EndsIn, EveryCutting, HasNextCounter, GoesOn, AddsNothing, IsWholeSection, WholeInOne, counter_before, pointed, sections_by_packet}
use Rattle.cut_section_laws.proofs.CutPackets.{carried, counted, ends_at, hand_is, next_order, same_counter, stays, taken}
use Rattle.cut_section_laws.proofs.WholeSections.{all_in, front_in, nothing_in, one_at_most, piece_ends, piece_grows, pointed_is, sections_in}

-- ---- the packet in which a section begins

module _ (pid : ℕ) where
  -- behind the pointer these bytes are gone through
  record Begun (before : List (List ℕ)) (packet passed bytes : List ℕ) : Type 0 where
    ended : List (List ℕ)
    few : length ended ≤ 1
    sections : sections_at pid before packet ≡ ended ++ (all_in bytes).sections
    hand : hand_behind pid (packet ∷ before) ≡ (all_in bytes).hand

  begun : (before : List (List ℕ)) (packet passed bytes : List ℕ)
      → counter_before pid before ≢ Some (counter_of packet) → Carries pid true (pointed passed bytes) packet
      → Begun before packet passed bytes
  begun before packet passed bytes other is =
      let found =
      taken (hand_behind pid before) (last_counter pid before) true (pointed passed bytes) (counter_of packet)
      (λ same. other (same_counter pid before ∙ same)) in
      let ends : ends_at pid before packet
      ≡ record {
        sections = (grown found.0 passed).sections ++ (all_in bytes).sections;
        hand = (all_in bytes).hand;
      } =
      carried pid true (pointed passed bytes) packet is (last_counter pid before) (hand_behind pid before)
      ∙ found.1 ∙ pointed_is found.0 passed bytes in
      record {
        ended = (grown found.0 passed).sections;
        few = one_at_most found.0 passed;
        sections = ap (λ (e : Ended). e.sections) ends;
        hand = hand_is pid before packet ∙ ap (λ (e : Ended). e.hand) ends;
      }

  pub whole_in_one : WholeInOne pid
  whole_in_one before sections packet passed rest all other is =
      let here = begun before packet passed (concat sections ++ rest) other is in (
        here.ended,
        (all_in rest).sections,
        here.few,
        (λ stuffing. ap (λ (e : Ended). e.sections) (nothing_in rest stuffing)),
        here.sections ∙ ap (λ (e : Ended). here.ended ++ e.sections) (sections_in sections rest all)
            ∙ sym (append_assoc here.ended sections (all_in rest).sections),
      )

  -- ---- the packets behind it

  record Comes (before packets : List (List ℕ)) (section : List ℕ) : Type 0 where
    later : List (List ℕ)
    each : sections_by_packet pid before packets
        ≡ replicate (length packets - 1) [] ++ (section ∷ later) ∷ []

  -- no section at a packet, and then one at the last of those behind it
  one_earlier : (n : ℕ) (ends : List (List (List ℕ))) → 1 ≤ n
      → [] ∷ (replicate (n - 1) [] ++ ends) ≡ replicate (suc n - 1) [] ++ ends
  one_earlier n ends some =
      let count : suc (n - 1) ≡ suc n - 1 = omega arith in
      ap (λ (k : ℕ). replicate {A = List (List ℕ)} k [] ++ ends) count

  comes_later : (before packets : List (List ℕ)) (packet section : List ℕ) → sections_at pid before packet ≡ []
      → 1 ≤ length packets → Comes (packet ∷ before) packets section → Comes before (packet ∷ packets) section
  comes_later before packets packet section nothing some comes = record {
    later = comes.later;
    each =
        ap (λ (here : List (List ℕ)). here ∷ sections_by_packet pid (packet ∷ before) packets) nothing
        ∙ ap (λ (l : List (List (List ℕ))). [] ∷ l) comes.each
        ∙ one_earlier (length packets) ((section ∷ comes.later) ∷ []) some;
  }

  some_packet : (last : Option ℕ) (pieces packets : List (List ℕ)) → GoesOn pid last pieces packets
      → 1 ≤ length packets
  some_packet last pieces [] goes = absurd goes
  some_packet last pieces (packet ∷ packets) goes = omega arith

  some_byte : (last : Option ℕ) (pieces packets : List (List ℕ)) → GoesOn pid last pieces packets
      → 1 ≤ length (concat pieces)
  some_byte last pieces [] goes = absurd goes
  some_byte last [] (packet ∷ packets) goes = absurd goes
  some_byte last (piece ∷ []) (packet ∷ packets) (inl between) =
      some_byte last (piece ∷ []) packets between.1
  some_byte last (piece ∷ []) (packet ∷ packets) (inr ends) =
      let lengths = length-append piece (concat []) in omega (arith, ends.1)
  some_byte last (piece ∷ second ∷ pieces) (packet ∷ packets) (inl between) =
      some_byte last (piece ∷ second ∷ pieces) packets between.1
  some_byte last (piece ∷ second ∷ pieces) (packet ∷ packets) (inr goes) =
      let lengths = length-append piece (concat (second ∷ pieces)) in omega (arith, goes.0)

  -- the front of the section is in hand, and this last is the last
  record Waits (before : List (List ℕ)) (last : Option ℕ) (front : List ℕ) : Type 0 where
    hand : hand_behind pid before ≡ Some front
    counter : last_counter pid before ≡ last

  waited : (before : List (List ℕ)) (last : Option ℕ) (front packet : List ℕ) → Waits before last front
      → ends_at pid before packet ≡ ended_with pid last (Some front) packet
  waited before last front packet waits = λ i. ended_with pid (waits.counter i) (waits.hand i) packet

  -- a packet between changes nothing
  record Passed (before : List (List ℕ)) (last : Option ℕ) (front packet : List ℕ) : Type 0 where
    nothing : sections_at pid before packet ≡ []
    waits : Waits (packet ∷ before) last front

  passed_over : (before : List (List ℕ)) (last : Option ℕ) (front packet : List ℕ) → Waits before last front
      → AddsNothing pid last packet → Passed before last front packet
  passed_over before last front packet waits between =
      let same = stays pid last packet between in
      let ends = waited before last front packet waits ∙ same.ends (Some front) in
      record {
        nothing = ap (λ (e : Ended). e.sections) ends;
        waits = record {
          hand = hand_is pid before packet ∙ ap (λ (e : Ended). e.hand) ends;
          counter = same.counter before waits.counter;
        };
      }

  -- a payload behind the front
  next_payload : (before : List (List ℕ)) (last : Option ℕ) (front : List ℕ) (start : Bool) (bytes packet : List ℕ)
      → Waits before last front → HasNextCounter last packet → Carries pid start bytes packet
      → ends_at pid before packet ≡ by_counter (Some front) Next start bytes
  next_payload before last front start bytes packet waits follows is =
      waited before last front packet waits
      ∙ carried pid start bytes packet is last (Some front)
      ∙ ap (λ (order : Succession). by_counter (Some front) order start bytes) (next_order last packet follows)

  -- a piece that is not the last
  grows : (before : List (List ℕ)) (last : Option ℕ) (front piece rest packet : List ℕ) → Waits before last front
      → IsWholeSection ((front ++ piece) ++ rest) → 1 ≤ length rest → HasNextCounter last packet
      → Carries pid false piece packet → Passed before (Some (counter_of packet)) (front ++ piece) packet
  grows before last front piece rest packet waits is some follows carries =
      let ends =
      next_payload before last front false piece packet waits follows carries
      ∙ piece_grows front piece rest is some in
      record {
        nothing = ap (λ (e : Ended). e.sections) ends;
        waits = record {
          hand = hand_is pid before packet ∙ ap (λ (e : Ended). e.hand) ends;
          counter = counted pid false piece packet carries before;
        };
      }

  -- the last piece
  ends_here : (before : List (List ℕ)) (last : Option ℕ) (front piece packet : List ℕ) → Waits before last front
      → IsWholeSection (front ++ piece) → HasNextCounter last packet → EndsIn pid piece packet
      → Comes before (packet ∷ []) (front ++ piece)
  ends_here before last front piece packet waits is follows (inl ends) = record {
    later = [];
    each = ap (λ (e : Ended). e.sections ∷ [])
        (next_payload before last front false (piece ++ ends.0) packet waits follows ends.1
        ∙ piece_ends front piece ends.0 is);
  }
  ends_here before last front piece packet waits is follows (inr ends) = record {
    later = (all_in ends.1).sections;
    each = ap (λ (e : Ended). e.sections ∷ [])
        (next_payload before last front true (pointed (piece ++ ends.0) ends.1) packet waits follows ends.2
        ∙ pointed_is (Some front) (piece ++ ends.0) ends.1)
        ∙ ap (λ (e : Ended). (e.sections ++ (all_in ends.1).sections) ∷ []) (piece_ends front piece ends.0 is);
  }

  comes : (packets pieces before : List (List ℕ)) (last : Option ℕ) (front section : List ℕ) → IsWholeSection section
      → section ≡ front ++ concat pieces → Waits before last front → GoesOn pid last pieces packets
      → Comes before packets section
  comes [] pieces before last front section is whole waits goes = absurd goes
  comes (packet ∷ packets) [] before last front section is whole waits goes = absurd goes
  comes (packet ∷ packets) (piece ∷ []) before last front section is whole waits (inl between) =
      let over = passed_over before last front packet waits between.0 in
      comes_later before packets packet section over.nothing (some_packet last (piece ∷ []) packets between.1)
      (comes packets (piece ∷ []) (packet ∷ before) last front section is whole over.waits between.1)
  comes (packet ∷ []) (piece ∷ []) before last front section is whole waits (inr ends) =
      let bytes : section ≡ front ++ piece = whole ∙ ap (λ (l : List ℕ). front ++ l) (append-nil piece) in
      let Is : List ℕ → Type 0 = λ l. IsWholeSection l in
      let All : List ℕ → Type 0 = λ l. Comes before (packet ∷ []) l in
      subst All (sym bytes) (ends_here before last front piece packet waits (subst Is bytes is) ends.2 ends.3)
  comes (packet ∷ next ∷ packets) (piece ∷ []) before last front section is whole waits (inr ends) = absurd cc
  comes (packet ∷ packets) (piece ∷ second ∷ pieces) before last front section is whole waits (inl between) =
      let over = passed_over before last front packet waits between.0 in
      comes_later before packets packet section over.nothing
      (some_packet last (piece ∷ second ∷ pieces) packets between.1)
      (comes packets (piece ∷ second ∷ pieces) (packet ∷ before) last front section is whole over.waits between.1)
  comes (packet ∷ packets) (piece ∷ second ∷ pieces) before last front section is whole waits (inr goes) =
      let regrouped : section ≡ (front ++ piece) ++ concat (second ∷ pieces) =
      whole ∙ sym (append_assoc front piece (concat (second ∷ pieces))) in
      let Is : List ℕ → Type 0 = λ l. IsWholeSection l in
      let over =
      grows before last front piece (concat (second ∷ pieces)) packet waits (subst Is regrouped is)
      (some_byte (Some (counter_of packet)) (second ∷ pieces) packets goes.3) goes.1 goes.2 in
      comes_later before packets packet section over.nothing
      (some_packet (Some (counter_of packet)) (second ∷ pieces) packets goes.3)
      (comes packets (second ∷ pieces) (packet ∷ before) (Some (counter_of packet)) (front ++ piece) section is
      regrouped over.waits goes.3)

  pub every_cutting : EveryCutting pid
  every_cutting before packets earlier pieces first passed front section is whole some all other carries goes =
      let Is : List ℕ → Type 0 = λ l. IsWholeSection l in
      let here = begun before first passed (concat earlier ++ front) other carries in
      let inside = sections_in earlier front all
      ∙ ap (λ (e : Ended). record { sections = earlier ++ e.sections; hand = e.hand })
      (front_in front (concat pieces) (subst Is whole is) some
      (some_byte (Some (counter_of first)) pieces packets goes)) in
      let waits : Waits (first ∷ before) (Some (counter_of first)) front =
      record {
        hand = here.hand ∙ ap (λ (e : Ended). e.hand) inside;
        counter = counted pid true (pointed passed (concat earlier ++ front)) first carries before;
      } in
      let behind =
      comes packets pieces (first ∷ before) (Some (counter_of first)) front section is whole waits goes in (
        here.ended,
        behind.later,
        here.few,
        (λ i. (here.sections ∙ ap (λ (e : Ended). here.ended ++ e.sections) inside
            ∙ ap (λ (l : List (List ℕ)). here.ended ++ l) (append-nil earlier)) i ∷ behind.each i),
      )
