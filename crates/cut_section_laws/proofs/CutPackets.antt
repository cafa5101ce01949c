-- What a reader of sections makes of packets that carry pieces, and of those between.
use Rattle.std.proofs.Common.{◌≡◌, ◌≢◌, ◌∙◌, ℕ, ◌+◌, ◌%◌, Bool, true, false, cond, ◌||◌, ◌&&◌, not, nat_eq, List, [], ◌∷◌, Option, Some, None, refl, sym, ap, inl, inr, arith}
use Rattle.std.specs.Prelude.{find, option_map}
use Rattle.std.proofs.lemmas.Bool.{ne_eqb, eq-eqb}
use Rattle.std.proofs.lemmas.Bool.Decides.{nat_tests}
use Rattle.stream_syntax.specs.TransportPackets.{pid_of, has_error_flag, has_start_flag, has_payload, has_bad_field, control_of, counter_of, payload_of}
use Rattle.stream_syntax.specs.Units.{Succession, Next, Again, Missing, succession}
use Rattle.section_reader.specs.Sections.{Ended, by_counter, counts, ended_with, hand_behind, is_broken, last_counter, with_payload}
use Rattle.cut_section_laws.specs.SectionCuts.{Carries, HasNextCounter, AddsNothing, IsUndamaged, counter_before, is_counted}

-- ---- the tests of a packet

some_payload : (control : ℕ) → (nat_eq control 1 || nat_eq control 3) ≡ true → nat_eq control 0 ≡ false
some_payload control full = grind (arith, nat_tests)

not_broken : (packet : List ℕ) → IsUndamaged packet → nat_eq (control_of packet) 0 ≡ false → is_broken packet ≡ false
not_broken packet sound control = rw (sound.unmarked, control, sound.fitting) refl

-- what counts for the reader counts
same_test : (pid : ℕ) (packet : List ℕ) → is_counted pid packet ≡ counts pid packet
same_test pid packet =
    by (nat_eq (pid_of packet) pid) (has_error_flag packet) (nat_eq (control_of packet) 0) (has_bad_field packet)
    (has_payload packet) (some_payload (control_of packet))
  where
    by : (own marked reserved bad full : Bool) → (full ≡ true → reserved ≡ false)
        → (own && (full && (not marked && not bad))) ≡ (own && (not (marked || reserved || bad) && full))
    by false marked reserved bad full rules = refl
    by true true reserved bad true rules = refl
    by true false true bad true rules = let e = rules refl in absurd cc
    by true false false true true rules = refl
    by true false false false true rules = refl
    by true true reserved bad false rules = refl
    by true false true bad false rules = refl
    by true false false true false rules = refl
    by true false false false false rules = refl

pub same_counter : (pid : ℕ) (before : List (List ℕ)) → counter_before pid before ≡ last_counter pid before
same_counter pid [] = refl
same_counter pid (packet ∷ before) =
    ap (λ (b : Bool). cond b (Some (counter_of packet)) (counter_before pid before)) (same_test pid packet)
    ∙ ap (λ (last : Option ℕ). cond (counts pid packet) (Some (counter_of packet)) last) (same_counter pid before)
    ∙ by (counts pid packet)
  where
    by : (b : Bool)
        → cond b (Some (counter_of packet)) (option_map counter_of (find (counts pid) before))
        ≡ option_map counter_of (cond b (Some packet) (find (counts pid) before))
    by true = refl
    by false = refl

-- ---- a packet that carries a payload

module _ (pid : ℕ) (start : Bool) (bytes packet : List ℕ) (is : Carries pid start bytes packet) where
  sound_payload : is_broken packet ≡ false
  sound_payload = not_broken packet is.sound (some_payload (control_of packet) is.full)

  own_pid : nat_eq (pid_of packet) pid ≡ true
  own_pid = eq-eqb (pid_of packet) pid is.own

  -- it is taken by its counter
  pub carried : (last : Option ℕ) (hand : Option (List ℕ))
      → ended_with pid last hand packet ≡ by_counter hand (succession last (counter_of packet)) start bytes
  unfolding ended_with
  carried last hand = rw (own_pid, sound_payload, is.full, is.begins, is.payload) refl

  -- its counter is the last one
  pub counted : (before : List (List ℕ)) → last_counter pid (packet ∷ before) ≡ Some (counter_of packet)
  counted before = rw (own_pid, sound_payload, is.full) refl

-- ---- a packet between

again : (counter : ℕ) → succession (Some counter) counter ≡ Again
again counter = rw (eq-eqb counter counter refl) refl

-- it changes nothing
pub record Stays (pid : ℕ) (last : Option ℕ) (packet : List ℕ) : Type 0 where
  pub ends : (hand : Option (List ℕ)) → ended_with pid last hand packet ≡ record { sections = []; hand = hand }
  pub counter : (before : List (List ℕ)) → last_counter pid before ≡ last
      → last_counter pid (packet ∷ before) ≡ last

pub stays : (pid : ℕ) (last : Option ℕ) (packet : List ℕ) → AddsNothing pid last packet → Stays pid last packet
unfolding ended_with
stays pid last packet (inl other) =
    let tested : nat_eq (pid_of packet) pid ≡ false = ne_eqb (pid_of packet) pid other in
    record { ends = λ hand. rw tested refl; counter = λ before same. rw tested same }
stays pid last packet (inr (inl empty)) =
    let tested : nat_eq (pid_of packet) pid ≡ true = eq-eqb (pid_of packet) pid empty.0 in
    let sound : is_broken packet ≡ false = not_broken packet empty.1 (ap (λ (c : ℕ). nat_eq c 0) empty.2) in
    let bare : has_payload packet ≡ false = ap (λ (c : ℕ). nat_eq c 1 || nat_eq c 3) empty.2 in
    record { ends = λ hand. rw (tested, sound, bare) refl; counter = λ before same. rw (tested, sound, bare) same }
stays pid last packet (inr (inr double)) =
    let is : Carries pid (has_start_flag packet) (payload_of packet) packet =
    record { own = double.0; sound = double.1; full = double.2; begins = refl; payload = refl } in
    record {
      ends = λ hand.
          carried pid (has_start_flag packet) (payload_of packet) packet is last hand
          ∙ ap (λ (l : Option ℕ). by_counter hand (succession l (counter_of packet)) (has_start_flag packet)
          (payload_of packet)) double.3
          ∙ ap (λ (order : Succession). by_counter hand order (has_start_flag packet) (payload_of packet))
          (again (counter_of packet));
      counter = λ before same.
          counted pid (has_start_flag packet) (payload_of packet) packet is before ∙ sym double.3;
    }

-- ---- the order of counters

-- behind another counter a payload is taken, behind the section in hand or without it
pub taken : (hand last : _) (start : Bool) (bytes : List ℕ) (counter : ℕ) → last ≢ Some counter
    → (kept : Option (List ℕ)) × (by_counter hand (succession last counter) start bytes ≡ with_payload kept start bytes)
taken hand None start bytes counter other = (hand, refl)
taken hand (Some before) start bytes counter other =
    let fresh : nat_eq counter before ≡ false =
    ne_eqb counter before (λ same. other (ap (λ (n : ℕ). Some n) (sym same))) in
    let found = either (nat_eq counter ((before + 1) % 16)) in (
      found.0,
      ap (λ (same : Bool). by_counter hand
          (cond same Again (cond (nat_eq counter ((before + 1) % 16)) Next (Missing ((before + 1) % 16) counter))) start
          bytes) fresh ∙ found.1,
    )
  where
    either : (next : Bool)
        → (kept : Option (List ℕ))
        × (by_counter hand (cond next Next (Missing ((before + 1) % 16) counter)) start bytes
        ≡ with_payload kept start bytes)
    either true = (hand, refl)
    either false = (None, refl)

-- the next counter
pub next_order : (last : Option ℕ) (packet : List ℕ) → HasNextCounter last packet
    → succession last (counter_of packet) ≡ Next
next_order None packet follows = absurd follows
next_order (Some counter) packet follows = ap (succession (Some counter)) follows ∙ next
  where
    next : succession (Some counter) ((counter + 1) % 16) ≡ Next
    next =
        let fresh : nat_eq ((counter + 1) % 16) counter ≡ false =
        ne_eqb ((counter + 1) % 16) counter (λ same. omega arith) in
        let due : nat_eq ((counter + 1) % 16) ((counter + 1) % 16) ≡ true =
        eq-eqb ((counter + 1) % 16) ((counter + 1) % 16) refl in
        rw (fresh, due) refl

-- ---- behind packets

-- what ends in a packet, and the section in hand behind it
abbrev pub ends_at : ℕ → List (List ℕ) → List ℕ → Ended
ends_at pid before packet = ended_with pid (last_counter pid before) (hand_behind pid before) packet

pub hand_is : (pid : ℕ) (before : List (List ℕ)) (packet : List ℕ)
    → hand_behind pid (packet ∷ before) ≡ (ends_at pid before packet).hand
unfolding hand_behind
hand_is pid before packet = refl
