-- A packet that was written says what it was written for.
use Rattle.std.proofs.Common.{◌≡◌, ◌≢◌, ℕ, zero, suc, ◌+◌, ◌-◌, ◌*◌, ◌/◌, ◌%◌, ◌<◌, ◌≤◌, Bool, true, false, cond, ◌&&◌, ◌||◌, nat_eq, nat_lt, List, [], ◌∷◌, ◌++◌, length, drop, get_or, replicate, None, refl, sym, ap, subst, ◌∙◌, inl, inr, arith, eq-eqb}
use Rattle.std.proofs.lemmas.Bool.{cases_eq, ne_eqb, le-ltb}
use Rattle.std.proofs.lemmas.List.{drop_at, length-replicate}
use Rattle.stream_syntax.specs.BitFields.{packed}
use Rattle.stream_syntax.specs.Cutting.{CarriesPiece}
use Rattle.stream_syntax.specs.TransportPackets.{head_groups, written_head, adaptation_field, written_packet, null_packet, control_of, counter_of, payload_of, field_length_of, has_bad_field, packet_fault}

-- what is read of a packet with this head and so many bytes of adaptation field
pub record HasHead (pid : ℕ) (start : Bool) (control counter first second third : ℕ) : Type 0 where
  pub pid_is : first % 32 * 256 + second ≡ pid
  pub sound : first / 128 ≡ 0
  pub begins : nat_eq (first / 64 % 2) 1 ≡ start
  pub clear : third / 64 ≡ 0
  pub control_is : third / 16 % 4 ≡ control
  pub counter_is : third % 16 ≡ counter

field_payload : (h0 h1 h2 h3 k : ℕ) (piece : List ℕ) → h3 / 16 % 4 ≡ 3 → 1 ≤ k
    → payload_of (h0 ∷ h1 ∷ h2 ∷ h3 ∷ (adaptation_field k ++ piece)) ≡ piece
field_payload h0 h1 h2 h3 zero piece both some = absurd (omega arith)
field_payload h0 h1 h2 h3 (suc zero) piece both some = rw (eq-eqb (h3 / 16 % 4) 3 both) refl
field_payload h0 h1 h2 h3 (suc (suc j)) piece both some =
    ap (λ test. cond test (drop (5 + (j + 1)) (h0 ∷ h1 ∷ h2 ∷ h3 ∷ (adaptation_field (suc (suc j)) ++ piece)))
    (drop 4 (h0 ∷ h1 ∷ h2 ∷ h3 ∷ (adaptation_field (suc (suc j)) ++ piece)))) (eq-eqb (h3 / 16 % 4) 3 both)
    ∙ drop_at (h0 ∷ h1 ∷ h2 ∷ h3 ∷ (j + 1) ∷ 0 ∷ replicate j 255) piece (5 + (j + 1))
    (omega (arith, length-replicate {A = ℕ} j 255))

field_length : (h0 h1 h2 h3 k : ℕ) (piece : List ℕ) → 1 ≤ k
    → field_length_of (h0 ∷ h1 ∷ h2 ∷ h3 ∷ (adaptation_field k ++ piece)) + 1 ≡ k
field_length h0 h1 h2 h3 zero piece some = absurd (omega arith)
field_length h0 h1 h2 h3 (suc zero) piece some = refl
field_length h0 h1 h2 h3 (suc (suc j)) piece some = omega arith

or_false : (a b : Bool) → a ≡ false → b ≡ false → (a || b) ≡ false
or_false true b e f = absurd cc
or_false false b e f = f

and_false : (a b : Bool) → b ≡ false → (a && b) ≡ false
and_false true b e = e
and_false false b e = refl

-- no test fails at a packet whose head is this and whose adaptation field fits
no_fault : (pid : ℕ) (start : Bool) (control counter h1 h2 h3 : ℕ) (rest : List ℕ)
    → HasHead pid start control counter h1 h2 h3 → control ≢ 0
    → has_bad_field (0x47 ∷ h1 ∷ h2 ∷ h3 ∷ rest) ≡ false
    → packet_fault pid (0x47 ∷ h1 ∷ h2 ∷ h3 ∷ rest) ≡ None
no_fault pid start control counter h1 h2 h3 rest head used fits =
    let same : nat_eq (h1 % 32 * 256 + h2) pid ≡ true = eq-eqb (h1 % 32 * 256 + h2) pid head.pid_is in
    let sound : nat_eq (h1 / 128) 1 ≡ false = ne_eqb (h1 / 128) 1 (λ e. omega (arith, head.sound)) in
    let clear : nat_eq (h3 / 64) 0 ≡ true = eq-eqb (h3 / 64) 0 head.clear in
    let taken : nat_eq (h3 / 16 % 4) 0 ≡ false = ne_eqb (h3 / 16 % 4) 0 (λ e. used (sym head.control_is ∙ e)) in
    rw (same, sound, clear, taken, fits) refl

-- a packet with this control and so many bytes of adaptation field
abbrev packet_with : ℕ → Bool → ℕ → ℕ → ℕ → List ℕ → List ℕ
packet_with pid start control counter count piece =
    packed (head_groups (written_head pid start control counter))
    ++ (adaptation_field count ++ piece)

abbrev head_of : ℕ → Bool → ℕ → ℕ → List ℕ
head_of pid start control counter = packet_with pid start control counter 0 []

has_head : (pid : ℕ) (start : Bool) (control counter : ℕ) → pid < 8192 → control < 4 → counter < 16
    → HasHead pid start control counter (get_or (head_of pid start control counter) 1 0)
    (get_or (head_of pid start control counter) 2 0) (get_or (head_of pid start control counter) 3 0)
has_head pid true control counter p c n = record {
  pid_is = omega arith;
  sound = omega arith;
  begins = eq-eqb _ _ (omega arith);
  clear = omega arith;
  control_is = omega arith;
  counter_is = omega arith;
}
has_head pid false control counter p c n = record {
  pid_is = omega arith;
  sound = omega arith;
  begins = ne_eqb _ _ (λ e. omega arith);
  clear = omega arith;
  control_is = omega arith;
  counter_is = omega arith;
}

-- what a written packet says
pub record SaysWhatWasWritten (pid : ℕ) (start : Bool) (counter : ℕ) (piece packet : List ℕ) : Type 0 where
  pub carries : CarriesPiece pid start piece packet
  pub numbered : counter_of packet ≡ counter
  pub taken : packet_fault pid packet ≡ None

whole_packet : (pid : ℕ) (start : Bool) (counter : ℕ) (piece : List ℕ) → pid < 8192 → counter < 16
    → SaysWhatWasWritten pid start counter piece (packet_with pid start 1 counter 0 piece)
whole_packet pid start counter piece p n =
    let head = has_head pid start 1 counter p (omega arith) n in
    let alone : control_of (packet_with pid start 1 counter 0 piece) ≡ 1 = head.control_is in
    let not_two : nat_eq (control_of (packet_with pid start 1 counter 0 piece)) 2 ≡ false =
    ne_eqb (control_of (packet_with pid start 1 counter 0 piece)) 2 (λ e. omega (arith, alone)) in
    let not_three : nat_eq (control_of (packet_with pid start 1 counter 0 piece)) 3 ≡ false =
    ne_eqb (control_of (packet_with pid start 1 counter 0 piece)) 3 (λ e. omega (arith, alone)) in
    record {
      carries = record {
        same_pid = head.pid_is;
        sound = ne_eqb _ _ (λ e. omega (arith, head.sound));
        full = ap (λ t. t || nat_eq (control_of (packet_with pid start 1 counter 0 piece)) 3) (eq-eqb _ _ alone);
        begins = head.begins;
        payload =
            ap (λ t. cond t
            (drop (5 + field_length_of (packet_with pid start 1 counter 0 piece))
            (packet_with pid start 1 counter 0 piece)) piece) not_three;
      };
      numbered = head.counter_is;
      taken = no_fault pid start 1 counter _ _ _ piece head (λ e. omega arith)
          (or_false _ _ (ap (λ t. t && nat_lt 183 (field_length_of (packet_with pid start 1 counter 0 piece))) not_two)
          (ap (λ t. t && nat_lt 182 (field_length_of (packet_with pid start 1 counter 0 piece))) not_three));
    }

part_packet : (pid : ℕ) (start : Bool) (counter count : ℕ) (piece : List ℕ) → pid < 8192 → counter < 16
    → 1 ≤ count → count ≤ 183
    → SaysWhatWasWritten pid start counter piece (packet_with pid start 3 counter count piece)
part_packet pid start counter count piece p n some short =
    let head = has_head pid start 3 counter p (omega arith) n in
    let both : control_of (packet_with pid start 3 counter count piece) ≡ 3 = head.control_is in
    let not_two : nat_eq (control_of (packet_with pid start 3 counter count piece)) 2 ≡ false =
    ne_eqb (control_of (packet_with pid start 3 counter count piece)) 2 (λ e. omega (arith, both)) in
    let length_is =
    field_length (get_or (head_of pid start 3 counter) 0 0) (get_or (head_of pid start 3 counter) 1 0)
    (get_or (head_of pid start 3 counter) 2 0) (get_or (head_of pid start 3 counter) 3 0) count piece some in
    record {
      carries = record {
        same_pid = head.pid_is;
        sound = ne_eqb _ _ (λ e. omega (arith, head.sound));
        full = or_true _ _ (eq-eqb _ _ both);
        begins = head.begins;
        payload =
            field_payload (get_or (head_of pid start 3 counter) 0 0) (get_or (head_of pid start 3 counter) 1 0)
            (get_or (head_of pid start 3 counter) 2 0) (get_or (head_of pid start 3 counter) 3 0) count piece both some;
      };
      numbered = head.counter_is;
      taken = no_fault pid start 3 counter _ _ _ (adaptation_field count ++ piece) head (λ e. omega arith)
          (or_false _ _
          (ap (λ t. t && nat_lt 183 (field_length_of (packet_with pid start 3 counter count piece))) not_two)
          (and_false _ _
          (le-ltb 182 (field_length_of (packet_with pid start 3 counter count piece)) (omega (arith, length_is)))));
    }
  where
    or_true : (a b : Bool) → b ≡ true → (a || b) ≡ true
    or_true true b e = refl
    or_true false b e = e

pub written_says : (pid : ℕ) (start : Bool) (counter : ℕ) (piece : List ℕ) → pid < 8192 → counter < 16
    → 1 ≤ length piece → length piece ≤ 184
    → SaysWhatWasWritten pid start counter piece (written_packet pid start counter piece)
written_says pid start counter piece p n some fits =
    elim (cases_eq (length piece) 184) [
      | inl all ↦
          let Says : Bool → ℕ
          → Type 0 = λ test count. SaysWhatWasWritten pid start counter piece
          (packet_with pid start (cond test 1 3) counter count piece) in
          let tested : nat_eq (length piece) 184 ≡ true = eq-eqb (length piece) 184 all in
          let none : 184 - length piece ≡ 0 = omega arith in
          subst (λ (test : Bool). Says test (184 - length piece)) (sym tested)
          (subst (λ (count : ℕ). Says true count) (sym none) (whole_packet pid start counter piece p n))
      | inr other ↦
          let Says : Bool
          → Type 0 = λ test. SaysWhatWasWritten pid start counter piece
          (packet_with pid start (cond test 1 3) counter (184 - length piece) piece) in
          let tested : nat_eq (length piece) 184 ≡ false = ne_eqb (length piece) 184 other in
          subst Says (sym tested)
          (part_packet pid start counter (184 - length piece) piece p n (omega arith) (omega arith))
    ]

-- a null packet can be taken by every other PID
pub null_is_taken : (pid : ℕ) → pid ≢ 0x1FFF → packet_fault pid null_packet ≡ None
null_is_taken pid other =
    let tested : nat_eq 0x1FFF pid ≡ false = ne_eqb 0x1FFF pid (λ same. other (sym same)) in rw tested refl
