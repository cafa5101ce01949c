-- Packets into which a section is written are a cut of it, so that it comes of them.
use Rattle.std.proofs.Common.{◌≡◌, ◌∙◌, ℕ, ◌+◌, ◌%◌, ◌<◌, ◌≤◌, Bool, true, false, cond, ◌&&◌, not, nat_eq, List, [], ◌∷◌, ◌++◌, length, Option, Some, None, refl, sym, ap, subst, inl, arith, append-nil, append_assoc, length-append}
use Rattle.std.specs.List.{concat, AllByRecursion}
use Rattle.std.proofs.lemmas.Bool.{eq-eqb}
use Rattle.stream_syntax.specs.declared.transport.PacketFault.TheVariants as faults
use Rattle.stream_syntax.specs.TransportPackets.{pid_of, has_error_flag, has_bad_field, counter_of, packet_fault, written_packet}
use Rattle.ts_packets.proofs.WrittenPackets.{written_says}
use Rattle.cut_section_laws.specs.LaidSections.{AreLaid, Closed, Open, end, first, middle, to_the_end, up_to_a_front}
use Rattle.cut_section_laws.specs.SectionCuts.{Carries, IsWholeSection, is_counted, pointed}
use Rattle.cut_section_laws.specs.WrittenCuts.{EveryWriting, FitsPayload, packets_behind}
use Rattle.cut_section_laws.proofs.LaidPackets.{every_laying}

-- ---- a packet

-- a packet that can be taken has a valid adaptation field
no_faults : (unsynced scrambled reserved bad : Bool)
    → cond unsynced (Some faults.NoSync)
    (cond scrambled (Some faults.Scrambled)
    (cond reserved (Some faults.ReservedControl) (cond bad (Some faults.BadAdaptation) None))) ≡ None
    → bad ≡ false
no_faults true scrambled reserved bad none = absurd cc
no_faults false true reserved bad none = absurd cc
no_faults false false true bad none = absurd cc
no_faults false false false true none = absurd cc
no_faults false false false false none = refl

valid_field : (pid : ℕ) (packet : List ℕ) → packet_fault pid packet ≡ None → pid_of packet ≡ pid
    → has_error_flag packet ≡ false → has_bad_field packet ≡ false
valid_field pid packet none own unmarked =
    by (nat_eq (pid_of packet) pid) (has_error_flag packet) (has_bad_field packet) (eq-eqb _ _ own) unmarked
    (no_faults _ _ _ _ none)
  where
    by : (same marked bad : Bool) → same ≡ true → marked ≡ false → ((same && not marked) && bad) ≡ false
        → bad ≡ false
    by true false bad e f none = none
    by false marked bad e f none = absurd cc
    by true true bad e f none = absurd cc

-- what a written packet carries, and its counter
record Written (pid : ℕ) (start : Bool) (counter : ℕ) (piece packet : List ℕ) : Type 0 where
  carries : Carries pid start piece packet
  numbered : counter_of packet ≡ counter
  counted : is_counted pid packet ≡ true

written : (pid : ℕ) (start : Bool) (counter : ℕ) (piece : List ℕ) → pid < 8192 → counter < 16 → FitsPayload piece
    → Written pid start counter piece (written_packet pid start counter piece)
written pid start counter piece small below fits =
    let packet = written_packet pid start counter piece in
    let says = written_says pid start counter piece small below fits.0 fits.1 in
    let field = valid_field pid packet says.taken says.carries.same_pid says.carries.sound in
    let own : nat_eq (pid_of packet) pid ≡ true = eq-eqb (pid_of packet) pid says.carries.same_pid in
    record {
      carries = record {
        own = says.carries.same_pid;
        sound = record { unmarked = says.carries.sound; fitting = field };
        full = says.carries.full;
        begins = says.carries.begins;
        payload = says.carries.payload;
      };
      numbered = says.numbered;
      counted = λ i. own i && (says.carries.full i && (not (says.carries.sound i) && not (field i)));
    }

-- ---- all of them

module _ (pid : ℕ) (small : pid < 8192) where
  -- behind it its counter is the last one
  last_is : (start : Bool) (counter : ℕ) (piece packet : List ℕ) (last : Option ℕ)
      → Written pid start counter piece packet
      → cond (is_counted pid packet) (Some (counter_of packet)) last ≡ Some counter
  last_is start counter piece packet last is =
      ap (λ (b : Bool). cond b (Some (counter_of packet)) last) is.counted ∙ ap (λ (n : ℕ). Some n) is.numbered

  goes_on : (pieces : List (List ℕ)) (counter : ℕ) (begun piece : List ℕ) → counter < 16
      → AllByRecursion FitsPayload (piece ∷ pieces)
      → AreLaid pid (Some counter) (Open begun (concat (piece ∷ pieces))) ((begun ++ concat (piece ∷ pieces)) ∷ [])
      (packets_behind pid counter (piece ∷ pieces))
  goes_on [] counter begun piece below fit =
      let is = written pid false ((counter + 1) % 16) piece small (omega arith) fit.0 in
      let Carried : List ℕ
      → Type 0 = λ l. Carries pid false l (written_packet pid false ((counter + 1) % 16) piece) in (
        (begun ++ concat (piece ∷ [])) ∷ [],
        [],
        Closed,
        refl,
        end [] is.numbered
            (subst Carried (sym (append-nil (piece ++ []) ∙ append-nil piece)) is.carries),
        refl,
      )
  goes_on (second ∷ pieces) counter begun piece below fit =
      let packet = written_packet pid false ((counter + 1) % 16) piece in
      let is = written pid false ((counter + 1) % 16) piece small (omega arith) fit.0 in
      let lengths = length-append second (concat pieces) in
      let Laid : Option ℕ → Type 0 = λ last. AreLaid pid last (Open (begun ++ piece) (concat (second ∷ pieces)))
      (((begun ++ piece) ++ concat (second ∷ pieces)) ∷ [])
      (packets_behind pid ((counter + 1) % 16) (second ∷ pieces)) in (
        [],
        ((begun ++ piece) ++ concat (second ∷ pieces)) ∷ [],
        Open (begun ++ piece) (concat (second ∷ pieces)),
        ap (λ (l : List ℕ). l ∷ []) (sym (append_assoc begun piece (concat (second ∷ pieces)))),
        middle piece (concat (second ∷ pieces)) is.numbered is.carries refl (omega (arith, fit.1.0)),
        subst Laid (sym (last_is false ((counter + 1) % 16) piece packet (Some counter) is))
            (goes_on pieces ((counter + 1) % 16) (begun ++ piece) second (omega arith) fit.1),
      )

  laid : (counter : ℕ) (front section : List ℕ) (pieces : List (List ℕ)) → counter < 16 → IsWholeSection section
      → section ≡ front ++ concat pieces → 1 ≤ length front → FitsPayload (pointed [] front)
      → AllByRecursion FitsPayload pieces
      → AreLaid pid None Closed (section ∷ [])
      (written_packet pid true counter (pointed [] front) ∷ packets_behind pid counter pieces)
  laid counter front section [] below is whole some fits fit =
      let packet = written pid true counter (pointed [] front) small below fits in
      let bytes : section ≡ front = whole ∙ append-nil front in (
        section ∷ [],
        [],
        Closed,
        refl,
        first [] front (λ e. absurd cc) packet.carries
            (to_the_end [] (sym bytes ∙ sym (append-nil section) ∙ sym (append-nil (section ++ []))) (is, tt)
            (inl refl)),
        refl,
      )
  laid counter front section (piece ∷ pieces) below is whole some fits fit =
      let packet = written pid true counter (pointed [] front) small below fits in
      let lengths = length-append piece (concat pieces) in
      let Is : List ℕ → Type 0 = λ l. IsWholeSection l in
      let Laid : Option ℕ → Type 0 = λ last. AreLaid pid last (Open front (concat (piece ∷ pieces)))
      ((front ++ concat (piece ∷ pieces)) ∷ []) (packets_behind pid counter (piece ∷ pieces)) in (
        [],
        (front ++ concat (piece ∷ pieces)) ∷ [],
        Open front (concat (piece ∷ pieces)),
        ap (λ (l : List ℕ). l ∷ []) whole,
        first [] front (λ e. absurd cc) packet.carries
            (up_to_a_front front (concat (piece ∷ pieces)) refl tt (subst Is whole is) some
            (omega (arith, fit.0.0))),
        subst Laid
            (sym
            (last_is true counter (pointed [] front) (written_packet pid true counter (pointed [] front)) None packet))
            (goes_on pieces counter front piece below fit),
      )

  pub every_writing : EveryWriting pid
  every_writing counter front section pieces below is whole some fits fit =
      every_laying pid (written_packet pid true counter (pointed [] front) ∷ packets_behind pid counter pieces)
      (section ∷ []) (laid counter front section pieces below is whole some fits fit)
