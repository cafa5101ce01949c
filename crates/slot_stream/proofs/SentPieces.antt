-- Packets that are laid at their slots carry the units of which they are the pieces, and none of their counters is
-- missing.
use Rattle.std.proofs.Common.{◌≡◌, ◌≢◌, ◌∙◌, ℕ, zero, suc, ◌+◌, ◌-◌, ◌%◌, ◌<◌, ◌≤◌, Bool, true, false, eqb, cond, ◌&&◌, List, [], ◌∷◌, ◌++◌, length, map, take, drop, replicate, Option, Some, None, ◌⊎◌, inl, inr, refl, sym, ap, subst, arith, append_assoc}
use Rattle.std.specs.Bool.{if◌then◌else◌}
use Rattle.std.proofs.lemmas.Bool.{false≢true}
use Rattle.std.specs.List.{AllByRecursion}
use Rattle.std.proofs.lemmas.Bool.Decides.{nat_tests}
use Rattle.stream_syntax.specs.Cutting.{HasCounter, IsCut, IsUnbroken, IsGapless}
use Rattle.stream_syntax.specs.TransportPackets.{null_packet, pid_of, counter_of, packet_fault}
use Rattle.stream_syntax.specs.Units.{is_payload, last_counter, Next, Again, Missing, succession}
use Rattle.decoder_model.proofs.Lists.{all-append}
use Rattle.ts_packets.proofs.UnitLemmas.{counter_push}
use Rattle.ts_packets.proofs.WrittenPackets.{SaysWhatWasWritten, written_says, null_is_taken}
use Rattle.slot_stream.specs.SlotStream.{Piece, packet_of, IsPiece}
use Rattle.slot_stream.proofs.LaidPackets.{laid, behind}

-- a PID that null packets do not have
pub record IsFree (pid : ℕ) : Type 0 where
  pub small : pid < 8192
  pub no_null : 0x1FFF ≢ pid

abbrev bytes_of : Piece → List ℕ
bytes_of piece = piece.bytes

-- pieces of 1 to 184 bytes that begin no unit
abbrev pub AreFurther : List Piece → Type 0
AreFurther pieces = AllByRecursion (λ (piece : Piece). IsPiece piece × (piece.starts ≡ false)) pieces

-- what the packet of a piece says
pub says : (pid number : ℕ) (piece : Piece) → IsFree pid → IsPiece piece
    → SaysWhatWasWritten pid piece.starts (number % 16) piece.bytes (packet_of pid number piece)
says pid number piece free is =
    written_says pid piece.starts (number % 16) piece.bytes free.small (omega arith) is.0 is.1

-- ---- cut units

cut_behind_nulls : (pid count : ℕ) (last : Option ℕ) (start : Bool) (piece : List ℕ)
    (pieces rest : List (List ℕ))
    → IsFree pid → IsCut pid last start (piece ∷ pieces) rest
    → IsCut pid last start (piece ∷ pieces) (replicate count null_packet ++ rest)
cut_behind_nulls pid zero last start piece pieces rest free h = h
cut_behind_nulls pid (suc count) last start piece pieces rest free h =
    inl (inl free.no_null, cut_behind_nulls pid count last start piece pieces rest free h)

-- a piece's packet behind null packets
cut_one : (pid count counter : ℕ) (last : Option ℕ) (start : Bool) (piece : List ℕ)
    (pieces rest : List (List ℕ))
    (packet : List ℕ) → IsFree pid → SaysWhatWasWritten pid start counter piece packet → 1 ≤ length piece
    → HasCounter start last counter
    → IsCut pid (Some counter) false pieces rest
    → IsCut pid last start (piece ∷ pieces) (replicate count null_packet ++ packet ∷ rest)
cut_one pid count counter last start piece pieces rest packet free told some has more =
    cut_behind_nulls pid count last start piece pieces (packet ∷ rest) free
    (inr (
      some,
      told.carries,
      subst (HasCounter start last) (sym told.numbered) has,
      subst
          (λ (n : ℕ). IsCut pid (Some n) false pieces rest) (sym told.numbered) more,
    ))

-- the packets of pieces are a unit that is cut into them
pub cut_of_laid : (pid from number : ℕ) (last : Option ℕ) (start : Bool) (piece : Piece) (pieces : List Piece)
    (slot : ℕ) (slots : List ℕ) → IsFree pid → IsPiece piece → piece.starts ≡ start → AreFurther pieces
    → length pieces ≡ length slots → HasCounter start last (number % 16)
    → IsCut pid last start (piece.bytes ∷ map bytes_of pieces)
    (laid pid from number (piece ∷ pieces) (slot ∷ slots))
cut_of_laid pid from number last start piece [] slot slots free is starts further same has =
    cut_one pid (slot - from) (number % 16) last start piece.bytes [] (laid pid (slot + 1) (number + 1) [] slots)
    (packet_of pid number piece) free
    (subst (λ (flag : Bool). SaysWhatWasWritten pid flag (number % 16) piece.bytes (packet_of pid number piece)) starts
    (says pid number piece free is)) is.0 has tt
cut_of_laid pid from number last start piece (next ∷ pieces) slot [] free is starts further same has =
    absurd (omega arith)
cut_of_laid pid from number last start piece (next ∷ pieces) slot (after ∷ slots) free is starts further same has =
    cut_one pid (slot - from) (number % 16) last start piece.bytes (next.bytes ∷ map bytes_of pieces)
    (laid pid (slot + 1) (number + 1) (next ∷ pieces) (after ∷ slots)) (packet_of pid number piece) free
    (subst (λ (flag : Bool). SaysWhatWasWritten pid flag (number % 16) piece.bytes (packet_of pid number piece)) starts
    (says pid number piece free is)) is.0 has
    (cut_of_laid pid (slot + 1) (number + 1) (Some (number % 16)) false next pieces after slots free further.0.0
    further.0.1 further.1 (omega arith) (number % 16, refl, omega arith))

-- ---- counters

-- a packet of this number follows the payload packet with this counter
abbrev pub FollowsOn : Option ℕ → ℕ → Type 0
FollowsOn last number =
    (last ≡ None) ⊎ ((before : ℕ) × (last ≡ Some before) × (number % 16 ≡ (before + 1) % 16))

pub null_is_no_payload : (pid : ℕ) → IsFree pid → is_payload pid null_packet ≡ false
null_is_no_payload pid free = let no_null = free.no_null in let other : eqb 0x1FFF pid
    ≡ false = grind (arith, nat_tests) in ap (λ same. same && true) other

pub written_is_payload : (pid counter : ℕ) (start : Bool) (piece packet : List ℕ)
    → SaysWhatWasWritten pid start counter piece packet → is_payload pid packet ≡ true
written_is_payload pid counter start piece packet told =
    let same_pid = told.carries.same_pid in
    let same : eqb (pid_of packet) pid ≡ true = grind (arith, nat_tests) in
    rw (same, told.carries.sound, told.carries.full) refl

unbroken_some : (before found : ℕ) → found ≡ (before + 1) % 16 → IsUnbroken (succession (Some before) found)
unbroken_some before found is = by (eqb found before)
  where
    same : eqb found ((before + 1) % 16) ≡ true
    same = grind (arith, nat_tests)

    by : (again : Bool)
        → IsUnbroken
        (if again then Again else (if eqb found ((before + 1) % 16) then Next else Missing ((before + 1) % 16) found))
    by true = tt
    by false =
        subst (λ (next : Bool). IsUnbroken (if next then Next else Missing ((before + 1) % 16) found)) (sym same) tt

pub unbroken : (last : Option ℕ) (number found : ℕ) → FollowsOn last number → found ≡ number % 16
    → IsUnbroken (succession last found)
unbroken last number found (inl none) is =
    subst (λ (before : Option ℕ). IsUnbroken (succession before found)) (sym none) tt
unbroken last number found (inr some) is =
    subst (λ (before : Option ℕ). IsUnbroken (succession before found)) (sym some.1) (unbroken_some some.0 found (is
    ∙ some.2))

gapless_nulls : (pid count : ℕ) (last : Option ℕ) (rest : List (List ℕ)) → IsFree pid
    → IsGapless pid last rest
    → IsGapless pid last (replicate count null_packet ++ rest)
gapless_nulls pid zero last rest free h = h
gapless_nulls pid (suc count) last rest free h =
    let no_payload = null_is_no_payload pid free in (
      λ e. absurd (false≢true (sym no_payload ∙ e)),
      subst (λ (payload : Bool). IsGapless pid (if payload then Some (counter_of null_packet) else last)
          (replicate count null_packet ++ rest)) (sym no_payload) (gapless_nulls pid count last rest free h),
    )

gapless_one : (pid count counter number : ℕ) (last : Option ℕ) (start : Bool) (piece packet : List ℕ)
    (rest : List (List ℕ)) → IsFree pid → SaysWhatWasWritten pid start counter piece packet
    → counter ≡ number % 16
    → FollowsOn last number
    → IsGapless pid (Some counter) rest → IsGapless pid last (replicate count null_packet ++ packet ∷ rest)
gapless_one pid count counter number last start piece packet rest free told is follows more =
    gapless_nulls pid count last (packet ∷ rest) free (
      λ e. unbroken last number (counter_of packet) follows (told.numbered ∙ is),
      subst (λ (payload : Bool). IsGapless pid (if payload then Some (counter_of packet) else last) rest)
          (sym (written_is_payload pid counter start piece packet told))
          (subst (λ (n : ℕ). IsGapless pid (Some n) rest) (sym told.numbered) more),
    )

-- no counter is missing
pub gapless_laid : (pid from number : ℕ) (last : Option ℕ) (pieces : List Piece) (slots : List ℕ) → IsFree pid
    → AllByRecursion IsPiece pieces → FollowsOn last number
    → IsGapless pid last (laid pid from number pieces slots)
gapless_laid pid from number last [] slots free are follows = tt
gapless_laid pid from number last (piece ∷ pieces) [] free are follows = tt
gapless_laid pid from number last (piece ∷ pieces) (slot ∷ slots) free are follows =
    gapless_one pid (slot - from) (number % 16) number last piece.starts piece.bytes (packet_of pid number piece)
    (laid pid (slot + 1) (number + 1) pieces slots) free (says pid number piece free are.0) refl follows
    (gapless_laid pid (slot + 1) (number + 1) (Some (number % 16)) pieces slots free are.1
    (inr (number % 16, refl, omega arith)))

-- the counter behind a piece's packet is its own
pub counter_here : (pid counter : ℕ) (start : Bool) (before : List (List ℕ)) (piece packet : List ℕ)
    → SaysWhatWasWritten pid start counter piece packet
    → last_counter pid (before ++ packet ∷ []) ≡ Some counter
counter_here pid counter start before piece packet told =
    counter_push pid before packet
    ∙ ap (λ payload. cond payload (Some (counter_of packet)) (last_counter pid before))
    (written_is_payload pid counter start piece packet told) ∙ ap Some told.numbered

regrouped : (before nulls : List (List ℕ)) (packet : List ℕ) (rest : List (List ℕ))
    → before ++ (nulls ++ packet ∷ rest) ≡ ((before ++ nulls) ++ packet ∷ []) ++ rest
regrouped before nulls packet rest =
    sym (append_assoc before nulls (packet ∷ rest)) ∙ sym (append_assoc (before ++ nulls) (packet ∷ []) rest)

-- the counter behind them is that of the last
pub counter_behind : (pid from number : ℕ) (before : List (List ℕ)) (piece : Piece) (pieces : List Piece)
    (slot : ℕ)
    (slots : List ℕ) → IsFree pid → IsPiece piece → AllByRecursion IsPiece pieces
    → length pieces ≡ length slots
    → last_counter pid (before
    ++ laid pid from number (piece ∷ pieces) (slot ∷ slots)) ≡ Some ((number + length pieces) % 16)
counter_behind pid from number before piece [] slot slots free is are same =
    let last : number % 16 ≡ (number + 0) % 16 = omega arith in
    ap (last_counter pid)
    (sym (append_assoc before (replicate (slot - from) null_packet) (packet_of pid number piece ∷ [])))
    ∙ counter_here pid (number % 16) piece.starts (before
    ++ replicate (slot - from) null_packet) piece.bytes (packet_of pid number piece) (says pid number piece free is)
    ∙ ap Some last
counter_behind pid from number before piece (next ∷ pieces) slot [] free is are same = absurd (omega arith)
counter_behind pid from number before piece (next ∷ pieces) slot (after ∷ slots) free is are same =
    let last : (number + 1 + length pieces) % 16 ≡ (number + suc (length pieces)) % 16 =
    ap (λ n. n % 16) (omega arith) in
    ap (last_counter pid)
    (regrouped before (replicate (slot - from) null_packet) (packet_of pid number piece)
    (laid pid (slot + 1) (number + 1) (next ∷ pieces) (after ∷ slots)))
    ∙ counter_behind pid (slot + 1) (number + 1) ((before ++ replicate (slot - from) null_packet)
    ++ packet_of pid number piece ∷ []) next pieces after slots free are.0 are.1 (omega arith)
    ∙ ap Some last

-- ---- all packets

pub all-replicate : {X : Type 0} (P : X → Type 0) (x : X) (n : ℕ) → P x → AllByRecursion P (replicate n x)
all-replicate P x zero h = tt
all-replicate P x (suc n) h = (h, all-replicate P x n h)

-- none of the packets is refused
pub none_refused : (pid from number : ℕ) (pieces : List Piece) (slots : List ℕ) → IsFree pid
    → AllByRecursion IsPiece pieces
    → AllByRecursion (λ packet. packet_fault pid packet ≡ None) (laid pid from number pieces slots)
none_refused pid from number [] slots free are = tt
none_refused pid from number (piece ∷ pieces) [] free are = tt
none_refused pid from number (piece ∷ pieces) (slot ∷ slots) free are =
    let pieces_taken = (says pid number piece free are.0).taken in
    all-append (λ packet. packet_fault pid packet
    ≡ None) (replicate (slot - from) null_packet)
    (packet_of pid number piece ∷ laid pid (slot + 1) (number + 1) pieces slots)
    (all-replicate (λ packet. packet_fault pid packet
    ≡ None) null_packet (slot - from) (null_is_taken pid (λ e. free.no_null (sym e))))
    (pieces_taken, none_refused pid (slot + 1) (number + 1) pieces slots free are.1)

-- the packets of some pieces and then of others
pub laid-append : (pid from number : ℕ) (pieces more : List Piece) (slots : List ℕ)
    → length pieces ≤ length slots
    → laid pid from number (pieces ++ more) slots ≡ laid pid from number pieces (take (length pieces) slots)
    ++ laid pid (behind from (take (length pieces) slots)) (number + length pieces) more
    (drop (length pieces) slots)
laid-append pid from number [] more slots many =
    let same : number ≡ number + 0 = omega arith in ap (λ n. laid pid from n more slots) same
laid-append pid from number (piece ∷ pieces) more [] many = absurd (omega arith)
laid-append pid from number (piece ∷ pieces) more (slot ∷ slots) many =
    let count : number + 1 + length pieces ≡ number + suc (length pieces) = omega arith in
    ap (λ rest. replicate (slot - from) null_packet ++ packet_of pid number piece ∷ rest)
    (laid-append pid (slot + 1) (number + 1) pieces more slots (omega arith)
    ∙ ap (λ n. laid pid (slot + 1) (number + 1) pieces (take (length pieces) slots)
    ++ laid pid (behind (slot + 1) (take (length pieces) slots)) n more (drop (length pieces) slots)) count)
    ∙ sym (append_assoc (replicate (slot - from) null_packet)
    (packet_of pid number piece ∷ laid pid (slot + 1) (number + 1) pieces (take (length pieces) slots))
    (laid pid (behind (slot + 1) (take (length pieces) slots)) (number + suc (length pieces)) more
    (drop (length pieces) slots)))
