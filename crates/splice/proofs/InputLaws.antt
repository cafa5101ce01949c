-- A stream that is gone through as it is read, from the packets of one read to those of the next.
use Rattle.decoder_model.specs.Received.{Reception}
use Rattle.std.proofs.Common.{◌≡◌, ◌∙◌, ℕ, ◌+◌, ◌*◌, ◌/◌, ◌^◌, ◌<◌, ◌≤◌, Bool, true, false, cond, List, [], ◌∷◌, ◌++◌, length, take, drop, Some, None, append_assoc, length-append, refl, sym, ap, subst, arith}
use Rattle.std.specs.Prelude.{nat_lt}
use Rattle.std.specs.Simd.{first_chunks}
use Rattle.std.proofs.lemmas.Bool.Decides.{nat_tests}
use Rattle.std.specs.List.{AllByRecursion}
use Rattle.std.proofs.Math.Seq.{take-append_seam, drop-append_seam}
use Rattle.std.proofs.lemmas.List.Elements.{recursion_from_All}
use Rattle.sub_base.specs.Counts.{HasRisenPast, counted}
use Rattle.sub_base.specs.Endpoints.{Supplied}
use Rattle.sub_base.specs.declared.faults.ReadAllFault.{ReadAllFault}
use Rattle.sub_base.specs.declared.faults.ReadAllFault.TheVariants as read
use Rattle.sub_base.proofs.TransferSteps.{HasRisen-since}
use Rattle.packet_source.specs.InHand.{InHand, nothing_read, read_count, whole_packets}
use Rattle.packet_source.specs.Packets.{GivesMore, IsStreamEnd, HasGivenInHand, stream_length}
use Rattle.packet_source.specs.declared.limits.TheConstants.{STREAM_LIMIT}
use Rattle.packet_source.specs.declared.stream_end.StreamEnd.{StreamEnd}
use Rattle.packet_source.specs.declared.stream_end.StreamEnd.TheVariants as stream
use Rattle.packet_source.proofs.GaveLaws.{bytes_of, AreLong, length-whole_packets, stream_length-more}
use Rattle.set_receiver.specs.Receiving.{SetReceiving}
use Rattle.splice.specs.Private.Inputs.{HasReadThrough, IsInput, IsInputCause, end_fault}
use Rattle.splice.specs.Private.Surveyed.{EndsGone, GoesThrough, IsGone, IsReady}
use Rattle.splice.specs.declared.found.Survey.{Survey}
use Rattle.splice.specs.declared.found.Survey.TheVariants.{Refused, Whole}
use Rattle.splice.specs.declared.joined.Joined.{Joined}
use Rattle.splice.specs.declared.limits.TheConstants.{SPLICE_LIMIT}
use Rattle.splice.specs.declared.part.Part.{Part}

-- ---- the packets of joined bytes

joined_chunks : (packets : List (List ℕ)) (rest : List ℕ) → AllByRecursion (λ packet. length packet ≡ 188) packets
    → first_chunks 188 (length packets) (bytes_of packets ++ rest) ≡ packets
joined_chunks [] rest whole = refl
joined_chunks (packet ∷ packets) rest whole =
    let behind : List ℕ = bytes_of packets ++ rest in
    let all : bytes_of (packet ∷ packets) ++ rest ≡ packet ++ behind = append_assoc packet (bytes_of packets) rest in
    let first : take 188 (bytes_of (packet ∷ packets) ++ rest) ≡ packet =
    ap (λ (bytes : List ℕ). take 188 bytes) all
    ∙ ap (λ (n : ℕ). take n (packet ++ behind)) (sym whole.0) ∙ take-append_seam packet behind in
    let others : drop 188 (bytes_of (packet ∷ packets) ++ rest) ≡ behind =
    ap (λ (bytes : List ℕ). drop 188 bytes) all
    ∙ ap (λ (n : ℕ). drop n (packet ++ behind)) (sym whole.0) ∙ drop-append_seam packet behind in
    (λ i. first i ∷ first_chunks 188 (length packets) (others i))
    ∙ ap (λ (l : List (List ℕ)). packet ∷ l) (joined_chunks packets rest whole.1)

joined_length : (packets : List (List ℕ)) (rest : List ℕ) → AreLong packets
    → length (bytes_of packets ++ rest) ≡ 188 * length packets + length rest
joined_length packets rest each =
    omega (arith, stream_length-more [] packets (bytes_of packets ++ rest) rest each refl)

-- packets, and less than one behind them, have these whole packets
joined_packets : (packets : List (List ℕ)) (rest : List ℕ) → AreLong packets → length rest < 188
    → whole_packets (bytes_of packets ++ rest) ≡ packets
joined_packets packets rest each short =
    ap (λ (k : ℕ). first_chunks 188 k (bytes_of packets ++ rest))
    (omega (arith, joined_length packets rest each, short))
    ∙ joined_chunks packets rest (recursion_from_All (λ (packet : List ℕ). length packet ≡ 188) packets each)

-- ---- from read to read

-- the packets before those in hand were gone through, and that came to this
pub record HasCome (made : Reception) (part : Part) (before now : Supplied) (start end : Joined)
    (receiving : SetReceiving) (survey : Survey) (hand : InHand) : Type 0 where
  pub packets : List (List ℕ)
  pub source : HasGivenInHand before now hand packets
  pub gone : IsGone made part packets receiving start end survey

-- the packets in hand, too
pub record HasWalked (made : Reception) (part : Part) (before now : Supplied) (start end : Joined)
    (receiving : SetReceiving) (survey : Survey) (hand : InHand) : Type 0 where
  pub packets : List (List ℕ)
  pub source : HasGivenInHand before now hand packets
  pub gone : IsGone made part (packets ++ whole_packets hand.bytes) receiving start end survey

-- nothing was read, which is within the limit
pub nothing_within : (hand : InHand) → hand ≡ nothing_read → read_count hand ≤ STREAM_LIMIT
nothing_within hand nothing = subst (λ (h : InHand). read_count h ≤ STREAM_LIMIT) (sym nothing) (omega arith)

-- before the first read
pub nothing_walked : (made : Reception) (part : Part) (before : Supplied) (start : Joined) (receiving : SetReceiving)
    (survey : Survey) (hand : InHand) → hand ≡ nothing_read → ((now : Supplied) → HasGivenInHand now now hand [])
    → IsGone made part [] receiving start start survey
    → HasWalked made part before before start start receiving survey hand
nothing_walked made part before start receiving survey hand nothing source gone = record {
  packets = [];
  source = source before;
  gone =
      subst (λ (h : InHand). IsGone made part (whole_packets h.bytes) receiving start start survey) (sym nothing) gone;
}

module _ {made : Reception} {part : Part} {before : Supplied} {start : Joined} where
  -- the packets in hand were given up, and more was read
  pub walked_on : (mid now : Supplied) (end : Joined) (receiving : SetReceiving) (survey : Survey) (old new : InHand)
      → HasWalked made part before mid start end receiving survey old → GivesMore mid now old new
      → HasCome made part before now start end receiving survey new
  walked_on mid now end receiving survey old new walked goes = record {
    packets = walked.packets ++ whole_packets old.bytes;
    source = goes before walked.packets walked.source;
    gone = walked.gone;
  }

  -- the packets in hand were gone through
  pub come_further : (now : Supplied) (between end : Joined) (old new : SetReceiving) (was is : Survey) (hand : InHand)
      (first : ℕ) (more : List (List ℕ)) → HasCome made part before now start between old was hand
      → first ≡ hand.first → more ≡ whole_packets hand.bytes
      → GoesThrough part first more old new was is between end
      → HasWalked made part before now start end new is hand
  come_further now between end old new was is hand first more come first_is more_is goes = record {
    packets = come.packets;
    source = come.source;
    gone =
        subst (λ (l : List (List ℕ)). IsGone made part (come.packets ++ l) new start end is) more_is
        (goes.goes made start come.packets (come.source.count ∙ sym first_is) come.gone);
  }

  -- no set waits in the receiver, unless a packet was refused
  pub come_ready : (now : Supplied) (end : Joined) (receiving : SetReceiving) (survey : Survey) (hand : InHand)
      → HasCome made part before now start end receiving survey hand → IsReady survey receiving
  come_ready now end receiving (Refused packet fault) hand come = tt
  come_ready now end receiving (Whole found) hand come = come.gone.none

  -- the stream was read to its end, within the limit
  pub come_to_end : (now : Supplied) (end : Joined) (receiving : SetReceiving) (survey : Survey) (hand : InHand)
      (first : ℕ) (ended : StreamEnd) (mid : Supplied)
      → HasCome made part before now start end receiving survey hand → first ≡ hand.first
      → IsStreamEnd mid now hand ended → end_fault first ended ≡ None
      → HasReadThrough made part before now receiving start end survey
  come_to_end now end receiving survey hand first (stream.Whole cut) mid come first_is is whole = record {
    bytes = bytes_of come.packets ++ hand.bytes;
    read = record {
      whole = come.source.gave.bytes;
      end = is.0;
      within = omega (arith, long, come.source.count, first_is, is.1, few);
      given = come.source.gave.count ∙ ap (λ (n : ℕ). counted before.given n) (sym long);
    };
    gone =
        subst (λ (packets : List (List ℕ)). IsGone made part packets receiving start end survey)
        (sym (joined_packets come.packets hand.bytes come.source.gave.each is.2.short)) come.gone;
  }
    where
      long : length (bytes_of come.packets ++ hand.bytes) ≡ 188 * length come.packets + length hand.bytes
      long = joined_length come.packets hand.bytes come.source.gave.each

      few : 188 * first + cut ≤ SPLICE_LIMIT
      few = grind (arith, nat_tests)
  come_to_end now end receiving survey hand first stream.Unread mid come first_is is whole = absurd (cc)
  come_to_end now end receiving survey hand first stream.TooLong mid come first_is is whole = absurd (cc)

-- ---- why it is not read to its end

past_counted : (start now long : ℕ) → now ≡ counted start long → SPLICE_LIMIT < long
    → HasRisenPast SPLICE_LIMIT start now
past_counted start now long given past = grind arith

-- the source gave more than the limit
pub given_past : (before now : Supplied) (hand : InHand) (packets : List (List ℕ))
    → HasGivenInHand before now hand packets
    → SPLICE_LIMIT < read_count hand → HasRisenPast SPLICE_LIMIT before.given now.given
given_past before now hand packets stands past =
    past_counted before.given now.given (stream_length packets hand.bytes) stands.gave.count
    (omega (arith, stands.count, past))

some_fault : (a b : ReadAllFault) → Some a ≡ Some b → b ≡ a
some_fault a b e = cc

pub ended_cause : (before mid now : Supplied) (hand : InHand) (packets : List (List ℕ)) (first : ℕ)
    (ended : StreamEnd) (fault : ReadAllFault) → HasGivenInHand before now hand packets → before.faults ≤ mid.faults
    → first ≡ hand.first → IsStreamEnd mid now hand ended → end_fault first ended ≡ Some fault
    → IsInputCause before now fault
ended_cause before mid now hand packets first (stream.Whole cut) fault stands kept first_is is faulty =
    by (nat_lt SPLICE_LIMIT (188 * first + cut)) refl faulty
  where
    by : (past : Bool) → nat_lt SPLICE_LIMIT (188 * first + cut) ≡ past
        → cond past (Some read.TooLong) None ≡ Some fault → IsInputCause before now fault
    by true past e =
        subst (λ (f : ReadAllFault). IsInputCause before now f) (sym (some_fault read.TooLong fault e))
        (given_past before now hand packets stands (omega (arith, first_is, is.1, over past)))
      where
        over : nat_lt SPLICE_LIMIT (188 * first + cut) ≡ true → SPLICE_LIMIT < 188 * first + cut
        over past = grind (arith, nat_tests)
    by false past e = absurd (cc)
ended_cause before mid now hand packets first stream.Unread fault stands kept first_is is faulty =
    subst (λ (f : ReadAllFault). IsInputCause before now f) (sym (some_fault read.Read fault faulty))
    (HasRisen-since before.faults mid.faults now.faults kept is.0)
ended_cause before mid now hand packets first stream.TooLong fault stands kept first_is is faulty =
    subst (λ (f : ReadAllFault). IsInputCause before now f) (sym (some_fault read.TooLong fault faulty))
    (given_past before now hand packets stands (omega (arith, is)))

-- ---- the packets in hand

-- whole packets past the limit are more bytes than the limit
pub hand_past : (hand : InHand) (count : ℕ) → count ≡ hand.first + length hand.bytes / 188
    → SPLICE_LIMIT < 188 * count + 0 → SPLICE_LIMIT < read_count hand
hand_past hand count count_is past = omega (arith, count_is, past)

-- packets within the limit are few
pub hand_few : (hand : InHand) (count first : ℕ) (packets : List (List ℕ))
    → count ≡ hand.first + length hand.bytes / 188 → (SPLICE_LIMIT < 188 * count + 0 → ⊥) → first ≡ hand.first
    → packets ≡ whole_packets hand.bytes → first + length packets ≤ 2 ^ 26
hand_few hand count first packets count_is within first_is packets_are =
    omega (
      arith,
      count_is,
      within,
      first_is,
      ap (λ (l : List (List ℕ)). length l) packets_are,
      length-whole_packets hand.bytes,
    )

-- ---- the whole stream

-- its packets were gone through, and what came ready at their end was taken
pub is_input : (own made : Reception) (part : Part) (before now : Supplied) (receiving : SetReceiving)
    (start between end : Joined) (was is : Survey) → own ≡ made
    → HasReadThrough own part before now receiving start between was → EndsGone part receiving was is between end
    → IsInput made part before now start end is
is_input own made part before now receiving start between end was is same through ends = record {
  bytes = through.bytes;
  read = through.read;
  is_survey =
      ends.goes made start (whole_packets through.bytes)
      (subst (λ (so : Reception). IsGone so part (whole_packets through.bytes) receiving start between was) same
      through.gone);
}
