-- A walk over a stream, from the packets of one read to those of the next.
use Rattle.std.proofs.Common.{◌≡◌, ◌∙◌, ℕ, ◌+◌, ◌*◌, ◌<◌, ◌≤◌, true, false, List, [], ◌++◌, length, take, get_or, Some, None, length-append, length-take-le, refl, sym, ap, subst, arith}
use Rattle.std.proofs.KnownBytes.{Appends-nil}
use Rattle.std.proofs.lemmas.List.Elements.{All-nil}
use Rattle.packet_source.specs.InHand.{InHand, nothing_read, read_count, rest_of, whole_packets}
use Rattle.packet_source.specs.Packets.{GivesMore, IsLastRest, IsStreamEnd, IsWithin, HasGivenInHand}
use Rattle.packet_source.specs.declared.limits.TheConstants.{STREAM_LIMIT}
use Rattle.packet_source.specs.declared.stream_end.StreamEnd.{StreamEnd}
use Rattle.packet_source.specs.declared.stream_end.StreamEnd.TheVariants as stream
use Rattle.packet_source.proofs.GaveLaws.{Gave-up_to, Gave-whole_packets, length-whole_packets, stream_length-more, whole_packets-rest_of, whole_packets_long}
use Rattle.sub_base.specs.Counts.{HasRisenPast}
use Rattle.sub_base.specs.Endpoints.{Received, Supplied}
use Rattle.sub_base.proofs.TransferSteps.{HasRisen-since}
use Rattle.stream_syntax.specs.TransportPackets.{packet_fault}
use Rattle.command_text.specs.Putting.{Buffered, IsPutOut}
use Rattle.packet_walk.specs.Told.{HasTaken, HasTold, Tells}
use Rattle.packet_walk.specs.Walking.{IsEnd, IsToldFrom}
use Rattle.packet_walk.specs.declared.walk.Refused.{Refused}
use Rattle.packet_walk.specs.declared.walk.WalkEnd.TheVariants as end

-- nothing was read, which is within the limit
pub nothing_within : (hand : InHand) → hand ≡ nothing_read → read_count hand ≤ STREAM_LIMIT
nothing_within hand nothing = subst (λ (h : InHand). read_count h ≤ STREAM_LIMIT) (sym nothing) (omega arith)

-- the packets in hand, and those before them, are fewer than the limit has bytes
pub few_in_hand : (hand : InHand) (first : ℕ) (packets : List (List ℕ)) → first ≡ hand.first
    → packets ≡ whole_packets hand.bytes → read_count hand ≤ STREAM_LIMIT
    → first + length packets ≤ STREAM_LIMIT
few_in_hand hand first packets first_is are within =
    omega (arith, first_is, ap (λ (l : List (List ℕ)). length l) are, length-whole_packets hand.bytes, within)

-- as many packets as were read before those in hand, and the bytes in hand, are within the limit
within_hand : (before now : Supplied) (hand : InHand) (packets : List (List ℕ)) → HasGivenInHand before now hand packets
    → read_count hand ≤ STREAM_LIMIT → IsWithin packets hand.bytes
within_hand before now hand packets stands within =
    subst (λ (n : ℕ). 188 * n + length hand.bytes ≤ STREAM_LIMIT) (sym stands.count) within

module _ {Teller : Type 0} (stands : Teller → List (List ℕ) → List ℕ → Type 0) where
  -- the text of the packets before those in hand was put out
  pub record HasCome (pid : ℕ) (before now : Supplied) (start out : Received) (teller : Teller) (buffer : Buffered)
      (hand : InHand) : Type 0 where
    pub packets : List (List ℕ)
    pub source : HasGivenInHand before now hand packets
    pub told : HasTold stands pid start out teller buffer packets

  -- the text of the packets in hand was put out, too
  pub record HasWalked (pid : ℕ) (before now : Supplied) (start out : Received) (teller : Teller) (buffer : Buffered)
      (hand : InHand) : Type 0 where
    pub packets : List (List ℕ)
    pub source : HasGivenInHand before now hand packets
    pub told : HasTold stands pid start out teller buffer (packets ++ whole_packets hand.bytes)

  -- before the first read
  pub nothing_walked : (pid : ℕ) (before : Supplied) (start : Received) (teller : Teller) (buffer : Buffered)
      (hand : InHand) → stands teller [] []
      → buffer ≡ record { waits = []; failed = false } → hand ≡ nothing_read
      → ((now : Supplied) → HasGivenInHand now now hand [])
      → HasWalked pid before before start start teller buffer hand
  nothing_walked pid before start teller buffer hand told empty nothing source = record {
    packets = [];
    source = source before;
    told =
        subst (λ (h : InHand). HasTold stands pid start start teller buffer (whole_packets h.bytes)) (sym nothing)
        (record {
          passed = All-nil (λ (packet : List ℕ). packet_fault pid packet ≡ None);
          text = [];
          told = told;
          out = subst (λ (b : Buffered). IsPutOut start start b []) (sym empty) (record {
            sent = λ well. record { written = []; appended = Appends-nil start.written; whole = refl };
            front = λ failed. absurd (clash failed);
            kept = omega arith;
          });
        });
  }
    where
      clash : false ≡ true → ⊥
      clash e = cc

  -- the packets in hand were given up, and more was read
  pub walked_on : (pid : ℕ) (before mid now : Supplied) (start out : Received) (teller : Teller) (buffer : Buffered)
      (old new : InHand) → HasWalked pid before mid start out teller buffer old
      → GivesMore mid now old new → HasCome pid before now start out teller buffer new
  walked_on pid before mid now start out teller buffer old new walked goes = record {
    packets = walked.packets ++ whole_packets old.bytes;
    source = goes before walked.packets walked.source;
    told = walked.told;
  }

  -- the text of the packets in hand was put out
  pub come_told : (pid : ℕ) (before now : Supplied) (start out next : Received) (teller new : Teller)
      (buffer is : Buffered) (hand : InHand) (first : ℕ) (more : List (List ℕ))
      → HasCome pid before now start out teller buffer hand → first ≡ hand.first
      → more ≡ whole_packets hand.bytes → Tells stands pid out next teller new buffer is first more
      → HasWalked pid before now start next new is hand
  come_told pid before now start out next teller new buffer is hand first more come first_is more_is tells = record {
    packets = come.packets;
    source = come.source;
    told = subst (λ (l : List (List ℕ)). HasTold stands pid start next new is (come.packets ++ l)) more_is
        (tells.extends start come.packets (come.source.count ∙ sym first_is) come.told);
  }

  -- as many packets were taken as stand before those in hand
  pub come_taken : (pid : ℕ) (before now : Supplied) (start out : Received) (teller : Teller) (buffer : Buffered)
      (hand : InHand) (first : ℕ) → HasCome pid before now start out teller buffer hand → first ≡ hand.first
      → HasTaken stands teller first
  come_taken pid before now start out teller buffer hand first come first_is = record {
    packets = come.packets;
    text = come.told.text;
    counted = come.source.count ∙ sym first_is;
    told = come.told.told;
  }

  -- what was told of the packets before those in hand
  told_before : (pid : ℕ) (before now : Supplied) (start out : Received) (teller : Teller) (buffer : Buffered)
      (hand : InHand) (come : HasCome pid before now start out teller buffer hand)
      → IsToldFrom (stands teller) pid before now start out buffer come.packets hand.bytes
  told_before pid before now start out teller buffer hand come = record {
    taken = record { gave = come.source.gave; passed = come.told.passed };
    text = come.told.text;
    told = come.told.told;
    put_out = come.told.out;
  }

  -- the source gives no packet more
  pub come_to_end : (pid : ℕ) (before mid now : Supplied) (start out : Received) (teller : Teller) (buffer : Buffered)
      (old new : InHand) (ended : StreamEnd) (walked : HasWalked pid before mid start out teller buffer old)
      → GivesMore mid now old new → before.faults ≤ mid.faults → IsStreamEnd mid now new ended
      → (ended ≡ stream.TooLong → (start : Supplied) (packets : List (List ℕ))
      → HasGivenInHand start mid old packets → HasRisenPast STREAM_LIMIT start.given now.given)
      → IsEnd (stands teller) pid before now start out buffer (end.Stream ended)
  come_to_end pid before mid now start out teller buffer old new ended walked goes kept is long = by ended is long
    where
      come : HasCome pid before now start out teller buffer new
      come = walked_on pid before mid now start out teller buffer old new walked goes

      told : IsToldFrom (stands teller) pid before now start out buffer come.packets new.bytes
      told = told_before pid before now start out teller buffer new come

      within : IsLastRest new → IsWithin come.packets new.bytes
      within rest = within_hand before now new come.packets come.source rest.within

      by : (ended : StreamEnd) → IsStreamEnd mid now new ended
          → (ended ≡ stream.TooLong → (start : Supplied) (packets : List (List ℕ))
          → HasGivenInHand start mid old packets → HasRisenPast STREAM_LIMIT start.given now.given)
          → IsEnd (stands teller) pid before now start out buffer (end.Stream ended)
      by (stream.Whole cut) is long = (come.packets, new.bytes, told, within is.2, is.2.short, is.1, is.0)
      by stream.Unread is long = (
        come.packets,
        new.bytes,
        told,
        within is.1,
        is.1.short,
        HasRisen-since before.faults mid.faults now.faults
            kept is.0,
      )
      by stream.TooLong is long = (come.packets, new.bytes, told, long refl before walked.packets walked.source)

  -- the output could not be written
  pub walked_unwritten : (pid : ℕ) (before now : Supplied) (start out : Received) (teller : Teller)
      (buffer : Buffered) (hand : InHand) → HasWalked pid before now start out teller buffer hand
      → read_count hand ≤ STREAM_LIMIT → buffer.failed ≡ true
      → IsEnd (stands teller) pid before now start out buffer end.Unwritten
  walked_unwritten pid before now start out teller buffer hand walked within failed =
      let same =
      stream_length-more walked.packets (whole_packets hand.bytes) hand.bytes (rest_of hand.bytes)
      (whole_packets_long hand.bytes) (sym (whole_packets-rest_of hand.bytes)) in (
        walked.packets ++ whole_packets hand.bytes,
        rest_of hand.bytes,
        record {
          taken =
              record {
                gave = Gave-whole_packets before now walked.packets hand.bytes walked.source.gave;
                passed = walked.told.passed;
              };
          text = walked.told.text;
          told = walked.told.told;
          put_out = walked.told.out;
        },
        subst (λ (n : ℕ). n ≤ STREAM_LIMIT) same (within_hand before now hand walked.packets walked.source within),
        failed,
      )

  -- the first packet in hand that cannot be taken, where the packets in hand are these
  abbrev pub RefusesAt : ℕ → Received → Received → Teller → Teller → Buffered → Buffered
      → Refused → ℕ → List (List ℕ) → Type 0
  RefusesAt pid out next teller new buffer is refused first packets =
      (k : ℕ) × (k < length packets) × (refused.packet ≡ first + k)
      × (packet_fault pid (get_or packets k []) ≡ Some refused.fault)
      × Tells stands pid out next teller new buffer is first (take k packets)

  -- a packet in hand cannot be taken
  pub come_refused : (pid : ℕ) (before now : Supplied) (start out next : Received) (teller new : Teller)
      (buffer is : Buffered) (hand : InHand) (refused : Refused) (first : ℕ) (more : List (List ℕ))
      → HasCome pid before now start out teller buffer hand → read_count hand ≤ STREAM_LIMIT
      → first ≡ hand.first → more ≡ whole_packets hand.bytes
      → RefusesAt pid out next teller new buffer is refused first more
      → IsEnd (stands new) pid before now start next is (end.Refused refused)
  come_refused pid before now start out next teller new buffer is hand refused first more come within first_is more_is
      refuses =
      let packets : List (List ℕ) = whole_packets hand.bytes in
      let found : RefusesAt pid out next teller new buffer is refused hand.first packets =
      subst (λ (l : List (List ℕ)). RefusesAt pid out next teller new buffer is refused hand.first l) more_is
      (subst (λ (n : ℕ). RefusesAt pid out next teller new buffer is refused n more) first_is refuses) in
      let k : ℕ = found.0 in
      let told : HasTold stands pid start next new is (come.packets ++ take k packets) =
      found.4.extends start come.packets come.source.count come.told in
      let cut = Gave-up_to before now come.packets hand.bytes k come.source.gave found.1 in
      let place_is : refused.packet ≡ length (come.packets ++ take k packets) =
      omega (
        arith,
        found.1,
        found.2,
        come.source.count,
        length-append come.packets (take k packets),
        length-take-le k
            packets (omega (arith, found.1)),
      ) in (
        come.packets ++ take k packets,
        get_or packets k [],
        cut.rest,
        record {
          taken = record { gave = cut.gave; passed = told.passed };
          text = told.text;
          told = told.told;
          put_out = told.out;
        },
        subst (λ (n : ℕ). n ≤ STREAM_LIMIT) cut.same (within_hand before now hand come.packets come.source within),
        cut.long,
        place_is,
        found.3,
      )
