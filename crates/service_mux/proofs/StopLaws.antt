-- What is known of a multiplex where it stops.
use Rattle.std.proofs.Common.{◌≡◌, ◌∙◌, ◌≤◌, ◌<◌, ◌⊎◌, inl, inr, ℕ, ◌+◌, ◌-◌, max, Bool, true, false, not, ◌||◌, List, [], ◌∷◌, ◌++◌, length, length-append, take, Option, refl, sym, ap, subst, append-nil, arith}
use Rattle.std.specs.List.{concat}
use Rattle.std.specs.Io.KnownBytes.{Appends}
use Rattle.std.proofs.KnownBytes.{Appends-nil}
use Rattle.std.proofs.lemmas.List.{take_all}
use Rattle.std.proofs.Math.Seq.{take-append_seam}
use Rattle.std.proofs.lemmas.List.Elements.{All-append, All-cons, All-nil}
use Rattle.sub_base.specs.Counts.{HasRisen}
use Rattle.sub_base.specs.Endpoints.{AppendsPrefix, Received, Supplied}
use Rattle.sub_base.specs.Seen.{Seen, seen}
use Rattle.sub_base.specs.ToolOutcome.{IsToolCause}
use Rattle.sub_base.specs.declared.status.ToolStatus.{ToolStatus}
use Rattle.sub_base.specs.declared.status.ToolStatus.TheVariants as tool
use Rattle.sub_base.specs.declared.status.Which.TheVariants as which
use Rattle.sub_base.proofs.TransferSteps.{HasRisen-since}
use Rattle.command_text.proofs.SentLaws.{Sent-front}
use Rattle.packet_source.specs.Packets.{Gave, IsWithin}
use Rattle.packet_source.proofs.GaveLaws.{Gave-more}
use Rattle.stream_syntax.specs.TransportPackets.{has_sync}
use Rattle.service_mux.specs.Multiplex.{frames_of, mux_of}
use Rattle.service_mux.specs.MuxOutcome.{AreEnough, IsMuxPrefix, mux_causes}
use Rattle.service_mux.specs.MuxWords.{AreServices}
use Rattle.service_mux.specs.StreamReads.{HaveSync}
use Rattle.service_mux.specs.Private.Stopping.{stop_status}
use Rattle.service_mux.specs.Private.Frames.{ArePassed, HavePassed}
use Rattle.service_mux.specs.Private.Lanes.{HasPassed, IsLaneStop, IsSound, Reaches, lacks_sync, reached}
use Rattle.service_mux.specs.declared.lane.Lane.{Lane}
use Rattle.service_mux.specs.declared.lane.LaneStop.{LaneStop}
use Rattle.service_mux.specs.declared.lane.LaneStop.TheVariants as stop
use Rattle.service_mux.specs.declared.mux_fault.MuxFault.{MuxFault}
use Rattle.service_mux.specs.declared.mux_fault.MuxFault.TheVariants as mux
use Rattle.service_mux.specs.declared.mux_words.ServicePair.{ServicePair}
use Rattle.service_mux.proofs.FrameLaws.{later_frames}
use Rattle.service_mux.proofs.JoinLaws.{few, has_not, not_ended, one_more, reached_one}
use Rattle.service_mux.proofs.LaneLaws.{gave_nothing, given, given_all, given_next}
use Rattle.service_mux.proofs.ServicesAgain.{one_again, two_again}

-- a prefix of bytes is one of more bytes, and so are all bytes
longer : (old new : Option (List ℕ)) (bytes rest all : List ℕ) → AppendsPrefix old new bytes
    → bytes ++ rest ≡ all → AppendsPrefix old new all
longer old new bytes rest all prefix joined =
    Sent-front old old new bytes bytes rest all (record { written = []; appended = Appends-nil old; whole = refl })
    prefix joined

whole_prefix : (old new : Option (List ℕ)) (bytes : List ℕ) → Appends old new bytes
    → AppendsPrefix old new bytes
whole_prefix old new bytes appends = (
  length bytes,
  omega arith,
  subst (λ (b : List ℕ). Appends old new b)
      (sym (take_all (length bytes) bytes (omega arith))) appends,
)

-- the packets of the first stream up to the frame in which the second one stops
record IsFirstGiven (before now : Supplied) (passed : List (List ℕ)) (frame : ℕ) : Type 0 where
  packets : List (List ℕ)
  rest : List ℕ
  gave : Gave before now packets rest
  within : IsWithin packets rest
  synced : HaveSync (take (frame + 1) packets)
  enough : AreEnough now packets rest (frame + 1)
  front : take frame packets ≡ passed

module _ (pair : ServicePair) (before : Seen) (first second : Supplied) (out : Received) (one two : Lane) (frame : ℕ)
    (passed : HavePassed before first second one two frame) where
  abbrev pub sent : List ℕ
  sent = concat (frames_of pair passed.first passed.second frame)

  abbrev here : Seen
  here = seen first second out

  -- a packet was passed for each frame, or the stream has ended
  enough : (was now : Supplied) (lane : Lane) (packets : List (List ℕ)) (rest : List ℕ)
      → HasPassed was now lane packets → (lane.is_ended ≡ true → length rest < 188) → ArePassed lane packets frame
      → (frames : ℕ) → frames ≤ frame → AreEnough now packets rest frames
  enough was now lane packets rest past short (inl is) frames below = inl (omega (arith, is, below))
  enough was now lane packets rest past short (inr ended) frames below =
      inr ((past.ended ended.0).end, short ended.0)

  up_to_longest : (frame ≤ length passed.first) ⊎ (frame ≤ length passed.second)
      → frame ≤ max (length passed.first) (length passed.second)
  up_to_longest (inl below) = omega (arith, below)
  up_to_longest (inr below) = omega (arith, below)

  pub prefix : AppendsPrefix before.out.written out.written sent → IsMuxPrefix pair before here
  prefix written =
      let most = max (length passed.first) (length passed.second) in
      let below : frame ≤ most = up_to_longest passed.longest in
      let count : frame + (most - frame) ≡ most = omega (arith, below) in
      let later = later_frames pair passed.first passed.second frame (most - frame) in
      let first_given = given before.first first one passed.first passed.first_passed in
      let second_given = given before.second second two passed.second passed.second_passed in
      record {
        first = passed.first;
        second = passed.second;
        first_rest = first_given.rest;
        second_rest = second_given.rest;
        first_gave = first_given.gave;
        second_gave = second_given.gave;
        synced = passed.synced;
        first_enough =
            enough before.first first one passed.first first_given.rest passed.first_passed first_given.short
            passed.first_count (length passed.second) (few two passed.second frame passed.second_count);
        second_enough =
            enough before.second second two passed.second second_given.rest passed.second_passed second_given.short
            passed.second_count (length passed.first) (few one passed.first frame passed.first_count);
        written =
            longer before.out.written out.written sent later.0 (concat (mux_of pair passed.first passed.second)) written
            (later.1 ∙ ap (λ (n : ℕ). concat (frames_of pair passed.first passed.second n)) count);
      }

  abbrev pub IsCaused : ToolStatus MuxFault → Type 0
  IsCaused status = IsToolCause (mux_causes pair before here) before here status

  pub unwritten : AppendsPrefix before.out.written out.written sent → HasRisen before.out.faults out.faults
      → IsCaused (tool.WriteFault which.Out)
  unwritten written risen = (risen, prefix written)

  -- all that was put out was written, or the output could not be written
  pub closed : (status answer : ToolStatus MuxFault)
      → (Appends before.out.written out.written sent → IsCaused status)
      → ((answer ≡ status) × Appends before.out.written out.written sent)
      ⊎ ((answer ≡ tool.WriteFault which.Out) × AppendsPrefix before.out.written out.written sent
      × HasRisen before.out.faults out.faults)
      → IsCaused answer
  closed status answer caused (inl whole) = subst IsCaused (sym whole.0) (caused whole.1)
  closed status answer caused (inr part) = subst IsCaused (sym part.0) (unwritten part.1 part.2)

  pub first_stopped : (was : Supplied) (why : LaneStop) → before.first.faults ≤ was.faults
      → IsLaneStop before.first was first why
      → Appends before.out.written out.written sent → IsCaused (stop_status why which.First)
  first_stopped was stop.Unread kept risen written = (
    HasRisen-since before.first.faults was.faults first.faults kept risen,
    prefix
        (whole_prefix before.out.written out.written sent written),
  )
  first_stopped was stop.TooLong kept risen written =
      (risen, prefix (whole_prefix before.out.written out.written sent written))

  pub second_stopped : (was : Supplied) (why : LaneStop) → before.second.faults ≤ was.faults
      → IsLaneStop before.second was second why
      → Appends before.out.written out.written sent → IsCaused (stop_status why which.Second)
  second_stopped was stop.Unread kept risen written = (
    HasRisen-since before.second.faults was.faults second.faults kept risen,
    prefix
        (whole_prefix before.out.written out.written sent written),
  )
  second_stopped was stop.TooLong kept risen written =
      (risen, prefix (whole_prefix before.out.written out.written sent written))

  pub done : AreServices pair → IsSound one → IsSound two → Reaches one false → Reaches two false
      → Appends before.out.written out.written sent → IsCaused tool.Done
  done are first_sound second_sound first_reaches second_reaches written =
      let most : max (length passed.first) (length passed.second) ≡ frame =
      omega (
        arith,
        up_to_longest passed.longest,
        few one passed.first frame passed.first_count,
        few two passed.second
            frame passed.second_count,
      ) in
      record {
        first = passed.first;
        second = passed.second;
        first_read =
            given_all before.first first one passed.first passed.first_passed first_sound (first_reaches.ended refl);
        second_read =
            given_all before.second second two passed.second passed.second_passed second_sound
            (second_reaches.ended refl);
        synced = passed.synced;
        written =
            subst (λ (n : ℕ). Appends before.out.written out.written
            (concat (frames_of pair passed.first passed.second n))) (sym most) written;
        again = record {
          one = one_again pair passed.first passed.second are;
          two = two_again pair passed.first passed.second are;
        };
      }

  -- a packet of the first stream does not begin with the sync byte
  pub first_unsynced : IsSound one → IsSound two → Reaches one true → lacks_sync (reached one true) ≡ true
      → Appends before.out.written out.written sent
      → IsCaused (tool.Refused (mux.FirstNoSync frame))
  first_unsynced first_sound second_sound reaches lacks written =
      let found = reached_one one reaches in
      let is = not_ended before.first first one passed.first frame passed.first_passed reaches passed.first_count in
      let next = given_next before.first first one passed.first found.0 passed.first_passed found.1.is in
      let other = given before.second second two passed.second passed.second_passed in
      let all : take frame passed.second ≡ passed.second =
      take_all frame passed.second (few two passed.second frame passed.second_count) in
      record {
        first = passed.first;
        unsynced = record {
          packet = found.0;
          rest = next.rest;
          gave = next.gave;
          within = next.within first_sound;
          synced = passed.synced.0;
          whole = next.long;
          no_sync = is_not (has_sync found.0) (sym (ap lacks_sync found.1.same) ∙ lacks);
          place_is = sym is;
        };
        second = passed.second;
        rest = other.rest;
        gave = other.gave;
        within = other.within second_sound;
        synced = subst HaveSync (sym all) passed.synced.1;
        enough =
            enough before.second second two passed.second other.rest passed.second_passed other.short
            passed.second_count frame (omega arith);
        written =
            subst (λ (p : List (List ℕ)). Appends before.out.written out.written
            (concat (frames_of pair passed.first p frame))) (sym all) written;
      }
    where
      is_not : (b : Bool) → not b ≡ true → b ≡ false
      is_not true e = absurd cc
      is_not false e = refl

  pub first_unsynced_by : IsSound one → IsSound two → (more : Bool) → Reaches one more
      → lacks_sync (reached one more) ≡ true → Appends before.out.written out.written sent
      → IsCaused (tool.Refused (mux.FirstNoSync frame))
  first_unsynced_by first_sound second_sound true reaches lacks written =
      first_unsynced first_sound second_sound reaches lacks written
  first_unsynced_by first_sound second_sound false reaches lacks written = absurd cc

  -- a packet of the second stream does not begin with the sync byte, and the first one has one in the same frame, or
  -- has ended
  pub second_unsynced : IsSound one → IsSound two → (has_first : Bool) → Reaches one has_first
      → lacks_sync (reached one has_first) ≡ false → Reaches two true → lacks_sync (reached two true) ≡ true
      → Appends before.out.written out.written sent → IsCaused (tool.Refused (mux.SecondNoSync frame))
  second_unsynced first_sound second_sound has_first first_reaches first_synced reaches lacks written =
      let found = reached_one two reaches in
      let is =
      not_ended before.second second two passed.second frame passed.second_passed reaches passed.second_count in
      let next = given_next before.second second two passed.second found.0 passed.second_passed found.1.is in
      let other = first_given has_first first_reaches first_synced in
      record {
        second = passed.second;
        unsynced = record {
          packet = found.0;
          rest = next.rest;
          gave = next.gave;
          within = next.within second_sound;
          synced = passed.synced.1;
          whole = next.long;
          no_sync = is_not (has_sync found.0) (sym (ap lacks_sync found.1.same) ∙ lacks);
          place_is = sym is;
        };
        first = other.packets;
        rest = other.rest;
        gave = other.gave;
        within = other.within;
        synced = other.synced;
        enough = other.enough;
        written =
            subst (λ (p : List (List ℕ)). Appends before.out.written out.written
            (concat (frames_of pair p passed.second frame))) (sym other.front) written;
      }
    where
      is_not : (b : Bool) → not b ≡ true → b ≡ false
      is_not true e = absurd cc
      is_not false e = refl

      first_given : (has_first : Bool) → Reaches one has_first → lacks_sync (reached one has_first) ≡ false
          → IsFirstGiven before.first first passed.first frame
      first_given true reaches synced =
          let found = reached_one one reaches in
          let packet = found.0 in
          let is = not_ended before.first first one passed.first frame passed.first_passed reaches passed.first_count in
          let next = given_next before.first first one passed.first packet passed.first_passed found.1.is in
          let good : has_sync packet ≡ true =
          has_not (has_sync packet) (sym (ap lacks_sync found.1.same) ∙ synced) in
          let packets = passed.first ++ packet ∷ [] in
          let long : length packets ≡ frame + 1 = one_more passed.first packet ∙ ap (λ (n : ℕ). n + 1) is in
          let both : HaveSync packets =
          All-append (λ (p : List ℕ). has_sync p ≡ true) passed.first (packet ∷ []) passed.synced.0
          (All-cons (λ (p : List ℕ). has_sync p ≡ true) packet [] good
          (All-nil (λ (p : List ℕ). has_sync p ≡ true))) in
          record {
            packets = packets;
            rest = next.rest;
            gave =
                Gave-more before.first first passed.first (packet ∷ []) (packet ++ next.rest) next.rest next.gave
                (All-cons (λ (p : List ℕ). length p ≡ 188) packet [] next.long
                (All-nil (λ (p : List ℕ). length p ≡ 188)))
                (ap (λ (p : List ℕ). p ++ next.rest) (sym (append-nil packet)));
            within =
                omega (
                  arith,
                  next.within first_sound,
                  next.long,
                  length-append packet next.rest,
                  one_more passed.first packet,
                );
            synced = subst HaveSync (sym (take_all (frame + 1) packets (omega (arith, long)))) both;
            enough = inl (omega (arith, long));
            front = ap (λ (n : ℕ). take n packets) (sym is) ∙ take-append_seam passed.first (packet ∷ []);
          }
      first_given false reaches synced =
          let other = given before.first first one passed.first passed.first_passed in
          let short = few one passed.first frame passed.first_count in
          record {
            packets = passed.first;
            rest = other.rest;
            gave = other.gave;
            within = other.within first_sound;
            synced = subst HaveSync (sym (take_all (frame + 1) passed.first (omega (arith, short)))) passed.synced.0;
            enough = inr ((passed.first_passed.ended (reaches.ended refl)).end, other.short (reaches.ended refl));
            front = take_all frame passed.first short;
          }

module _ (pair : ServicePair) (before : Seen) (first second : Supplied) (out : Received) (one two : Lane) (frame : ℕ)
    (passed : HavePassed before first second one two frame) where
  pub second_unsynced_by : IsSound one → IsSound two → (has_first more : Bool) → Reaches one has_first
      → lacks_sync (reached one has_first) ≡ false → Reaches two more → lacks_sync (reached two more) ≡ true
      → Appends before.out.written out.written (sent pair before first second out one two frame passed)
      → IsCaused pair before first second out one two frame passed (tool.Refused (mux.SecondNoSync frame))
  second_unsynced_by first_sound second_sound has_first true first_reaches synced reaches lacks written =
      second_unsynced pair before first second out one two frame passed first_sound second_sound has_first first_reaches
      synced reaches lacks written
  second_unsynced_by first_sound second_sound has_first false first_reaches synced reaches lacks written = absurd cc

  pub done_by : AreServices pair → IsSound one → IsSound two → (has_first has_second : Bool)
      → Reaches one has_first → Reaches two has_second
      → not (has_first || has_second) ≡ true
      → Appends before.out.written out.written (sent pair before first second out one two frame passed)
      → IsCaused pair before first second out one two frame passed tool.Done
  done_by are first_sound second_sound true has_second first_reaches second_reaches end written = absurd cc
  done_by are first_sound second_sound false true first_reaches second_reaches end written = absurd cc
  done_by are first_sound second_sound false false first_reaches second_reaches end written =
      done pair before first second out one two frame passed are first_sound second_sound first_reaches second_reaches
      written

-- nothing was read and put out
pub nothing_muxed : (pair : ServicePair) (first second : Supplied) (out : Received)
    → IsMuxPrefix pair (seen first second out) (seen first second out)
nothing_muxed pair first second out = record {
  first = [];
  second = [];
  first_rest = [];
  second_rest = [];
  first_gave = gave_nothing first;
  second_gave = gave_nothing second;
  synced = (All-nil (λ (p : List ℕ). has_sync p ≡ true), All-nil (λ (p : List ℕ). has_sync p ≡ true));
  first_enough = inl (omega arith);
  second_enough = inl (omega arith);
  written = (0, omega arith, Appends-nil out.written);
}
