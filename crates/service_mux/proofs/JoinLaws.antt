-- How a multiplex grows by a frame.
use Rattle.std.proofs.Common.{◌≡◌, ◌∙◌, ◌≤◌, ◌⊎◌, inl, inr, ℕ, ◌+◌, ◌/◌, ◌%◌, Bool, true, false, not, ◌||◌, List, [], ◌∷◌, ◌++◌, length, length-append, get_or, Option, Some, refl, sym, ap, subst, append-nil, slice_get, arith}
use Rattle.std.proofs.lemmas.List.Elements.{All-append, All-cons, All-nil}
use Rattle.std.proofs.lemmas.Option.{slice_get-get_or}
use Rattle.sub_base.specs.Endpoints.{Supplied}
use Rattle.sub_base.specs.Seen.{Seen}
use Rattle.command_text.specs.Putting.{Buffered, IsPutOut, PutsOut}
use Rattle.packet_source.specs.InHand.{whole_packets}
use Rattle.psi_tables.specs.declared.service.Service.{Service}
use Rattle.stream_syntax.specs.TransportPackets.{has_sync}
use Rattle.service_mux.specs.Multiplex.{if_of, service_packet, turn_packet}
use Rattle.service_mux.specs.StreamReads.{HaveSync}
use Rattle.service_mux.specs.Private.Frames.{ArePassed, HaveJoined}
use Rattle.service_mux.specs.Private.Lanes.{HasPassed, PassesReached, Reaches, as_list, lacks_sync, reached}
use Rattle.service_mux.specs.declared.lane.Lane.{Lane}
use Rattle.service_mux.specs.declared.mux_words.ServicePair.{ServicePair}
use Rattle.service_mux.proofs.FrameLaws.{AreThere, next_bytes, service_next, service_none}
use Rattle.service_mux.proofs.LaneLaws.{ended_none}

-- ---- one stream

-- a packet that was reached is one of the packets in hand
pub record IsReached (lane : Lane) (packet : List ℕ) : Type 0 where
  pub is : slice_get (whole_packets lane.packets.bytes) lane.next ≡ Some packet
  pub same : reached lane true ≡ Some packet

pub reached_one : (lane : Lane) → Reaches lane true → (packet : List ℕ) × IsReached lane packet
reached_one lane reaches =
    let whole = whole_packets lane.packets.bytes in
    let is = slice_get-get_or whole lane.next [] (reaches.there refl) in
    (get_or whole lane.next [], record { is = is; same = is })

-- what is known of a stream a frame later
pub record GoesFurther (service : Service) (before now : Supplied) (old new : Lane) (packets : List (List ℕ))
    (frame : ℕ) (more : Bool) : Type 0 where
  pub passed : HasPassed before now new (packets ++ as_list (reached old more))
  pub count : ArePassed new (packets ++ as_list (reached old more)) (frame + 1)
  pub there : AreThere packets (as_list (reached old more)) frame
  pub bytes : service_packet service (packets ++ as_list (reached old more)) frame
      ≡ if_of service.pid (reached old more)
  pub longest : more ≡ true → frame + 1 ≤ length (packets ++ as_list (reached old more))
  pub synced : HaveSync packets → HaveSync (packets ++ as_list (reached old more))

-- a stream that has a packet more has not ended: as many packets as frames were passed
pub not_ended : (before now : Supplied) (lane : Lane) (packets : List (List ℕ)) (frame : ℕ)
    → HasPassed before now lane packets → Reaches lane true → ArePassed lane packets frame
    → length packets ≡ frame
not_ended before now lane packets frame past reaches (inl is) = is
not_ended before now lane packets frame past reaches (inr ended) =
    absurd (ended_none before now lane packets past ended.0 (reaches.there refl))

pub few : (lane : Lane) (packets : List (List ℕ)) (frame : ℕ) → ArePassed lane packets frame
    → length packets ≤ frame
few lane packets frame (inl is) = omega (arith, is)
few lane packets frame (inr ended) = ended.1

pub one_more : (packets : List (List ℕ)) (packet : List ℕ) → length (packets ++ packet ∷ []) ≡ length packets + 1
one_more packets packet = length-append packets (packet ∷ [])

pub has_not : (b : Bool) → not b ≡ false → b ≡ true
has_not true e = refl
has_not false e = absurd cc

module _ (service : Service) (before now : Supplied) (old new : Lane) (packets : List (List ℕ)) (frame : ℕ) where
  goes_one : HasPassed before now old packets → ArePassed old packets frame → Reaches old true
      → PassesReached old new true
      → lacks_sync (reached old true) ≡ false → GoesFurther service before now old new packets frame true
  goes_one past count reaches passes synced =
      let found = reached_one old reaches in
      let packet = found.0 in
      let same = found.1.same in
      let is : length packets ≡ frame = not_ended before now old packets frame past reaches count in
      let all : packets ++ as_list (reached old true) ≡ packets ++ packet ∷ [] =
      ap (λ (p : Option (List ℕ)). packets ++ as_list p) same in
      let long : length (packets ++ as_list (reached old true)) ≡ frame + 1 =
      ap length all ∙ one_more packets packet ∙ ap (λ (n : ℕ). n + 1) is in
      let good : has_sync packet ≡ true = has_not (has_sync packet) (sym (ap lacks_sync same) ∙ synced) in
      record {
        passed = passes before now packets past;
        count = inl long;
        there = inl (omega (arith, is));
        bytes =
            ap (λ (p : List (List ℕ)). service_packet service p frame) all
            ∙ service_next service packets packet frame is ∙ ap (if_of service.pid) (sym same);
        longest = λ _. omega (arith, long);
        synced =
            λ before_synced. subst HaveSync (sym all)
            (All-append (λ (p : List ℕ). has_sync p ≡ true) packets (packet ∷ []) before_synced
            (All-cons (λ (p : List ℕ). has_sync p ≡ true) packet [] good
            (All-nil (λ (p : List ℕ). has_sync p ≡ true))));
      }

  goes_none : HasPassed before now old packets → ArePassed old packets frame → Reaches old false
      → PassesReached old new false → new.is_ended ≡ old.is_ended
      → GoesFurther service before now old new packets frame false
  goes_none past count reaches passes same_end = record {
    passed = passes before now packets past;
    count =
        inr (
          same_end
              ∙ reaches.ended refl,
          omega (arith, few old packets frame count, ap length (append-nil packets)),
        );
    there = inr refl;
    bytes = service_none service packets frame (few old packets frame count);
    longest = λ never. absurd (clash never);
    synced = λ before_synced. subst HaveSync (sym (append-nil packets)) before_synced;
  }
    where
      clash : false ≡ true → ⊥
      clash never = cc

  pub goes_further : (more : Bool) → HasPassed before now old packets → ArePassed old packets frame
      → Reaches old more → PassesReached old new more → new.is_ended ≡ old.is_ended
      → lacks_sync (reached old more) ≡ false → GoesFurther service before now old new packets frame more
  goes_further true past count reaches passes same_end synced = goes_one past count reaches passes synced
  goes_further false past count reaches passes same_end synced = goes_none past count reaches passes same_end

-- ---- both streams

either_more : (one two : Bool) → (one ≡ false → two ≡ false → ⊥) → (one ≡ true) ⊎ (two ≡ true)
either_more true two some = inl refl
either_more false true some = inr refl
either_more false false some = absurd (some refl refl)

-- a frame more was put out
pub join_more : (pair : ServicePair) (before now next : Seen) (one two one_new two_new : Lane) (was is : Buffered)
    (frame : ℕ) (has_first has_second : Bool)
    → (joined : HaveJoined pair before now one two was frame)
    → GoesFurther pair.one before.first now.first one one_new joined.passed.first frame has_first
    → GoesFurther pair.two before.second now.second two two_new joined.passed.second frame has_second
    → (has_first ≡ false → has_second ≡ false → ⊥)
    → next.first ≡ now.first → next.second ≡ now.second
    → PutsOut now.out next.out was is
    (turn_packet pair (1 + frame / 128) (frame % 128)
    ++ (if_of pair.one.pid (reached one has_first) ++ if_of pair.two.pid (reached two has_second)))
    → HaveJoined pair before next one_new two_new is (frame + 1)
join_more pair before now next one two one_new two_new was is frame has_first has_second joined first_goes second_goes
    some same_first same_second puts =
    let passed = joined.passed in
    let first_more = as_list (reached one has_first) in
    let second_more = as_list (reached two has_second) in
    let grown =
    next_bytes pair passed.first first_more passed.second second_more frame first_goes.there second_goes.there _ _
    first_goes.bytes second_goes.bytes in
    record {
      passed = record {
        first = passed.first ++ first_more;
        second = passed.second ++ second_more;
        first_passed =
            subst (λ (s : Supplied). HasPassed before.first s one_new (passed.first ++ first_more)) (sym same_first)
            first_goes.passed;
        second_passed =
            subst (λ (s : Supplied). HasPassed before.second s two_new (passed.second ++ second_more))
            (sym same_second) second_goes.passed;
        synced = (first_goes.synced passed.synced.0, second_goes.synced passed.synced.1);
        first_count = first_goes.count;
        second_count = second_goes.count;
        longest = longest (either_more has_first has_second some);
        first_kept = omega (arith, passed.first_kept, ap (λ (s : Supplied). s.faults) same_first);
        second_kept = omega (arith, passed.second_kept, ap (λ (s : Supplied). s.faults) same_second);
      };
      out =
          subst (λ (bytes : List ℕ). IsPutOut before.out next.out is bytes) (sym grown)
          (puts.extends before.out _ joined.out);
    }
  where
    longest : (has_first ≡ true) ⊎ (has_second ≡ true)
        → (frame + 1 ≤ length (joined.passed.first ++ as_list (reached one has_first)))
        ⊎ (frame + 1 ≤ length (joined.passed.second ++ as_list (reached two has_second)))
    longest (inl so) = inl (first_goes.longest so)
    longest (inr so) = inr (second_goes.longest so)

pub some_more : (has_first has_second : Bool) → not (has_first || has_second) ≡ false → has_first ≡ false
    → has_second ≡ false → ⊥
some_more true has_second more none others = cc
some_more false true more none others = cc
some_more false false more none others = cc
