-- The packets of a generated script, as they stand in memory: they are taken by a receiver, which shows what the script
-- authors from its entry set on.
use Rattle.std.proofs.Common.{◌≡◌, ◌∙◌, ℕ, ◌+◌, ◌*◌, ◌/◌, ◌≤◌, true, false, None, List, [], ◌++◌, length, reverse, take_all, All, refl, sym, ap, subst, arith}
use Rattle.std.specs.List.{AllByRecursion, concat}
use Rattle.std.specs.Prelude.{codes}
use Rattle.std.specs.List.Sorted.{IsStrictlyIncreasing}
use Rattle.std.proofs.lemmas.List.Elements.{All-from_recursion}
use Rattle.buffer_model.specs.Calls.{Call}
use Rattle.check_text.specs.CheckText.{IsPeak}
use Rattle.cue_list.specs.Sound.{IsTick}
use Rattle.cue_list.specs.declared.script.Script.{Script}
use Rattle.decoder_model.specs.Arrivals.{packets_taken}
use Rattle.decoder_model.specs.Readings.{Reading}
use Rattle.decoder_model.specs.Received.{Reception, sets_received}
use Rattle.decoder_model.specs.Sets.{Delivery}
use Rattle.decoder_model.specs.Streams.{entered_at, entry_set}
use Rattle.packet_source.proofs.JoinedPackets.{whole_packets-concat}
use Rattle.packet_source.specs.InHand.{whole_packets}
use Rattle.page_epoch.specs.declared.planned_set.PlannedSet.{PlannedSet}
use Rattle.reading_laws.proofs.OneReading.{same_past}
use Rattle.schedule.specs.Slots.{Timetable}
use Rattle.set_coder.specs.SetSizes.{IsSetLoad}
use Rattle.shown_stream.proofs.Shown.FirstTimes.{first_of_all_times}
use Rattle.shown_stream.proofs.Sent.CompiledPackets.{ArePackets, are_packets, packets_in}
use Rattle.shown_stream.proofs.Shown.CompiledShown.{compiled_entered}
use Rattle.shown_stream.proofs.Calls.CompiledStays.{compiled_stays}
use Rattle.dvbsub_cmd.proofs.FewPackets.{packets_few}
use Rattle.shown_stream.proofs.Sent.PlannedTimes.{pts_of, pts_rise, times_in_span}
use Rattle.slot_stream.proofs.SentPieces.{IsFree, none_refused}
use Rattle.slot_stream.proofs.SentStream.{pieces_are}
use Rattle.shown_stream.specs.Compiled.{IsCompiledFor, IsCompiledTo, all_units}
use Rattle.shown_stream.specs.SentSets.{sent_sets, first_times_from}
use Rattle.shown_stream.specs.Shows.{IsAnchorOf, ShowsFrom, authored_view}
use Rattle.slot_stream.specs.SlotStream.{all_pieces}
use Rattle.received_level_laws.specs.StreamCalls.{AreCallsOf, calls_from, itself, set_calls}
use Rattle.stream_syntax.specs.TransportPackets.{packet_fault}
use Rattle.sub_base.specs.Profile.{profile_of}
use Rattle.sub_base.specs.declared.profile.ProfileName.{ProfileName}
use Rattle.sub_base.specs.declared.profile.ProfileName.TheVariants.{Sd, Hd, Wide, Large}
use Rattle.script_stream.proofs.ShownLaws.{anchor_suits, compiled_is_shown, compiled_to, is_free}
use Rattle.script_stream.proofs.UnitLaws.{AllZip-length}
use Rattle.dvbsub_cmd.specs.GenText.{IsGenText, entry_line, entry_time, generated_pid, number_line, generated_compiling, generated_reception}
use Rattle.dvbsub_words.specs.Command.{IsGeneratedFor}
use Rattle.dvbsub_cmd.specs.Private.Generating.{AreOf, AreToldAs, IsCompiledFrom, entry_behind, told_lines}
use Rattle.dvbsub_cmd.specs.declared.gen_text.Entry.{Entry}
use Rattle.dvbsub_cmd.specs.declared.gen_text.Told.{Told}
use Rattle.dvbsub_cmd.specs.declared.generated.Generated.{Generated}

-- scripts are compiled for the profiles that they are generated for
pub sends : (name : ProfileName) → IsGeneratedFor name → IsCompiledFor name
sends Sd is_for = refl
sends Hd is_for = refl
sends Wide is_for = absurd is_for
sends Large is_for = absurd is_for

-- ---- times

-- the times of such a script are early
early_times : (origin : ℕ) (times : List ℕ) → AllByRecursion (IsTick origin) times → origin ≡ 0
    → All (λ time. time ≤ 4294967296) times
early_times origin times all zero_is k d inside =
    let early = (All-from_recursion (IsTick origin) times all k d inside).early in omega (arith, early, zero_is)

-- ---- calls

-- the calls of packets by what was received of them
abbrev calls_by : Reception → List (List ℕ) → List (Delivery Reading) → List Call
calls_by reception packets past =
    reverse (calls_from itself reception.profile.coded reception.pid reception.pages 0 []
    (packets_taken reception.pid packets) (set_calls reception.profile reception.anchor (reverse past)))

-- packets have one list of calls
one_calls : (reception : Reception) (packets : List (List ℕ)) (calls other : List Call)
    → AreCallsOf reception 0 false packets calls → AreCallsOf reception 0 false packets other → calls ≡ other
one_calls reception packets calls other is too =
    is.are ∙ ap (calls_by reception packets)
    (same_past (reverse (sets_received reception false packets)) is.past too.past is.received too.received)
    ∙ sym too.are

-- ---- the packets

module _ (name : ProfileName) (script : Script) (bytes : List ℕ) (is_for : IsGeneratedFor name)
    (zero_is : script.origin ≡ 0) (compiled : IsCompiledTo (generated_compiling name script) bytes) where
  free : IsFree generated_pid
  free = is_free generated_pid (omega arith)

  known : ArePackets (generated_compiling name script) bytes compiled
  known = are_packets (generated_compiling name script) bytes free (sends name is_for) compiled

  abbrev packets_sent : List (List ℕ)
  packets_sent = packets_in (generated_compiling name script) bytes compiled

  suits : (missed : ℕ) → IsAnchorOf (first_times_from missed (sent_sets compiled.table compiled.sets)) 0
  suits missed =
      first_of_all_times 0 missed (sent_sets compiled.table compiled.sets)
      (anchor_suits name script compiled.table compiled.sets missed 0 compiled.planned.plan (omega arith)
      (omega (arith, zero_is)))

  shows : (missed tick : ℕ)
      → ShowsFrom (generated_reception name) (entered_at missed packets_sent)
      (entry_set missed (sent_sets compiled.table compiled.sets)) tick (authored_view script tick)
  shows missed tick =
      (compiled_entered (generated_compiling name script) bytes free (sends name is_for) compiled missed).shown 0
      (suits missed) tick

  -- the packets in memory are these
  are_sent : (packets : List (List ℕ)) → packets ≡ whole_packets bytes → packets ≡ packets_sent
  are_sent packets are = are ∙ ap whole_packets known.joined ∙ whole_packets-concat packets_sent known.whole

  -- a receiver takes them
  taken : All (λ packet. packet_fault generated_pid packet ≡ None) packets_sent
  taken = All-from_recursion (λ packet. packet_fault generated_pid packet ≡ None) packets_sent
      (none_refused generated_pid 0 0 (all_pieces (all_units compiled.units)) compiled.table.slots free
      (pieces_are (profile_of name).coded (all_units compiled.units) known.units))

  count_few : length packets_sent ≤ 3240000001
  count_few = packets_few (generated_compiling name script) bytes (sends name is_for) compiled

  -- the calls of the packets are those of the stream that ends with them
  ended_calls : (peak : ℕ) (is : IsPeak (generated_reception name) packets_sent peak)
      → AreCallsOf (generated_reception name) 0 true packets_sent is.calls
  ended_calls peak is =
      let stays = compiled_stays (generated_compiling name script) bytes free compiled known 0 0 (suits 0) in
      let view = (shows 0 0).is_shown in
      let calls : List Call = calls_by (generated_reception name) packets_sent view.past in
      let ended : AreCallsOf (generated_reception name) 0 true packets_sent calls =
      record { past = view.past; received = view.received; are = refl } in
      let so_far : AreCallsOf (generated_reception name) 0 false packets_sent calls =
      subst (λ (packets : List (List ℕ)). AreCallsOf (generated_reception name) 0 false
      packets calls) (take_all (length packets_sent) packets_sent (omega arith)) (stays.ended calls ended) in
      subst (AreCallsOf (generated_reception name) 0 true packets_sent)
      (one_calls (generated_reception name) packets_sent calls is.calls so_far is.called)
      ended

-- ---- what is in memory

pub are_of : (name : ProfileName) (made : Generated) (number : ℕ) → IsGeneratedFor name
    → IsCompiledFrom number name made → (packets : List (List ℕ)) (times : List ℕ)
    → packets ≡ whole_packets made.stream.written
    → times ≡ pts_of made.sent.sets → AreOf name made packets times
are_of name made number is_for is packets times are times_are =
    let compiled = is.compiled in
    let zero_is = is.generated.origin in
    let same = are_sent name made.script made.stream.written is_for zero_is compiled packets are in
    let times_is : times ≡ pts_of compiled.sets = times_are ∙ ap pts_of (sym is.sets) in
    record {
      takable = record {
        few = omega (arith, ap length same, count_few name made.script made.stream.written is_for zero_is compiled);
        passed =
            subst (All (λ packet. packet_fault generated_pid packet ≡ None)) (sym same)
            (taken name made.script made.stream.written is_for zero_is compiled);
      };
      paired =
          ap (λ (table : Timetable). length table.dones) (sym is.table) ∙ compiled.schedule.sets.1
          ∙ sym (AllZip-length (IsSetLoad made.script) compiled.sets compiled.loads compiled.planned.asked)
          ∙ ap length is.sets;
      times_are = times_are;
      told = record {
        rising =
            subst IsStrictlyIncreasing (sym times_is)
            (pts_rise made.script (profile_of name) compiled.sets compiled.planned.plan);
        early =
            subst (All (λ tick. tick ≤ 4294967296)) (sym times_is)
            (early_times made.script.origin (pts_of compiled.sets)
            (times_in_span made.script (profile_of name) compiled.sets compiled.planned.plan) zero_is);
      };
      shown = λ missed tick.
          subst (λ (sets : List PlannedSet). ShowsFrom (generated_reception name)
          (entered_at missed packets) (entry_set missed (sent_sets made.sent.table sets)) tick
          (authored_view made.script tick)) is.sets
          (subst (λ (table : Timetable). ShowsFrom (generated_reception name)
          (entered_at missed packets) (entry_set missed (sent_sets table compiled.sets)) tick
          (authored_view made.script tick)) is.table
          (subst (λ (all : List (List ℕ)). ShowsFrom (generated_reception name)
          (entered_at missed all) (entry_set missed (sent_sets compiled.table compiled.sets)) tick
          (authored_view made.script tick)) (sym same)
          (shows name made.script made.stream.written is_for zero_is compiled missed tick)));
    }

-- ---- what is told

-- an entry behind so many packets
abbrev entry_of : Timetable → List PlannedSet → ℕ → Entry
entry_of table sets missed = record { missed = missed; time = entry_time (entry_set missed (sent_sets table sets)) }

pub gen_text_of : (name : ProfileName) (made : Generated) (number : ℕ) → IsGeneratedFor name
    → IsCompiledFrom number name made → (packets : List (List ℕ))
    → packets ≡ whole_packets made.stream.written
    → (told : Told) → AreToldAs name made packets told → IsGenText number name (told_lines told)
gen_text_of name made number is_for is packets are told is_told =
    let compiled = is.compiled in
    let zero_is = is.generated.origin in
    let all = packets_sent name made.script made.stream.written is_for zero_is compiled in
    let same = are_sent name made.script made.stream.written is_for zero_is compiled packets are in
    let its = known name made.script made.stream.written is_for zero_is compiled in
    let own : IsPeak (generated_reception name) all told.peak =
    subst (λ (p : List (List ℕ)). IsPeak (generated_reception name) p told.peak)
    same is_told.peak_is in
    let entry : (missed : ℕ) → entry_behind made missed ≡ entry_of compiled.table compiled.sets missed =
    λ missed i. entry_of (sym is.table i) (sym is.sets i) missed in
    let sets_is : told.sets ≡ length compiled.sets = is_told.sets_are ∙ ap length (sym is.sets) in
    let packets_is : told.packets ≡ length all = is_told.packets_are ∙ ap length same in
    let first : told.whole ≡ entry_of compiled.table compiled.sets 0 = is_told.whole_is ∙ entry 0 in
    let second : told.third ≡ entry_of compiled.table compiled.sets (length all / 3) =
    is_told.third_is ∙ entry (length packets / 3)
    ∙ ap (λ (p : List (List ℕ)). entry_of compiled.table compiled.sets (length p / 3)) same in
    let last : told.two_thirds ≡ entry_of compiled.table compiled.sets (2 * length all / 3) =
    is_told.two_thirds_are ∙ entry (2 * length packets / 3)
    ∙ ap (λ (p : List (List ℕ)). entry_of compiled.table compiled.sets (2 * length p / 3)) same in
    let joined =
    compiled_to (generated_compiling name made.script) made.stream.written (concat all) its.joined compiled
    in
    record {
      script = made.script;
      generated = is.generated;
      packets = all;
      whole = its.whole;
      compiled = joined;
      shown =
          compiled_is_shown (generated_compiling name made.script) (concat all) (omega arith)
          (sends name is_for) joined;
      calls = own.calls;
      called = ended_calls name made.script made.stream.written is_for zero_is compiled told.peak own;
      text_is = λ i. number_line (codes "sets") (sets_is i) ++ number_line (codes "packets") (packets_is i) ++ number_line (codes "peak") (own.peak_is i)
          ++ entry_line (first i).missed (first i).time ++ entry_line (second i).missed (second i).time
          ++ entry_line (last i).missed (last i).time;
    }
