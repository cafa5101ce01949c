-- How `pair` ends, by how its scripts were read and sent; and what its tool answers.
use Rattle.std.proofs.Common.{◌≡◌, ◌∙◌, ℕ, ◌<◌, inl, inr, List, length, All, Option, Some, None, sym, subst}
use Rattle.std.specs.List.{concat}
use Rattle.std.specs.Io.KnownBytes.{Appends}
use Rattle.std.proofs.KnownBytes.{Keeps-refl}
use Rattle.std.proofs.lemmas.List.Elements.{All-from_recursion, recursion_from_All}
use Rattle.cue_list.specs.declared.script.Script.{Script}
use Rattle.page_epoch.specs.Plan.{IsPlan}
use Rattle.page_epoch.specs.declared.planned_set.PlannedSet.{PlannedSet}
use Rattle.schedule.specs.Slots.{Timetable}
use Rattle.script_stream.proofs.ShownLaws.{anchor_suits}
use Rattle.sent_sets.proofs.SentLaws.{is_free}
use Rattle.sent_sets.proofs.SentLists.{known_sets}
use Rattle.sent_sets.proofs.SentPackets.{all_room, sent_packets, stream_packets}
use Rattle.sent_sets.specs.RawSets.{EndsLast, IsSendable}
use Rattle.shown_stream.proofs.Shown.FirstTimes.{first_of_all_times}
use Rattle.shown_stream.specs.SentPlan.{IsSentPlan, SentPlan}
use Rattle.shown_stream.specs.SentSets.{sent_sets}
use Rattle.stream_syntax.specs.declared.wire.TheConstants.{NULL_PID}
use Rattle.sub_base.specs.Endpoints.{Received, WroteNothing}
use Rattle.sub_base.specs.Pace.{pace_of}
use Rattle.sub_base.specs.Profile.{profile_of}
use Rattle.sub_base.specs.Seen.{Seen}
use Rattle.sub_base.specs.ToolOutcome.{IsToolCause, TellsTool, untold_tool}
use Rattle.sub_base.specs.declared.status.ToolStatus.{ToolStatus}
use Rattle.sub_base.specs.declared.status.ToolStatus.TheVariants as tool
use Rattle.sub_base.specs.declared.status.Which.{Which}
use Rattle.sub_base.specs.declared.status.Which.TheVariants as which
use Rattle.page_pair.proofs.PairLaws.{pair_entered, pair_sent}
use Rattle.page_pair.specs.PairOutcome.{ArePagesApart, AreScriptsRead, AreSuited, IsPairRefused, IsUnsendable, ReadsPlainScript, first_pages, pair_causes, first_sent, second_sent}
use Rattle.page_pair.specs.PairStream.{IsPairedTo}
use Rattle.page_pair.specs.PairTop.{HasKept, HasToldWhole}
use Rattle.page_pair.specs.Private.Ending.{IsSendEnd, IsSent}
use Rattle.page_pair.specs.Private.Reading.{IsReadStop, first_status, second_status}
use Rattle.page_pair.specs.declared.pair_command.PairCommand.{PairCommand}
use Rattle.page_pair.specs.declared.pair_command.PairCommand.TheVariants as command
use Rattle.page_pair.specs.declared.pair_fault.PairFault.{PairFault}
use Rattle.page_pair.specs.declared.pair_fault.PairFault.TheVariants as pair
use Rattle.page_pair.specs.declared.pair_words.Pairing.{Pairing}
use Rattle.page_pair.specs.declared.plain_script.ReadStop.{ReadStop}
use Rattle.page_pair.specs.declared.plain_script.ReadStop.TheVariants as read

-- ---- the packets, one by one

-- the packets of bytes, each of 188
record ArePacketsOf (bytes : List ℕ) : Type 0 where
  packets : List (List ℕ)
  whole : All (λ packet. length packet ≡ 188) packets
  joined : bytes ≡ concat packets

planned_packets : (pairing : Pairing) (first : Script) (sets : List PlannedSet)
    (table : Timetable) (bytes : List ℕ) → pairing.pid < NULL_PID
    → IsSentPlan (first_sent pairing first sets table) bytes → ArePacketsOf bytes
planned_packets pairing first sets table bytes free plan =
    let pace = pace_of first.origin (profile_of pairing.profile) in
    let sent = plan.sent in
    let known =
    known_sets pace.coded (first_pages pairing.pages) plan.raw sent.units sent.carried
    (recursion_from_All IsSendable plan.raw plan.sendable)
    (recursion_from_All (EndsLast (first_pages pairing.pages)) plan.raw plan.ends)
    (all_room pace.coded plan.loads sent.units sent.sized sent.on_time.fits) in
    let stream =
    sent_packets pace.coded pairing.pid pace plan.loads sent.units table (is_free pairing.pid free) known.units_are
    sent.sized
    sent.schedule in
    record {
      packets = stream_packets pairing.pid sent.units table;
      whole =
          All-from_recursion (λ (packet : List ℕ). length packet ≡ 188) (stream_packets pairing.pid sent.units table)
          stream.whole;
      joined = sent.sent ∙ stream.joined;
    }

-- the times of a plan's sets have anchors
are_suited : (sent : SentPlan) → IsPlan sent.script (profile_of sent.profile) sent.sets → AreSuited sent
are_suited sent plan = record {
  suits = λ missed anchor early near.
      anchor_suits sent.profile sent.script sent.table sent.sets missed anchor plan early near;
  first_suits = λ missed anchor early near.
      first_of_all_times anchor missed (sent_sets sent.table sent.sets)
      (anchor_suits sent.profile sent.script sent.table sent.sets missed anchor plan early near);
}

-- all packets were written
pub sent_whole : (pairing : Pairing) (first second : Script) (bytes : List ℕ)
    (before now : Received) → pairing.pid < NULL_PID → ArePagesApart pairing.pages
    → IsPairedTo pairing first second bytes → Appends before.written now.written bytes
    → IsSent pairing first second before now
sent_whole pairing first second bytes before now free apart paired written =
    let cut =
    planned_packets pairing first paired.one paired.table bytes free
    (pair_sent pairing first second bytes apart paired).0 in
    let same : IsPairedTo pairing first second (concat cut.packets) =
    subst (IsPairedTo pairing first second) cut.joined paired in
    record {
      packets = cut.packets;
      whole = cut.whole;
      paired = same;
      written = subst (Appends before.written now.written) cut.joined written;
      first_shown = λ missed.
          (pair_entered pairing first second cut.packets free apart cut.whole same missed).0;
      second_shown = λ missed.
          (pair_entered pairing first second cut.packets free apart cut.whole same missed).1;
      first_suited = are_suited (first_sent pairing first same.one same.table) same.plans.first_plan;
      second_suited = are_suited (second_sent pairing second same.two same.table) same.plans.second_plan;
    }

-- ---- how it ends

module _ (pairing : Pairing) (before now : Seen) where
  abbrev IsCaused : ToolStatus PairFault → Type 0
  IsCaused = IsToolCause (pair_causes pairing before now) before now

  refused : (first second : Script) (fault : PairFault) → AreScriptsRead before now first second
      → IsUnsendable pairing.profile pairing.pages first second fault
      → IsPairRefused pairing.profile pairing.pages before now fault
  refused first second (pair.FirstScript fault) read cause = absurd cause
  refused first second (pair.SecondScript fault) read cause = absurd cause
  refused first second (pair.Heads row) read cause = (first, second, read, cause)
  refused first second (pair.FirstPlan fault) read cause = (first, second, read, cause)
  refused first second (pair.SecondPlan fault) read cause = (first, second, read, cause)
  refused first second (pair.Uneven set) read cause = (first, second, read, cause)
  refused first second (pair.TooLong set size) read cause = (first, second, read, cause)
  refused first second (pair.Schedule row fault) read cause = (first, second, read, cause)
  refused first second (pair.Stream packet fault) read cause = absurd cause

  pub send_caused : (first second : Script) (status : ToolStatus PairFault) → AreScriptsRead before now first second
      → IsSendEnd pairing first second before.out now.out status → IsCaused status
  send_caused first second tool.Done read end = record {
    first = first;
    second = second;
    read = read;
    packets = end.packets;
    whole = end.whole;
    paired = end.paired;
    written = end.written;
    first_shown = end.first_shown;
    second_shown = end.second_shown;
    first_suited = end.first_suited;
    second_suited = end.second_suited;
  }
  send_caused first second tool.Usage read end = absurd end
  send_caused first second (tool.Refused fault) read end = (refused first second fault read end.0, end.1)
  send_caused first second (tool.ReadFault source) read end = absurd end
  send_caused first second (tool.WriteFault sink) read end =
      subst (λ (at : Which). IsCaused (tool.WriteFault at)) (sym end.0)
      (end.1, inr (first, second, read, end.2.0, end.2.1, end.2.2))
  send_caused first second tool.Memory read end = inl end
  send_caused first second (tool.InputTooLong source) read end = absurd end

  pub send_kept : (first second : Script) (status : ToolStatus PairFault)
      → IsSendEnd pairing first second before.out now.out status
      → HasKept (Some (command.Pair pairing)) before now status
  send_kept first second tool.Done end = tt
  send_kept first second tool.Usage end = tt
  send_kept first second (tool.Refused fault) end = tt
  send_kept first second (tool.ReadFault source) end = tt
  send_kept first second (tool.WriteFault sink) end = tt
  send_kept first second tool.Memory end = end
  send_kept first second (tool.InputTooLong source) end = tt

  -- the first script was not read
  pub first_caused : (stop : ReadStop) → now.out ≡ before.out → IsReadStop before.first now.first stop
      → IsCaused (first_status stop)
  first_caused read.Memory same cause =
      inl (subst (λ (out : Received). WroteNothing before.out out) (sym same) (Keeps-refl before.out.written))
  first_caused (read.Refused fault) same cause = (
    cause,
    subst (λ (out : Received). WroteNothing before.out out) (sym same) (Keeps-refl before.out.written),
  )
  first_caused read.Unread same cause = (
    cause,
    inl (subst (λ (out : Received). WroteNothing before.out out) (sym same) (Keeps-refl before.out.written)),
  )
  first_caused read.TooLong same cause = (
    cause,
    inl (subst (λ (out : Received). WroteNothing before.out out) (sym same) (Keeps-refl before.out.written)),
  )

  pub first_kept : (stop : ReadStop) → now.out ≡ before.out
      → HasKept (Some (command.Pair pairing)) before now (first_status stop)
  first_kept read.Memory same =
      subst (λ (out : Received). WroteNothing before.out out) (sym same) (Keeps-refl before.out.written)
  first_kept (read.Refused fault) same = tt
  first_kept read.Unread same = tt
  first_kept read.TooLong same = tt

  -- the second script was not read
  pub second_caused : (first : Script) (stop : ReadStop) → now.out ≡ before.out
      → ReadsPlainScript before.first now.first first → IsReadStop before.second now.second stop
      → IsCaused (second_status stop)
  second_caused first read.Memory same reads cause =
      inl (subst (λ (out : Received). WroteNothing before.out out) (sym same) (Keeps-refl before.out.written))
  second_caused first (read.Refused fault) same reads cause = (
    (cause, first, reads),
    subst (λ (out : Received). WroteNothing before.out out) (sym same) (Keeps-refl before.out.written),
  )
  second_caused first read.Unread same reads cause = (
    cause,
    inl (subst (λ (out : Received). WroteNothing before.out out) (sym same) (Keeps-refl before.out.written)),
  )
  second_caused first read.TooLong same reads cause = (
    cause,
    inl (subst (λ (out : Received). WroteNothing before.out out) (sym same) (Keeps-refl before.out.written)),
  )

  pub second_kept : (stop : ReadStop) → now.out ≡ before.out
      → HasKept (Some (command.Pair pairing)) before now (second_status stop)
  second_kept read.Memory same =
      subst (λ (out : Received). WroteNothing before.out out) (sym same) (Keeps-refl before.out.written)
  second_kept (read.Refused fault) same = tt
  second_kept read.Unread same = tt
  second_kept read.TooLong same = tt

-- ---- the answer of the tool

-- what holds of the status of a run, and of a failed write of the notes, holds of the answer
tells_kept : (Holds : ToolStatus PairFault → Type 0) (name : PairFault → List ℕ) (notes_before notes_now : Received)
    (run answer : ToolStatus PairFault) → Holds (tool.WriteFault which.Notes) → Holds run
    → TellsTool name notes_before notes_now run answer → Holds answer
tells_kept Holds name notes_before notes_now run answer failed held (inl line) = subst Holds (sym line.1) held
tells_kept Holds name notes_before notes_now run answer failed held (inr front) =
    subst Holds (sym front.2) (untold run held)
  where
    untold : (run : ToolStatus PairFault) → Holds run → Holds (untold_tool run)
    untold tool.Done held = failed
    untold tool.Usage held = held
    untold (tool.Refused fault) held = held
    untold (tool.ReadFault source) held = held
    untold (tool.WriteFault sink) held = held
    untold tool.Memory held = held
    untold (tool.InputTooLong source) held = held

pub answer_kept : (asked : Option PairCommand) (before now : Seen) (name : PairFault → List ℕ)
    (notes_before notes_now : Received) (run answer : ToolStatus PairFault) → HasKept asked before now run
    → TellsTool name notes_before notes_now run answer → HasKept asked before now answer
answer_kept None before now name notes_before notes_now run answer held tells = tt
answer_kept (Some (command.Dump dump)) before now name notes_before notes_now run answer held tells = tt
answer_kept (Some (command.Pair pairing)) before now name notes_before notes_now run answer held tells =
    tells_kept (HasKept (Some (command.Pair pairing)) before now) name notes_before notes_now run answer tt held tells

pub answer_told : (ticks : List ℕ) (asked : Option PairCommand) (before now : Seen) (name : PairFault → List ℕ)
    (notes_before notes_now : Received) (run answer : ToolStatus PairFault) → HasToldWhole ticks asked before now run
    → TellsTool name notes_before notes_now run answer → HasToldWhole ticks asked before now answer
answer_told ticks None before now name notes_before notes_now run answer held tells = tt
answer_told ticks (Some (command.Pair pairing)) before now name notes_before notes_now run answer held tells = tt
answer_told ticks (Some (command.Dump dump)) before now name notes_before notes_now run answer held tells =
    tells_kept (HasToldWhole ticks (Some (command.Dump dump)) before now) name notes_before notes_now run answer tt held
    tells
