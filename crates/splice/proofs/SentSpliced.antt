-- The sets of two joined streams are sets that can be sent for a receiver of the page, and all of them come.
use Rattle.std.proofs.Common.{◌≡◌, ◌∙◌, ℕ, suc, ◌<◌, ◌≤◌, true, cond, List, [], ◌∷◌, length, filter, reverse, All, refl, sym, ap, subst, arith}
use Rattle.std.specs.List.{AllByRecursion, AllZip, concat}
use Rattle.std.proofs.lemmas.List.Elements.{All-from_recursion, recursion_from_All}
use Rattle.sub_base.specs.Lists.{has_some}
use Rattle.sub_base.specs.declared.load.TheConstants.{UNIT_ROOM}
use Rattle.sub_base.specs.declared.load.WriteLoad.{WriteLoad}
use Rattle.sub_base.specs.declared.pace.Pace.{Pace}
use Rattle.stream_syntax.specs.declared.wire.TheConstants.{NULL_PID}
use Rattle.schedule.specs.Packets.{longest_of}
use Rattle.schedule.specs.Slots.{Timetable}
use Rattle.decoder_model.specs.Received.{IsFramed}
use Rattle.decoder_model.specs.declared.pages.Pages.{Pages}
use Rattle.decoder_model.proofs.NearTimes.{AreNear}
use Rattle.decoder_model.proofs.ReceivedSegments.{IsCounted}
use Rattle.sent_sets.specs.RawSets.{RawSet, IsSendable, has_counted, EndsLast, HaveTimesApart}
use Rattle.sent_sets.specs.SentStream.{IsSentTo, AreSentFor}
use Rattle.splice.specs.SplicedSets.{IsLoadOf}
use Rattle.splice.proofs.KeptPasts.{times_of}
use Rattle.splice.proofs.OutPast.{counted_all}
use Rattle.splice.proofs.SplicedSets.{IsGoodRaw, all_back, times_apart}

-- ---- room

-- the segments of a set have room in a PES packet, as its load tells the longest of them
abbrev HasRoom : RawSet → Type 0
HasRoom set = All (λ bytes. length bytes ≤ UNIT_ROOM) set.segments

within : (longest : ℕ) (segments : List (List ℕ)) → longest ≤ UNIT_ROOM
    → AllByRecursion (λ bytes. length bytes ≤ longest) segments
    → AllByRecursion (λ bytes. length bytes ≤ UNIT_ROOM) segments
within longest [] short h = tt
within longest (bytes ∷ segments) short h =
    let one = h.0 in (omega (arith, one, short), within longest segments short h.1)

all_room : (sets : List RawSet) (loads : List WriteLoad) → AllZip IsLoadOf sets loads
    → ((i : ℕ) → i < length loads → longest_of loads i ≤ UNIT_ROOM) → AllByRecursion HasRoom sets
all_room [] [] asked short = tt
all_room [] (load ∷ loads) asked short = absurd asked
all_room (set ∷ sets) [] asked short = absurd asked
all_room (set ∷ sets) (load ∷ loads) asked short = (
  All-from_recursion (λ bytes. length bytes ≤ UNIT_ROOM) set.segments
      (within load.longest set.segments (short 0 (omega arith))
      (recursion_from_All (λ bytes. length bytes ≤ load.longest) set.segments asked.0.longest.greatest)),
  all_room sets loads asked.1 (λ i inside. short (suc i) (omega (arith, inside))),
)

-- ---- each set

framed : (pages : Pages) (segments : List (List ℕ)) → AllByRecursion (IsCounted pages) segments
    → AllByRecursion IsFramed segments
framed pages [] h = tt
framed pages (bytes ∷ segments) h = (h.0.framed, framed pages segments h.1)

sendable : (pages : Pages) (sets : List RawSet) → AllByRecursion (IsGoodRaw pages) sets → AllByRecursion HasRoom sets
    → AllByRecursion IsSendable sets
sendable pages [] good room = tt
sendable pages (set ∷ sets) good room = (
  record {
    framed = All-from_recursion IsFramed set.segments (framed pages set.segments good.0.has.each);
    room = room.0;
  },
  sendable pages sets good.1 room.1,
)

ends_last : (pages : Pages) (sets : List RawSet) → AllByRecursion (IsGoodRaw pages) sets
    → AllByRecursion (EndsLast pages) sets
ends_last pages [] good = tt
ends_last pages (set ∷ sets) good = (one, ends_last pages sets good.1)
  where
    one : EndsLast pages set
    one before after bytes parts ends =
        good.0.has.ends before after bytes (sym (counted_all pages set good.0) ∙ parts) ends

some_there : (segments : List (List ℕ)) → 1 ≤ length segments → has_some segments ≡ true
some_there [] some = absurd (omega arith)
some_there (bytes ∷ segments) some = refl

-- each of them has segments of the page
pub all_counted : (pages : Pages) (sets : List RawSet) → AllByRecursion (IsGoodRaw pages) sets
    → filter (has_counted pages) sets ≡ sets
all_counted pages [] good = refl
all_counted pages (set ∷ sets) good =
    ap (λ b. cond b (set ∷ filter (has_counted pages) sets) (filter (has_counted pages) sets))
    (ap has_some (counted_all pages set good.0) ∙ some_there set.segments good.0.some)
    ∙ ap (λ rest. set ∷ rest) (all_counted pages sets good.1)

-- ---- all of them

pub sent_for : (pages : Pages) (pace : Pace) (pid : ℕ) (sets back : List RawSet) (loads : List WriteLoad)
    (table : Timetable) (packets : List (List ℕ)) → pid < NULL_PID → sets ≡ reverse back
    → AllByRecursion (IsGoodRaw pages) back → AreNear (times_of back) → AllZip IsLoadOf sets loads
    → IsSentTo pace pid sets loads table (concat packets) → All (λ packet. length packet ≡ 188) packets
    → AreSentFor pages pace pid sets loads table packets
sent_for pages pace pid sets back loads table packets free turned good near asked sent whole = record {
  free = free;
  sendable =
      All-from_recursion IsSendable sets
      (sendable pages sets forward (all_room sets loads asked sent.on_time.short));
  ends = All-from_recursion (EndsLast pages) sets (ends_last pages sets forward);
  apart =
      subst HaveTimesApart (sym (all_counted pages sets forward))
      (subst HaveTimesApart (sym turned) (times_apart back near));
  sent = sent;
  whole = whole;
}
  where
    forward : AllByRecursion (IsGoodRaw pages) sets
    forward = subst (AllByRecursion (IsGoodRaw pages)) (sym turned) (all_back (IsGoodRaw pages) back good)
