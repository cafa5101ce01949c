-- `pairdump`: its words, what it tells of a stream of two languages, and how it ends.
use Rattle.std.specs.Prelude.{◌≡◌, ℕ, ◌==◌, ◌≤◌, ◌⊎◌, not, Bool, true, ◌&&◌, if◌then◌else◌, List, drop, Option, Some, None, is_some, codes}
use Rattle.std.specs.List.{list_all}
use Rattle.command_words.specs.PlainWords.{is_plain}
use Rattle.command_words.specs.Ticks.{are_rising, has_ticks}
use Rattle.command_words.specs.Words.{◌>>=◌, has_word, no_places, page_of, pid_of, reading_profile, word_at}
use Rattle.command_words.specs.declared.place.InputPlaces.{InputPlaces}
use Rattle.command_words.specs.declared.ranges.TheConstants.{MOST_BANDS}
use Rattle.decoder_model.specs.declared.pages.Pages.{Pages}
use Rattle.dump_text.specs.DumpText.{IsDumpText, asked_for}
use Rattle.packet_source.specs.declared.limits.TheConstants.{STREAM_LIMIT}
use Rattle.packet_walk.specs.ToldEnds.{IsFront, IsUpToFailure, IsUpToFault, IsWhole}
use Rattle.packet_walk.specs.declared.told_end.ToldEnd.{ToldEnd}
use Rattle.packet_walk.specs.declared.told_end.ToldEnd.TheVariants as told_end
use Rattle.sub_base.specs.Endpoints.{WroteNothing}
use Rattle.sub_base.specs.Number.{number_in}
use Rattle.sub_base.specs.Profile.{profile_of}
use Rattle.sub_base.specs.Seen.{Seen}
use Rattle.sub_base.specs.ToolOutcome.{Causes}
use Rattle.sub_base.specs.declared.status.ToolStatus.{ToolStatus}
use Rattle.sub_base.specs.declared.status.ToolStatus.TheVariants as tool
use Rattle.sub_base.specs.declared.status.Which.TheVariants as which
use Rattle.page_pair.specs.declared.pair_dump.PairDump.{PairDump}
use Rattle.page_pair.specs.declared.pair_fault.PairFault.{PairFault}
use Rattle.page_pair.specs.declared.pair_fault.PairFault.TheVariants as pair

-- ---- words

-- two pages that differ
abbrev pub different_pages : ℕ → ℕ → Option Pages
different_pages page other =
    if not (page == other) then Some (record { composition = page; ancillary = other }) else None

-- `pairdump PROFILE PID PAGE ANC BANDS STREAM OUT TICK...`, with 1 to 1,000 rising ticks
abbrev pub dump_words : List (List ℕ) → Option PairDump
dump_words words = if list_all is_plain words && (has_ticks 8 words && has_word words 0 (codes "pairdump")) then (do
  name ← reading_profile (word_at words 1)
  stream ← pid_of (word_at words 2)
  page ← page_of (word_at words 3)
  other ← page_of (word_at words 4)
  many ← number_in 1 MOST_BANDS (word_at words 5)
  both ← different_pages page other
  Some (record { profile = name; pid = stream; pages = both; bands = many })) else None

-- where its files stand among its words
abbrev pub dump_places : List (List ℕ) → InputPlaces
dump_places words =
    if is_some (dump_words words) then record { first = Some 6; second = None; out = Some 7 } else no_places

-- the bands are 1 to 64, and the ticks of the words rise
pub record IsPairDumping (words : List (List ℕ)) (dump : PairDump) : Type 0 where
  pub some : 1 ≤ dump.bands
  pub few : dump.bands ≤ 64
  pub rising : are_rising None (drop 8 words) ≡ true

-- ---- what is told

-- the texts of the pictures that are shown at these ticks, in a receiver of the profile for the PID and the two pages,
-- in however many bands it draws
abbrev pub tells_pair : PairDump → List ℕ → Bool → List (List ℕ) → List ℕ → Type 0
tells_pair dump ticks ended packets text =
    IsDumpText (asked_for (profile_of dump.profile) dump.pid dump.pages ticks) ticks ended packets text

-- ---- how it ends

-- the status of each end of a telling
abbrev pub dump_status : ToldEnd → ToolStatus PairFault
dump_status (told_end.Done cut) = tool.Done
dump_status (told_end.Refused refused) = tool.Refused (pair.Stream refused.packet refused.fault)
dump_status told_end.Unread = tool.ReadFault which.First
dump_status told_end.TooLong = tool.InputTooLong which.First
dump_status told_end.Unwritten = tool.WriteFault which.Out
dump_status told_end.Memory = tool.Memory

-- the stream was read to its end, and the output has received the texts of its packets; a rest that is shorter than a
-- packet was passed over
abbrev pub IsDumped : PairDump → List ℕ → Seen → Seen → Type 0
IsDumped dump ticks before now =
    (cut : ℕ) × IsWhole (tells_pair dump ticks) dump.pid before.first now.first before.out now.out cut

-- the packet at a place is the first that is refused, and the output has received the texts of those before it
abbrev pub IsDumpRefused : PairDump → List ℕ → Seen → Seen → PairFault → Type 0
IsDumpRefused dump ticks before now (pair.Stream packet fault) =
    IsUpToFault (tells_pair dump ticks) dump.pid before.first now.first before.out now.out packet fault
IsDumpRefused dump ticks before now fault = ⊥

-- nothing was written, or a prefix of the texts of packets that the source gave
abbrev pub IsDumpStopped : PairDump → List ℕ → Seen → Seen → Type 0
IsDumpStopped dump ticks before now =
    WroteNothing before.out now.out
    ⊎ IsFront (tells_pair dump ticks) dump.pid before.first now.first before.out now.out

-- the causes of the statuses of `pairdump`, which calls the first source alone
abbrev pub dump_causes : List ℕ → PairDump → Seen → Seen → Causes PairFault
dump_causes ticks dump before now = record {
  IsDone = IsDumped dump ticks before now × (now.second ≡ before.second);
  IsRefused = λ fault. IsDumpRefused dump ticks before now fault × (now.second ≡ before.second);
  IsStopped = IsDumpStopped dump ticks before now × (now.second ≡ before.second);
  limit = STREAM_LIMIT;
}

-- where the first source failed, the output has received the texts of the packets that were read whole; where memory is
-- wanting, nothing was read or written
abbrev pub HasDumpedRead : List ℕ → PairDump → Seen → Seen → ToolStatus PairFault → Type 0
HasDumpedRead ticks dump before now (tool.ReadFault which) =
    IsUpToFailure (tells_pair dump ticks) dump.pid before.first now.first before.out now.out
HasDumpedRead ticks dump before now tool.Memory = (now.first ≡ before.first) × WroteNothing before.out now.out
HasDumpedRead ticks dump before now tool.Done = Unit {0}
HasDumpedRead ticks dump before now tool.Usage = Unit {0}
HasDumpedRead ticks dump before now (tool.Refused fault) = Unit {0}
HasDumpedRead ticks dump before now (tool.WriteFault which) = Unit {0}
HasDumpedRead ticks dump before now (tool.InputTooLong which) = Unit {0}
