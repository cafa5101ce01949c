-- What `faults` keeps, and what that has to do with the packets that it took and the text that it put out.
use Rattle.std.specs.Prelude.{◌≡◌, ℕ, ◌+◌, ◌==◌, ◌≤◌, ◌^◌, nat_lt, Bool, true, false, if◌then◌else◌, List, [], ◌∷◌, ◌++◌, length, reverse, Option, Some, None, Result, Ok, Err}
use Rattle.command_text.specs.Putting.{Buffered, PutsOut}
use Rattle.decoder_model.specs.Readings.{Reading}
use Rattle.decoder_model.specs.Sets.{Delivery}
use Rattle.decoder_model.specs.Shown.{standing_after}
use Rattle.decoder_model.specs.declared.set_end.SetEnd.{SetEnd}
use Rattle.decoder_model.specs.declared.set_end.SetEnd.TheVariants.{Shown, Waiting, Broken, NotLater}
use Rattle.decoder_model.specs.declared.set_fault.SetFault.{SetFault}
use Rattle.display_sets.specs.Filling.{AreBytes}
use Rattle.display_sets.specs.Gathered.{ReadySet, ready_sets}
use Rattle.page_core.specs.Edges.{is_outside_in}
use Rattle.page_core.specs.Memory as cores
use Rattle.page_core.specs.Memory.{Memory}
use Rattle.set_definitions.specs.Definitions.{changed_lines, defined_behind, definitions_in, then_others}
use Rattle.set_definitions.specs.Knowing.{Knowledge, Knows}
use Rattle.set_definitions.specs.declared.definition.Definition.{Definition}
use Rattle.set_receiver.specs.Receiving.{SetReceiving, reception}
use Rattle.decoder_model.specs.Received.{Reception, sets_received}
use Rattle.set_receiver.specs.Taking.{HasPast}
use Rattle.stream_syntax.specs.declared.page.PageEntry.{PageEntry}
use Rattle.sub_base.specs.Endpoints.{Received}
use Rattle.fault_text.specs.FaultText.{IsFaultsText, defined_after, defined_with, ends_of, found_lines, outside_line, set_count, set_line, set_text, sets_text, tally_of}
use Rattle.fault_text.specs.declared.tally.Tally.{Tally}

-- ---- what is kept

-- a receiver, how many sets came to each end, what is known of the definitions of the epoch, and room for the bytes of
-- a set's segments
pub record Faulting : Type 0 where
  pub receiving : SetReceiving
  pub tally : Tally
  pub known : Knowledge
  pub room : ℕ

-- no set is ready, the sets can be counted, and there is room for the coded data buffer
pub record IsFaulting (faulting : Faulting) : Type 0 where
  pub none : ready_sets faulting.receiving.collecting.sets ≡ []
  pub few : set_count faulting.tally ≤ 2 ^ 61
  pub room : faulting.room ≡ (reception faulting.receiving).profile.coded

-- ---- what it has to do with the packets

-- the receiver was fed the packets, and this past was taken from it, the latest first; the tally, what is known, and
-- the text are of its sets
pub record IsFaultedTo (made : Reception) (ended : Bool) (receiving : SetReceiving) (tally : Tally) (known : Knowledge)
    (packets : List (List ℕ)) (past : List (Delivery Reading)) (text : List ℕ) : Type 0 where
  pub own : reception receiving ≡ made
  pub taken : HasPast ended packets past receiving
  pub counted : tally ≡ tally_of (ends_of made.profile made.anchor past)
  pub knows : Knows known (defined_after made.profile made.anchor (reverse taken.given) past)
  pub whole : text ≡ sets_text made.profile made.anchor (reverse taken.given) past

-- the packets were taken with all sets that they make ready, and the text is of these sets
pub record HasFaulted (faulting : Faulting) (packets : List (List ℕ)) (text : List ℕ) : Type 0 where
  pub past : List (Delivery Reading)
  pub at : IsFaultedTo (reception faulting.receiving) false faulting.receiving faulting.tally faulting.known packets
      past text
  pub all : sets_received (reception faulting.receiving) false packets ≡ at.taken.given

-- what is told of packets by a receiver at work, with which the stream ends or not
abbrev pub faults_tell : Faulting → Bool → List (List ℕ) → List ℕ → Type 0
faults_tell faulting ended packets text = IsFaultsText (reception faulting.receiving) ended packets text

-- ---- steps

-- sets were taken, and what is told of them was put out
pub record TellsSets (before now : Received) (old new : SetReceiving) (start end : Tally) (known knows : Knowledge)
    (was is : Buffered) : Type 0 where
  pub goes : (made : Reception) (ended : Bool) (packets : List (List ℕ)) (past : List (Delivery Reading))
      (text : List ℕ)
      → IsFaultedTo made ended old start known packets past text
      → (more : List (Delivery Reading)) × (lines : List ℕ)
      × IsFaultedTo made ended new end knows packets (more ++ past) (text ++ lines)
      × PutsOut before now was is lines

-- a tally with one set more, of that end
abbrev pub counted_end : SetEnd → Tally → Tally
counted_end Shown tally = record tally { shown = tally.shown + 1 }
counted_end Waiting tally = record tally { waiting = tally.waiting + 1 }
counted_end (Broken fault) tally = record tally { broken = tally.broken + 1 }
counted_end (NotLater last) tally = record tally { not_later = tally.not_later + 1 }

-- a tally with so many losses more
abbrev pub with_lost : ℕ → Tally → Tally
with_lost count tally = record tally { lost = tally.lost + count }

-- nothing is known any more where something was lost
abbrev pub known_behind : ℕ → List Definition → List Definition
known_behind losses earlier = if losses == 0 then earlier else []

-- what is told of a set of that number, time and end with these bytes was put out, and its definitions are known,
-- whatever a page memory with it was handed
pub record PutsSet (memory : Memory) (bytes : List ℕ) (number pts : ℕ) (end : SetEnd) (before now : Received)
    (old new : Knowledge) (was is : Buffered) : Type 0 where
  pub puts : (past : List (Delivery Reading)) → cores.IsMemoryAfter past memory
      → (segments : List (List ℕ)) → AreBytes segments bytes
      → (earlier : List Definition) → Knows old earlier
      → PutsOut before now was is
      (set_text number pts end
      (found_lines (standing_after memory.profile memory.anchor past) segments earlier))
  pub knows : (segments : List (List ℕ)) → AreBytes segments bytes → (earlier : List Definition)
      → Knows old earlier → Knows new (defined_with (Some end) segments earlier)

-- ---- a set in hand

-- room for the bytes of the segments of a set, and those that are kept
pub record Keeping : Type 0 where
  pub room : ℕ
  pub bytes : List ℕ

-- the bytes of a set that is ready; none of one that is refused
abbrev pub bytes_in_content : Result (List ℕ) SetFault → List ℕ
bytes_in_content (Ok bytes) = bytes
bytes_in_content (Err fault) = []

-- the bytes of the set that is ready, where one is
abbrev pub bytes_ready : Option ReadySet → List ℕ
bytes_ready None = []
bytes_ready (Some set) = bytes_in_content set.content

-- they are kept where there is room
abbrev pub fitting : ℕ → List ℕ → List ℕ
fitting room bytes = if nat_lt room (length bytes) then [] else bytes

-- ---- the lines of a set that is shown

-- what is to be told of these lines, where the line of the set stands already or not
abbrev pub rest_text : Bool → ℕ → ℕ → List (List ℕ) → List ℕ
rest_text stands number pts [] = []
rest_text stands number pts (line ∷ lines) =
    (if stands then [] else set_line number pts Shown) ++ (line ++ rest_text true number pts lines)

-- the lines of the entries of a page whose regions do not lie inside the display
abbrev pub outside_lines : Memory → List PageEntry → List (List ℕ)
outside_lines memory [] = []
outside_lines memory (entry ∷ entries) =
    if is_outside_in memory entry then outside_line entry ∷ outside_lines memory entries
    else outside_lines memory entries

-- of what is to be told a prefix was put out, and this is left
pub record PutsFront (before now : Received) (was is : Buffered) (whole left : List ℕ) : Type 0 where
  pub told : List ℕ
  pub out : PutsOut before now was is told
  pub joined : whole ≡ told ++ left

-- definitions of segments were learned, and the lines of those that say something else were put out
pub record PutsChanges (bytes : List ℕ) (number pts : ℕ) (stands : Bool) (before now : Received)
    (old new : Knowledge) (was is : Buffered) : Type 0 where
  pub goes : (segments : List (List ℕ)) → AreBytes segments bytes → (earlier : List Definition)
      → Knows old earlier
      → PutsOut before now was is
      (rest_text stands number pts (changed_lines earlier (definitions_in segments)))
      × Knows new (defined_behind (definitions_in segments) earlier)

-- one was learned, and its line put out where it says something else
pub record PutsChange (found : Option Definition) (number pts : ℕ) (stands stand : Bool) (before now : Received)
    (old new : Knowledge) (was is : Buffered) : Type 0 where
  pub goes : (earlier : List Definition) → Knows old earlier → (left : List Definition)
      → PutsFront before now was is
      (rest_text stands number pts (changed_lines earlier (then_others found left)))
      (rest_text stand number pts (changed_lines (then_others found earlier) left))
      × Knows new (then_others found earlier)
