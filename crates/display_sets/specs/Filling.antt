-- How the segments of a display set come together, up to its end (EN 300 743, clauses 5.2 and 7.2).
use Rattle.std.specs.Prelude.{◌≡◌, ℕ, ◌<◌, true, false, List, [], ◌∷◌, ◌++◌, length, find, Option, Some, IfNone}
use Rattle.std.specs.List.{AllByRecursion, concat}
use Rattle.std.specs.Option.{option_or}
use Rattle.sub_base.specs.Lists.{prefixes}
use Rattle.stream_syntax.specs.DataField.{Frame}
use Rattle.decoder_model.specs.Frames.{segments_in}
use Rattle.decoder_model.specs.Received.{IsFramed}
use Rattle.decoder_model.specs.Sets.{is_ended, first_fault_in, excess_in}
use Rattle.decoder_model.specs.declared.set_fault.SetFault.{SetFault}
use Rattle.display_sets.specs.declared.filling.Filled.{Filled}
use Rattle.display_sets.specs.declared.filling.Filled.TheVariants.{Open, Ended}

-- the bytes are these segments one after another, each whole by its head
pub record AreBytes (segments : List (List ℕ)) (bytes : List ℕ) : Type 0 where
  pub joined : bytes ≡ concat segments
  pub framed : AllByRecursion IsFramed segments

-- a set with these frames has not ended, and its segments have these bytes
pub record AreOpen (coded : ℕ) (frames : List Frame) (bytes : List ℕ) : Type 0 where
  pub no_end : is_ended coded frames ≡ false
  pub bytes_are : AreBytes (segments_in frames) bytes

-- a set ends with the last of these frames: it is refused with that fault, or its segments have these bytes
pub record EndsSet (coded : ℕ) (frames : List Frame) (bytes : List ℕ) (fault : Option SetFault) : Type 0 where
  pub ended : is_ended coded frames ≡ true
  pub fault_is : fault ≡ option_or (first_fault_in frames) (excess_in coded frames)
  pub bytes_are : IfNone fault (AreBytes (segments_in frames) bytes)

-- one frame behind those of an open set leaves it open or ends it
abbrev pub Adds : ℕ → List Frame → Frame → List ℕ → Filled → Type 0
Adds coded front frame bytes Open = AreOpen coded (front ++ frame ∷ []) bytes
Adds coded front frame bytes (Ended fault) = EndsSet coded (front ++ frame ∷ []) bytes fault

-- the first frames with which a set has ended
pub record EndsWithin (coded : ℕ) (frames : List Frame) (bytes : List ℕ) (fault : Option SetFault) : Type 0 where
  pub first : List Frame
  pub found : find (is_ended coded) (prefixes frames) ≡ Some first
  pub is_end : EndsSet coded first bytes fault

-- further frames behind those of an open set leave it open, or it ends with one of them
abbrev pub Fills : ℕ → List Frame → List Frame → List ℕ → Filled → Type 0
Fills coded front more bytes Open = AreOpen coded (front ++ more) bytes
Fills coded front more bytes (Ended fault) = EndsWithin coded (front ++ more) bytes fault

-- a set that stays open has more bytes than before
abbrev pub GrowsOpen : List ℕ → List ℕ → Filled → Type 0
GrowsOpen old new Open = length old < length new
GrowsOpen old new (Ended fault) = Unit {0}
