-- What `pictures` keeps, and what that has to do with the packets that it took and the text that it put out.
use Rattle.std.specs.Prelude.{◌≡◌, ℕ, ◌≤◌, false, Bool, Option, Some, None, IfSome, unwrap_or, option_and_then, All}
use Rattle.std.specs.Prelude.{List, [], ◌++◌, reverse}
use Rattle.std.specs.List.{AllByRecursion}
use Rattle.command_text.specs.Putting.{Buffered, PutsOut}
use Rattle.decoder_model.specs.Kept.{last_time}
use Rattle.decoder_model.specs.Readings.{Reading, AreDeliveriesRead}
use Rattle.decoder_model.specs.Received.{Reception, sets_received}
use Rattle.decoder_model.specs.Sets.{Delivery}
use Rattle.decoder_model.specs.Shown.{standing_after, until_of}
use Rattle.decoder_model.specs.declared.set_end.SetEnd.{SetEnd}
use Rattle.decoder_model.specs.declared.set_end.SetEnd.TheVariants.{Shown}
use Rattle.display_sets.specs.Gathered.{ready_sets}
use Rattle.dump_text.specs.DumpText.{shown_text}
use Rattle.page_core.specs.Memory as cores
use Rattle.page_core.specs.Memory.{Memory}
use Rattle.receiver.specs.Receiving.{Receiving, Stands, reception}
use Rattle.set_receiver.specs.Taking.{AreAllBytes}
use Rattle.sub_base.specs.Endpoints.{Received}
use Rattle.sub_base.specs.declared.profile.Profile.{Profile}
use Rattle.stream_report.specs.PicturesText.{IsPicturesText, ticks_of_sets, until_after}

-- ---- what is kept

-- a receiver that draws in so many bands, and the tick at which what its last kept set shows is timed out
pub record Picturing : Type 0 where
  pub receiving : Receiving
  pub bands : ℕ
  pub until : Option ℕ

-- the bands are few enough, and no set is ready
pub record IsPicturing (picturing : Picturing) : Type 0 where
  pub some : 1 ≤ picturing.bands
  pub few : picturing.bands ≤ 64
  pub none : ready_sets picturing.receiving.sets ≡ []

-- ---- what was told

-- it is the end of the time-out of the last kept set, and no earlier than that set's time
pub record IsUntil (profile : Profile) (anchor : ℕ) (past : List (Delivery Reading)) (until : Option ℕ) : Type 0 where
  pub at_end : until ≡ until_after profile anchor past
  pub late : IfSome until (λ tick. unwrap_or (last_time anchor past) 0 ≤ tick)

-- a tick is no later than the last kept set
abbrev pub IsWithin : Option ℕ → ℕ → Type 0
IsWithin None tick = ⊥
IsWithin (Some last) tick = tick ≤ last

-- behind this past the last time-out ends then, and this text is of what is shown at the ticks of its sets
pub record IsPicturedOf (profile : Profile) (anchor : ℕ) (until : Option ℕ) (past : List (Delivery Reading))
    (text : List ℕ) : Type 0 where
  pub ends : IsUntil profile anchor past until
  pub early : AllByRecursion (IsWithin (last_time anchor past)) (ticks_of_sets profile anchor past)
  pub whole : text ≡ shown_text profile anchor past (ticks_of_sets profile anchor past)

-- the receiver was fed the packets, which are of bytes; the stream ends with them or not; and the text is of the sets
-- that were taken from it
pub record IsPictured (made : Reception) (ended : Bool) (receiving : Receiving) (until : Option ℕ)
    (packets : List (List ℕ)) (text : List ℕ) : Type 0 where
  pub own : reception receiving ≡ made
  pub bytes : All AreAllBytes packets
  pub given : List (Delivery (List ℕ))
  pub stands : Stands ended packets given receiving
  pub past : List (Delivery Reading)
  pub read : AreDeliveriesRead (reverse given) past
  pub of : IsPicturedOf made.profile made.anchor until past text

-- the packets were taken with all sets that they make ready, and the text is of these sets
pub record HasPictured (picturing : Picturing) (packets : List (List ℕ)) (text : List ℕ) : Type 0 where
  pub told : IsPictured (reception picturing.receiving) false picturing.receiving picturing.until packets text
  pub all : sets_received (reception picturing.receiving) false packets ≡ told.given

-- what is told of packets by a receiver at work, with which the stream ends or not
abbrev pub pictures_tell : Picturing → Bool → List (List ℕ) → List ℕ → Type 0
pictures_tell picturing ended packets text =
    IsPicturesText (reception picturing.receiving) ended packets text

-- ---- steps

-- what is shown at ticks that are no earlier than the kept sets was put out
abbrev pub PutsTicks : Receiving → Received → Received → Buffered → Buffered → List ℕ → Type 0
PutsTicks receiving before now was is ticks =
    (ended : Bool) (packets : List (List ℕ)) (given : List (Delivery (List ℕ))) (past : List (Delivery Reading))
    → Stands ended packets given receiving → AreDeliveriesRead (reverse given) past
    → AllByRecursion (λ tick. unwrap_or (last_time (reception receiving).anchor past) 0 ≤ tick) ticks
    → PutsOut before now was is
    (shown_text (reception receiving).profile (reception receiving).anchor past ticks)

-- what a set with that end, the last of the past, shows is timed out then
pub record IsUntilBy (end : SetEnd) (profile : Profile) (anchor : ℕ) (past : List (Delivery Reading))
    (until : Option ℕ) : Type 0 where
  pub shown : end ≡ Shown → until ≡ option_and_then until_of (standing_after profile anchor past)
  pub other : (end ≡ Shown → ⊥) → until ≡ None
  pub late : IfSome until (λ tick. unwrap_or (last_time anchor past) 0 ≤ tick)

-- the same of a page memory, whatever it was handed
abbrev pub IsUntilIn : Memory → SetEnd → Option ℕ → Type 0
IsUntilIn memory end until =
    (past : List (Delivery Reading)) → cores.IsMemoryAfter past memory
    → IsUntilBy end memory.profile memory.anchor past until

-- behind a set with that lifted time and end, the next end of a time-out: where the set is not kept, it is as before
abbrev pub IsUntilWith : Memory → Option ℕ → Option ℕ → SetEnd → Option ℕ → Type 0
IsUntilWith memory until None end next = next ≡ until
IsUntilWith memory until (Some time) end next = IsUntilIn memory end next

-- sets were taken, and the texts of their ticks were put out
pub record PicturesOn (before now : Received) (old new : Receiving) (until next : Option ℕ) (was is : Buffered)
    : Type 0 where
  pub goes : (made : Reception) (ended : Bool) (packets : List (List ℕ)) (text : List ℕ)
      → IsPictured made ended old until packets text
      → (more : List ℕ) × IsPictured made ended new next packets (text ++ more) × PutsOut before now was is more
