-- What `dump` keeps, and what that has to do with the packets that it took and the text that it put out.
use Rattle.std.specs.Prelude.{◌≡◌, ℕ, ◌<◌, ◌≤◌, Bool, false, Option, Some, None, unwrap_or, All}
use Rattle.std.specs.Prelude.{List, [], ◌++◌, length, reverse, drop, take, slice_index_or}
use Rattle.std.specs.List.Sorted.{IsStrictlyIncreasing}
use Rattle.command_text.specs.Putting.{Buffered, PutsOut}
use Rattle.decoder_model.specs.Kept.{last_time}
use Rattle.decoder_model.specs.Readings.{Reading, AreDeliveriesRead}
use Rattle.decoder_model.specs.Received.{sets_received}
use Rattle.decoder_model.specs.Sets.{Delivery}
use Rattle.decoder_model.specs.Shown.{view_at}
use Rattle.display_sets.specs.Gathered.{ready_sets}
use Rattle.set_receiver.specs.Taking.{AreAllBytes}
use Rattle.receiver.specs.Asking.{Asking, IsSame, Stands, reception}
use Rattle.receiver.specs.Receiving as pictured
use Rattle.sub_base.specs.Endpoints.{Received}
use Rattle.sub_base.specs.declared.profile.Profile.{Profile}
use Rattle.dump_text.specs.DumpText.{IsDumpText, shown_text, view_text}

-- ---- ticks

-- the ticks from a place on are no less than that
abbrev pub AreFrom : ℕ → ℕ → List ℕ → Type 0
AreFrom least place ticks = (k : ℕ) → place ≤ k → k < length ticks → least ≤ slice_index_or ticks k 0

-- the ticks from a place on, up to another place, are less than that
abbrev pub AreBefore : ℕ → ℕ → ℕ → List ℕ → Type 0
AreBefore end first next ticks = (k : ℕ) → first ≤ k → k < next → slice_index_or ticks k 0 < end

-- the ticks from a place on, up to another place
abbrev pub ticks_between : ℕ → ℕ → List ℕ → List ℕ
ticks_between first next ticks = drop first (take next ticks)

-- ---- what is kept

-- a receiver that draws in so many bands, the asked ticks, and how many of them were told
pub record Dumping : Type 0 where
  pub receiving : Asking
  pub bands : ℕ
  pub ticks : List ℕ
  pub told : ℕ

-- the bands are few enough, and the ticks rise
pub record AreAsked (bands : ℕ) (ticks : List ℕ) : Type 0 where
  pub some : 1 ≤ bands
  pub few : bands ≤ 64
  pub rising : IsStrictlyIncreasing ticks

-- the bands are few enough and the ticks rise, no set is ready, and no more ticks were told than there are
pub record IsDumping (dumping : Dumping) : Type 0 where
  pub asked : AreAsked dumping.bands dumping.ticks
  pub none : ready_sets dumping.receiving.sets ≡ []
  pub within : dumping.told ≤ length dumping.ticks

-- ---- what was told

-- a tick is before the greatest lifted time of the kept sets
abbrev pub IsSettled : Option ℕ → ℕ → Type 0
IsSettled None tick = ⊥
IsSettled (Some last) tick = tick < last

-- behind this past, the first so many ticks are settled and the others are not, and this text is of what is shown
-- at the first ones
pub record IsToldOf (profile : Profile) (anchor : ℕ) (ticks : List ℕ) (told : ℕ) (past : List (Delivery Reading))
    (text : List ℕ) : Type 0 where
  pub settled : (k : ℕ) → k < told → IsSettled (last_time anchor past) (slice_index_or ticks k 0)
  pub later : AreFrom (unwrap_or (last_time anchor past) 0) told ticks
  pub whole : text ≡ shown_text profile anchor past (take told ticks)

-- the receiver was fed the packets, which are of bytes; the stream ends with them or not; and the text is of the first
-- so many ticks, which they settle
pub record IsDumpTold (ended : Bool) (receiving : Asking) (ticks : List ℕ) (told : ℕ) (packets : List (List ℕ))
    (text : List ℕ) : Type 0 where
  pub bytes : All AreAllBytes packets
  pub given : List (Delivery (List ℕ))
  pub stands : Stands ended packets given receiving
  pub past : List (Delivery Reading)
  pub read : AreDeliveriesRead (reverse given) past
  pub of : IsToldOf (reception receiving).profile (reception receiving).anchor ticks told past text

-- what a receiver shows at a tick that is no earlier than the kept sets is put out
abbrev pub PutsShown : pictured.Receiving → Received → Received → Buffered → Buffered → ℕ → Type 0
PutsShown receiving before now was is tick =
    (ended : Bool) (packets : List (List ℕ)) (given : List (Delivery (List ℕ)))
    (past : List (Delivery Reading))
    → pictured.Stands ended packets given receiving → AreDeliveriesRead (reverse given) past
    → unwrap_or (last_time (pictured.reception receiving).anchor past) 0 ≤ tick
    → PutsOut before now was is
    (view_text tick
    (view_at (pictured.reception receiving).profile (pictured.reception receiving).anchor tick past))

-- and of one that draws what it is asked for
abbrev pub PutsAsked : Asking → Received → Received → Buffered → Buffered → ℕ → Type 0
PutsAsked receiving before now was is tick =
    (ended : Bool) (packets : List (List ℕ)) (given : List (Delivery (List ℕ)))
    (past : List (Delivery Reading))
    → Stands ended packets given receiving → AreDeliveriesRead (reverse given) past
    → unwrap_or (last_time (reception receiving).anchor past) 0 ≤ tick
    → PutsOut before now was is
    (view_text tick (view_at (reception receiving).profile (reception receiving).anchor tick past))

-- what is shown at the ticks from a place on, up to another one, is put out, where these are no earlier than the
-- kept sets
abbrev pub PutsBetween : Asking → Received → Received → Buffered → Buffered → List ℕ → ℕ → ℕ
    → Type 0
PutsBetween receiving before now was is ticks first next = (ended : Bool) (packets : List (List ℕ))
    (given : List (Delivery (List ℕ))) (past : List (Delivery Reading))
    → Stands ended packets given receiving → AreDeliveriesRead (reverse given) past
    → AreFrom (unwrap_or (last_time (reception receiving).anchor past) 0) first ticks
    → PutsOut before now was is
    (shown_text (reception receiving).profile (reception receiving).anchor past (ticks_between first next ticks))

-- the texts were put out of the ticks from a place on that are before a time, and the next place is that of the first
-- one from it on
pub record SettlesBefore (receiving : Asking) (before now : Received) (was is : Buffered) (ticks : List ℕ)
    (told next time : ℕ) : Type 0 where
  pub from : told ≤ next
  pub within : next ≤ length ticks
  pub early : AreBefore time told next ticks
  pub later : AreFrom time next ticks
  pub puts : PutsBetween receiving before now was is ticks told next

-- nothing was put out
pub record SettlesNothing (before now : Received) (was is : Buffered) (told next : ℕ) : Type 0 where
  pub same_out : now ≡ before
  pub same_buffer : is ≡ was
  pub same_told : next ≡ told

-- the ticks that a set with that lifted time settles were told: none, where it is not kept
abbrev pub Settles : Asking → Received → Received → Buffered → Buffered → List ℕ → ℕ → ℕ
    → Option ℕ → Type 0
Settles receiving before now was is ticks told next None = SettlesNothing before now was is told next
Settles receiving before now was is ticks told next (Some time) =
    SettlesBefore receiving before now was is ticks told next time

-- sets were taken, and the texts of the ticks that they settle were put out
pub record DumpsOn (before now : Received) (old new : Asking) (ticks : List ℕ) (told next : ℕ)
    (was is : Buffered)
    : Type 0 where
  pub goes : (ended : Bool) (packets : List (List ℕ)) (text : List ℕ) → IsDumpTold ended old ticks told packets text
      → (more : List ℕ) × IsDumpTold ended new ticks next packets (text ++ more) × PutsOut before now was is more

-- the packets were taken, and the text is of the ticks that they settle
pub record HasDumped (dumping : Dumping) (packets : List (List ℕ)) (text : List ℕ) : Type 0 where
  pub within : dumping.told ≤ length dumping.ticks
  pub told : IsDumpTold false dumping.receiving dumping.ticks dumping.told packets text
  pub all : sets_received (reception dumping.receiving) false packets ≡ told.given

-- the same receiver and the same ticks
pub record IsSameDump (old new : Dumping) : Type 0 where
  pub receiver : IsSame old.receiving new.receiving
  pub ticks : new.ticks ≡ old.ticks

-- what a receiver at work tells of packets, with which the stream ends or not
abbrev pub dump_tells : Dumping → Bool → List (List ℕ) → List ℕ → Type 0
dump_tells dumping ended packets text =
    IsDumpText (reception dumping.receiving) dumping.ticks ended packets text
