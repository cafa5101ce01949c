-- Packets that show what is authored.
use Rattle.std.specs.Prelude.{ℕ, ◌+◌, ◌≤◌, ◌<◌, true, List, All, Option}
use Rattle.cue_list.specs.Authored.{authored_picture}
use Rattle.cue_list.specs.declared.script.Script.{Script}
use Rattle.decoder_model.specs.Received.{Reception}
use Rattle.decoder_model.specs.Shown.{View, plane, IsShown, Agrees}
use Rattle.decoder_model.specs.Streams.{SentSet, IsShownFrom}
use Rattle.stream_syntax.specs.declared.wire.TheConstants.{TIME_ROUND}

-- the authored picture at a tick
abbrev pub authored_view : Script → ℕ → View
authored_view script tick = plane (record {
  width = script.width;
  height = script.height;
  colours = authored_picture script.width script.height script.epochs script.pictures tick;
})

-- an anchor suits a time: the time is from the anchor on, and less than 2 to the 33 ticks behind
abbrev pub Suits : ℕ → ℕ → Type 0
Suits anchor time = (anchor ≤ time) × (time < anchor + TIME_ROUND)

-- an anchor from which a receiver lifts times rightly: it suits each of them
abbrev pub IsAnchorOf : List ℕ → ℕ → Type 0
IsAnchorOf times anchor = All (Suits anchor) times

-- a receiver that gets these packets, with which the stream ends, shows at a tick what agrees with that view
pub record Shows (reception : Reception) (packets : List (List ℕ)) (tick : ℕ) (wanted : View) : Type 0 where
  pub shown : View
  pub is_shown : IsShown reception true packets tick shown
  pub agrees : Agrees shown wanted

-- a receiver that gets these packets, with which the stream ends, shows at a tick, by the set with which it enters:
-- nothing without one and before its time, and from then on what agrees with that view
pub record ShowsFrom (reception : Reception) (packets : List (List ℕ)) (entry : Option SentSet) (tick : ℕ)
    (wanted : View) : Type 0 where
  pub shown : View
  pub is_shown : IsShown reception true packets tick shown
  pub from_entry : IsShownFrom entry tick shown wanted
