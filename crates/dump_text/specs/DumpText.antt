-- What `dump` tells of the packets of a stream: the text of the picture that is shown at each asked tick.
use Rattle.std.specs.Prelude.{◌≡◌, ℕ, ◌-◌, nat_lt, Bool, true, false, List, [], ◌∷◌, filter, Option, Some, None}
use Rattle.std.specs.List.{flat_map}
use Rattle.command_text.specs.PictureText.{clear_line, picture_text}
use Rattle.decoder_model.specs.declared.pages.Pages.{Pages}
use Rattle.decoder_model.specs.Kept.{last_time}
use Rattle.decoder_model.specs.Readings.{Reading}
use Rattle.decoder_model.specs.Received.{HasReceived, Reception}
use Rattle.decoder_model.specs.Sets.{Delivery}
use Rattle.decoder_model.specs.Shown.{View, nothing, plane, view_at}
use Rattle.sub_base.specs.declared.profile.Profile.{Profile}
use Rattle.stream_syntax.specs.declared.wire.TheConstants.{HALF_ROUND}

-- the text of what is shown at a tick
abbrev pub view_text : ℕ → View → List ℕ
view_text tick nothing = clear_line tick
view_text tick (plane picture) = picture_text tick picture.width picture.height picture.colours

-- the texts of what is shown at ticks after a past, in order
abbrev pub shown_text : Profile → ℕ → List (Delivery Reading) → List ℕ → List ℕ
shown_text profile anchor past ticks = flat_map (λ tick. view_text tick (view_at profile anchor tick past)) ticks

-- the ticks before the greatest lifted time of the kept sets: what is shown then is settled, whatever comes
abbrev pub settled_ticks : Option ℕ → List ℕ → List ℕ
settled_ticks None ticks = []
settled_ticks (Some last) ticks = filter (λ tick. nat_lt tick last) ticks

-- the ticks of which is told: all of them once the stream has ended, and else the settled ones
abbrev pub told_ticks : Bool → Option ℕ → List ℕ → List ℕ
told_ticks true last ticks = ticks
told_ticks false last ticks = settled_ticks last ticks

-- lifted times begin at the first asked tick less 2 to the 32, or at 0 where that is negative
abbrev pub anchor_of : List ℕ → ℕ
anchor_of [] = 0
anchor_of (tick ∷ ticks) = tick - HALF_ROUND

-- what a receiver is for whose pictures are asked for at these ticks
abbrev pub asked_for : Profile → ℕ → Pages → List ℕ → Reception
asked_for profile pid pages ticks = record {
  profile = profile;
  pid = pid;
  pages = pages;
  anchor = anchor_of ticks;
}

-- the text of the pictures that a receiver shows at these ticks: the stream ends with these packets, or the text is of
-- the ticks that the packets settle
pub record IsDumpText (reception : Reception) (ticks : List ℕ) (ended : Bool) (packets : List (List ℕ))
    (text : List ℕ) : Type 0 where
  pub past : List (Delivery Reading)
  pub received : HasReceived reception ended packets past
  pub whole : text ≡ shown_text reception.profile reception.anchor past
      (told_ticks ended (last_time reception.anchor past) ticks)
