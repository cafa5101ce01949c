-- The picture that a receiver shows at a tick (EN 300 743, clauses 5.1, 7.2.1 and 7.2.2): that of the last kept display
-- set whose presentation time has come, until its time-out.
use Rattle.std.specs.Prelude.{false, ◌≡◌, ℕ, ◌+◌, ◌-◌, ◌*◌, ◌==◌, ◌&&◌, ◌⊎◌, Bool, nat_le, if◌then◌else◌, List, [], ◌∷◌, map, flat_map, All, Option, Some, None, unwrap_or}
use Rattle.std.specs.List.{range_with_len}
use Rattle.sub_base.specs.Colour.{clear}
use Rattle.sub_base.specs.declared.colour.Colour.{Colour}
use Rattle.sub_base.specs.declared.pace.TheConstants.{SECOND}
use Rattle.sub_base.specs.declared.profile.Profile.{Profile}
use Rattle.stream_syntax.specs.Segments.{Page, Region, Display}
use Rattle.stream_syntax.specs.declared.display.Window.{Window}
use Rattle.stream_syntax.specs.declared.page.PageEntry.{PageEntry}
use Rattle.decoder_model.specs.Contents.{page_in_set}
use Rattle.decoder_model.specs.Faults.{contents_in, display_in_force}
use Rattle.decoder_model.specs.Ink.{ink_of}
use Rattle.decoder_model.specs.Kept.{lifted_time, epoch_of}
use Rattle.sub_base.specs.Lists.{last_given}
use Rattle.decoder_model.specs.Pixels.{pixel_of}
use Rattle.decoder_model.specs.Readings.{Content, Reading}
use Rattle.decoder_model.specs.Received.{HasReceived, Reception}
use Rattle.decoder_model.specs.Sets.{Delivery, whole}
use Rattle.decoder_model.specs.Taken.{Taken, segments_of, taken_of, taken_region}
use Rattle.decoder_model.specs.Verdict.{verdict_of, sets_since}
use Rattle.decoder_model.specs.declared.set_end.SetEnd.{SetEnd}
use Rattle.decoder_model.specs.declared.set_end.SetEnd.TheVariants.{Shown, NotLater}
use Rattle.sub_base.specs.Picture.{is_inside}

-- ---- pictures in colours

-- the sides in pixels, and the colours by rows, from the top and from the left
pub record Plane : Type 0 where
  pub width : ℕ
  pub height : ℕ
  pub colours : List Colour

-- what is shown: nothing, and the video is seen everywhere, or a picture over it
pub data View : Type 0 where
  nothing : View
  plane : Plane → View

-- the video is seen everywhere
abbrev pub IsClear : View → Type 0
IsClear nothing = Unit {0}
IsClear (plane picture) = All (λ colour. colour ≡ clear) picture.colours

-- two views agree: they have the same size and the same colour at each place, or the video is seen everywhere in both
abbrev pub Agrees : View → View → Type 0
Agrees a b = (a ≡ b) ⊎ (IsClear a × IsClear b)

-- ---- the picture of a page

-- the page that is shown: its display, the regions that it lists, and the taken segments of its epoch
pub record Scene : Type 0 where
  pub display : Display
  pub entries : List PageEntry
  pub taken : Taken

-- the part of the display in which regions stand: its window, and else all of it (7.2.1)
abbrev pub window_or_all : Display → Option Window → Window
window_or_all display None = record { left = 0; right = display.width - 1; top = 0; bottom = display.height - 1 }
window_or_all display (Some window) = window

-- the part of a display in which regions stand (7.2.1)
abbrev pub window_of : Display → Window
window_of display = window_or_all display display.window

-- a place of the display lies in a window
abbrev pub is_in_window : Window → ℕ → ℕ → Bool
is_in_window window x y =
    nat_le window.left x && (nat_le x window.right && (nat_le window.top y && nat_le y window.bottom))

-- the colour in a column and a row of a region, through its CLUT
abbrev pub colour_in : Taken → Region → ℕ → ℕ → Colour
colour_in taken region x y = ink_of taken region.head.clut region.head.depth (pixel_of taken region.head.region x y)

-- the colour that a region whose corner is there gives a place, where it covers the place
abbrev pub colour_through : Taken → ℕ → ℕ → ℕ → ℕ → Option Region → Option Colour
colour_through taken left top x y None = None
colour_through taken left top x y (Some region) =
    if is_inside left top region.head.width region.head.height x y
    then Some (colour_in taken region (x - left) (y - top)) else None

-- the colour that an entry of the page gives a place: the region stands from the window's corner on (7.2.2)
abbrev pub colour_by_entry : Taken → Window → ℕ → ℕ → PageEntry → Option Colour
colour_by_entry taken window x y entry =
    colour_through taken (window.left + entry.x) (window.top + entry.y) x y (taken_region entry.region taken)

-- the colour at a place of the display: that of the last listed region that covers it, within the window, and else
-- clear
unfoldable pub colour_at : Scene → ℕ → ℕ → Colour
colour_at scene x y =
    if is_in_window (window_of scene.display) x y
    then unwrap_or (last_given (colour_by_entry scene.taken (window_of scene.display) x y) scene.entries) clear
    else clear

-- a row of the picture of a page, from the left
abbrev pub row_of : Scene → ℕ → List Colour
row_of scene y = map (λ x. colour_at scene x y) (range_with_len 0 scene.display.width)

-- the picture of a page, as large as its display
abbrev pub plane_of : Scene → Plane
plane_of scene = record {
  width = scene.display.width;
  height = scene.display.height;
  colours = flat_map (row_of scene) (range_with_len 0 scene.display.height);
}

-- the page of a set with the sets of its epoch, the latest first
abbrev pub scene_in : List (List Content) → Page → Scene
scene_in epoch page = record {
  display = display_in_force (segments_of epoch);
  entries = page.entries;
  taken = taken_of (segments_of epoch);
}

-- ---- what stands

-- the page that stands in a receiver, with the lifted time of its set and its scene
pub record Standing : Type 0 where
  pub time : ℕ
  pub page : Page
  pub scene : Scene

-- what stands with a set of that lifted time: its page in the epoch that is known with it; nothing without a page
-- or where no epoch is known
abbrev pub standing_in : ℕ → Option Page → Option (List (List Content)) → Option Standing
standing_in lifted (Some page) (Some epoch) = Some (record { time = lifted; page = page; scene = scene_in epoch page })
standing_in lifted page epoch = None

-- what stands with a set of that lifted time, behind the kept sets since the last loss or broken set, by the verdict on
-- it, and what stood before: a set that is not kept changes nothing, and without a set that is shown nothing stands
abbrev pub standing_with : List (List Content) → Option ℕ → Delivery Reading → Option SetEnd → Option Standing
    → Option Standing
standing_with sets (Some lifted) (whole time size readings) (Some Shown) before =
    standing_in lifted (page_in_set (contents_in readings)) (epoch_of (contents_in readings ∷ sets))
standing_with sets lifted delivery (Some (NotLater last)) before = before
standing_with sets lifted delivery verdict before = None

-- the page that stands after a past
unfoldable pub standing_after : Profile → ℕ → List (Delivery Reading) → Option Standing
standing_after profile anchor [] = None
standing_after profile anchor (delivery ∷ past) =
    standing_with (sets_since profile anchor past) (lifted_time anchor past delivery) delivery
    (verdict_of profile anchor past delivery) (standing_after profile anchor past)

-- the tick at which the page is timed out; a time-out of 0 is never over
abbrev pub until_of : Standing → Option ℕ
until_of standing = if standing.page.time_out == 0 then None else Some (standing.time + SECOND * standing.page.time_out)

-- ---- the view at a tick

-- at a tick the page is timed out, by the tick of its time-out, where it has one
abbrev pub is_over_at : ℕ → Option ℕ → Bool
is_over_at tick None = false
is_over_at tick (Some until) = nat_le until tick

-- what is seen of it at a tick from its lifted time on: its picture, until it is timed out
abbrev pub view_of : ℕ → Option Standing → View
view_of tick None = nothing
view_of tick (Some standing) = if is_over_at tick (until_of standing) then nothing else plane (plane_of standing.scene)

-- from the lifted time of a set on the one view, and before it, or where the set is not kept, the other
abbrev pub from_time_on : Option ℕ → ℕ → View → View → View
from_time_on None tick by_set before = before
from_time_on (Some lifted) tick by_set before = if nat_le lifted tick then by_set else before

-- the view at a tick after a past, in a receiver with that anchor: of what stands after the last kept set whose time
-- has come, and nothing where there is none
unfoldable pub view_at : Profile → ℕ → ℕ → List (Delivery Reading) → View
view_at profile anchor tick [] = nothing
view_at profile anchor tick (delivery ∷ past) =
    from_time_on (lifted_time anchor past delivery) tick
    (view_of tick (standing_after profile anchor (delivery ∷ past))) (view_at profile anchor tick past)

-- ---- the view of a stream

-- what a receiver shows of packets at a tick: the view after all of their sets and losses. The stream ends with these
-- packets or not
pub record IsShown (reception : Reception) (ended : Bool) (packets : List (List ℕ)) (tick : ℕ) (shown : View)
    : Type 0 where
  pub past : List (Delivery Reading)
  pub received : HasReceived reception ended packets past
  pub is_view : shown ≡ view_at reception.profile reception.anchor tick past
