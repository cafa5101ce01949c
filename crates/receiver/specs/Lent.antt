-- What is lent of a receiver.
use Rattle.std.specs.Prelude.{◌≡◌, ◌*◌, length}
use Rattle.decoder_model.specs.Shown as shown
use Rattle.receiver.specs.declared.view.View.{View}
use Rattle.receiver.specs.declared.view.View.TheVariants as lent

-- the view that is lent
abbrev pub view_lent : View → shown.View
view_lent lent.Clear = shown.nothing
view_lent (lent.Plane wide high places) = shown.plane (record { width = wide; height = high; colours = places.now })

-- a picture has a colour for each pixel
abbrev pub IsWholeView : View → Type 0
IsWholeView lent.Clear = Unit {0}
IsWholeView (lent.Plane wide high places) = length places.now ≡ wide * high
