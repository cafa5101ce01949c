-- Pictures that are shown as authored have the texts of the authored ones.
use Rattle.std.proofs.Common.{◌≡◌, ◌∙◌, ℕ, Bool, true, ◌&&◌, cond, List, [], ◌∷◌, ◌++◌, reverse, inl, inr, refl, sym, ap, arith}
use Rattle.std.specs.List.{AllByRecursion, flat_map, range_with_len}
use Rattle.std.proofs.lemmas.List.Elements.{recursion_from_All}
use Rattle.command_text.specs.PictureText.{clear_line, is_clear, is_same_colour, plane_row, row_line, sides_line}
use Rattle.cue_list.specs.declared.script.Script.{Script}
use Rattle.decoder_model.specs.Readings.{Reading}
use Rattle.decoder_model.specs.Received.{HasReceived, sets_received}
use Rattle.decoder_model.specs.Sets.{Delivery}
use Rattle.decoder_model.specs.Shown.{Agrees, IsClear, View, nothing, plane, view_at}
use Rattle.dump_text.specs.DumpText.{anchor_of, view_text}
use Rattle.reading_laws.proofs.OneReading.{same_past}
use Rattle.shown_stream.specs.Shows.{Shows, authored_view}
use Rattle.sub_base.specs.Colour.{clear}
use Rattle.sub_base.specs.Profile.{profile_of}
use Rattle.sub_base.specs.declared.colour.Colour.{Colour}
use Rattle.sub_base.specs.declared.profile.ProfileName.{ProfileName}
use Rattle.dvbsub_cmd.specs.Dumps.{dumps}
use Rattle.dvbsub_cmd.specs.ExpectOutcome.{authored_text, expect_text}
use Rattle.dvbsub_cmd.specs.GenText.{generated_page, generated_pid, generated_reception}
use Rattle.dvbsub_cmd.specs.Private.Generating.{AreShown, AreTold}

-- ---- one picture

clear_here : (colour : Colour) → colour ≡ clear → is_same_colour clear colour ≡ true
clear_here colour is = ap (is_same_colour clear) is

clear_everywhere : (colours : List Colour) → AllByRecursion (λ colour. colour ≡ clear) colours
    → is_clear colours ≡ true
clear_everywhere [] all = refl
clear_everywhere (colour ∷ colours) all =
    ap (λ (here : Bool). here && is_clear colours) (clear_here colour all.0) ∙ clear_everywhere colours all.1

-- where the video is seen everywhere, the text says so
clear_text : (tick : ℕ) (view : View) → IsClear view → view_text tick view ≡ clear_line tick
clear_text tick nothing is = refl
clear_text tick (plane picture) is =
    ap (λ (whether : Bool). cond whether (clear_line tick)
    (sides_line tick picture.width picture.height
    ++ flat_map (λ y. row_line (plane_row picture.width picture.colours y)) (range_with_len 0 picture.height)))
    (clear_everywhere picture.colours (recursion_from_All (λ (colour : Colour). colour ≡ clear) picture.colours is))

same_text : (tick : ℕ) (shown wanted : View) → Agrees shown wanted
    → view_text tick shown ≡ view_text tick wanted
same_text tick shown wanted (inl same) = ap (view_text tick) same
same_text tick shown wanted (inr both) = clear_text tick shown both.0 ∙ sym (clear_text tick wanted both.1)

-- ---- all pictures

module _ (name : ProfileName) (script : Script) (packets : List (List ℕ)) (past : List (Delivery Reading))
    (received : HasReceived (generated_reception name) true packets past) where
  abbrev IsSo : ℕ → Type 0
  IsSo tick = Shows (generated_reception name) packets tick (authored_view script tick)

  one_picture : (tick : ℕ) → IsSo tick
      → view_text tick (view_at (profile_of name) 0 tick past) ≡ authored_text script tick
  one_picture tick is =
      let own =
      same_past (reverse (sets_received (generated_reception name) true packets)) past
      is.is_shown.past received is.is_shown.received in
      ap (λ (all : List (Delivery Reading)). view_text tick (view_at (profile_of name) 0 tick all)) own
      ∙ ap (view_text tick) (sym is.is_shown.is_view)
      ∙ same_text tick is.shown (authored_view script tick) is.agrees

  all_pictures : (ticks : List ℕ) → AllByRecursion IsSo ticks
      → flat_map (λ tick. view_text tick (view_at (profile_of name) 0 tick past)) ticks ≡ expect_text script ticks
  all_pictures [] all = refl
  all_pictures (tick ∷ ticks) all = λ i. one_picture tick all.0 i ++ all_pictures ticks all.1 i

-- lifted times begin at 0
pub from_zero : (ticks : List ℕ) → AreTold ticks → anchor_of ticks ≡ 0
from_zero [] told = refl
from_zero (tick ∷ ticks) told = omega (arith, told.early 0 0 (omega arith))

-- what a receiver shows has the texts of what is authored
pub shown_as_authored : (name : ProfileName) (script : Script) (packets : List (List ℕ)) (ticks text : List ℕ)
    → AreTold ticks → AreShown name script packets ticks
    → dumps name generated_pid generated_page ticks true packets text
    → text ≡ expect_text script ticks
shown_as_authored name script packets ticks text told shown dumped =
    dumped.whole
    ∙ ap (λ (anchor : ℕ). flat_map (λ tick. view_text tick (view_at (profile_of name) anchor tick dumped.past))
    ticks) (from_zero ticks told)
    ∙ all_pictures name script packets dumped.past dumped.received ticks
    (recursion_from_All
    (λ tick. Shows (generated_reception name) packets tick
    (authored_view script tick)) ticks shown)
