-- Blocks that are kept stand in front while more are kept, and can be gone back to.
use Rattle.std.proofs.Common.{◌≡◌, ℕ, zero, suc, ◌<◌, ◌++◌, List, [], ◌∷◌, length, get_or, take, drop, Option, Some, None, All, refl, sym, ap, subst, ◌∙◌, arith}
use Rattle.std.proofs.Math.ListN.{get_or-append}
use Rattle.std.proofs.Math.Seq.{take-append_seam}
use Rattle.std.proofs.lemmas.Option.{slice_get_within}
use Rattle.std.proofs.lemmas.List.{append-nil, append_assoc, length-append, length-take-le, take-append-drop}
use Rattle.std.specs.Prelude.{slice_get}
use Rattle.std.specs.Option.{option_and_then}
use Rattle.sub_base.specs.Picture.{Picture}
use Rattle.sub_base.specs.declared.depth.Depth.{Depth}
use Rattle.set_coder.specs.declared.coded_picture.CodedPicture.{CodedPicture}
use Rattle.set_coder.specs.declared.coded_picture.KeptBlocks.{KeptBlocks}
use Rattle.set_coder.specs.declared.coded_picture.Slots.{Slots}
use Rattle.set_coder.specs.declared.grown_blocks.BlocksBefore.{BlocksBefore}
use Rattle.set_coder.specs.KeptBlocks.{AreCoded, FitsLargestBuffer, AreLedTo, place_in, place_of}
use Rattle.set_coder.specs.GrownBlocks.{AreBlocksOf, IsGrownFrom}
use Rattle.set_coder.specs.Private.Keeping.{HasGrown, StaysInFront}

-- ---- what stands in front

-- what is kept stands in front of no more
pub stays_here : (kept : List CodedPicture) → StaysInFront kept kept
stays_here kept = ([], sym (append-nil kept))

-- what stands in front of what stands in front does so itself
pub stays_on : (first second third : List CodedPicture) → StaysInFront first second → StaysInFront second third
    → StaysInFront first third
stays_on first second third one two = (
  one.0 ++ two.0,
  two.1 ∙ (ap (λ (xs : List CodedPicture). xs ++ two.0) one.1 ∙ append_assoc first one.0 two.0),
)

-- it is cut off where it ends
pub cut_off : (kept more : List CodedPicture) (count : ℕ) → count ≡ length kept → StaysInFront kept more
    → take count more ≡ kept
cut_off kept more count e front =
    ap (λ n. take n more) e ∙ (ap (take (length kept)) front.1 ∙ take-append_seam kept front.0)

-- ---- slots

-- slots that lead to blocks are there
led_within : (slots : List Slots) (number : ℕ) (region : Depth) (k : ℕ) → place_of slots number region ≡ Some k
    → number < length slots
led_within slots number region k led = by (slice_get slots number) refl led
  where
    by : (o : Option Slots) → slice_get slots number ≡ o
        → option_and_then (λ (one : Slots). place_in one region) o ≡ Some k → number < length slots
    by None e none = cc
    by (Some one) e some = slice_get_within slots number one e

-- what is read in front is read of it
slice_get-append : (front back : List Slots) (place : ℕ) → place < length front
    → slice_get (front ++ back) place ≡ slice_get front place
slice_get-append [] back place lt = absurd (omega (arith, lt))
slice_get-append (first ∷ front) back zero lt = refl
slice_get-append (first ∷ front) back (suc place) lt = slice_get-append front back place (omega (arith, lt))

-- slots behind others change nothing for these
place_in_front : (front back : List Slots) (number : ℕ) (region : Depth) → number < length front
    → place_of (front ++ back) number region ≡ place_of front number region
place_in_front front back number region lt =
    ap (option_and_then (λ (one : Slots). place_in one region)) (slice_get-append front back number lt)

-- ---- the way back

-- slots that lead to blocks lead to those in front
led_in_front : (kept more : List CodedPicture) (slots : List Slots) → AreLedTo slots (kept ++ more)
    → AreLedTo slots kept
led_in_front kept more slots led = λ k d lt.
    subst (λ (one : CodedPicture). place_of slots one.number one.region ≡ Some k) (get_or-append kept more d k lt)
    (led k d (omega (arith, length-append kept more, lt)))

-- what was kept can be gone back to from what has grown out of it
pub can_go_back : (pictures : List Picture) (old new : KeptBlocks) (before : BlocksBefore) → AreBlocksOf pictures old
    → HasGrown old new → before.pictures ≡ length old.slots.items → before.blocks ≡ length old.coded.items
    → IsGrownFrom pictures new before
can_go_back pictures old new before blocks grown slots coded = record {
  was = old;
  blocks = blocks;
  more = grown.front.0;
  front = grown.front.1;
  slots = omega (arith, grown.slots, blocks.each);
  led =
      led_in_front old.coded.items grown.front.0 new.slots.items
      (subst (AreLedTo new.slots.items) grown.front.1 grown.led);
  pictures_counted = slots ∙ blocks.each;
  blocks_counted = coded;
}

-- and is there again where it was gone back to
pub gone_back : (pictures : List Picture) (now new : KeptBlocks) (before : BlocksBefore)
    → IsGrownFrom pictures now before → new.slots.items ≡ take before.pictures now.slots.items
    → new.coded.items ≡ take before.blocks now.coded.items → AreBlocksOf pictures new
gone_back pictures now new before can slots coded = record {
  coded = subst (AreCoded pictures) (sym same) can.blocks.coded;
  each = each;
  led =
      subst (λ (ss : List Slots). AreLedTo ss new.coded.items) (sym slots)
      (subst (AreLedTo front) (sym same) led);
  small = subst (All FitsLargestBuffer) (sym same) can.blocks.small;
}
  where
    front : List Slots
    front = take before.pictures now.slots.items

    same : new.coded.items ≡ can.was.coded.items
    same = coded ∙ cut_off can.was.coded.items now.coded.items before.blocks can.blocks_counted (can.more, can.front)

    each : length new.slots.items ≡ length pictures
    each = ap length slots
        ∙ (length-take-le before.pictures now.slots.items (omega (arith, can.pictures_counted, can.slots))
        ∙ can.pictures_counted)

    led : AreLedTo front can.was.coded.items
    led k d lt =
        let one = get_or can.was.coded.items k d in
        let within : one.number < length front =
        omega (
          arith,
          led_within can.was.slots.items one.number one.region k (can.blocks.led k d lt),
          can.blocks.each,
          each,
          ap length slots,
        ) in
        sym (place_in_front front (drop before.pictures now.slots.items) one.number one.region within)
        ∙ (ap (λ (ss : List Slots). place_of ss one.number one.region)
        (take-append-drop before.pictures now.slots.items) ∙ can.led k d lt)
