-- The frames that stand in the bytes of a data field, as a function and one after another (EN 300 743, clause 7.2).
use Rattle.std.proofs.Common.{◌≡◌, ◌∙◌, ℕ, zero, suc, ◌+◌, ◌≤◌, Bool, true, false, List, [], ◌∷◌, length, take, drop, Option, Some, None, refl, sym, ap, arith, length-drop}
use Rattle.std.specs.Bool.{if◌then◌else◌}
use Rattle.std.proofs.lemmas.List.{length-take-le}
use Rattle.std.proofs.lemmas.Bool.Decides.{nat_tests}
use Rattle.stream_syntax.specs.SegmentTests.{frame_tests, segment_size}
use Rattle.stream_syntax.specs.Tests.{first_fault}
use Rattle.stream_syntax.specs.declared.segment_fault.SegmentFault.{SegmentFault}
use Rattle.stream_syntax.specs.DataField.{Frame, segment, broken, ends_segments, AreFrames, no_more, cut_off, one_more, frames_by, frames_at, frames_within, frames_of}

by_test : (behind : List ℕ → List Frame) (bytes : List ℕ) → (ends : Bool) (fault : Option SegmentFault)
    → ends_segments bytes ≡ ends → first_fault (frame_tests bytes) ≡ fault
    → AreFrames (drop (segment_size bytes) bytes) (behind (drop (segment_size bytes) bytes))
    → AreFrames bytes (frames_at behind bytes)
by_test behind bytes true fault ends is rest =
    no_more ends (ap (λ end. if end then [] else frames_by behind bytes (first_fault (frame_tests bytes))) ends)
by_test behind bytes false (Some fault) ends is rest =
    cut_off fault ends is
    (ap (λ end. if end then [] else frames_by behind bytes (first_fault (frame_tests bytes))) ends
    ∙ ap (frames_by behind bytes) is)
by_test behind bytes false None ends is rest =
    one_more (behind (drop (segment_size bytes) bytes)) ends is rest
    (ap (λ end. if end then [] else frames_by behind bytes (first_fault (frame_tests bytes))) ends
    ∙ ap (frames_by behind bytes) is)

within_are : (most : ℕ) (bytes : List ℕ) → length bytes ≤ most → AreFrames bytes (frames_within most bytes)
within_are zero [] few = no_more refl refl
within_are zero (byte ∷ bytes) few = absurd (omega arith)
within_are (suc most) [] few = no_more refl refl
within_are (suc most) (byte ∷ bytes) few =
    by_test (frames_within most) (byte ∷ bytes) (ends_segments (byte ∷ bytes))
    (first_fault (frame_tests (byte ∷ bytes))) refl refl
    (within_are most (drop (segment_size (byte ∷ bytes)) (byte ∷ bytes))
    (omega (arith, length-drop (segment_size (byte ∷ bytes)) (byte ∷ bytes))))

-- the function gives the frames that stand in the bytes
pub frames_are : (bytes : List ℕ) → AreFrames bytes (frames_of bytes)
unfolding frames_of
frames_are bytes = within_are (length bytes) bytes (omega arith)

some_is : {X : Type 0} {a b : X} → Some a ≡ Some b → a ≡ b
some_is e = cc

-- and no others stand there
pub one_list_of_frames : {bytes : List ℕ} {one other : List Frame} → AreFrames bytes one
    → AreFrames bytes other → one ≡ other
one_list_of_frames (no_more ended none) (no_more ended_too none_too) = none ∙ sym none_too
one_list_of_frames (no_more ended none) (cut_off fault goes_on is are) = absurd (cc)
one_list_of_frames (no_more ended none) (one_more rest goes_on is frames are) = absurd (cc)
one_list_of_frames (cut_off fault goes_on is are) (no_more ended none) = absurd (cc)
one_list_of_frames (cut_off fault goes_on is are) (cut_off other goes_on_too is_too are_too) =
    are ∙ ap (λ found. broken found ∷ []) (some_is (sym is ∙ is_too)) ∙ sym are_too
one_list_of_frames (cut_off fault goes_on is are) (one_more rest goes_on_too is_too frames are_too) = absurd (cc)
one_list_of_frames (one_more rest goes_on is frames are) (no_more ended none) = absurd (cc)
one_list_of_frames (one_more rest goes_on is frames are) (cut_off fault goes_on_too is_too are_too) = absurd (cc)
one_list_of_frames {bytes} (one_more rest goes_on is frames are)
    (one_more other goes_on_too is_too frames_too are_too) =
    are ∙ ap (λ behind. segment (take (segment_size bytes) bytes) ∷ behind)
    (one_list_of_frames frames frames_too) ∙ sym are_too

-- ---- the frames at the front

-- no segment begins
pub frames_ended : (field : List ℕ) → ends_segments field ≡ true → frames_of field ≡ []
frames_ended field ended = one_list_of_frames (frames_are field) (no_more ended refl)

-- a broken one stands at the front
pub frames_broken : (field : List ℕ) (fault : SegmentFault) → ends_segments field ≡ false
    → Some fault ≡ first_fault (frame_tests field) → frames_of field ≡ broken fault ∷ []
frames_broken field fault goes_on is = one_list_of_frames (frames_are field) (cut_off fault goes_on (sym is) refl)

-- a whole one stands at the front
pub frames_more : (field : List ℕ) → ends_segments field ≡ false → None ≡ first_fault (frame_tests field)
    → frames_of field ≡ segment (take (segment_size field) field) ∷ frames_of (drop (segment_size field) field)
frames_more field goes_on passes =
    one_list_of_frames (frames_are field)
    (one_more (frames_of (drop (segment_size field) field)) goes_on (sym passes)
    (frames_are (drop (segment_size field) field)) refl)

-- a segment whose head passes its tests has all of its bytes
pub whole_there : (field : List ℕ) → None ≡ first_fault (frame_tests field)
    → segment_size field ≤ length field
whole_there field passes = grind (arith, nat_tests)

-- ---- the segment at the front of a list of frames

-- the bytes of a field begin with a segment that stands first in it, and behind it come the others
pub record StandsFirst (field segment : List ℕ) (others : List Frame) : Type 0 where
  pub front : segment ≡ take (length segment) field
  pub inside : length segment ≤ length field
  pub others_are : others ≡ frames_of (drop (length segment) field)
  pub goes_on : ends_segments field ≡ false
  pub passes : None ≡ first_fault (frame_tests field)
  pub size : length segment ≡ segment_size field

same_segment : {one other : List ℕ} {behind others : List Frame}
    → segment one ∷ behind ≡ segment other ∷ others → (one ≡ other) × (behind ≡ others)
same_segment e = (cc, cc)

at_front : (field bytes : List ℕ) (others frames : List Frame) → frames ≡ segment bytes ∷ others
    → AreFrames field frames → StandsFirst field bytes others
at_front field bytes others frames is (no_more ended none) = absurd (cc)
at_front field bytes others frames is (cut_off fault goes_on fails are) = absurd (cc)
at_front field bytes others frames is (one_more rest goes_on passes behind are) =
    let same = same_segment (sym is ∙ are) in
    let inside = whole_there field (sym passes) in
    let size : length bytes ≡ segment_size field =
    ap length same.0 ∙ length-take-le (segment_size field) field inside in
    record {
      front = same.0 ∙ ap (λ n. take n field) (sym size);
      inside = omega arith;
      others_are =
          same.1 ∙ one_list_of_frames behind (frames_are (drop (segment_size field) field))
          ∙ ap (λ n. frames_of (drop n field)) (sym size);
      goes_on = goes_on;
      passes = sym passes;
      size = size;
    }

pub front_of_field : (field bytes : List ℕ) (others : List Frame) → frames_of field ≡ segment bytes ∷ others
    → StandsFirst field bytes others
front_of_field field bytes others is = at_front field bytes others (frames_of field) is (frames_are field)

-- ---- how many bytes frames have

abbrev pub bytes_in : Frame → ℕ
bytes_in (segment bytes) = length bytes
bytes_in (broken fault) = 0

-- the bytes of the whole segments among frames
abbrev pub bytes_held : List Frame → ℕ
bytes_held [] = 0
bytes_held (frame ∷ frames) = bytes_in frame + bytes_held frames

held_within : {field : List ℕ} {frames : List Frame} → AreFrames field frames → bytes_held frames ≤ length field
held_within (no_more ended is) = omega (arith, ap bytes_held is)
held_within (cut_off fault goes_on fails is) = omega (arith, ap bytes_held is)
held_within {field} (one_more rest goes_on passes behind is) =
    let inside = whole_there field (sym passes) in
    omega (
      arith,
      ap bytes_held is,
      inside,
      length-take-le (segment_size field) field inside,
      held_within
          behind,
      length-drop (segment_size field) field,
    )

-- the frames of a field have no more bytes than the field
pub frames_held : (field : List ℕ) → bytes_held (frames_of field) ≤ length field
frames_held field = held_within (frames_are field)
