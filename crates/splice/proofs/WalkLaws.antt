-- The segments of a display set, one after the other, as they are read.
use Rattle.std.proofs.Common.{◌≡◌, ◌∙◌, ℕ, ◌+◌, ◌*◌, ◌<◌, ◌≤◌, ◌||◌, true, false, eqb, ltb, Bool, List, [], ◌∷◌, ◌++◌, length, map, take, drop, Option, Some, None, refl, sym, ap, subst, arith, length-append}
use Rattle.std.specs.Prelude.{filter_map}
use Rattle.std.specs.List.{AllByRecursion, concat, cons_option, list_any}
use Rattle.std.proofs.Math.ListN.{get_or-append}
use Rattle.std.proofs.Math.Seq.{take-append_seam, drop-append_seam}
use Rattle.std.proofs.lemmas.Bool.Decides.{nat_tests}
use Rattle.stream_syntax.specs.SegmentTests.{IsSegmentFault, frame_tests}
use Rattle.stream_syntax.specs.Segments.{IsSegment, Page, SegmentValue, state_number}
use Rattle.stream_syntax.specs.Tests.{byte_at, word_at, first_fault}
use Rattle.stream_syntax.specs.declared.page.State.TheVariants.{ModeChange}
use Rattle.stream_syntax.specs.declared.segment_fault.SegmentFault.{SegmentFault}
use Rattle.decoder_model.specs.Contents.{has_state, page_in, page_of}
use Rattle.decoder_model.specs.Faults.{contents_in}
use Rattle.decoder_model.specs.Readings.{Reading, read, faulty, IsReading, AreReadings}
use Rattle.decoder_model.specs.Received.{IsFramed}
use Rattle.display_sets.specs.Filling.{AreBytes}
use Rattle.sent_sets.proofs.FieldFrames.{IsHead, head_of_framed}
use Rattle.splice.specs.Private.Walks.{is_new_page, opens_anew}

-- ---- the first segment

same_byte : (bytes rest : List ℕ) (place : ℕ) → place < length bytes
    → byte_at place (bytes ++ rest) ≡ byte_at place bytes
same_byte bytes rest place inside = get_or-append bytes rest 0 place inside

same_word : (bytes rest : List ℕ) → 6 ≤ length bytes → word_at 4 (bytes ++ rest) ≡ word_at 4 bytes
same_word bytes rest long =
    ap (λ high. high * 256 + byte_at 5 (bytes ++ rest)) (same_byte bytes rest 4 (omega arith))
    ∙ ap (λ low. byte_at 4 bytes * 256 + low) (same_byte bytes rest 5 (omega arith))

-- a segment passes the tests of its head, whatever follows
no_fault : (bytes rest : List ℕ) → IsHead bytes → first_fault (frame_tests (bytes ++ rest)) ≡ None
no_fault bytes rest h =
    let size = h.size in
    let long : 6 ≤ length bytes = omega arith in
    let word = same_word bytes rest long in
    let sync : byte_at 0 (bytes ++ rest) ≡ 15 = same_byte bytes rest 0 (omega arith) ∙ h.sync in
    let all = length-append bytes rest in
    let one : eqb (byte_at 0 (bytes ++ rest)) 15 ≡ true = ap (λ byte. eqb byte 15) sync in
    let short : ltb (length (bytes ++ rest)) 6 ≡ false = grind (arith, nat_tests) in
    let cut : ltb (length (bytes ++ rest)) (6 + word_at 4 (bytes ++ rest)) ≡ false = grind (arith, nat_tests) in
    rw (one, short, cut) refl

some_fault : (fault : SegmentFault) → Some fault ≡ None → ⊥
some_fault fault e = cc

-- bytes that begin no segment by their head have none
pub no_segment : (bytes : List ℕ) (segments : List (List ℕ)) (fault : SegmentFault)
    → Some fault ≡ first_fault (frame_tests bytes) → AreBytes segments bytes → segments ≡ []
no_segment bytes [] fault is are = refl
no_segment bytes (one ∷ segments) fault is are =
    absurd (some_fault fault
    (is ∙ ap (λ (all : List ℕ). first_fault (frame_tests all)) are.joined
    ∙ no_fault one (concat segments) (head_of_framed one are.framed.0)))

none_fault : (bytes : List ℕ) → bytes ≡ [] → None ≡ first_fault (frame_tests bytes) → ⊥
none_fault bytes empty is =
    let found : None ≡ first_fault (frame_tests []) =
    subst (λ (all : List ℕ). None ≡ first_fault (frame_tests all)) empty is in
    cc

-- the segment that is cut off is the first
pub first_cut : (bytes front back : List ℕ) (segments : List (List ℕ)) (whole : ℕ)
    → None ≡ first_fault (frame_tests bytes) → whole ≡ 6 + word_at 4 bytes → front ≡ take whole bytes
    → back ≡ drop whole bytes → AreBytes segments bytes
    → (rest : List (List ℕ)) × (segments ≡ front ∷ rest) × AreBytes rest back
first_cut bytes front back [] whole passes size f b are = absurd (none_fault bytes are.joined passes)
first_cut bytes front back (one ∷ segments) whole passes size f b are =
    let head = head_of_framed one are.framed.0 in
    let own = head.size in
    let word : word_at 4 bytes ≡ word_at 4 one =
    ap (word_at 4) are.joined ∙ same_word one (concat segments) (omega arith) in
    let long : whole ≡ length one = omega (arith, size, word, own) in
    let front_is : front ≡ one =
    f ∙ ap (λ (n : ℕ). take n bytes) long ∙ ap (take (length one)) are.joined
    ∙ take-append_seam one (concat segments) in
    let back_is : back ≡ concat segments =
    b ∙ ap (λ (n : ℕ). drop n bytes) long ∙ ap (drop (length one)) are.joined
    ∙ drop-append_seam one (concat segments) in (
      segments,
      ap (λ (first : List ℕ). first ∷ segments) (sym front_is),
      record { joined = back_is; framed = are.framed.1 },
    )

-- ---- lengths

-- the lengths of the segments that are left come behind those so far
abbrev pub AreLengthsSo : (bytes rest lengths : List ℕ) → Type 0
AreLengthsSo bytes rest lengths =
    (segments : List (List ℕ)) → AreBytes segments bytes
    → (left : List (List ℕ)) × AreBytes left rest × (map length segments ≡ lengths ++ map length left)

pub lengths_begin : (bytes : List ℕ) → AreLengthsSo bytes bytes []
lengths_begin bytes segments are = (segments, are, refl)

pub lengths_more : (bytes rest lengths new one behind : List ℕ) → AreLengthsSo bytes rest lengths
    → ((segments : List (List ℕ)) → AreBytes segments rest
    → (more : List (List ℕ)) × (segments ≡ one ∷ more) × AreBytes more behind)
    → new ≡ lengths ++ length one ∷ [] → AreLengthsSo bytes behind new
lengths_more bytes rest lengths new one behind so first is segments are =
    let left = so segments are in
    let next = first left.0 left.1 in (
      next.0,
      next.2,
      left.2 ∙ ap (λ (all : List (List ℕ)). lengths ++ map length all) next.1
          ∙ sym (assoc lengths (map length next.0))
          ∙ ap (λ (all : List ℕ). all ++ map length next.0) (sym is),
    )
  where
    assoc : (xs ys : List ℕ) → (xs ++ length one ∷ []) ++ ys ≡ xs ++ length one ∷ ys
    assoc [] ys = refl
    assoc (x ∷ xs) ys = ap (λ (rest : List ℕ). x ∷ rest) (assoc xs ys)

pub lengths_end : (bytes rest lengths : List ℕ) (segments : List (List ℕ)) → AreLengthsSo bytes rest lengths
    → ((left : List (List ℕ)) → AreBytes left rest → left ≡ []) → AreBytes segments bytes
    → lengths ≡ map length segments
lengths_end bytes rest lengths segments so none are =
    let left = so segments are in
    sym (left.2 ∙ ap (λ (all : List (List ℕ)). lengths ++ map length all) (none left.0 left.1) ∙ empty lengths)
  where
    empty : (xs : List ℕ) → xs ++ [] ≡ xs
    empty [] = refl
    empty (x ∷ xs) = ap (λ (rest : List ℕ). x ∷ rest) (empty xs)

-- ---- a mode change

take_whole : (xs : List ℕ) → take (length xs) xs ≡ xs
take_whole [] = refl
take_whole (x ∷ xs) = ap (λ (rest : List ℕ). x ∷ rest) (take_whole xs)

-- a segment that is read is the reading's
pub opens : (bytes : List ℕ) (value : SegmentValue) (size : ℕ) (reading : Reading) → IsFramed bytes
    → IsReading bytes reading
    → ((other : SegmentValue) (n : ℕ) → n ≤ length bytes → IsSegment (take n bytes) other
    → (value ≡ other) × (size ≡ n))
    → ((fault : SegmentFault) → IsSegmentFault bytes fault → ⊥)
    → is_new_page (page_in value) ≡ opens_anew reading
opens bytes value size (read content) framed is every none =
    let found =
    every content.value (length bytes) (omega arith)
    (subst (λ (all : List ℕ). IsSegment all content.value) (sym (take_whole bytes)) is.segment) in
    ap (λ (other : SegmentValue). is_new_page (page_in other)) found.0
opens bytes value size (faulty fault) framed is every none = absurd (none fault is)

-- and one that is refused is none
pub opens_none : (bytes : List ℕ) (reading : Reading) → IsFramed bytes → IsReading bytes reading
    → ((other : SegmentValue) (n : ℕ) → n ≤ length bytes → IsSegment (take n bytes) other → ⊥)
    → false ≡ opens_anew reading
opens_none bytes (read content) framed is none =
    absurd (none content.value (length bytes) (omega arith)
    (subst (λ (all : List ℕ). IsSegment all content.value) (sym (take_whole bytes)) is.segment))
opens_none bytes (faulty fault) framed is none = refl

state_more : (reading : Reading) (readings : List Reading)
    → has_state ModeChange (contents_in (reading ∷ readings))
    ≡ (opens_anew reading || has_state ModeChange (contents_in readings))
state_more (faulty fault) readings = refl
state_more (read content) readings = by (page_of content)
  where
    by : (page : Option Page)
        → list_any (λ (one : Page). eqb (state_number one.state) (state_number ModeChange))
        (cons_option page (filter_map page_of (contents_in readings)))
        ≡ (is_new_page page || has_state ModeChange (contents_in readings))
    by None = refl
    by (Some page) = refl

-- what the segments that are left say is what all say
abbrev pub IsAnewSo : (bytes rest : List ℕ) → Type 0
IsAnewSo bytes rest =
    (segments : List (List ℕ)) (readings : List Reading) → AreBytes segments bytes → AreReadings segments readings
    → (left : List (List ℕ)) × (others : List Reading) × AreBytes left rest × AreReadings left others
    × (has_state ModeChange (contents_in readings) ≡ has_state ModeChange (contents_in others))

pub anew_begin : (bytes : List ℕ) → IsAnewSo bytes bytes
anew_begin bytes segments readings are is = (segments, readings, are, is, refl)

-- the next of those left is read, and says what it says
record IsStep (all : Bool) (one behind : List ℕ) : Type 0 where
  left : List (List ℕ)
  reading : Reading
  others : List Reading
  are : AreBytes left behind
  framed : IsFramed one
  is : IsReading one reading
  rest_read : AreReadings left others
  says : all ≡ (opens_anew reading || has_state ModeChange (contents_in others))

step : (rest one behind : List ℕ) (left : List (List ℕ)) (readings : List Reading) → AreBytes left rest
    → AreReadings left readings
    → ((segments : List (List ℕ)) → AreBytes segments rest
    → (more : List (List ℕ)) × (segments ≡ one ∷ more) × AreBytes more behind)
    → IsStep (has_state ModeChange (contents_in readings)) one behind
step rest one behind left readings are is first =
    let next = first left are in
    by next.0 readings next.2
    (subst (λ (all : List (List ℕ)). AllByRecursion IsFramed all) next.1 are.framed)
    (subst (λ (all : List (List ℕ)). AreReadings all readings) next.1 is)
  where
    by : (more : List (List ℕ)) (readings : List Reading) → AreBytes more behind
        → AllByRecursion IsFramed (one ∷ more) → AreReadings (one ∷ more) readings
        → IsStep (has_state ModeChange (contents_in readings)) one behind
    by more [] are framed is = absurd is
    by more (reading ∷ others) are framed is = record {
      left = more;
      reading = reading;
      others = others;
      are = are;
      framed = framed.0;
      is = is.0;
      rest_read = is.1;
      says = state_more reading others;
    }

pub anew_more : (bytes rest one behind : List ℕ) → IsAnewSo bytes rest
    → ((segments : List (List ℕ)) → AreBytes segments rest
    → (more : List (List ℕ)) × (segments ≡ one ∷ more) × AreBytes more behind)
    → ((reading : Reading) → IsFramed one → IsReading one reading → false ≡ opens_anew reading)
    → IsAnewSo bytes behind
anew_more bytes rest one behind so first other segments readings are is =
    let left = so segments readings are is in
    let next = step rest one behind left.0 left.1 left.2 left.3 first in (
      next.left,
      next.others,
      next.are,
      next.rest_read,
      left.4 ∙ next.says
          ∙ ap (λ (b : Bool). b || has_state ModeChange (contents_in next.others))
          (sym (other next.reading next.framed next.is)),
    )

pub anew_found : (bytes rest one behind : List ℕ) (segments : List (List ℕ)) (readings : List Reading)
    → IsAnewSo bytes rest
    → ((segments : List (List ℕ)) → AreBytes segments rest
    → (more : List (List ℕ)) × (segments ≡ one ∷ more) × AreBytes more behind)
    → ((reading : Reading) → IsFramed one → IsReading one reading → true ≡ opens_anew reading)
    → AreBytes segments bytes → AreReadings segments readings
    → true ≡ has_state ModeChange (contents_in readings)
anew_found bytes rest one behind segments readings so first new are is =
    let left = so segments readings are is in
    let next = step rest one behind left.0 left.1 left.2 left.3 first in
    sym (left.4 ∙ next.says
    ∙ ap (λ (b : Bool). b || has_state ModeChange (contents_in next.others))
    (sym (new next.reading next.framed next.is)))

pub anew_end : (bytes rest : List ℕ) (segments : List (List ℕ)) (readings : List Reading) → IsAnewSo bytes rest
    → ((left : List (List ℕ)) → AreBytes left rest → left ≡ []) → AreBytes segments bytes
    → AreReadings segments readings → false ≡ has_state ModeChange (contents_in readings)
anew_end bytes rest segments readings so none are is =
    let left = so segments readings are is in
    sym (left.4 ∙ by left.0 left.1 (none left.0 left.2) left.3)
  where
    by : (left : List (List ℕ)) (others : List Reading) → left ≡ [] → AreReadings left others
        → has_state ModeChange (contents_in others) ≡ false
    by [] [] e is = refl
    by [] (reading ∷ others) e is = absurd is
    by (one ∷ left) others e is = absurd (cc)
