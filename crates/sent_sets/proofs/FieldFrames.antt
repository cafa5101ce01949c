-- A field that is segments, one after another, and the end marker has exactly these segments as its frames.
use Rattle.std.proofs.Common.{◌≡◌, ◌∙◌, ℕ, zero, suc, ◌+◌, ◌*◌, ◌<◌, ◌≤◌, true, false, eqb, ltb, Bool, List, [], ◌∷◌, ◌++◌, length, map, take, drop, Some, None, refl, sym, ap, arith, append_assoc, append-nil, length-append}
use Rattle.std.specs.Bool.{if◌then◌else◌}
use Rattle.std.specs.List.{AllByRecursion, concat}
use Rattle.std.proofs.Math.ListN.{get_or-append}
use Rattle.std.proofs.Math.Seq.{take-append_seam, drop-append_seam}
use Rattle.std.proofs.lemmas.Bool.Decides.{nat_tests}
use Rattle.stream_syntax.specs.SegmentTests.{frame_tests, segment_size}
use Rattle.stream_syntax.specs.declared.segment_fault.SegmentKind.TheVariants.{NoSync}
use Rattle.stream_syntax.specs.Tests.{byte_at, word_at, first_fault}
use Rattle.stream_syntax.specs.DataField.{Frame, segment, ends_segments, frames_by, frames_at, frames_within, frames_of}
use Rattle.decoder_model.specs.declared.pages.Pages.{Pages}
use Rattle.decoder_model.specs.Frames.{is_of_pages}
use Rattle.decoder_model.specs.Received.{IsFramed}

-- the bytes are one segment by their head: the sync byte and the length
pub record IsHead (bytes : List ℕ) : Type 0 where
  pub sync : byte_at 0 bytes ≡ 15
  pub size : length bytes ≡ segment_size bytes

-- and one that counts for these pages: a type with a page id that does
pub record IsHeaded (pages : Pages) (bytes : List ℕ) : Type 0 where
  pub head : IsHead bytes
  pub of_pages : is_of_pages pages bytes ≡ true

pub heads_of : (pages : Pages) (segments : List (List ℕ)) → AllByRecursion (IsHeaded pages) segments
    → AllByRecursion IsHead segments
heads_of pages [] h = tt
heads_of pages (bytes ∷ segments) h = (h.0.head, heads_of pages segments h.1)

-- so is a segment that passes the tests of its head and has no byte more
pub head_of_framed : (bytes : List ℕ) → IsFramed bytes → IsHead bytes
head_of_framed bytes h = record { sync = by (eqb (byte_at 0 bytes) 15) refl; size = h.whole }
  where
    by : (b : Bool) → eqb (byte_at 0 bytes) 15 ≡ b → byte_at 0 bytes ≡ 15
    by true is = grind (arith, nat_tests)
    by false is =
        absurd (let none = h.framed in
        let found : first_fault (frame_tests bytes) ≡ Some (record { place = 0; kind = NoSync }) = rw is refl in
        cc)

-- the front of bytes keeps its places
same_byte : (bytes rest : List ℕ) (place : ℕ) → place < length bytes
    → byte_at place (bytes ++ rest) ≡ byte_at place bytes
same_byte bytes rest place inside = get_or-append bytes rest 0 place inside

same_word : (bytes rest : List ℕ) → 6 ≤ length bytes → word_at 4 (bytes ++ rest) ≡ word_at 4 bytes
same_word bytes rest long =
    ap (λ high. high * 256 + byte_at 5 (bytes ++ rest)) (same_byte bytes rest 4 (omega arith))
    ∙ ap (λ low. byte_at 4 bytes * 256 + low) (same_byte bytes rest 5 (omega arith))

-- such a segment passes the tests of its head, whatever follows
no_frame_fault : (bytes rest : List ℕ) → IsHead bytes
    → first_fault (frame_tests (bytes ++ rest)) ≡ None
no_frame_fault bytes rest h =
    let size = h.size in
    let long : 6 ≤ length bytes = omega arith in
    let word = same_word bytes rest long in
    let sync : byte_at 0 (bytes ++ rest) ≡ 15 = same_byte bytes rest 0 (omega arith) ∙ h.sync in
    let all = length-append bytes rest in
    let one : eqb (byte_at 0 (bytes ++ rest)) 15 ≡ true = ap (λ byte. eqb byte 15) sync in
    let short : ltb (length (bytes ++ rest)) 6 ≡ false = grind (arith, nat_tests) in
    let cut : ltb (length (bytes ++ rest)) (6 + word_at 4 (bytes ++ rest)) ≡ false = grind (arith, nat_tests) in
    rw (one, short, cut) refl

pub framed_by_head : (bytes : List ℕ) → IsHead bytes → IsFramed bytes
framed_by_head bytes h = record {
  framed = ap (λ all. first_fault (frame_tests all)) (sym (append-nil bytes)) ∙ no_frame_fault bytes [] h;
  whole = h.size;
}

-- the frame at the front is the segment
front_frame : (behind : List ℕ → List Frame) (bytes rest : List ℕ) → IsHead bytes
    → frames_by behind (bytes ++ rest) (first_fault (frame_tests (bytes ++ rest))) ≡ segment bytes ∷ behind rest
front_frame behind bytes rest h =
    let size = h.size in
    let same : segment_size (bytes ++ rest) ≡ length bytes =
    ap (λ word. 6 + word) (same_word bytes rest (omega arith)) ∙ sym size in
    ap (frames_by behind (bytes ++ rest)) (no_frame_fault bytes rest h)
    ∙ ap (λ n. segment (take n (bytes ++ rest)) ∷ behind (drop n (bytes ++ rest))) same
    ∙ ap (λ front. segment front ∷ behind (drop (length bytes) (bytes ++ rest))) (take-append_seam bytes rest)
    ∙ ap (λ left. segment bytes ∷ behind left) (drop-append_seam bytes rest)

at_front : (behind : List ℕ → List Frame) (bytes rest : List ℕ) → IsHead bytes
    → frames_at behind (bytes ++ rest) ≡ segment bytes ∷ behind rest
at_front behind [] rest h = absurd (omega (arith, h.size))
at_front behind (first ∷ bytes) rest h =
    let sync = h.sync in
    let other : ends_segments ((first ∷ bytes) ++ rest) ≡ false = ap (λ byte. eqb byte 0xFF) sync in
    ap (λ end. if end then []
    else frames_by behind ((first ∷ bytes) ++ rest) (first_fault (frame_tests ((first ∷ bytes) ++ rest)))) other
    ∙ front_frame behind (first ∷ bytes) rest h

within : (most : ℕ) (segments : List (List ℕ)) (after : List ℕ)
    → AllByRecursion IsHead segments → length segments ≤ most
    → frames_within most (concat segments ++ 0xFF ∷ after) ≡ map segment segments
within zero [] after h many = refl
within (suc most) [] after h many = refl
within zero (bytes ∷ segments) after h many = absurd (omega arith)
within (suc most) (bytes ∷ segments) after h many =
    ap (frames_at (frames_within most)) (append_assoc bytes (concat segments) (0xFF ∷ after))
    ∙ at_front (frames_within most) bytes (concat segments ++ 0xFF ∷ after) h.0
    ∙ ap (λ frames. segment bytes ∷ frames) (within most segments after h.1 (omega arith))

-- there are fewer segments than bytes
fewer : (segments : List (List ℕ)) → AllByRecursion IsHead segments
    → length segments ≤ length (concat segments)
fewer [] h = omega arith
fewer (bytes ∷ segments) h =
    let size = h.0.size in omega (arith, fewer segments h.1, length-append bytes (concat segments))

-- the frames of the field are the segments
pub frames_of_field : (segments : List (List ℕ)) (after : List ℕ)
    → AllByRecursion IsHead segments
    → frames_of (concat segments ++ 0xFF ∷ after) ≡ map segment segments
unfolding frames_of
frames_of_field segments after h =
    within (length (concat segments ++ 0xFF ∷ after)) segments after h
    (omega (arith, fewer segments h, length-append (concat segments) (0xFF ∷ after)))
