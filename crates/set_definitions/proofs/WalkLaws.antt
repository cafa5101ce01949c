-- The segments of a display set, one after the other.
use Rattle.std.proofs.Common.{◌≡◌, ◌∙◌, ℕ, ◌+◌, ◌*◌, ◌<◌, ◌≤◌, ◌||◌, true, false, eqb, ltb, Bool, List, [], ◌∷◌, ◌++◌, length, take, drop, Some, None, refl, sym, ap, subst, arith, length-append}
use Rattle.std.specs.List.{concat}
use Rattle.std.proofs.Math.ListN.{get_or-append}
use Rattle.std.proofs.Math.Seq.{take-append_seam, drop-append_seam}
use Rattle.std.proofs.lemmas.Bool.Decides.{nat_tests}
use Rattle.decoder_model.specs.Received.{IsFramed}
use Rattle.display_sets.specs.Filling.{AreBytes}
use Rattle.stream_syntax.specs.SegmentTests.{frame_tests}
use Rattle.stream_syntax.specs.Tests.{byte_at, first_fault, word_at}
use Rattle.stream_syntax.specs.declared.segment_fault.SegmentFault.{SegmentFault}
use Rattle.stream_syntax.specs.declared.segment_fault.SegmentKind.TheVariants.{NoSync}
use Rattle.set_definitions.specs.Definitions.{begins_epoch, is_mode_change}

-- ---- the first segment

sync_of : (bytes : List ℕ) → IsFramed bytes → byte_at 0 bytes ≡ 15
sync_of bytes framed = by (eqb (byte_at 0 bytes) 15) refl
  where
    by : (b : Bool) → eqb (byte_at 0 bytes) 15 ≡ b → byte_at 0 bytes ≡ 15
    by true is = grind (arith, nat_tests)
    by false is =
        absurd (let none = framed.framed in
        let found : first_fault (frame_tests bytes) ≡ Some (record { place = 0; kind = NoSync }) = rw is refl in
        cc)

same_byte : (bytes rest : List ℕ) (place : ℕ) → place < length bytes
    → byte_at place (bytes ++ rest) ≡ byte_at place bytes
same_byte bytes rest place inside = get_or-append bytes rest 0 place inside

same_word : (bytes rest : List ℕ) → 6 ≤ length bytes → word_at 4 (bytes ++ rest) ≡ word_at 4 bytes
same_word bytes rest long =
    ap (λ high. high * 256 + byte_at 5 (bytes ++ rest)) (same_byte bytes rest 4 (omega arith))
    ∙ ap (λ low. byte_at 4 bytes * 256 + low) (same_byte bytes rest 5 (omega arith))

-- a segment passes the tests of its head, whatever follows
no_fault : (bytes rest : List ℕ) → IsFramed bytes → first_fault (frame_tests (bytes ++ rest)) ≡ None
no_fault bytes rest framed =
    let size = framed.whole in
    let long : 6 ≤ length bytes = omega arith in
    let word = same_word bytes rest long in
    let sync : byte_at 0 (bytes ++ rest) ≡ 15 = same_byte bytes rest 0 (omega arith) ∙ sync_of bytes framed in
    let all = length-append bytes rest in
    let one : eqb (byte_at 0 (bytes ++ rest)) 15 ≡ true = ap (λ byte. eqb byte 15) sync in
    let short : ltb (length (bytes ++ rest)) 6 ≡ false = grind (arith, nat_tests) in
    let cut : ltb (length (bytes ++ rest)) (6 + word_at 4 (bytes ++ rest)) ≡ false = grind (arith, nat_tests) in
    rw (one, short, cut) refl

some_fault : (fault : SegmentFault) → Some fault ≡ None → ⊥
some_fault fault e = cc

-- bytes that begin no segment by their head have none
pub no_segment : (bytes : List ℕ) (segments : List (List ℕ)) (fault : SegmentFault)
    → Some fault ≡ first_fault (frame_tests bytes) → AreBytes segments bytes → segments ≡ []
no_segment bytes [] fault is are = refl
no_segment bytes (one ∷ segments) fault is are =
    absurd (some_fault fault
    (is ∙ ap (λ (all : List ℕ). first_fault (frame_tests all)) are.joined
    ∙ no_fault one (concat segments) are.framed.0))

none_fault : (bytes : List ℕ) → bytes ≡ [] → None ≡ first_fault (frame_tests bytes) → ⊥
none_fault bytes empty is =
    let found : None ≡ first_fault (frame_tests []) =
    subst (λ (all : List ℕ). None ≡ first_fault (frame_tests all)) empty is in
    cc

-- the segment that is cut off is the first
pub first_cut : (bytes front back : List ℕ) (segments : List (List ℕ)) (whole : ℕ)
    → None ≡ first_fault (frame_tests bytes) → whole ≡ 6 + word_at 4 bytes → front ≡ take whole bytes
    → back ≡ drop whole bytes → AreBytes segments bytes
    → (rest : List (List ℕ)) × (segments ≡ front ∷ rest) × AreBytes rest back
first_cut bytes front back [] whole passes size f b are = absurd (none_fault bytes are.joined passes)
first_cut bytes front back (one ∷ segments) whole passes size f b are =
    let own = are.framed.0.whole in
    let word : word_at 4 bytes ≡ word_at 4 one =
    ap (word_at 4) are.joined ∙ same_word one (concat segments) (omega arith) in
    let long : whole ≡ length one = omega (arith, size, word, own) in
    let front_is : front ≡ one =
    f ∙ ap (λ (n : ℕ). take n bytes) long ∙ ap (take (length one)) are.joined
    ∙ take-append_seam one (concat segments) in
    let back_is : back ≡ concat segments =
    b ∙ ap (λ (n : ℕ). drop n bytes) long ∙ ap (drop (length one)) are.joined
    ∙ drop-append_seam one (concat segments) in (
      segments,
      ap (λ (first : List ℕ). first ∷ segments) (sym front_is),
      record { joined = back_is; framed = are.framed.1 },
    )

-- ---- a mode change

-- an epoch begins with the segments where it begins with those that are left
abbrev pub IsEpochSo : List ℕ → List ℕ → Type 0
IsEpochSo bytes rest =
    (segments : List (List ℕ)) → AreBytes segments bytes
    → (left : List (List ℕ)) × AreBytes left rest × (begins_epoch segments ≡ begins_epoch left)

-- the first segment of bytes, and those behind it
abbrev pub IsCut : List ℕ → List ℕ → List ℕ → Type 0
IsCut bytes one behind =
    (segments : List (List ℕ)) → AreBytes segments bytes
    → (more : List (List ℕ)) × (segments ≡ one ∷ more) × AreBytes more behind

pub epoch_begin : (bytes : List ℕ) → IsEpochSo bytes bytes
epoch_begin bytes segments are = (segments, are, refl)

pub epoch_more : (bytes rest one behind : List ℕ) → IsEpochSo bytes rest → IsCut rest one behind
    → is_mode_change one ≡ false → IsEpochSo bytes behind
epoch_more bytes rest one behind so first none segments are =
    let left = so segments are in
    let next = first left.0 left.1 in (
      next.0,
      next.2,
      left.2 ∙ ap begins_epoch next.1 ∙ ap (λ (b : Bool). b || begins_epoch next.0) none,
    )

pub epoch_found : (bytes rest one behind : List ℕ) → IsEpochSo bytes rest → IsCut rest one behind
    → is_mode_change one ≡ true → (segments : List (List ℕ)) → AreBytes segments bytes
    → true ≡ begins_epoch segments
epoch_found bytes rest one behind so first found segments are =
    let left = so segments are in
    let next = first left.0 left.1 in
    sym (left.2 ∙ ap begins_epoch next.1 ∙ ap (λ (b : Bool). b || begins_epoch next.0) found)

pub epoch_end : (bytes rest : List ℕ) → IsEpochSo bytes rest
    → ((segments : List (List ℕ)) → AreBytes segments rest → segments ≡ []) → (segments : List (List ℕ))
    → AreBytes segments bytes → false ≡ begins_epoch segments
epoch_end bytes rest so none segments are =
    let left = so segments are in
    sym (left.2 ∙ ap begins_epoch (none left.0 left.1))
