-- One frame behind those of an open set.
use Rattle.std.proofs.Common.{◌≡◌, ◌∙◌, ℕ, ◌+◌, ◌<◌, ◌≤◌, Bool, true, false, ◌||◌, ◌==◌, ltb, cond, List, [], ◌∷◌, ◌++◌, length, Some, None, refl, sym, ap, subst, arith, append-nil, length-append}
use Rattle.std.specs.List.{AllByRecursion, concat, sum_by, list_any}
use Rattle.std.specs.Option.{option_or, is_some}
use Rattle.std.proofs.lemmas.Bool.{or_parts}
use Rattle.std.proofs.lemmas.Bool.Decides.{nat_tests}
use Rattle.std.proofs.lemmas.List.Folds.{list_any-append, concat-append}
use Rattle.std.proofs.lemmas.List.Sums.{sum_by-append}
use Rattle.stream_syntax.specs.Tests.{byte_at}
use Rattle.stream_syntax.specs.DataField.{Frame, segment, broken}
use Rattle.stream_syntax.specs.declared.segment_fault.SegmentFault.{SegmentFault}
use Rattle.decoder_model.specs.Frames.{segments_in, bytes_in, is_end, fault_of}
use Rattle.decoder_model.specs.Received.{IsFramed}
use Rattle.decoder_model.specs.Sets.{is_ended, first_fault_in, excess_in}
use Rattle.decoder_model.specs.declared.set_fault.SetFault.TheVariants.{Segment, SetTooLong}
use Rattle.decoder_model.proofs.Growth.{segments-append}
use Rattle.decoder_model.proofs.Lists.{all-append}
use Rattle.display_sets.specs.Filling.{AreBytes, AreOpen, EndsSet}

-- ---- sets that have not ended

abbrev is_fault : Frame → Bool
is_fault frame = is_some (fault_of frame)

-- none of the three ends has come
pub record IsQuiet (coded : ℕ) (frames : List Frame) : Type 0 where
  pub no_end : list_any is_end frames ≡ false
  pub no_fault : list_any is_fault frames ≡ false
  pub fits : bytes_in frames ≤ coded

pub quiet : (coded : ℕ) (frames : List Frame) → is_ended coded frames ≡ false → IsQuiet coded frames
quiet coded frames e =
    let parts = or_parts (list_any is_end frames || list_any is_fault frames) (ltb coded (bytes_in frames)) e in
    let first = or_parts (list_any is_end frames) (list_any is_fault frames) parts.0 in
    let small = parts.1 in
    record { no_end = first.0; no_fault = first.1; fits = grind (arith, nat_tests) }

-- without a fault the first fault is that of what follows
first_fault-append : (frames more : List Frame) → list_any is_fault frames ≡ false
    → first_fault_in (frames ++ more) ≡ first_fault_in more
first_fault-append [] more e = refl
first_fault-append (segment bytes ∷ frames) more e = first_fault-append frames more e
first_fault-append (broken fault ∷ frames) more e = absurd (cc)

length-concat : (lists : List (List ℕ)) → length (concat lists) ≡ sum_by length lists
length-concat [] = refl
length-concat (xs ∷ lists) =
    let sum : sum_by length (xs ∷ lists) ≡ (0 + length xs) + sum_by length lists =
    sum_by-append length (xs ∷ []) lists in
    let rest = length-concat lists in
    let joined = length-append xs (concat lists) in
    omega arith

bytes_in-append : (frames more : List Frame) → bytes_in (frames ++ more) ≡ bytes_in frames + bytes_in more
bytes_in-append frames more =
    ap (sum_by length) (segments-append frames more) ∙ sum_by-append length (segments_in frames) (segments_in more)

pub length_of_bytes : (frames : List Frame) (bytes : List ℕ) → AreBytes (segments_in frames) bytes
    → length bytes ≡ bytes_in frames
length_of_bytes frames bytes are =
    ap (λ (all : List ℕ). length all) are.joined ∙ length-concat (segments_in frames)

-- ---- the next frame

or_first : (a b c : Bool) → a ≡ true → (a || b || c) ≡ true
or_first a b c e = rw e refl

or_second : (a b c : Bool) → b ≡ true → (a || b || c) ≡ true
or_second true b c e = refl
or_second false b c e = rw e refl

or_third : (a b c : Bool) → c ≡ true → (a || b || c) ≡ true
or_third true b c e = refl
or_third false true c e = refl
or_third false false c e = e

or_none : (a b c : Bool) → a ≡ false → b ≡ false → c ≡ false → (a || b || c) ≡ false
or_none a b c e f g = rw (e, f, g) refl

any_last : {X : Type 0} (test : X → Bool) (xs : List X) (last : X) → list_any test xs ≡ false
    → list_any test (xs ++ last ∷ []) ≡ list_any test (last ∷ [])
any_last test xs last e = list_any-append test xs (last ∷ []) ∙ ap (λ b. b || list_any test (last ∷ [])) e

-- a fault ends the set
pub ends_broken : (coded : ℕ) (frames : List Frame) (fault : SegmentFault) (bytes content : List ℕ)
    → AreOpen coded frames bytes → EndsSet coded (frames ++ broken fault ∷ []) content (Some (Segment fault))
ends_broken coded frames fault bytes content so_far =
    let calm = quiet coded frames so_far.no_end in
    record {
      ended =
          or_second (list_any is_end (frames ++ broken fault ∷ []))
          (list_any is_fault (frames ++ broken fault ∷ [])) (ltb coded (bytes_in (frames ++ broken fault ∷ [])))
          (any_last is_fault frames (broken fault) calm.no_fault);
      fault_is =
          sym (ap (λ found. option_or found (excess_in coded (frames ++ broken fault ∷ [])))
          (first_fault-append frames (broken fault ∷ []) calm.no_fault));
      bytes_are = tt;
    }

other_kind : (kind : ℕ) → (kind ≡ 0x80 → ⊥) → (kind == 0x80 || false) ≡ false
other_kind kind other = let no : (kind == 0x80) ≡ false = grind (arith, nat_tests) in rw no refl

module _ (coded : ℕ) (frames : List Frame) (bytes part : List ℕ) (so_far : AreOpen coded frames bytes) where
  size_is : bytes_in (frames ++ segment part ∷ []) ≡ length bytes + length part
  size_is =
      let long = length_of_bytes frames bytes so_far.bytes_are in
      let sum = bytes_in-append frames (segment part ∷ []) in
      let alone : bytes_in (segment part ∷ []) ≡ length part = omega arith in
      omega arith

  no_fault_yet : first_fault_in (frames ++ segment part ∷ []) ≡ None
  no_fault_yet = first_fault-append frames (segment part ∷ []) (quiet coded frames so_far.no_end).no_fault

  bytes_more : IsFramed part → AreBytes (segments_in (frames ++ segment part ∷ [])) (bytes ++ part)
  bytes_more framed = record {
    joined =
        ap (λ front. front ++ part) so_far.bytes_are.joined
        ∙ ap (λ last. concat (segments_in frames) ++ last) (sym (append-nil part))
        ∙ sym (concat-append (segments_in frames) (part ∷ []))
        ∙ sym (ap concat (segments-append frames (segment part ∷ [])));
    framed =
        subst (AllByRecursion IsFramed) (sym (segments-append frames (segment part ∷ [])))
        (all-append IsFramed (segments_in frames) (part ∷ []) so_far.bytes_are.framed (framed, tt));
  }

  -- a segment with which the set has too many bytes
  pub ends_too_long : (content : List ℕ) (size : ℕ) → size ≡ length bytes + length part → coded < size
      → EndsSet coded (frames ++ segment part ∷ []) content (Some (SetTooLong size))
  ends_too_long content size is more =
      let all : bytes_in (frames ++ segment part ∷ []) ≡ size = size_is ∙ sym is in
      let over : ltb coded (bytes_in (frames ++ segment part ∷ [])) ≡ true = grind (arith, nat_tests) in
      record {
        ended =
            or_third (list_any is_end (frames ++ segment part ∷ []))
            (list_any is_fault (frames ++ segment part ∷ [])) (ltb coded (bytes_in (frames ++ segment part ∷ [])))
            over;
        fault_is = sym (ap (λ found. option_or found (excess_in coded (frames ++ segment part ∷ []))) no_fault_yet
            ∙ ap (λ b. cond b (Some (SetTooLong (bytes_in (frames ++ segment part ∷ [])))) None) over
            ∙ ap (λ n. Some (SetTooLong n)) all);
        bytes_are = tt;
      }

  fits : length bytes + length part ≤ coded → ltb coded (bytes_in (frames ++ segment part ∷ [])) ≡ false
  fits small = let all = size_is in grind (arith, nat_tests)

  -- the end segment
  pub ends_whole : (byte : ℕ) → byte ≡ byte_at 1 part → byte ≡ 0x80 → length bytes + length part ≤ coded
      → IsFramed part → EndsSet coded (frames ++ segment part ∷ []) (bytes ++ part) None
  ends_whole byte is end small framed =
      let calm = quiet coded frames so_far.no_end in
      let last : list_any is_end (segment part ∷ []) ≡ true = rw (← is, end) refl in
      record {
        ended =
            or_first (list_any is_end (frames ++ segment part ∷ []))
            (list_any is_fault (frames ++ segment part ∷ [])) (ltb coded (bytes_in (frames ++ segment part ∷ [])))
            (any_last is_end frames (segment part) calm.no_end ∙ last);
        fault_is =
            sym (ap (λ found. option_or found (excess_in coded (frames ++ segment part ∷ []))) no_fault_yet
            ∙ ap (λ b. cond b (Some (SetTooLong (bytes_in (frames ++ segment part ∷ [])))) None) (fits small));
        bytes_are = bytes_more framed;
      }

  -- another segment
  pub stays_open : (byte_at 1 part ≡ 0x80 → ⊥) → length bytes + length part ≤ coded → IsFramed part
      → AreOpen coded (frames ++ segment part ∷ []) (bytes ++ part)
  stays_open other small framed =
      let calm = quiet coded frames so_far.no_end in
      let last : list_any is_end (segment part ∷ []) ≡ false = other_kind (byte_at 1 part) other in
      record {
        no_end =
            or_none (list_any is_end (frames ++ segment part ∷ []))
            (list_any is_fault (frames ++ segment part ∷ [])) (ltb coded (bytes_in (frames ++ segment part ∷ [])))
            (any_last is_end frames (segment part) calm.no_end ∙ last)
            (any_last is_fault frames (segment part) calm.no_fault) (fits small);
        bytes_are = bytes_more framed;
      }
