-- Why two streams that were gone through are not joined, and that they can be where no test fails.
use Rattle.std.proofs.Common.{◌≡◌, ◌∙◌, ℕ, ◌+◌, ◌-◌, ◌<◌, ◌≤◌, Bool, true, false, cond, List, [], ◌∷◌, ◌++◌, filter, reverse, Option, Some, None, refl, sym, ap, arith}
use Rattle.std.specs.Prelude.{nat_le}
use Rattle.std.specs.Option.{option_or}
use Rattle.std.proofs.lemmas.Bool.Decides.{nat_tests}
use Rattle.std.proofs.lemmas.List.{reverse-append}
use Rattle.sent_sets.specs.RawSets.{RawSet}
use Rattle.splice.specs.KeptSets.{kept_sets}
use Rattle.splice.specs.SplicedSets.{Streams, first_reception, is_before, second_reception}
use Rattle.splice.specs.SplicedStream.{AreBothTaken, AreGood, HasDistance, IsLastBefore}
use Rattle.splice.specs.StreamTests.{BeginsAnew}
use Rattle.splice.specs.Private.JoinedSets.{HasSets, IsJoinedOf, IsLastTime}
use Rattle.splice.specs.Private.Parts.{placed}
use Rattle.splice.specs.Private.Refusals.{AreSurveyed, IsRefusalOf, fault_of_distance, fault_of_findings, fault_of_last, fault_of_seam, fault_of_surveys}
use Rattle.splice.specs.Private.Surveys.{IsGoodStream, IsSurveyed}
use Rattle.splice.specs.declared.found.Finding.{Finding}
use Rattle.splice.specs.declared.found.Finding.TheVariants.{Good, Unshown, Lost}
use Rattle.splice.specs.declared.found.Found.{Found}
use Rattle.splice.specs.declared.found.Survey.{Survey}
use Rattle.splice.specs.declared.found.Survey.TheVariants.{Refused, Whole}
use Rattle.splice.specs.declared.joined.Joined.{Joined}
use Rattle.splice.specs.declared.limits.TheConstants.{TOO_CLOSE, TOO_FAR}
use Rattle.splice.specs.declared.part.Part.TheVariants.{Before, From}
use Rattle.splice.specs.declared.splice_fault.SpliceFault.TheVariants as fault
use Rattle.splice.specs.declared.splice_words.Splicing.{Splicing}

-- ---- the last set before the cut

-- a list ends with one item
same_last : (before other : List RawSet) (set last : RawSet) → before ++ set ∷ [] ≡ other ++ last ∷ [] → set ≡ last
same_last before other set last e =
    let turned : set ∷ reverse before ≡ last ∷ reverse other =
    sym (reverse-append before (set ∷ [])) ∙ ap reverse e ∙ reverse-append other (last ∷ []) in
    cc

not_ended : (before : List RawSet) (set : RawSet) → [] ≡ before ++ set ∷ [] → ⊥
not_ended [] set e = cc
not_ended (one ∷ before) set e = cc

-- the sets of the first stream that are sent
abbrev sent_first : Splicing → Streams → List RawSet
sent_first splicing streams = filter (is_before splicing.cut) (kept_sets (first_reception splicing) streams.first)

last_before : (splicing : Splicing) (streams : Streams) (last : ℕ)
    → IsLastTime (sent_first splicing streams) (Some last) → IsLastBefore splicing streams last
last_before splicing streams last is = record { before = is.0; set = is.1; parts = is.2; time = is.3 }

only_last : (splicing : Splicing) (streams : Streams) (last other : ℕ)
    → IsLastTime (sent_first splicing streams) (Some last) → IsLastBefore splicing streams other → other ≡ last
only_last splicing streams last other is too =
    too.time ∙ ap (λ (set : RawSet). set.time) (same_last too.before is.0 too.set is.1 (sym too.parts ∙ is.2))
    ∙ sym is.3

never_last : (splicing : Splicing) (streams : Streams) (other : ℕ)
    → IsLastTime (sent_first splicing streams) None → IsLastBefore splicing streams other → ⊥
never_last splicing streams other none too = not_ended too.before too.set (sym none ∙ too.parts)

-- ---- both streams are good

-- what is known where nothing keeps either stream from being joined
record AreBothGood (splicing : Splicing) (streams : Streams) (second : Found) (last : Option ℕ) (joined : Joined)
    : Type 0 where
  good : AreGood splicing streams
  begins : second.anew ≡ true → BeginsAnew (second_reception splicing) streams.second
  only : BeginsAnew (second_reception splicing) streams.second → second.anew ≡ true
  last_is : IsLastTime (sent_first splicing streams) last
  joined_are : IsJoinedOf
      (sent_first splicing streams ++ placed (From splicing.cut) (kept_sets (second_reception splicing) streams.second))
      joined

-- and the second begins with a mode change
record IsSeam (splicing : Splicing) (streams : Streams) (last : Option ℕ) (joined : Joined) : Type 0 where
  good : AreGood splicing streams
  anew : BeginsAnew (second_reception splicing) streams.second
  last_is : IsLastTime (sent_first splicing streams) last
  joined_are : IsJoinedOf
      (sent_first splicing streams ++ placed (From splicing.cut) (kept_sets (second_reception splicing) streams.second))
      joined

can_be_joined : (splicing : Splicing) (streams : Streams) (last : Option ℕ) (joined : Joined)
    → IsSeam splicing streams last joined → HasDistance splicing streams
    → IsRefusalOf splicing streams joined None
can_be_joined splicing streams last joined seam distance =
    (record { good = seam.good; anew = seam.anew; distance = distance }, seam.joined_are)

by_distance : (splicing : Splicing) (streams : Streams) (last : ℕ) (joined : Joined)
    → IsSeam splicing streams (Some last) joined
    → IsRefusalOf splicing streams joined (fault_of_distance splicing.cut last)
by_distance splicing streams last joined seam =
    by (nat_le (splicing.cut - last) TOO_CLOSE) (nat_le TOO_FAR (splicing.cut - last)) refl refl
  where
    by : (close far : Bool) → nat_le (splicing.cut - last) TOO_CLOSE ≡ close
        → nat_le TOO_FAR (splicing.cut - last) ≡ far
        → IsRefusalOf splicing streams joined
        (cond close (Some (fault.CutTooClose last)) (cond far (Some (fault.CutTooFar last)) None))
    by true far is far_is =
        let close : splicing.cut ≤ last + TOO_CLOSE = grind (arith, nat_tests) in
        (seam.good, seam.anew, last_before splicing streams last seam.last_is, close)
    by false true is far_is =
        let far : last + TOO_FAR ≤ splicing.cut = grind (arith, nat_tests) in
        (seam.good, seam.anew, last_before splicing streams last seam.last_is, far)
    by false false is far_is =
        let close : last + TOO_CLOSE < splicing.cut = grind (arith, nat_tests) in
        let far : splicing.cut < last + TOO_FAR = grind (arith, nat_tests) in
        can_be_joined splicing streams (Some last) joined seam
        (λ other too. let same = only_last splicing streams last other seam.last_is too in
        (omega (arith, same, close), omega (arith, same, far)))

by_last : (splicing : Splicing) (streams : Streams) (last : Option ℕ) (joined : Joined)
    → IsSeam splicing streams last joined
    → IsRefusalOf splicing streams joined (fault_of_last splicing.cut last)
by_last splicing streams None joined seam =
    can_be_joined splicing streams None joined seam
    (λ other too. absurd (never_last splicing streams other seam.last_is too))
by_last splicing streams (Some last) joined seam = by_distance splicing streams last joined seam

by_seam : (splicing : Splicing) (streams : Streams) (second : Found) (last : Option ℕ) (joined : Joined)
    (anew : Bool) → second.anew ≡ anew → AreBothGood splicing streams second last joined
    → IsRefusalOf splicing streams joined (fault_of_seam splicing.cut anew last)
by_seam splicing streams second last joined true is both =
    by_last splicing streams last joined (record {
      good = both.good;
      anew = both.begins is;
      last_is = both.last_is;
      joined_are = both.joined_are;
    })
by_seam splicing streams second last joined false is both =
    (both.good, λ begins. let never : false ≡ true = sym is ∙ both.only begins in absurd (cc))

-- ---- what was found

-- the second stream was gone through behind whatever sets were kept
abbrev IsSecondSurveyed : Splicing → Streams → Joined → Joined → Found → Finding → Type 0
IsSecondSurveyed splicing streams between joined second finding =
    (earlier : List RawSet) → IsJoinedOf earlier between
    → IsSurveyed (second_reception splicing) (From splicing.cut) earlier streams.second second joined finding

-- both streams were gone through, and each packet taken
record AreFound (splicing : Splicing) (streams : Streams) (first second : Found) (last : Option ℕ)
    (between joined : Joined) (one other : Finding) : Type 0 where
  taken : AreBothTaken splicing streams
  first_is : IsSurveyed (first_reception splicing) (Before splicing.cut) [] streams.first first between one
  last_is : (sets : List RawSet) → IsJoinedOf sets between → IsLastTime sets last
  second_is : IsSecondSurveyed splicing streams between joined second other

by_findings : (splicing : Splicing) (streams : Streams) (first second : Found) (last : Option ℕ)
    (between joined : Joined) (one other : Finding)
    → AreFound splicing streams first second last between joined one other
    → IsRefusalOf splicing streams joined
    (option_or (fault_of_findings one other) (fault_of_seam splicing.cut second.anew last))
by_findings splicing streams first second last between joined (Lost packet) other found =
    (found.taken, found.first_is.0)
by_findings splicing streams first second last between joined (Unshown set) (Lost packet) found =
    let kept : HasSets between = found.first_is.2 in
    (found.taken, (found.first_is.0, (found.second_is kept.0 kept.1).0))
by_findings splicing streams first second last between joined Good (Lost packet) found =
    let good : IsGoodStream (first_reception splicing) (Before splicing.cut) [] streams.first first between =
    found.first_is in
    (found.taken, (good.lossless, (found.second_is (sent_first splicing streams) good.joined_are).0))
by_findings splicing streams first second last between joined (Unshown set) (Unshown place) found =
    let kept : HasSets between = found.first_is.2 in (
      record { taken = found.taken; first = found.first_is.0; second = (found.second_is kept.0 kept.1).0 },
      found.first_is.1,
    )
by_findings splicing streams first second last between joined (Unshown set) Good found =
    let kept : HasSets between = found.first_is.2 in
    let other : IsGoodStream (second_reception splicing) (From splicing.cut) kept.0 streams.second second joined =
    found.second_is kept.0 kept.1 in (
      record { taken = found.taken; first = found.first_is.0; second = other.lossless },
      found.first_is.1,
    )
by_findings splicing streams first second last between joined Good (Unshown set) found =
    let good : IsGoodStream (first_reception splicing) (Before splicing.cut) [] streams.first first between =
    found.first_is in
    let other = found.second_is (sent_first splicing streams) good.joined_are in (
      record { taken = found.taken; first = good.lossless; second = other.0 },
      (good.shown, other.1),
    )
by_findings splicing streams first second last between joined Good Good found =
    let good : IsGoodStream (first_reception splicing) (Before splicing.cut) [] streams.first first between =
    found.first_is in
    let other : IsGoodStream (second_reception splicing) (From splicing.cut) (sent_first splicing streams)
    streams.second second joined = found.second_is (sent_first splicing streams) good.joined_are in
    by_seam splicing streams second last joined second.anew refl (record {
      good = record {
        whole = record { taken = found.taken; first = good.lossless; second = other.lossless };
        first = good.shown;
        second = other.shown;
      };
      begins = other.begins;
      only = other.only;
      last_is = found.last_is (sent_first splicing streams) good.joined_are;
      joined_are = other.joined_are;
    })

-- the first test that fails is why, and where none does the streams can be joined
pub by_surveys : (splicing : Splicing) (streams : Streams) (joined : Joined) (first second : Survey)
    (last : Option ℕ) → AreSurveyed splicing streams first second last joined
    → IsRefusalOf splicing streams joined (fault_of_surveys splicing.cut first second last)
by_surveys splicing streams joined (Refused packet reason) second last are = are.first_is
by_surveys splicing streams joined (Whole first) (Refused packet reason) last are = (are.first_is.0, are.second_is)
by_surveys splicing streams joined (Whole first) (Whole second) last are =
    by_findings splicing streams first second last are.between joined first.finding second.finding (record {
      taken = (are.first_is.0, are.second_is.0);
      first_is = are.first_is.1 [] are.nothing;
      last_is = are.last_is;
      second_is = are.second_is.1;
    })
