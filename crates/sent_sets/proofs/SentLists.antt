-- The sets that are sent, one by one, as a receiver of some pages gets them: those with segments that count, whole and
-- in order.
use Rattle.std.proofs.Common.{◌≡◌, ◌∙◌, ℕ, ◌%◌, ◌≤◌, inl, Bool, true, false, cond, List, [], ◌∷◌, ◌++◌, length, map, filter, refl, sym, ap, subst, arith}
use Rattle.std.specs.Prelude.{sum}
use Rattle.std.specs.List.{AllByRecursion, AllZip, sum_by}
use Rattle.std.specs.Bool.{if◌then◌else◌}
use Rattle.std.proofs.lemmas.Bool.{ne_eqb}
use Rattle.sub_base.specs.Lists.{all_of, has_some}
use Rattle.stream_syntax.specs.Cutting.{IsUnit}
use Rattle.stream_syntax.specs.declared.wire.TheConstants.{TIME_ROUND}
use Rattle.decoder_model.specs.declared.pages.Pages.{Pages}
use Rattle.decoder_model.specs.Sets.{whole}
use Rattle.decoder_model.proofs.Lists.{all-append}
use Rattle.sent_sets.specs.RawSets.{RawSet, AreRawPackets, IsSendable, counted_in, has_counted, EndsLast, HaveTimesApart, IsDeliveryOf}
use Rattle.sent_sets.proofs.RawUnits.{both_zip, IsRawSent, counted_segments, IsOpen, raw_timed, known_packets}
use Rattle.sent_sets.proofs.Runs.{HaveDifferentTimes}
use Rattle.sent_sets.proofs.SetEnds.{EndsAtLast, IsHandable, delivered}
use Rattle.sent_sets.proofs.Units.{SetUnit, TimedSet, timed, timed_units, segments_of_units, size_of_units, all_segments, CarriesUnit, has_segments, counted_set, counted_sets}

-- ---- all sets

-- the sets in a receiver, one for each
abbrev pub AreRawSent : Pages → List RawSet → List (List (List ℕ)) → List TimedSet → Type 0
AreRawSent pages [] [] [] = Unit {0}
AreRawSent pages [] [] (one ∷ sent) = ⊥
AreRawSent pages [] (packets ∷ units) sent = ⊥
AreRawSent pages (set ∷ sets) [] sent = ⊥
AreRawSent pages (set ∷ sets) (packets ∷ units) [] = ⊥
AreRawSent pages (set ∷ sets) (packets ∷ units) (one ∷ sent) =
    IsRawSent pages set packets one × AreRawSent pages sets units sent

abbrev pub raw_sent : (pages : Pages) (sets : List RawSet) (units : List (List (List ℕ)))
    → AllZip AreRawPackets sets units → List TimedSet
raw_sent pages [] [] carried = []
raw_sent pages [] (packets ∷ units) carried = []
raw_sent pages (set ∷ sets) [] carried = []
raw_sent pages (set ∷ sets) (packets ∷ units) carried =
    raw_timed pages set carried.0.units ∷ raw_sent pages sets units carried.1

-- what is known of all of their PES packets
pub record AreKnownSets (coded : ℕ) (pages : Pages) (sets : List RawSet) (units : List (List (List ℕ)))
    (sent : List TimedSet) : Type 0 where
  pub are : AreRawSent pages sets units sent
  pub open_sets : AllByRecursion (IsOpen coded) sent
  pub carry : AllZip (CarriesUnit pages) (all_of units) (timed_units sent)
  pub units_are : AllByRecursion (IsUnit coded) (all_of units)

pub known_sets : (coded : ℕ) (pages : Pages) (sets : List RawSet) (units : List (List (List ℕ)))
    → (carried : AllZip AreRawPackets sets units) → AllByRecursion IsSendable sets
    → AllByRecursion (EndsLast pages) sets
    → AllByRecursion (λ (packets : List (List ℕ)). sum (map length packets) ≤ coded) units
    → AreKnownSets coded pages sets units (raw_sent pages sets units carried)
known_sets coded pages [] [] carried can ends room =
    record { are = tt; open_sets = tt; carry = tt; units_are = tt }
known_sets coded pages [] (packets ∷ units) carried can ends room = absurd carried
known_sets coded pages (set ∷ sets) [] carried can ends room = absurd carried
known_sets coded pages (set ∷ sets) (packets ∷ units) carried can ends room =
    let first = known_packets coded pages set packets carried.0 can.0 ends.0 room.0 in
    let more = known_sets coded pages sets units carried.1 can.1 ends.1 room.1 in
    let one = raw_timed pages set carried.0.units in
    record {
      are = (first.is, more.are);
      open_sets = (first.open_set, more.open_sets);
      carry = both_zip (CarriesUnit pages) packets (all_of units) (map (timed one.time) one.units)
          (timed_units (raw_sent pages sets units carried.1)) first.each more.carry;
      units_are = all-append (IsUnit coded) packets (all_of units) first.units more.units_are;
    }

-- ---- those that count

-- without units that have none, the segments are the same
pub same_segments : (units : List SetUnit) → segments_of_units (filter has_segments units) ≡ segments_of_units units
same_segments [] = refl
same_segments (one ∷ units) = by one.segments refl (same_segments units)
  where
    by : (segments : List (List ℕ)) → one.segments ≡ segments
        → segments_of_units (filter has_segments units) ≡ segments_of_units units
        → segments_of_units
        (cond (has_some one.segments) (one ∷ filter has_segments units) (filter has_segments units))
        ≡ one.segments ++ segments_of_units units
    by [] is e =
        ap (λ (own : List (List ℕ)). segments_of_units
        (cond (has_some own) (one ∷ filter has_segments units) (filter has_segments units))) is
        ∙ e ∙ ap (λ (own : List (List ℕ)). own ++ segments_of_units units) (sym is)
    by (bytes ∷ segments) is e =
        ap (λ (own : List (List ℕ)). segments_of_units
        (cond (has_some own) (one ∷ filter has_segments units) (filter has_segments units))) is
        ∙ ap (λ rest. one.segments ++ rest) e

-- and there are such units where there are segments
pub same_some : (units : List SetUnit) → has_some (filter has_segments units) ≡ has_some (segments_of_units units)
same_some [] = refl
same_some (one ∷ units) = by one.segments (same_some units)
  where
    by : (segments : List (List ℕ))
        → has_some (filter has_segments units) ≡ has_some (segments_of_units units)
        → has_some (cond (has_some segments) (one ∷ filter has_segments units) (filter has_segments units))
        ≡ has_some (segments ++ segments_of_units units)
    by [] e = e
    by (bytes ∷ segments) e = refl

each_has : (units : List SetUnit)
    → AllByRecursion (λ (one : SetUnit). 1 ≤ length one.segments) (filter has_segments units)
each_has [] = tt
each_has (one ∷ units) = by one.segments refl (each_has units)
  where
    by : (segments : List (List ℕ)) → one.segments ≡ segments
        → AllByRecursion (λ (one : SetUnit). 1 ≤ length one.segments) (filter has_segments units)
        → AllByRecursion (λ (one : SetUnit). 1 ≤ length one.segments)
        (cond (has_some one.segments) (one ∷ filter has_segments units) (filter has_segments units))
    by [] is rest =
        subst (λ (own : List (List ℕ)). AllByRecursion (λ (one : SetUnit). 1 ≤ length one.segments)
        (cond (has_some own) (one ∷ filter has_segments units) (filter has_segments units))) (sym is) rest
    by (bytes ∷ segments) is rest =
        subst (λ (own : List (List ℕ)). AllByRecursion (λ (one : SetUnit). 1 ≤ length one.segments)
        (cond (has_some own) (one ∷ filter has_segments units) (filter has_segments units))) (sym is)
        (omega (arith, ap length is), rest)

-- where the stream is over, sets whose last segment alone may end them are handed on, where they have segments that
-- count
pub handable_counted : (coded : ℕ) (over : Bool) (sets : List TimedSet) → over ≡ true
    → AllByRecursion (IsOpen coded) sets → AllByRecursion (IsHandable coded over) (counted_sets sets)
handable_counted coded over [] is h = tt
handable_counted coded over (set ∷ sets) is h =
    by (filter has_segments set.units) refl (handable_counted coded over sets is h.1)
  where
    by : (units : List SetUnit) → filter has_segments set.units ≡ units
        → AllByRecursion (IsHandable coded over) (counted_sets sets)
        → AllByRecursion (IsHandable coded over)
        (if has_some (filter has_segments set.units) then counted_set set ∷ counted_sets sets
        else counted_sets sets)
    by [] e rest =
        subst (λ (units : List SetUnit). AllByRecursion (IsHandable coded over)
        (if has_some units then counted_set set ∷ counted_sets sets else counted_sets sets)) (sym e) rest
    by (one ∷ units) e rest =
        let same = same_segments set.units in
        let ends = h.0.ends in
        let fits = h.0.fits in
        subst (λ (units : List SetUnit). AllByRecursion (IsHandable coded over)
        (if has_some units then counted_set set ∷ counted_sets sets else counted_sets sets)) (sym e) (
          record {
            units = each_has set.units;
            some = omega (arith, ap length e);
            ends = subst EndsAtLast (sym same) ends;
            fits = omega (arith, ap (sum_by length) same);
            closed = inl is;
          },
          rest,
        )

pub counted-append : (xs ys : List TimedSet) → counted_sets (xs ++ ys) ≡ counted_sets xs ++ counted_sets ys
counted-append [] ys = refl
counted-append (set ∷ xs) ys = by (has_some (filter has_segments set.units)) (counted-append xs ys)
  where
    by : (b : Bool) → counted_sets (xs ++ ys) ≡ counted_sets xs ++ counted_sets ys
        → (if b then counted_set set ∷ counted_sets (xs ++ ys) else counted_sets (xs ++ ys))
        ≡ (if b then counted_set set ∷ counted_sets xs else counted_sets xs) ++ counted_sets ys
    by true e = ap (λ rest. counted_set set ∷ rest) e
    by false e = e

-- a set with segments that count, as it is handed on
pub record IsCountedAs (pages : Pages) (set : RawSet) (one : TimedSet) : Type 0 where
  pub time : one.time ≡ set.time % TIME_ROUND
  pub segments : all_segments one ≡ counted_in pages set

pub counted_as : (pages : Pages) (sets : List RawSet) (units : List (List (List ℕ))) (sent : List TimedSet)
    → AreRawSent pages sets units sent
    → AllZip (IsCountedAs pages) (filter (has_counted pages) sets) (counted_sets sent)
counted_as pages [] [] [] are = tt
counted_as pages [] [] (one ∷ sent) are = absurd are
counted_as pages [] (packets ∷ units) sent are = absurd are
counted_as pages (set ∷ sets) [] sent are = absurd are
counted_as pages (set ∷ sets) (packets ∷ units) [] are = absurd are
counted_as pages (set ∷ sets) (packets ∷ units) (one ∷ sent) are =
    by (has_counted pages set) refl (counted_as pages sets units sent are.1)
  where
    segments : all_segments one ≡ counted_in pages set
    segments = counted_segments pages set packets one are.0

    counts : has_some (filter has_segments one.units) ≡ has_counted pages set
    counts = same_some one.units ∙ ap has_some segments

    here : IsCountedAs pages set (counted_set one)
    here = record { time = are.0.time; segments = same_segments one.units ∙ segments }

    by : (b : Bool) → has_counted pages set ≡ b
        → AllZip (IsCountedAs pages) (filter (has_counted pages) sets) (counted_sets sent)
        → AllZip (IsCountedAs pages)
        (cond (has_counted pages set) (set ∷ filter (has_counted pages) sets) (filter (has_counted pages) sets))
        (cond (has_some (filter has_segments one.units)) (counted_set one ∷ counted_sets sent)
        (counted_sets sent))
    by true is rest =
        subst (λ (b : Bool). AllZip (IsCountedAs pages)
        (cond (has_counted pages set) (set ∷ filter (has_counted pages) sets) (filter (has_counted pages) sets))
        (cond b (counted_set one ∷ counted_sets sent) (counted_sets sent))) (sym (counts ∙ is))
        (subst (λ (b : Bool). AllZip (IsCountedAs pages)
        (cond b (set ∷ filter (has_counted pages) sets) (filter (has_counted pages) sets))
        (counted_set one ∷ counted_sets sent)) (sym is) (here, rest))
    by false is rest =
        subst (λ (b : Bool). AllZip (IsCountedAs pages)
        (cond (has_counted pages set) (set ∷ filter (has_counted pages) sets) (filter (has_counted pages) sets))
        (cond b (counted_set one ∷ counted_sets sent) (counted_sets sent))) (sym (counts ∙ is))
        (subst (λ (b : Bool). AllZip (IsCountedAs pages)
        (cond b (set ∷ filter (has_counted pages) sets) (filter (has_counted pages) sets))
        (counted_sets sent)) (sym is) rest)

-- what is handed on of each
pub are_deliveries : (pages : Pages) (sets : List RawSet) (sent : List TimedSet)
    → AllZip (IsCountedAs pages) sets sent → AllZip (IsDeliveryOf pages) sets (map delivered sent)
are_deliveries pages [] [] h = tt
are_deliveries pages [] (one ∷ sent) h = absurd h
are_deliveries pages (set ∷ sets) [] h = absurd h
are_deliveries pages (set ∷ sets) (one ∷ sent) h = (
  (
    size_of_units one.units,
    ap (λ time. whole time (size_of_units one.units) (all_segments one)) h.0.time
        ∙ ap (λ segments. whole (set.time % TIME_ROUND) (size_of_units one.units) segments) h.0.segments,
  ),
  are_deliveries pages sets sent h.1,
)

-- sets of different times stay so
pub apart_as : (pages : Pages) (sets : List RawSet) (sent : List TimedSet) → AllZip (IsCountedAs pages) sets sent
    → HaveTimesApart sets → HaveDifferentTimes sent
apart_as pages [] [] h apart = tt
apart_as pages [] (one ∷ sent) h apart = absurd h
apart_as pages (set ∷ sets) [] h apart = absurd h
apart_as pages (set ∷ []) (one ∷ []) h apart = (tt, tt)
apart_as pages (set ∷ []) (one ∷ two ∷ sent) h apart = absurd h.1
apart_as pages (set ∷ next ∷ sets) (one ∷ []) h apart = absurd h.1
apart_as pages (set ∷ next ∷ sets) (one ∷ two ∷ sent) h apart = (
  ne_eqb one.time two.time
      (λ same. apart [] sets set next refl (sym h.0.time ∙ same ∙ h.1.0.time)),
  apart_as pages (next ∷ sets) (two ∷ sent) h.1
      (λ before after first second e same. apart (set ∷ before) after first second (ap (λ rest. set ∷ rest) e)
      same),
)
