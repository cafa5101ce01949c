-- A set is taken from a receiver, and what is found then.
use Rattle.std.proofs.Common.{◌≡◌, ◌∙◌, ℕ, suc, ◌+◌, ◌-◌, ◌*◌, ◌^◌, ◌<◌, ◌≤◌, ◌==◌, ◌&&◌, not, min, Bool, true, false, cond, List, [], ◌∷◌, ◌++◌, length, reverse, Option, Some, None, refl, sym, ap, subst, arith, append-nil}
use Rattle.std.specs.Prelude.{IsSome, if◌then◌else◌}
use Rattle.std.specs.Option.{option_or}
use Rattle.std.proofs.lemmas.Bool.Decides.{nat_tests}
use Rattle.std.proofs.lemmas.List.{length-append, length-reverse, reverse-append}
use Rattle.sub_base.specs.declared.load.SetLoad.{SetLoad}
use Rattle.sub_base.specs.declared.profile.Profile.{Profile}
use Rattle.decoder_model.specs.Faults.{contents_in}
use Rattle.decoder_model.specs.Kept.{lifted_time}
use Rattle.decoder_model.specs.Painting.{painting_by, set_load, set_painting}
use Rattle.decoder_model.specs.Readings.{AreDeliveriesRead, IsDeliveryRead, Reading}
use Rattle.decoder_model.specs.Received.{Reception, sets_received}
use Rattle.decoder_model.specs.Sets.{Delivery, lost, whole, refused}
use Rattle.decoder_model.specs.Verdict.{verdict_of}
use Rattle.decoder_model.specs.declared.set_end.SetEnd.{SetEnd}
use Rattle.decoder_model.specs.declared.set_end.SetEnd.TheVariants.{Shown}
use Rattle.display_sets.specs.Gathered.{ReadySet}
use Rattle.display_sets.specs.Standing.{IsFirst, IsReady}
use Rattle.reading_laws.proofs.PacketsRead.{packets_read}
use Rattle.sent_sets.specs.RawSets.{RawSet}
use Rattle.set_receiver.specs.Receiving.{IsNextReceived, IsSameReception, SetReceiving, HasBeenFed, reception}
use Rattle.set_receiver.specs.Taking.{HasNextReceived, HasPast}
use Rattle.set_receiver.proofs.PastLaws.{taken_past}
use Rattle.set_receiver.proofs.TakenSets.{next_read, read_more}
use Rattle.splice.specs.KeptSets.{kept_among, set_at}
use Rattle.splice.specs.SplicedSets.{ArePaintedIn}
use Rattle.splice.specs.StreamTests.{IsLossless}
use Rattle.splice.specs.Private.JoinedSets.{HasSets, IsJoinedOf}
use Rattle.splice.specs.Private.Parts.{cut_of, is_looked_at, placed, shown_before}
use Rattle.splice.specs.Private.Puts.{IsPut}
use Rattle.splice.specs.Private.Surveys.{HasFound, IsFoundSo, IsGoodSo, IsPlacedFor, IsPreparedOf, IsUnshownIn, TakesSets, begins_anew, first_time, found_after, is_anew, is_good, is_shown}
use Rattle.splice.specs.declared.found.Finding.{Finding}
use Rattle.splice.specs.declared.found.Finding.TheVariants.{Good, Unshown, Lost}
use Rattle.splice.specs.declared.found.Found.{Found}
use Rattle.splice.specs.declared.found.Glimpse.{Glimpse}
use Rattle.splice.specs.declared.joined.Joined.{Joined}
use Rattle.splice.specs.declared.part.Part.{Part}
use Rattle.splice.specs.declared.prepared.Placed.{Placed}
use Rattle.splice.specs.declared.prepared.Prepared.{Prepared}
use Rattle.splice.proofs.LossLaws.{few_sets}
use Rattle.splice.proofs.ReadLaws.{end_shown, first_or, joined_one, looked_at_is, looked_at_of, looked_sent, not_end_shown, passed_over, some_segments}
use Rattle.splice.proofs.TimeLaws.{lifted_less, same_lifted}

-- ---- what comes next

-- the set that is ready, as it is handed over
record IsPicked (sets given : List (Delivery (List ℕ))) (ready : Option ReadySet) : Type 0 where
  delivery : Delivery (List ℕ)
  rest : List (Delivery (List ℕ))
  all : sets ≡ given ++ delivery ∷ rest
  set : ReadySet
  ready_is : ready ≡ Some set
  is_ready : IsReady delivery set

picked : (sets given : List (Delivery (List ℕ))) (ready : Option ReadySet) → IsSome ready
    → IsFirst sets given ready → IsPicked sets given ready
picked sets given None some first = absurd (let never : false ≡ true = some in cc)
picked sets given (Some set) some first =
    record { delivery = first.0; rest = first.1; all = first.2; set = set; ready_is = refl; is_ready = first.3 }

read_long : (given : List (Delivery (List ℕ))) (past : List (Delivery Reading)) → AreDeliveriesRead given past
    → length given ≡ length past
read_long [] [] are = refl
read_long [] (one ∷ past) are = absurd are
read_long (delivery ∷ given) [] are = absurd are
read_long (delivery ∷ given) (one ∷ past) are = ap suc (read_long given past are.1)

-- the set that was taken, as it is handed over and as it is read, and what became of it
record IsTakenNext (part : Part) (begin : Option ℕ) (next : Prepared) (made : Reception) (ended : Bool)
    (packets : List (List ℕ)) (past : List (Delivery Reading)) (given : List (Delivery (List ℕ))) (new : SetReceiving)
    (end : SetEnd) : Type 0 where
  delivery : Delivery (List ℕ)
  one : Delivery Reading
  is : IsDeliveryRead delivery one
  stands : HasBeenFed ended packets (given ++ delivery ∷ []) new
  read : AreDeliveriesRead (reverse (given ++ delivery ∷ [])) (one ∷ past)
  verdict : Some end ≡ verdict_of made.profile made.anchor past one
  load : Some new.load ≡ set_load made.profile made.anchor past one
  prepared : IsPreparedOf part begin (lifted_time made.anchor past one) delivery next
  few : length past + 1 ≤ 2 * length packets

-- ---- where it is kept

good_is : (finding : Finding) → is_good finding ≡ true → finding ≡ Good
good_is Good is = refl
good_is (Unshown set) is = absurd (cc)
good_is (Lost packet) is = absurd (cc)

not_none : (n : ℕ) → (n + 1 == 0) ≡ false
not_none n = grind (arith, nat_tests)

anew_more : (past : List (Delivery Reading)) (one : Delivery Reading) (sets : ℕ) (was glimpse : Bool)
    → sets ≡ length past → was ≡ is_anew past → glimpse ≡ begins_anew one
    → (cond (sets == 0) glimpse was) ≡ is_anew (one ∷ past)
anew_more [] one sets was glimpse many before now =
    ap (λ (n : ℕ). cond (n == 0) glimpse was) many ∙ now
anew_more (next ∷ past) one sets was glimpse many before now =
    ap (λ (n : ℕ). cond (n == 0) glimpse was)
    (many ∙ (let same : length (next ∷ past) ≡ length past + 1 = omega arith in same))
    ∙ ap (λ (b : Bool). cond b glimpse was) (not_none (length past)) ∙ before

load_painted : (load : SetLoad) (profile : Profile) (anchor : ℕ) (past : List (Delivery Reading)) (time size : ℕ)
    (readings : List Reading) → Some load ≡ set_load profile anchor past (whole time size readings)
    → verdict_of profile anchor past (whole time size readings) ≡ Some Shown
    → load.painted ≡ set_painting (contents_in readings)
load_painted load profile anchor past time size readings is shown =
    same load _ is ∙ ap (painting_by readings) shown
  where
    same : (a b : SetLoad) → Some a ≡ Some b → a.painted ≡ b.painted
    same a b e = cc

-- what is found then, where the set is not shown, though it has to be, and else
abbrev bad_after : Found → Found
bad_after found =
    record { finding = Unshown found.sets; sets = found.sets; anew = found.anew; begin = found.begin }

abbrev good_after : Glimpse → Found → Found
good_after glimpse found = record {
  finding = found.finding;
  sets = min (found.sets + 1) (2 ^ 64 - 1);
  anew = if found.sets == 0 then glimpse.anew else found.anew;
  begin = option_or found.begin glimpse.kept;
}

first_of : (a b : Bool) → (a && not b) ≡ true → a ≡ true
first_of true b e = refl
first_of false b e = absurd (cc)

second_of : (a b : Bool) → (a && not b) ≡ true → b ≡ false
second_of true true e = absurd (cc)
second_of true false e = refl
second_of false b e = absurd (cc)

shown_of : (a b : Bool) → (a && not b) ≡ false → a ≡ true → b ≡ true
shown_of true true e is = refl
shown_of true false e is = absurd (cc)
shown_of false b e is = absurd (cc)

-- one more of the sets that are kept
kept_one : (made : Reception) (part : Part) (earlier kept : List RawSet) (past : List (Delivery Reading))
    (delivery : Delivery (List ℕ)) (one : Delivery Reading) (placing : Option Placed) (load : SetLoad) (end : SetEnd)
    (start fin : Joined) (at : Option ℕ) → lifted_time made.anchor past one ≡ at
    → IsDeliveryRead delivery one → Some end ≡ verdict_of made.profile made.anchor past one
    → Some load ≡ set_load made.profile made.anchor past one
    → (is_looked_at part at ≡ true → end ≡ Shown)
    → IsPlacedFor part (first_time kept) (set_at at delivery) placing → IsPut placing load.painted start fin
    → cut_of part < 2 ^ 34 → made.anchor < 2 ^ 33 → length past + 1 ≤ 2 ^ 27 → load.painted < 2 ^ 62
    → IsJoinedOf (earlier ++ placed part kept) start
    → IsJoinedOf (earlier ++ placed part (kept ++ set_at at delivery)) fin
kept_one made part earlier kept past delivery one placing load end start fin at lifts is verdict loads shown place put
    cut low few short joined =
    by at delivery one lifts is verdict loads shown place
  where
    none : placing ≡ None → IsJoinedOf (earlier ++ placed part (kept ++ [])) fin
    none is =
        let same : fin ≡ start = subst (λ (p : Option Placed). IsPut p load.painted start fin) is put in
        subst (λ (all : List RawSet). IsJoinedOf (earlier ++ placed part all) fin) (sym (append-nil kept))
        (subst (λ (j : Joined). IsJoinedOf (earlier ++ placed part kept) j) (sym same) joined)

    set_shown : (time size : ℕ) (segments : List (List ℕ)) (one : Delivery Reading) (lifted : ℕ)
        → IsDeliveryRead (whole time size segments) one → Some end ≡ verdict_of made.profile made.anchor past one
        → Some load ≡ set_load made.profile made.anchor past one → end ≡ Shown
        → (1 ≤ length segments) × ArePaintedIn segments load.painted
    set_shown time size segments one lifted is verdict loads ends =
        let is_one : one ≡ whole time size is.0 = is.2 in
        let shown : verdict_of made.profile made.anchor past (whole time size is.0) ≡ Some Shown =
        ap (verdict_of made.profile made.anchor past) (sym is_one) ∙ sym verdict ∙ ap (λ (e : SetEnd). Some e) ends in (
          some_segments made.profile made.anchor past time size segments is.0 is.1 shown,
          record {
            readings = is.0;
            read = is.1;
            sum =
                load_painted load made.profile made.anchor past time size is.0
                (loads ∙ ap (set_load made.profile made.anchor past) is_one) shown;
          },
        )

    by : (at : Option ℕ) (delivery : Delivery (List ℕ)) (one : Delivery Reading)
        → lifted_time made.anchor past one ≡ at → IsDeliveryRead delivery one
        → Some end ≡ verdict_of made.profile made.anchor past one
        → Some load ≡ set_load made.profile made.anchor past one
        → (is_looked_at part at ≡ true → end ≡ Shown)
        → IsPlacedFor part (first_time kept) (set_at at delivery) placing
        → IsJoinedOf (earlier ++ placed part (kept ++ set_at at delivery)) fin
    by None delivery one lifts is verdict loads shown place = none place
    by (Some lifted) lost one lifts is verdict loads shown place = none place
    by (Some lifted) (refused time size fault) one lifts is verdict loads shown place = none place
    by (Some lifted) (whole time size segments) one lifts is verdict loads shown place =
        joined_one part earlier kept (record { time = lifted; segments = segments }) placing load.painted start fin
        joined cut
        (let less = lifted_less made.anchor past one lifted lifts in omega (arith, less, low, few))
        place put
        (λ at sent. set_shown time size segments one lifted is verdict loads
        (shown (looked_sent part (first_time kept) lifted at sent))) short

-- the set that is not shown, though it has to be
unshown_one : (made : Reception) (part : Part) (earlier : List RawSet) (packets : List (List ℕ))
    (past : List (Delivery Reading)) (before : List (Delivery (List ℕ))) (was : Found) (start fin : Joined)
    (one : Delivery Reading) (end : SetEnd) → IsGoodSo made part earlier packets past before was start
    → fin ≡ start → Some end ≡ verdict_of made.profile made.anchor past one
    → (is_looked_at part (lifted_time made.anchor past one) && not (is_shown end)) ≡ true
    → IsLossless made packets × IsUnshownIn made (shown_before part) (one ∷ past) was.sets × HasSets fin
unshown_one made part earlier packets past before was start fin one end so same verdict test = (
  so.lossless,
  record {
    later = [];
    delivery = one;
    before = past;
    parts = refl;
    place_is = so.count;
    looked_at =
        looked_at_of part (lifted_time made.anchor past one)
        (first_of (is_looked_at part (lifted_time made.anchor past one)) (is_shown end) test);
    not_shown = λ is.
        not_end_shown end
        (second_of (is_looked_at part (lifted_time made.anchor past one)) (is_shown end) test) (verdict ∙ is);
    first = so.shown;
  },
  subst HasSets (sym same) (earlier ++ placed part (kept_among made.anchor before), so.joined_are),
)

-- a set that need not be shown, or is
good_one : (made : Reception) (part : Part) (earlier : List RawSet) (packets : List (List ℕ))
    (past : List (Delivery Reading)) (before : List (Delivery (List ℕ))) (was : Found) (start fin : Joined)
    (delivery : Delivery (List ℕ)) (one : Delivery Reading) (next : Prepared) (end : SetEnd) (load : SetLoad)
    → IsGoodSo made part earlier packets past before was start → was.finding ≡ Good
    → AreDeliveriesRead before past → IsDeliveryRead delivery one
    → Some end ≡ verdict_of made.profile made.anchor past one
    → Some load ≡ set_load made.profile made.anchor past one
    → IsPreparedOf part was.begin (lifted_time made.anchor past one) delivery next
    → length past + 1 ≤ 2 ^ 27 → made.anchor < 2 ^ 33 → cut_of part < 2 ^ 34 → load.painted < 2 ^ 62
    → IsPut next.placed load.painted start fin
    → (is_looked_at part (lifted_time made.anchor past one) && not (is_shown end)) ≡ false
    → IsGoodSo made part earlier packets (one ∷ past) (delivery ∷ before) (good_after next.glimpse was) fin
good_one made part earlier packets past before was start fin delivery one next end load so good read is verdict loads
    prepared few low cut short put test =
    let at : Option ℕ = lifted_time made.anchor past one in
    let same : lifted_time made.anchor before delivery ≡ at =
    same_lifted made.anchor before past delivery one read is in
    let kept : List RawSet = kept_among made.anchor before in
    record {
      lossless = so.lossless;
      count =
          let many = so.count in omega (arith, many, few);
      shown = (
        λ looked.
            sym verdict
            ∙ ap (λ (e : SetEnd). Some e)
            (end_shown end (shown_of (is_looked_at part at) (is_shown end) test (looked_at_is part at looked))),
        so.shown,
      );
      anew =
          anew_more past one was.sets was.anew next.glimpse.anew so.count so.anew (prepared.anew one is);
      begin =
          (λ i. option_or (so.begin i) (prepared.kept i)) ∙ first_or kept (set_at at delivery)
          ∙ ap (λ (a : Option ℕ). first_time (kept ++ set_at a delivery)) (sym same);
      joined_are =
          subst (λ (a : Option ℕ). IsJoinedOf (earlier ++ placed part (kept ++ set_at a delivery)) fin) (sym same)
          (kept_one made part earlier kept past delivery one next.placed load end start fin at refl is verdict loads
          (λ looked. end_shown end (shown_of (is_looked_at part at) (is_shown end) test looked))
          (subst (λ (b : Option ℕ). IsPlacedFor part b (set_at at delivery) next.placed) so.begin prepared.placed)
          put cut low few short so.joined_are);
    }

-- ---- a set that is taken

module _ (part : Part) (old new : SetReceiving) (was : Found) (start fin : Joined) (next : Prepared) (end : SetEnd)
    (lifted : Option ℕ) (ready : Option ReadySet) (some : IsSome ready)
    (first : (fed : List (List ℕ)) (ended : Bool) (given : List (Delivery (List ℕ))) → HasBeenFed ended fed given old
    → IsFirst (sets_received (reception old) ended fed) given ready)
    (lifts : (fed : List (List ℕ)) (ended : Bool) (given rest : List (Delivery (List ℕ)))
    (delivery : Delivery (List ℕ)) (past : List (Delivery Reading)) (one : Delivery Reading)
    → IsNextReceived ended fed given delivery rest old → AreDeliveriesRead (reverse given) past
    → IsDeliveryRead delivery one → lifted ≡ lifted_time (reception old).anchor past one)
    (prepares : (delivery : Delivery (List ℕ)) (set : ReadySet) → ready ≡ Some set → IsReady delivery set
    → IsPreparedOf part was.begin lifted delivery next)
    (takes : (ended : Bool) (packets : List (List ℕ)) (given rest : List (Delivery (List ℕ)))
    (delivery : Delivery (List ℕ)) → IsNextReceived ended packets given delivery rest old
    → HasBeenFed ended packets (given ++ delivery ∷ []) new)
    (answers : (ended : Bool) (packets : List (List ℕ)) (given rest : List (Delivery (List ℕ)))
    (delivery : Delivery (List ℕ)) (past : List (Delivery Reading)) (one : Delivery Reading)
    → IsNextReceived ended packets given delivery rest old → AreDeliveriesRead (reverse given) past
    → IsDeliveryRead delivery one
    → Some end ≡ verdict_of (reception old).profile (reception old).anchor past one)
    (loads : (ended : Bool) (packets : List (List ℕ)) (given rest : List (Delivery (List ℕ)))
    (delivery : Delivery (List ℕ)) (past : List (Delivery Reading)) (one : Delivery Reading)
    → IsNextReceived ended packets given delivery rest old → AreDeliveriesRead (reverse given) past
    → IsDeliveryRead delivery one
    → Some new.load ≡ set_load (reception old).profile (reception old).anchor past one)
    (same : IsSameReception old new) (good : is_good was.finding ≡ true) (cut : cut_of part < 2 ^ 34)
    (short : new.load.painted < 2 ^ 62)
    (put : is_good (found_after part next.glimpse end was).finding ≡ true
    → IsPut next.placed new.load.painted start fin)
    (stays : is_good (found_after part next.glimpse end was).finding ≡ false → fin ≡ start) where
  taken_next : (ended : Bool) (packets : List (List ℕ)) (past : List (Delivery Reading))
      (has : HasPast ended packets past old)
      → IsTakenNext part was.begin next (reception old) ended packets past has.given new end
  taken_next ended packets past has =
      let made : Reception = reception old in
      let pick =
      picked (sets_received made ended packets) has.given ready some (first packets ended has.given has.stands)
      in
      let all = packets_read made ended packets has.bytes in
      let found = next_read made ended packets has.given pick.rest pick.delivery all.0 all.1 pick.all in
      let is_next : IsNextReceived ended packets has.given pick.delivery pick.rest old =
      record { stands = has.stands; all = pick.all } in
      record {
        delivery = pick.delivery;
        one = found.0;
        is = found.1;
        stands = takes ended packets has.given pick.rest pick.delivery is_next;
        read = read_more has.given pick.delivery past found.0 has.read found.1;
        verdict =
            answers ended packets has.given pick.rest pick.delivery past found.0 is_next has.read found.1;
        load = loads ended packets has.given pick.rest pick.delivery past found.0 is_next has.read found.1;
        prepared =
            subst (λ (at : Option ℕ). IsPreparedOf part was.begin at pick.delivery next)
            (lifts packets ended has.given pick.rest pick.delivery past found.0 is_next has.read found.1)
            (prepares pick.delivery pick.set pick.ready_is pick.is_ready);
        few =
            omega (
              arith,
              few_sets made.profile.coded made.pid made.pages ended packets has.stands.reads.taken,
              ap length pick.all,
              length-append has.given (pick.delivery ∷ pick.rest),
              length-reverse has.given,
              read_long (reverse has.given) past has.read,
            );
      }

  found_next : (made : Reception) (earlier : List RawSet) (ended : Bool) (packets : List (List ℕ))
      → reception old ≡ made → (so : HasFound made part earlier ended packets old was start)
      → IsTakenNext part was.begin next made ended packets so.past so.has.given new end
      → HasFound made part earlier ended packets new (found_after part next.glimpse end was) fin
  found_next made earlier ended packets own so taken =
      let at : Option ℕ = lifted_time made.anchor so.past taken.one in
      let good_so : IsGoodSo made part earlier packets so.past (reverse so.has.given) was start =
      subst (λ (f : Finding). IsFoundSo made part earlier packets so.past (reverse so.has.given) was start f)
      (good_is was.finding good) so.so in
      record {
        own = same ∙ own;
        low = so.low;
        few = so.few;
        past = taken.one ∷ so.past;
        has = record {
          bytes = so.has.bytes;
          given = so.has.given ++ taken.delivery ∷ [];
          stands = taken.stands;
          read = taken.read;
        };
        so =
            subst (λ (all : List (Delivery (List ℕ))). IsFoundSo made part earlier packets (taken.one ∷ so.past) all
            (found_after part next.glimpse end was) fin (found_after part next.glimpse end was).finding)
            (sym (reverse-append so.has.given (taken.delivery ∷ [])))
            (step made earlier packets so.past (reverse so.has.given) taken.delivery taken.one good_so
            so.has.read taken.is taken.verdict taken.load taken.prepared
            (let few = taken.few in let all = so.few in omega (arith, few, all)) so.low);
      }
    where
      step : (made : Reception) (earlier : List RawSet) (packets : List (List ℕ)) (past : List (Delivery Reading))
          (before : List (Delivery (List ℕ))) (delivery : Delivery (List ℕ)) (one : Delivery Reading)
          → IsGoodSo made part earlier packets past before was start
          → AreDeliveriesRead before past → IsDeliveryRead delivery one
          → Some end ≡ verdict_of made.profile made.anchor past one
          → Some new.load ≡ set_load made.profile made.anchor past one
          → IsPreparedOf part was.begin (lifted_time made.anchor past one) delivery next
          → length past + 1 ≤ 2 ^ 27 → made.anchor < 2 ^ 33
          → IsFoundSo made part earlier packets (one ∷ past) (delivery ∷ before)
          (found_after part next.glimpse end was) fin (found_after part next.glimpse end was).finding
      step made earlier packets past before delivery one so read is verdict loads prepared few low =
          by (is_looked_at part next.glimpse.lifted && not (is_shown end)) refl
          (ap (λ (a : Option ℕ). is_looked_at part a && not (is_shown end)) (sym prepared.lifted_is)) put stays
        where
          by : (test : Bool) → (is_looked_at part next.glimpse.lifted && not (is_shown end)) ≡ test
              → (is_looked_at part (lifted_time made.anchor past one) && not (is_shown end))
              ≡ (is_looked_at part next.glimpse.lifted && not (is_shown end))
              → (is_good (cond test (bad_after was) (good_after next.glimpse was)).finding ≡ true
              → IsPut next.placed new.load.painted start fin)
              → (is_good (cond test (bad_after was) (good_after next.glimpse was)).finding ≡ false → fin ≡ start)
              → IsFoundSo made part earlier packets (one ∷ past) (delivery ∷ before)
              (cond test (bad_after was) (good_after next.glimpse was)) fin
              (cond test (bad_after was) (good_after next.glimpse was)).finding
          by true test at puts same =
              unshown_one made part earlier packets past before was start fin one end so (same refl) verdict
              (at ∙ test)
          by false test at puts same =
              subst (λ (f : Finding). IsFoundSo made part earlier packets (one ∷ past) (delivery ∷ before)
              (good_after next.glimpse was) fin f) (sym (good_is was.finding good))
              (good_one made part earlier packets past before was start fin delivery one next end new.load so
              (good_is was.finding good) read is verdict loads prepared few low cut short
              (puts good) (at ∙ test))

  -- the set that is ready was taken
  pub set_taken : TakesSets part old new was (found_after part next.glimpse end was) start fin
  set_taken = record {
    goes = λ made earlier ended packets. λ so.
        found_next made earlier ended packets so.own so
        (subst (λ (own : Reception). IsTakenNext part was.begin next own ended packets so.past so.has.given new end)
        so.own (taken_next ended packets so.past so.has));
  }

-- where something keeps the stream from being joined already, a set is passed over
module _ (part : Part) (old new : SetReceiving) (was : Found) (start : Joined) (end : SetEnd)
    (has_next : HasNextReceived old)
    (takes : (ended : Bool) (packets : List (List ℕ)) (given rest : List (Delivery (List ℕ)))
    (delivery : Delivery (List ℕ)) → IsNextReceived ended packets given delivery rest old
    → HasBeenFed ended packets (given ++ delivery ∷ []) new)
    (answers : (ended : Bool) (packets : List (List ℕ)) (given rest : List (Delivery (List ℕ)))
    (delivery : Delivery (List ℕ)) (past : List (Delivery Reading)) (one : Delivery Reading)
    → IsNextReceived ended packets given delivery rest old → AreDeliveriesRead (reverse given) past
    → IsDeliveryRead delivery one
    → Some end ≡ verdict_of (reception old).profile (reception old).anchor past one)
    (loads : (ended : Bool) (packets : List (List ℕ)) (given rest : List (Delivery (List ℕ)))
    (delivery : Delivery (List ℕ)) (past : List (Delivery Reading)) (one : Delivery Reading)
    → IsNextReceived ended packets given delivery rest old → AreDeliveriesRead (reverse given) past
    → IsDeliveryRead delivery one
    → Some new.load ≡ set_load (reception old).profile (reception old).anchor past one)
    (same : IsSameReception old new) (bad : is_good was.finding ≡ false) where
  pub set_passed : TakesSets part old new was was start start
  set_passed =
      passed_over part old new was start same
      (λ ended packets past has. let next = taken_past old new end has_next takes answers loads ended packets past has
      in
      (next.one, next.has)) bad

-- ---- a test of the code

pub never_good : (good : Bool) → false ≡ good → good ≡ true → ⊥
never_good good is good_is = cc

pub never_bad : (good : Bool) → true ≡ good → good ≡ false → ⊥
never_bad good is bad = cc
