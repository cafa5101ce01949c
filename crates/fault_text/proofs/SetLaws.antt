-- Sets that are taken, one after the other.
use Rattle.std.proofs.Common.{◌≡◌, ◌∙◌, ℕ, ◌+◌, Bool, true, false, cond, List, [], ◌∷◌, ◌++◌, length, reverse, Option, Some, append-nil, append_assoc, refl, sym, ap, subst, arith}
use Rattle.std.specs.Prelude.{None, IsSome, Result, nat_lt, option_map}
use Rattle.std.specs.List.{concat}
use Rattle.std.proofs.lemmas.List.{reverse-append}
use Rattle.command_text.specs.Putting.{Buffered, PutsOut}
use Rattle.command_text.proofs.PutLaws.{PutsOut-both, PutsOut-nothing}
use Rattle.decoder_model.specs.Painting.{set_load}
use Rattle.decoder_model.specs.Readings.{AreDeliveriesRead, IsDeliveryRead, Reading}
use Rattle.decoder_model.specs.Sets.{Delivery, lost, refused, whole}
use Rattle.decoder_model.specs.Shown.{standing_after}
use Rattle.decoder_model.specs.Verdict.{verdict_of}
use Rattle.decoder_model.specs.declared.set_end.SetEnd.{SetEnd}
use Rattle.decoder_model.specs.declared.set_fault.SetFault.{SetFault}
use Rattle.display_sets.specs.Filling.{AreBytes}
use Rattle.display_sets.specs.Gathered.{ReadySet, first_ready, sets_behind}
use Rattle.display_sets.specs.Standing.{IsFirst, IsReady}
use Rattle.reading_laws.proofs.PacketsRead.{packets_read}
use Rattle.set_definitions.specs.Knowing.{Knowledge, Knows}
use Rattle.set_receiver.specs.Receiving.{IsNextReceived, IsSameReception, SetReceiving, HasBeenFed, reception, set_time}
use Rattle.decoder_model.specs.Received.{Reception, sets_received}
use Rattle.set_receiver.specs.Taking.{HasNextReceived, HasPast}
use Rattle.set_receiver.proofs.TakenSets.{next_read, read_more}
use Rattle.set_receiver.proofs.Takes.{none_next}
use Rattle.sub_base.specs.Endpoints.{Received}
use Rattle.sub_base.specs.declared.load.SetLoad.{SetLoad}
use Rattle.fault_text.specs.FaultText.{defined_after, defined_with, ends_of, found_lines, segments_handed, set_count, set_text, sets_text, tally_of, told_text}
use Rattle.fault_text.specs.Faulting.{IsFaultedTo, PutsSet, TellsSets, bytes_in_content, bytes_ready, counted_end, fitting}
use Rattle.fault_text.specs.declared.tally.Tally.{Tally}
use Rattle.fault_text.proofs.TallyLaws.{counted_more, defined_more, ends_more, text_more}

pub one_less : (sets : List ReadySet) → IsSome (first_ready sets) → 1 + length (sets_behind sets) ≡ length sets
one_less [] some = absurd (let never : false ≡ true = some in cc)
one_less (set ∷ sets) some = omega arith

-- ---- the bytes of a set

same_next : {X : Type 0} (given some others : List X) (one other : X) → given ++ one ∷ some ≡ given ++ other ∷ others
    → one ≡ other
same_next [] some others one other same = cc
same_next (first ∷ given) some others one other same =
    same_next given some others one other
    (let tails : given ++ one ∷ some ≡ given ++ other ∷ others = cc in tails)

fit_none : (room : ℕ) (bytes : List ℕ) → bytes ≡ [] → AreBytes [] (fitting room bytes)
fit_none room bytes none =
    subst (λ (l : List ℕ). AreBytes [] (fitting room l)) (sym none) (by (nat_lt room 0))
  where
    by : (full : Bool) → AreBytes [] (cond full [] [])
    by true = record { joined = refl; framed = tt }
    by false = record { joined = refl; framed = tt }

fit_whole : (room : ℕ) (segments : List (List ℕ)) (bytes : List ℕ) → AreBytes segments bytes
    → AreBytes (cond (nat_lt room (length (concat segments))) [] segments) (fitting room bytes)
fit_whole room segments bytes are =
    subst
    (λ (l : List ℕ). AreBytes (cond (nat_lt room (length l)) [] segments) (cond (nat_lt room (length bytes)) [] bytes))
    are.joined (by (nat_lt room (length bytes)))
  where
    by : (full : Bool) → AreBytes (cond full [] segments) (cond full [] bytes)
    by true = record { joined = refl; framed = tt }
    by false = are

kept_of : (room : ℕ) (delivery : Delivery (List ℕ)) (set : ReadySet) → IsReady delivery set
    → AreBytes (segments_handed room delivery) (fitting room (bytes_in_content set.content))
kept_of room lost set ready = absurd ready
kept_of room (whole time size segments) set ready =
    subst
    (λ (content : Result (List ℕ) SetFault).
    AreBytes (cond (nat_lt room (length (concat segments))) [] segments) (fitting room (bytes_in_content content)))
    (sym ready.2.1) (fit_whole room segments ready.2.0 ready.2.2)
kept_of room (refused time size fault) set ready =
    fit_none room (bytes_in_content set.content) (ap bytes_in_content ready.2)

-- the bytes that are kept are those of the set that comes next
kept_next : (room : ℕ) (all given rest : List (Delivery (List ℕ))) (delivery : Delivery (List ℕ))
    (ready : Option ReadySet) → IsFirst all given ready → all ≡ given ++ delivery ∷ rest
    → AreBytes (segments_handed room delivery) (fitting room (bytes_ready ready))
kept_next room all given rest delivery None first next = absurd (none_next given rest delivery (sym first ∙ next))
kept_next room all given rest delivery (Some set) first next =
    subst (λ (one : Delivery (List ℕ)). AreBytes (segments_handed room one)
    (fitting room (bytes_in_content set.content)))
    (same_next given first.1 rest first.0 delivery (sym first.2 ∙ next))
    (kept_of room first.0 set first.3)

-- ---- one set

module _ (old new : SetReceiving) (start fin : Tally) (known knows : Knowledge) (before now : Received)
    (was is : Buffered) (end : SetEnd) (load : SetLoad) (number room : ℕ) (ready : Option ReadySet) (bytes : List ℕ)
    (has_next : HasNextReceived old)
    (ready_first : (fed : List (List ℕ)) (ended : Bool) (given : List (Delivery (List ℕ)))
    → HasBeenFed ended fed given old → IsFirst (sets_received (reception old) ended fed) given ready)
    (bytes_are : bytes ≡ fitting room (bytes_ready ready))
    (room_is : room ≡ (reception old).profile.coded)
    (takes : (ended : Bool) (packets : List (List ℕ)) (given rest : List (Delivery (List ℕ)))
    (delivery : Delivery (List ℕ)) → IsNextReceived ended packets given delivery rest old
    → HasBeenFed ended packets (given ++ delivery ∷ []) new)
    (answers : (ended : Bool) (packets : List (List ℕ)) (given rest : List (Delivery (List ℕ)))
    (delivery : Delivery (List ℕ)) (past : List (Delivery Reading)) (one : Delivery Reading)
    → IsNextReceived ended packets given delivery rest old → AreDeliveriesRead (reverse given) past
    → IsDeliveryRead delivery one
    → Some end ≡ verdict_of (reception old).profile (reception old).anchor past one)
    (loads : (ended : Bool) (packets : List (List ℕ)) (given rest : List (Delivery (List ℕ)))
    (delivery : Delivery (List ℕ)) (past : List (Delivery Reading)) (one : Delivery Reading)
    → IsNextReceived ended packets given delivery rest old → AreDeliveriesRead (reverse given) past
    → IsDeliveryRead delivery one
    → Some new.load ≡ set_load (reception old).profile (reception old).anchor past one)
    (load_is : load ≡ new.load)
    (same : IsSameReception old new)
    (counted : fin ≡ counted_end end start)
    (more : set_count fin ≡ set_count start + 1)
    (number_is : number ≡ set_count fin)
    (put : PutsSet new.core bytes number load.pts end before now known knows was is) where
  -- the set that comes next, as it is handed over and as it is read
  record Next (ended : Bool) (packets : List (List ℕ)) (given : List (Delivery (List ℕ)))
      (past : List (Delivery Reading)) : Type 0 where
    delivery : Delivery (List ℕ)
    one : Delivery Reading
    stands : HasBeenFed ended packets (given ++ delivery ∷ []) new
    read : AreDeliveriesRead (reverse given) past → AreDeliveriesRead (reverse (given ++ delivery ∷ [])) (one ∷ past)
    are : AreBytes (segments_handed (reception new).profile.coded delivery) bytes
    verdict : Some end ≡ verdict_of (reception new).profile (reception new).anchor past one
    loaded : Some new.load ≡ set_load (reception new).profile (reception new).anchor past one

  next_of : (ended : Bool) (packets : List (List ℕ)) (past : List (Delivery Reading))
      (has : HasPast ended packets past old) → Next ended packets has.given past
  next_of ended packets past has =
      let made = reception old in
      let next = has_next ended packets has.given has.stands in
      let all = packets_read made ended packets has.bytes in
      let found = next_read made ended packets has.given next.1 next.0 all.0 all.1 next.2.all in
      record {
        delivery = next.0;
        one = found.0;
        stands = takes ended packets has.given next.1 next.0 next.2;
        read = λ read. read_more has.given next.0 past found.0 read found.1;
        are =
            subst (λ (n : ℕ). AreBytes (segments_handed n next.0) bytes)
            (room_is ∙ (λ i. (sym same i).profile.coded))
            (subst (λ (kept : List ℕ). AreBytes (segments_handed room next.0) kept) (sym bytes_are)
            (kept_next room (sets_received made ended packets) has.given next.1 next.0 ready
            (ready_first packets ended has.given has.stands) next.2.all));
        verdict =
            answers ended packets has.given next.1 next.0 past found.0 next.2 has.read found.1
            ∙ (λ i. verdict_of (sym same i).profile (sym same i).anchor past found.0);
        loaded =
            loads ended packets has.given next.1 next.0 past found.0 next.2 has.read found.1
            ∙ (λ i. set_load (sym same i).profile (sym same i).anchor past found.0);
      }

  -- the set that comes next, in a receiver that is for that
  abbrev Comes : Reception → Bool → List (List ℕ) → List (Delivery Reading) → List ℕ → Type 0
  Comes made ended packets past text =
      (later : List (Delivery Reading)) × (lines : List ℕ)
      × IsFaultedTo made ended new fin knows packets (later ++ past) (text ++ lines) × PutsOut before now was is lines

  tally_is : (past : List (Delivery Reading)) (one : Delivery Reading)
      → start ≡ tally_of (ends_of (reception new).profile (reception new).anchor past)
      → Some end ≡ verdict_of (reception new).profile (reception new).anchor past one
      → fin ≡ tally_of (ends_of (reception new).profile (reception new).anchor (one ∷ past))
  tally_is past one counted_so verdict =
      let made = reception new in
      counted ∙ ap (counted_end end) counted_so
      ∙ counted_more end (ends_of made.profile made.anchor past)
      ∙ ap (λ (found : Option SetEnd). tally_of (found ∷ ends_of made.profile made.anchor past)) verdict
      ∙ sym (ap tally_of (ends_more made.profile made.anchor past one))

  text_is : (past : List (Delivery Reading)) (one : Delivery Reading) (lines : List (List ℕ))
      → start ≡ tally_of (ends_of (reception new).profile (reception new).anchor past)
      → Some end ≡ verdict_of (reception new).profile (reception new).anchor past one
      → Some new.load ≡ set_load (reception new).profile (reception new).anchor past one
      → set_text number load.pts end lines
      ≡ told_text (set_count (tally_of (ends_of (reception new).profile (reception new).anchor past)))
      (verdict_of (reception new).profile (reception new).anchor past one)
      (set_load (reception new).profile (reception new).anchor past one) lines
  text_is past one lines counted_so verdict loaded =
      let made = reception new in
      let numbered : number ≡ set_count (tally_of (ends_of made.profile made.anchor past)) + 1 =
      number_is ∙ more ∙ ap (λ (tally : Tally). set_count tally + 1) counted_so in
      (λ i. set_text (numbered i) (load_is i).pts end lines)
      ∙ (λ i. told_text (set_count (tally_of (ends_of made.profile made.anchor past))) (verdict i) (loaded i) lines)

  -- a set was taken by the receiver as it is then
  set_told : (ended : Bool) (packets : List (List ℕ)) (past : List (Delivery Reading)) (text : List ℕ)
      → IsFaultedTo (reception new) ended old start known packets past text
      → Comes (reception new) ended packets past text
  set_told ended packets past text at =
      let made = reception new in
      let given = at.taken.given in
      let next = next_of ended packets past at.taken in
      let segments = segments_handed made.profile.coded next.delivery in
      let earlier = defined_after made.profile made.anchor (reverse given) past in
      let read = next.read at.taken.read in
      let last : reverse (given ++ next.delivery ∷ []) ≡ next.delivery ∷ reverse given =
      reverse-append given (next.delivery ∷ []) in
      let found = found_lines (standing_after made.profile made.anchor (next.one ∷ past)) segments earlier in
      let line = set_text number load.pts end found in (
        next.one ∷ [],
        line,
        record {
          own = refl;
          taken = record {
            bytes = at.taken.bytes;
            given = given ++ next.delivery ∷ [];
            stands = next.stands;
            read = read;
          };
          counted = tally_is past next.one at.counted next.verdict;
          knows =
              subst (Knows knows)
              ((λ i. defined_with (next.verdict i) segments earlier)
              ∙ sym (defined_more made.profile made.anchor (reverse given) past next.delivery next.one)
              ∙ ap (λ (all : List (Delivery (List ℕ))). defined_after made.profile made.anchor all (next.one ∷ past))
              (sym last))
              (put.knows segments next.are earlier at.knows);
          whole =
              (λ i. at.whole i ++ text_is past next.one found at.counted next.verdict next.loaded i)
              ∙ sym (text_more made.profile made.anchor (reverse given) past next.delivery next.one)
              ∙ ap (λ (all : List (Delivery (List ℕ))). sets_text made.profile made.anchor all (next.one ∷ past))
              (sym last);
        },
        put.puts (next.one ∷ past) (next.stands.holds (next.one ∷ past) read) segments next.are earlier at.knows,
      )

  -- whatever the receiver is for
  pub set_taken : TellsSets before now old new start fin known knows was is
  set_taken = record {
    goes = λ made ended packets past text. λ at.
        let here : made ≡ reception new = sym at.own ∙ sym same in
        subst (λ (one : Reception). Comes one ended packets past text) (sym here)
        (set_told ended packets past text
        (subst (λ (one : Reception). IsFaultedTo one ended old start known packets past text) here at));
  }

-- ---- several sets

pub taken_nothing : (shown : Received) (receiving : SetReceiving) (tally : Tally) (known : Knowledge)
    (buffer : Buffered)
    → TellsSets shown shown receiving receiving tally tally known known buffer buffer
taken_nothing shown receiving tally known buffer = record {
  goes = λ made ended packets past text. λ at. (
    [],
    [],
    subst (IsFaultedTo made ended receiving tally known packets past) (sym (append-nil text)) at,
    PutsOut-nothing shown buffer,
  );
}

pub taken_both : (a b c : Received) (old mid new : SetReceiving) (start between fin : Tally) (k0 k1 k2 : Knowledge)
    (was half is : Buffered)
    → TellsSets a b old mid start between k0 k1 was half → TellsSets b c mid new between fin k1 k2 half is
    → TellsSets a c old new start fin k0 k2 was is
taken_both a b c old mid new start between fin k0 k1 k2 was half is one other = record {
  goes = λ made ended packets past text. λ at.
      let first = one.goes made ended packets past text at in
      let second = other.goes made ended packets (first.0 ++ past) (text ++ first.1) first.2 in (
        second.0 ++ first.0,
        first.1 ++ second.1,
        subst (λ (all : List (Delivery Reading)). IsFaultedTo made ended new fin k2 packets all
            (text ++ (first.1 ++ second.1)))
            (sym (append_assoc second.0 first.0 past))
            (subst (IsFaultedTo made ended new fin k2 packets (second.0 ++ (first.0 ++ past)))
            (append_assoc text first.1 second.1) second.2),
        PutsOut-both a b c was half is first.1 second.1 first.3 second.3,
      );
}

-- ---- sets that are ready

-- where one is ready, there is a first one
pub ready_some : (time : ℕ) (found : Option ReadySet) → Some time ≡ option_map set_time found → IsSome found
ready_some time None is = absurd (cc)
ready_some time (Some set) is = refl
