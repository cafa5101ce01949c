-- What is found of a stream with one more set.
use Rattle.std.proofs.Common.{◌≡◌, ◌∙◌, ℕ, ◌+◌, ◌-◌, ◌^◌, ◌<◌, ◌≤◌, Bool, true, false, cond, List, [], ◌∷◌, ◌++◌, length, map, filter, reverse, Option, Some, None, refl, sym, ap, subst, arith, append-nil, append_assoc}
use Rattle.std.specs.Prelude.{nat_lt, unwrap_or}
use Rattle.std.specs.Option.{option_or}
use Rattle.std.proofs.lemmas.Bool.Decides.{nat_tests}
use Rattle.std.proofs.lemmas.List.{map-append}
use Rattle.std.proofs.lemmas.List.Elements.{filter-append}
use Rattle.sub_base.specs.declared.profile.Profile.{Profile}
use Rattle.decoder_model.specs.Kept.{last_time, lifted_behind}
use Rattle.decoder_model.specs.Readings.{AreReadings, Reading}
use Rattle.decoder_model.specs.Received.{Reception}
use Rattle.decoder_model.specs.Sets.{Delivery, whole}
use Rattle.decoder_model.specs.Verdict.{if_kept, verdict_of}
use Rattle.decoder_model.specs.declared.set_end.SetEnd.{SetEnd}
use Rattle.decoder_model.specs.declared.set_end.SetEnd.TheVariants.{Shown, Waiting, Broken, NotLater}
use Rattle.decoder_model.specs.declared.set_fault.SetFault.TheVariants.{NoPage}
use Rattle.sent_sets.specs.RawSets.{RawSet}
use Rattle.set_receiver.specs.Receiving.{IsSameReception, SetReceiving}
use Rattle.set_receiver.specs.Taking.{HasPast}
use Rattle.splice.specs.SplicedSets.{ArePaintedIn, begin_of, is_before, moved}
use Rattle.splice.specs.StreamTests.{IsLookedAt}
use Rattle.splice.specs.Private.JoinedSets.{IsJoinedOf}
use Rattle.splice.specs.Private.Parts.{cut_of, is_looked_at, placed, sent_time, shown_before}
use Rattle.splice.specs.Private.Puts.{IsPut}
use Rattle.splice.specs.Private.Sendings.{IsSendingOf}
use Rattle.splice.specs.Private.Surveys.{IsFoundSo, IsPlacedAt, IsUnshownIn, TakesSets, first_time, is_good, is_shown}
use Rattle.splice.specs.declared.found.Finding.{Finding}
use Rattle.splice.specs.declared.found.Finding.TheVariants.{Good, Unshown, Lost}
use Rattle.splice.specs.declared.found.Found.{Found}
use Rattle.splice.specs.declared.joined.Joined.{Joined}
use Rattle.splice.specs.declared.part.Part.{Part}
use Rattle.splice.specs.declared.part.Part.TheVariants.{Before, From}
use Rattle.splice.specs.declared.prepared.Placed.{Placed}

-- ---- several steps

pub takes_none : (part : Part) (receiving : SetReceiving) (found : Found) (joined : Joined)
    → TakesSets part receiving receiving found found joined joined
takes_none part receiving found joined = record { goes = λ made earlier ended packets. λ so. so }

pub takes_both : (part : Part) (old mid new : SetReceiving) (was half is : Found) (start between end : Joined)
    → TakesSets part old mid was half start between → TakesSets part mid new half is between end
    → TakesSets part old new was is start end
takes_both part old mid new was half is start between end one other = record {
  goes = λ made earlier ended packets. λ so.
      other.goes made earlier ended packets (one.goes made earlier ended packets so);
}

-- ---- once something keeps the stream from being joined

pub unshown_later : (made : Reception) (cut : Option ℕ) (past : List (Delivery Reading)) (place : ℕ)
    (one : Delivery Reading) → IsUnshownIn made cut past place → IsUnshownIn made cut (one ∷ past) place
unshown_later made cut past place one is = record {
  later = one ∷ is.later;
  delivery = is.delivery;
  before = is.before;
  parts = ap (λ (all : List (Delivery Reading)). one ∷ all) is.parts;
  place_is = is.place_is;
  looked_at = is.looked_at;
  not_shown = is.not_shown;
  first = is.first;
}

bad_stays : (made : Reception) (part : Part) (earlier : List RawSet) (packets : List (List ℕ))
    (past : List (Delivery Reading)) (one : Delivery Reading) (before after : List (Delivery (List ℕ)))
    (found : Found) (joined : Joined) (finding : Finding) → is_good finding ≡ false
    → IsFoundSo made part earlier packets past before found joined finding
    → IsFoundSo made part earlier packets (one ∷ past) after found joined finding
bad_stays made part earlier packets past one before after found joined Good bad so = absurd (cc)
bad_stays made part earlier packets past one before after found joined (Unshown set) bad so =
    (so.0, unshown_later made (shown_before part) past set one so.1, so.2)
bad_stays made part earlier packets past one before after found joined (Lost packet) bad so = so

-- a set is passed over
pub passed_over : (part : Part) (old new : SetReceiving) (found : Found) (joined : Joined) → IsSameReception old new
    → ((ended : Bool) (packets : List (List ℕ)) (past : List (Delivery Reading)) → HasPast ended packets past old
    → (one : Delivery Reading) × HasPast ended packets (one ∷ past) new)
    → is_good found.finding ≡ false → TakesSets part old new found found joined joined
passed_over part old new found joined same taken bad = record {
  goes = λ made earlier ended packets. λ so.
      let next = taken ended packets so.past so.has in
      record {
        own = same ∙ so.own;
        low = so.low;
        few = so.few;
        past = next.0 ∷ so.past;
        has = next.1;
        so =
            bad_stays made part earlier packets so.past next.0 (reverse so.has.given) (reverse next.1.given) found
            joined found.finding bad so.so;
      };
}

-- ---- a shown set

no_page : (profile : Profile) (last lifted : Option ℕ) (time : ℕ)
    → Some (if_kept lifted last (Broken NoPage)) ≡ Some Shown → ⊥
no_page profile last None time e = cc
no_page profile last (Some at) time e = cc

-- a shown set has a segment at least
pub some_segments : (profile : Profile) (anchor : ℕ) (past : List (Delivery Reading)) (time size : ℕ)
    (segments : List (List ℕ)) (readings : List Reading) → AreReadings segments readings
    → verdict_of profile anchor past (whole time size readings) ≡ Some Shown → 1 ≤ length segments
some_segments profile anchor past time size [] [] are shown =
    absurd (no_page profile (last_time anchor past) (lifted_behind anchor (last_time anchor past) time) time shown)
some_segments profile anchor past time size [] (reading ∷ readings) are shown = absurd are
some_segments profile anchor past time size (segment ∷ segments) readings are shown = omega arith

-- a set that is looked at where it is sent
pub looked_sent : (part : Part) (begin : Option ℕ) (lifted time : ℕ) → sent_time part begin lifted ≡ Some time
    → is_looked_at part (Some lifted) ≡ true
looked_sent (Before cut) begin lifted time e = by (nat_lt lifted cut) refl e
  where
    by : (is : Bool) → nat_lt lifted cut ≡ is → cond is (Some lifted) None ≡ Some time → nat_lt lifted cut ≡ true
    by true is e = is
    by false is e = absurd (cc)
looked_sent (From cut) begin lifted time e = refl

pub end_shown : (end : SetEnd) → is_shown end ≡ true → end ≡ Shown
end_shown Shown is = refl
end_shown Waiting is = absurd (cc)
end_shown (Broken fault) is = absurd (cc)
end_shown (NotLater last) is = absurd (cc)

pub not_end_shown : (end : SetEnd) → is_shown end ≡ false → Some end ≡ Some Shown → ⊥
not_end_shown Shown is e = cc
not_end_shown Waiting is e = cc
not_end_shown (Broken fault) is e = cc
not_end_shown (NotLater last) is e = cc

-- which sets are looked at
pub looked_at_of : (part : Part) (lifted : Option ℕ) → is_looked_at part lifted ≡ true
    → IsLookedAt (shown_before part) lifted
looked_at_of (Before cut) None is = tt
looked_at_of (Before cut) (Some lifted) is = grind (arith, nat_tests)
looked_at_of (From cut) lifted is = tt

pub looked_at_is : (part : Part) (lifted : Option ℕ) → IsLookedAt (shown_before part) lifted
    → is_looked_at part lifted ≡ true
looked_at_is (Before cut) None is = refl
looked_at_is (Before cut) (Some lifted) is = grind (arith, nat_tests)
looked_at_is (From cut) lifted is = refl

-- ---- sets that are sent

some_is : (a b : ℕ) → Some a ≡ Some b → a ≡ b
some_is a b e = cc

-- a set that is sent at a time
abbrev at_time : ℕ → RawSet → RawSet
at_time time set = record { time = time; segments = set.segments }

begin_more : (sets : List RawSet) (set : RawSet)
    → begin_of (sets ++ set ∷ []) ≡ unwrap_or (first_time sets) set.time
begin_more [] set = refl
begin_more (one ∷ sets) set = refl

moved_same : (cut : ℕ) (sets : List RawSet) (set : RawSet)
    → map (moved cut (begin_of (sets ++ set ∷ []))) sets ≡ map (moved cut (begin_of sets)) sets
moved_same cut [] set = refl
moved_same cut (one ∷ sets) set = refl

-- with one more that is kept
placed_more : (part : Part) (sets : List RawSet) (set : RawSet) (time : ℕ)
    → sent_time part (first_time sets) set.time ≡ Some time
    → placed part (sets ++ set ∷ []) ≡ placed part sets ++ at_time time set ∷ []
placed_more (Before cut) sets set time e =
    filter-append (is_before cut) sets (set ∷ []) ∙ ap (λ l. filter (is_before cut) sets ++ l)
    (by (nat_lt set.time cut) e)
  where
    by : (is : Bool) → cond is (Some set.time) None ≡ Some time → cond is (set ∷ []) [] ≡ at_time time set ∷ []
    by true e = ap (λ t. at_time t set ∷ []) (some_is set.time time e)
    by false e = absurd (cc)
placed_more (From cut) sets set time e =
    map-append (moved cut (begin_of (sets ++ set ∷ []))) sets (set ∷ [])
    ∙ (λ i. moved_same cut sets set i
    ++ at_time (set.time + cut - begin_more sets set i) set ∷ [])
    ∙ ap (λ t. map (moved cut (begin_of sets)) sets ++ at_time t set ∷ [])
    (some_is (set.time + cut - unwrap_or (first_time sets) set.time) time e)

placed_same : (part : Part) (sets : List RawSet) (set : RawSet) → sent_time part (first_time sets) set.time ≡ None
    → placed part (sets ++ set ∷ []) ≡ placed part sets
placed_same (Before cut) sets set e =
    filter-append (is_before cut) sets (set ∷ []) ∙ ap (λ l. filter (is_before cut) sets ++ l)
    (by (nat_lt set.time cut) e) ∙ append-nil (filter (is_before cut) sets)
  where
    by : (is : Bool) → cond is (Some set.time) None ≡ None → cond is (set ∷ []) [] ≡ []
    by true e = absurd (cc)
    by false e = refl
placed_same (From cut) sets set e = absurd (cc)

sent_low : (part : Part) (begin : Option ℕ) (lifted time : ℕ) → cut_of part < 2 ^ 34 → lifted < 2 ^ 61
    → sent_time part begin lifted ≡ Some time → time < 2 ^ 62
sent_low (Before cut) begin lifted time low few e = by (nat_lt lifted cut) e
  where
    by : (is : Bool) → cond is (Some lifted) None ≡ Some time → time < 2 ^ 62
    by true e = omega (arith, some_is lifted time e, few)
    by false e = absurd (cc)
sent_low (From cut) begin lifted time low few e =
    omega (arith, some_is (lifted + cut - unwrap_or begin lifted) time e, low, few)

pub first_or : (xs ys : List RawSet) → option_or (first_time xs) (first_time ys) ≡ first_time (xs ++ ys)
first_or [] ys = refl
first_or (x ∷ xs) ys = refl

-- a set more is kept, and put last where it is sent
pub joined_one : (part : Part) (earlier kept : List RawSet) (set : RawSet) (placing : Option Placed) (painted : ℕ)
    (start fin : Joined) → IsJoinedOf (earlier ++ placed part kept) start → cut_of part < 2 ^ 34
    → set.time < 2 ^ 61
    → IsPlacedAt (sent_time part (first_time kept) set.time) set.segments placing
    → IsPut placing painted start fin
    → ((time : ℕ) → sent_time part (first_time kept) set.time ≡ Some time
    → (1 ≤ length set.segments) × ArePaintedIn set.segments painted) → painted < 2 ^ 62
    → IsJoinedOf (earlier ++ placed part (kept ++ set ∷ [])) fin
joined_one part earlier kept set placing painted start fin joined low few is_placed put shown short =
    by (sent_time part (first_time kept) set.time) refl is_placed
  where
    one_put : (time : ℕ) → sent_time part (first_time kept) set.time ≡ Some time → (one : Placed)
        → placing ≡ Some one → one.time ≡ time
        → (1 ≤ length set.segments → IsSendingOf (at_time time set) one.sending)
        → IsJoinedOf (earlier ++ placed part (kept ++ set ∷ [])) fin
    one_put time e one is at sends =
        let puts : IsPut (Some one) painted start fin =
        subst (λ (p : Option Placed). IsPut p painted start fin) is put in
        let good = shown time e in
        subst (λ (all : List RawSet). IsJoinedOf all fin)
        (append_assoc earlier (placed part kept) (at_time time set ∷ [])
        ∙ ap (λ (all : List RawSet). earlier ++ all) (sym (placed_more part kept set time e)))
        (puts (earlier ++ placed part kept) (at_time time set) joined (sends good.0) (sym at)
        (let less = sent_low part (first_time kept) set.time time low few e in omega (arith, less, at)) good.1 short)

    by : (at : Option ℕ) → sent_time part (first_time kept) set.time ≡ at → IsPlacedAt at set.segments placing
        → IsJoinedOf (earlier ++ placed part (kept ++ set ∷ [])) fin
    by None e is =
        let same : fin ≡ start = subst (λ (p : Option Placed). IsPut p painted start fin) is put in
        subst (λ (all : List RawSet). IsJoinedOf all fin)
        (ap (λ (all : List RawSet). earlier ++ all) (sym (placed_same part kept set e)))
        (subst (λ (j : Joined). IsJoinedOf (earlier ++ placed part kept) j) (sym same) joined)
    by (Some time) e is = one_put time e is.0 is.1 is.2 is.3
