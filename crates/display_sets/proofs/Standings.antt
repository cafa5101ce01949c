-- A gathering goes on standing for all that arrived: what each call changes.
use Rattle.std.proofs.Common.{◌≡◌, ◌∙◌, ◌<◌, ◌≤◌, ◌^◌, arith, length, ℕ, Bool, true, false, List, [], ◌∷◌, ◌++◌, reverse, Option, Some, None, refl, sym, ap, subst, append-nil, append_assoc}
use Rattle.std.specs.Bool.{if◌then◌else◌, OnFalse}
use Rattle.std.specs.Borrow.{Bor}
use Rattle.std.specs.Option.{is_some}
use Rattle.std.specs.Prelude.{Result, Ok, Err, IfOk}
use Rattle.decoder_model.specs.declared.set_fault.SetFault.{SetFault}
use Rattle.display_sets.specs.declared.ready.Ready.{Ready}
use Rattle.decoder_model.specs.Arrivals.{PesUnit, Arrival, loss, refused_unit, aside, unit}
use Rattle.decoder_model.specs.PacketArrivals.{last_run, is_in_hand}
use Rattle.decoder_model.specs.Sets.{Delivery, lost, runs_of, sets_in}
use Rattle.decoder_model.proofs.OnePacket.{IsLossArrival}
use Rattle.display_sets.specs.Gathered.{Gathered, ReadySet, ready_set, ready_in, ready_sets, first_ready, sets_behind}
use Rattle.display_sets.specs.Private.Hands.{ready_head, given_hand, closed_hand}
use Rattle.display_sets.specs.Standing.{IsInHand, AreReady, HasGathered, IsFirst}
use Rattle.display_sets.specs.declared.hand.Hand.{Hand}
use Rattle.display_sets.specs.declared.hand.Hand.TheVariants as hand
use Rattle.display_sets.specs.declared.hand.Head.{Head}
use Rattle.display_sets.proofs.RunSets.{set_of_run, open_set}
use Rattle.display_sets.proofs.LastRun.{latest_first, a_loss_adds, aside_adds, end_adds}
use Rattle.display_sets.proofs.Meetings.{ended_hand, open_hand, run_ready}

abbrev Deliveries : Type 0
Deliveries = List (Delivery (List ℕ))

-- ---- lists of what is ready

pub are_ready-append : (some more : Deliveries) (sets others : List ReadySet) → AreReady some sets
    → AreReady more others → AreReady (some ++ more) (sets ++ others)
are_ready-append [] more [] others h k = k
are_ready-append [] more (set ∷ sets) others h k = absurd h
are_ready-append (delivery ∷ some) more [] others h k = absurd h
are_ready-append (delivery ∷ some) more (set ∷ sets) others h k =
    (h.0, are_ready-append some more sets others h.1 k)

none_ready : (waiting : Deliveries) (sets : List ReadySet) → AreReady waiting sets → sets ≡ [] → waiting ≡ []
none_ready [] sets h e = refl
none_ready (delivery ∷ waiting) [] h e = absurd h
none_ready (delivery ∷ waiting) (set ∷ sets) h e = absurd (cc)

pub front_none : {X : Type 0} (xs ys : List X) → xs ++ ys ≡ [] → xs ≡ []
front_none [] ys e = refl
front_none (x ∷ xs) ys e = absurd (cc)

no_set : (sets : List ReadySet) → sets ≡ [] → AreReady [] sets
no_set sets e = subst (AreReady []) (sym e) tt

-- where nothing is ready, all sets and losses were given
pub all_given : (arrivals : List Arrival) (given : Deliveries) (old : Gathered) → HasGathered arrivals false given old
    → ready_sets old ≡ [] → sets_in old.coded false (runs_of arrivals) ≡ given
all_given arrivals given old h none =
    h.sets ∙ ap (λ waiting. given ++ waiting) (none_ready h.waiting (ready_sets old) h.are_ready none)
    ∙ append-nil given

-- and no set waits that was made ready by a unit of another time
pub none_parted : (old : Gathered) → ready_sets old ≡ [] → AreReady [] (ready_in old.parted old.parted_bytes)
none_parted old none =
    no_set (ready_in old.parted old.parted_bytes)
    (front_none (ready_in old.parted old.parted_bytes) (ready_in (ready_head old.hand) old.bytes) none)

-- ---- a loss

lost_run : (arrivals : List Arrival) (last : Arrival) → IsLossArrival last
    → last_run (reverse (arrivals ++ last ∷ [])) ≡ []
lost_run arrivals loss h = ap last_run (latest_first arrivals loss)
lost_run arrivals refused_unit h = ap last_run (latest_first arrivals refused_unit)
lost_run arrivals aside h = absurd h
lost_run arrivals (unit one) h = absurd h

-- the gathering behind a loss
abbrev pub given_up : Gathered → Gathered
given_up old = record old { hand = hand.Empty }

pub lost_stands : (old new : Gathered) (last : Arrival) → IsLossArrival last → new ≡ given_up old
    → ready_sets old ≡ []
    → (arrivals : List Arrival) (given : Deliveries) → HasGathered arrivals false given old
    → HasGathered (arrivals ++ last ∷ []) false (given ++ lost ∷ []) new
lost_stands old new last is_loss is none arrivals given h =
    subst (HasGathered (arrivals ++ last ∷ []) false (given ++ lost ∷ [])) (sym is) (record {
      in_hand = lost_run arrivals last is_loss;
      waiting = [];
      sets =
          a_loss_adds old.coded arrivals last is_loss
          ∙ ap (λ sets. sets ++ lost ∷ []) (all_given arrivals given old h none)
          ∙ sym (append-nil (given ++ lost ∷ []));
      are_ready = are_ready-append [] [] (ready_in old.parted old.parted_bytes) [] (none_parted old none) tt;
    })

-- ---- a unit that is passed over

pub aside_stands : (old : Gathered) (arrivals : List Arrival) (given : Deliveries)
    → HasGathered arrivals false given old
    → HasGathered (arrivals ++ aside ∷ []) false given old
aside_stands old arrivals given h = record {
  in_hand =
      subst (λ units. IsInHand old.coded units old.hand old.bytes) (sym (ap last_run (latest_first arrivals aside)))
      h.in_hand;
  waiting = h.waiting;
  sets = aside_adds old.coded arrivals ∙ h.sets;
  are_ready = h.are_ready;
}

-- ---- the end of the stream

abbrev pub ended_up : Gathered → Gathered
ended_up old = record old { hand = closed_hand old.hand }

closed_ready : (coded : ℕ) (units : List PesUnit) (own : Hand) (bytes : List ℕ) → IsInHand coded units own bytes
    → ready_in (ready_head own) bytes ≡ []
    → AreReady (open_set coded units) (ready_in (ready_head (closed_hand own)) bytes)
closed_ready coded units hand.Empty bytes h none = subst (λ units. AreReady (open_set coded units) []) (sym h) tt
closed_ready coded units (hand.Open time size) bytes h none =
    let in_hand : is_in_hand coded units ≡ true = open_hand coded units h.of_time.some h.frames.no_end in
    subst (λ b. AreReady (if b then set_of_run units else [])
    (ready_set bytes (record { time = time; size = size; fault = None }) ∷ [])) (sym in_hand)
    (run_ready coded units (record { time = time; size = size; fault = None }) bytes h refl)
closed_ready coded units (hand.Ready head) bytes h none = absurd (cc)
closed_ready coded units (hand.Given time) bytes h none =
    subst (λ b. AreReady (if b then set_of_run units else []) []) (sym (ended_hand coded units h.ended)) tt

back_none : {X : Type 0} (xs ys : List X) → xs ++ ys ≡ [] → ys ≡ []
back_none [] ys e = e
back_none (x ∷ xs) ys e = absurd (cc)

pub finish_stands : (old new : Gathered) → new ≡ ended_up old → ready_sets old ≡ []
    → (arrivals : List Arrival) (given : Deliveries) → HasGathered arrivals false given old
    → HasGathered arrivals true given new
finish_stands old new is none arrivals given h = subst (HasGathered arrivals true given) (sym is) (record {
  in_hand = tt;
  waiting = open_set old.coded (last_run (reverse arrivals));
  sets =
      end_adds old.coded arrivals
      ∙ ap (λ sets. sets ++ open_set old.coded (last_run (reverse arrivals))) (all_given arrivals given old h none);
  are_ready =
      are_ready-append [] (open_set old.coded (last_run (reverse arrivals))) (ready_in old.parted old.parted_bytes)
      (ready_in (ready_head (closed_hand old.hand)) old.bytes) (none_parted old none)
      (closed_ready old.coded (last_run (reverse arrivals)) old.hand old.bytes h.in_hand
      (back_none (ready_in old.parted old.parted_bytes) (ready_in (ready_head old.hand) old.bytes) none));
})

-- ---- what is ready first

first_of_waiting : (all given waiting : Deliveries) (sets : List ReadySet) → all ≡ given ++ waiting
    → AreReady waiting sets → IsFirst all given (first_ready sets)
first_of_waiting all given [] [] e h = e ∙ append-nil given
first_of_waiting all given [] (set ∷ sets) e h = absurd h
first_of_waiting all given (delivery ∷ waiting) [] e h = absurd h
first_of_waiting all given (delivery ∷ waiting) (set ∷ sets) e h = (delivery, waiting, e, h.0)

pub first_is : (now : Gathered) (first : Option ReadySet) → first ≡ first_ready (ready_sets now)
    → (arrivals : List Arrival) (ended : Bool) (given : Deliveries) → HasGathered arrivals ended given now
    → IsFirst (sets_in now.coded ended (runs_of arrivals)) given first
first_is now first is arrivals ended given h =
    subst (IsFirst (sets_in now.coded ended (runs_of arrivals)) given) (sym is)
    (first_of_waiting (sets_in now.coded ended (runs_of arrivals)) given h.waiting (ready_sets now) h.sets
    h.are_ready)

-- ---- a set that is given

same_behind : (given some others : Deliveries) → given ++ some ≡ given ++ others → some ≡ others
same_behind [] some others e = e
same_behind (one ∷ given) some others e =
    same_behind given some others (let tails : given ++ some ≡ given ++ others = cc in tails)

behind_first : (delivery : Delivery (List ℕ)) (rest waiting : Deliveries) (sets : List ReadySet)
    → waiting ≡ delivery ∷ rest → AreReady waiting sets → AreReady rest (sets_behind sets)
behind_first delivery rest [] sets e h = absurd (cc)
behind_first delivery rest (one ∷ waiting) [] e h = absurd h
behind_first delivery rest (one ∷ waiting) (set ∷ sets) e h =
    let same : waiting ≡ rest = cc in subst (λ left. AreReady left sets) same h.1

pub give_stands : (old new : Gathered) → new.coded ≡ old.coded → ready_sets new ≡ sets_behind (ready_sets old)
    → ((units : List PesUnit) → IsInHand old.coded units old.hand old.bytes
    → IsInHand old.coded units new.hand new.bytes)
    → (arrivals : List Arrival) (ended : Bool) (given rest : Deliveries) (delivery : Delivery (List ℕ))
    → HasGathered arrivals ended given old
    → sets_in old.coded ended (runs_of arrivals) ≡ given ++ delivery ∷ rest
    → HasGathered arrivals ended (given ++ delivery ∷ []) new
give_stands old new coded are kept arrivals ended given rest delivery h split = record {
  in_hand = by ended h.in_hand;
  waiting = rest;
  sets =
      ap (λ coded. sets_in coded ended (runs_of arrivals)) coded ∙ split
      ∙ sym (append_assoc given (delivery ∷ []) rest);
  are_ready =
      subst (AreReady rest) (sym are)
      (behind_first delivery rest h.waiting (ready_sets old)
      (same_behind given h.waiting (delivery ∷ rest) (sym h.sets ∙ split)) h.are_ready);
}
  where
    by : (ended : Bool) → OnFalse ended (IsInHand old.coded (last_run (reverse arrivals)) old.hand old.bytes)
        → OnFalse ended (IsInHand new.coded (last_run (reverse arrivals)) new.hand new.bytes)
    by true in_hand = tt
    by false in_hand =
        subst (λ coded. IsInHand coded (last_run (reverse arrivals)) new.hand new.bytes) (sym coded)
        (kept (last_run (reverse arrivals)) in_hand)

pub given_kept : (coded : ℕ) (own : Hand) (bytes : List ℕ) (units : List PesUnit)
    → IsInHand coded units own bytes → IsInHand coded units (given_hand own) bytes
given_kept coded hand.Empty bytes units h = h
given_kept coded (hand.Open time size) bytes units h = h
given_kept coded (hand.Ready head) bytes units h = h
given_kept coded (hand.Given time) bytes units h = h

pub given_behind : (own : Hand) (bytes : List ℕ)
    → ready_in (ready_head (given_hand own)) bytes ≡ sets_behind (ready_in (ready_head own) bytes)
given_behind hand.Empty bytes = refl
given_behind (hand.Open time size) bytes = refl
given_behind (hand.Ready head) bytes = refl
given_behind (hand.Given time) bytes = refl

-- ---- the calls

pub closed_by : (inside now : Gathered) (own : Hand) → own ≡ closed_hand inside.hand → inside ≡ now
    → record inside { hand = own } ≡ ended_up now
closed_by inside now own is same = ap (λ (own : Hand). record inside { hand = own }) is ∙ ap ended_up same

without_parted : (old : Gathered) → is_some old.parted ≡ true
    → ready_sets (record old { parted = None }) ≡ sets_behind (ready_sets old)
without_parted old there = by old.parted there
  where
    by : (parted : Option Head) → is_some parted ≡ true
        → ready_in (ready_head old.hand) old.bytes
        ≡ sets_behind (ready_in parted old.parted_bytes ++ ready_in (ready_head old.hand) old.bytes)
    by None there = absurd (cc)
    by (Some head) there = refl

-- the set that a unit of another time made ready is given
pub give_parted : (inside now : Gathered) (there : Bool) → inside ≡ now → there ≡ is_some inside.parted
    → there ≡ true
    → (arrivals : List Arrival) (ended : Bool) (given rest : Deliveries) (delivery : Delivery (List ℕ))
    → HasGathered arrivals ended given now
    → sets_in now.coded ended (runs_of arrivals) ≡ given ++ delivery ∷ rest
    → HasGathered arrivals ended (given ++ delivery ∷ []) (record inside { parted = None })
give_parted inside now there same is holds arrivals ended given rest delivery h split =
    subst (λ (old : Gathered). HasGathered arrivals ended (given ++ delivery ∷ []) (record old { parted = None }))
    (sym same)
    (give_stands now (record now { parted = None }) refl
    (without_parted now (ap (λ (old : Gathered). is_some old.parted) (sym same) ∙ sym is ∙ holds))
    (λ units. λ own. own) arrivals ended given rest delivery h split)

without_hand : (old : Gathered) → is_some old.parted ≡ false
    → ready_sets (record old { hand = given_hand old.hand }) ≡ sets_behind (ready_sets old)
without_hand old there = by old.parted there
  where
    by : (parted : Option Head) → is_some parted ≡ false
        → ready_in parted old.parted_bytes
        ++ ready_in (ready_head (given_hand old.hand)) old.bytes
        ≡ sets_behind (ready_in parted old.parted_bytes ++ ready_in (ready_head old.hand) old.bytes)
    by None there = given_behind old.hand old.bytes
    by (Some head) there = absurd (cc)

-- the set in hand is given
pub give_hand : (inside now : Gathered) (there : Bool) (own : Hand) → inside ≡ now
    → there ≡ is_some inside.parted → there ≡ false → own ≡ given_hand inside.hand
    → (arrivals : List Arrival) (ended : Bool) (given rest : Deliveries) (delivery : Delivery (List ℕ))
    → HasGathered arrivals ended given now
    → sets_in now.coded ended (runs_of arrivals) ≡ given ++ delivery ∷ rest
    → HasGathered arrivals ended (given ++ delivery ∷ []) (record inside { hand = own })
give_hand inside now there own same is fails given_is arrivals ended given rest delivery h split =
    subst (λ (own : Hand). HasGathered arrivals ended (given ++ delivery ∷ []) (record inside { hand = own }))
    (sym given_is)
    (subst (λ (old : Gathered). HasGathered arrivals ended (given ++ delivery ∷ [])
    (record old { hand = given_hand old.hand })) (sym same)
    (give_stands now (record now { hand = given_hand now.hand }) refl
    (without_hand now (ap (λ (old : Gathered). is_some old.parted) (sym same) ∙ sym is ∙ fails))
    (λ units. λ own. given_kept now.coded now.hand now.bytes units own) arrivals ended given rest delivery h split))

pub left_parted : (inside now : Gathered) (there : Bool) → inside ≡ now → there ≡ is_some inside.parted
    → there ≡ true → ready_sets (record inside { parted = None }) ≡ sets_behind (ready_sets now)
left_parted inside now there same is holds =
    without_parted inside (sym is ∙ holds) ∙ ap (λ (old : Gathered). sets_behind (ready_sets old)) same

pub left_hand : (inside now : Gathered) (there : Bool) (own : Hand) → inside ≡ now
    → there ≡ is_some inside.parted → there ≡ false → own ≡ given_hand inside.hand
    → ready_sets (record inside { hand = own }) ≡ sets_behind (ready_sets now)
left_hand inside now there own same is fails given_is =
    ap (λ (own : Hand). ready_sets (record inside { hand = own })) given_is
    ∙ without_hand inside (sym is ∙ fails) ∙ ap (λ (old : Gathered). sets_behind (ready_sets old)) same

-- what is ready first, by what is kept
first_parted : (inside now : Gathered) (head : Head) → inside ≡ now → inside.parted ≡ Some head
    → Some (ready_set inside.parted_bytes head) ≡ first_ready (ready_sets now)
first_parted inside now head same is =
    sym (ap (λ (parted : Option Head). first_ready
    (ready_in parted inside.parted_bytes ++ ready_in (ready_head inside.hand) inside.bytes)) is)
    ∙ ap (λ (old : Gathered). first_ready (ready_sets old)) same

first_hand : (inside now : Gathered) (found : Option Head) → inside ≡ now → inside.parted ≡ None
    → found ≡ ready_head inside.hand → first_ready (ready_in found inside.bytes) ≡ first_ready (ready_sets now)
first_hand inside now found same is found_is =
    ap (λ (found : Option Head). first_ready (ready_in found inside.bytes)) found_is
    ∙ sym (ap
    (λ (parted : Option Head). first_ready
    (ready_in parted inside.parted_bytes ++ ready_in (ready_head inside.hand) inside.bytes)) is)
    ∙ ap (λ (old : Gathered). first_ready (ready_sets old)) same

pub ready_parted : (inside now : Gathered) (head : Head) (bytes : List ℕ) (set : ReadySet) → inside ≡ now
    → inside.parted ≡ Some head → set ≡ ready_set bytes head → bytes ≡ inside.parted_bytes
    → (arrivals : List Arrival) (ended : Bool) (given : Deliveries) → HasGathered arrivals ended given now
    → IsFirst (sets_in now.coded ended (runs_of arrivals)) given (Some set)
ready_parted inside now head bytes set same is lent bytes_are =
    first_is now (Some set)
    (ap Some (lent ∙ ap (λ (bytes : List ℕ). ready_set bytes head) bytes_are)
    ∙ first_parted inside now head same is)

pub ready_hand : (inside now : Gathered) (head : Head) (bytes : List ℕ) (set : ReadySet) → inside ≡ now
    → inside.parted ≡ None → Some head ≡ ready_head inside.hand → set ≡ ready_set bytes head
    → bytes ≡ inside.bytes
    → (arrivals : List Arrival) (ended : Bool) (given : Deliveries) → HasGathered arrivals ended given now
    → IsFirst (sets_in now.coded ended (runs_of arrivals)) given (Some set)
ready_hand inside now head bytes set same is found lent bytes_are =
    first_is now (Some set)
    (ap Some (lent ∙ ap (λ (bytes : List ℕ). ready_set bytes head) bytes_are)
    ∙ first_hand inside now (Some head) same is found)

pub ready_none : (inside now : Gathered) → inside ≡ now → inside.parted ≡ None
    → None ≡ ready_head inside.hand
    → (arrivals : List Arrival) (ended : Bool) (given : Deliveries) → HasGathered arrivals ended given now
    → IsFirst (sets_in now.coded ended (runs_of arrivals)) given None
ready_none inside now same is found = first_is now None (first_hand inside now None same is found)

-- the bytes that are lent are as few as those that are kept
pub lent_within : (found ready : Ready) (bytes : List ℕ) (coded : ℕ) → Some found ≡ Some ready
    → IfOk found.segments (λ segments. segments.now ≡ bytes) → length bytes ≤ coded → coded < 2 ^ 32
    → IfOk ready.segments (λ segments. length segments.now < 2 ^ 32)
lent_within found ready bytes coded is same within few =
    subst (λ (one : Ready). IfOk one.segments (λ segments. length segments.now < 2 ^ 32))
    (let e : found ≡ ready = cc in e) (by found.segments same)
  where
    by : (content : Result (Bor (List ℕ)) SetFault) → IfOk content (λ segments. segments.now ≡ bytes)
        → IfOk content (λ segments. length segments.now < 2 ^ 32)
    by (Ok segments) is = omega (arith, ap (λ (all : List ℕ). length all) is, within, few)
    by (Err fault) is = tt
