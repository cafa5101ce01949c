-- A receiver whose lifted times begin when its first packet arrives: packets that it takes.
use Rattle.std.proofs.Common.{◌≡◌, ◌∙◌, ℕ, zero, suc, ◌+◌, ◌-◌, ◌<◌, min, Bool, true, false, List, [], ◌∷◌, ◌++◌, length, get_or, Option, Some, None, Result, Ok, Err, MatchResult, OnOk, is_some, append-nil, append_assoc, refl, sym, ap, subst, arith}
use Rattle.std.proofs.Math.Seq.{get_or-append_right, get_or-append_seam}
use Rattle.std.proofs.lemmas.List.{get_or_append_left, length-append}
use Rattle.buffer_model.specs.Ticks.{by_ticks}
use Rattle.check_text.specs.Checking.{Checking, HasMetered}
use Rattle.check_text.specs.Others.{IsOther}
use Rattle.check_text.proofs.OtherLaws.{other_metered}
use Rattle.command_text.specs.Putting.{Buffered}
use Rattle.command_text.proofs.PutLaws.{PutsOut-both, PutsOut-nothing}
use Rattle.decoder_model.specs.Received.{Reception}
use Rattle.packet_walk.specs.Told.{TellsOne}
use Rattle.pcr_clock.specs.Arrivals.{tick_at, tick_between, ticks_of_run}
use Rattle.pcr_clock.specs.declared.arrival.NextSample.{NextSample}
use Rattle.pcr_clock.proofs.RunLaws.{run_count}
use Rattle.set_receiver.specs.Receiving.{reception}
use Rattle.stream_syntax.specs.declared.transport.PacketFault.{PacketFault}
use Rattle.sub_base.specs.Endpoints.{Received}
use Rattle.level_text.specs.Anchoring.{Anchoring, HasBegun, HasTimed, IsAskedFor, IsMeterFor, IsBegunIn, IsTimed, IsTimedIn, TakesTimed}
use Rattle.level_text.specs.ClockText.{from_first}
use Rattle.level_text.specs.Held.{AreValidPackets, IsRun, TakesHeld, held_of, tick_in}
use Rattle.level_text.specs.declared.anchored_meter.TheConstants.{LATEST_ANCHOR}
use Rattle.level_text.specs.declared.held.HeldPacket.{HeldPacket}
use Rattle.level_text.specs.declared.held.Run.{Run}
use Rattle.level_text.proofs.SlotLaws.{metered_same}

pub not_both : (test : Bool) → test ≡ true → test ≡ false → ⊥
not_both test one other = cc

-- ---- ticks of which more become known

-- the packets whose ticks were known arrive at the same
more_metered : (known more : List ℕ) (sets : Checking) (packets : List (List ℕ)) (text : List ℕ)
    → length known ≡ length packets → HasMetered (tick_at known) sets packets text
    → HasMetered (tick_at (known ++ more)) sets packets text
more_metered known more sets packets text counted has =
    metered_same (tick_at known) (tick_at (known ++ more)) sets packets text
    (λ k within. sym (get_or_append_left known more 0 k (omega (arith, within, counted)))) has

-- lifted times begin with the same packet
same_first : (known more : List ℕ) (asked : Reception) → 0 < length known
    → from_first known asked ≡ from_first (known ++ more) asked
same_first known more asked some = λ i. record {
  profile = asked.profile;
  pid = asked.pid;
  pages = asked.pages;
  anchor = min LATEST_ANCHOR (sym (get_or_append_left known more 0 0 some) i);
}

-- ---- the receiver is made with the first packet

none_known : (known : List ℕ) (packets : List (List ℕ)) → packets ≡ [] → length known ≡ length packets → known ≡ []
none_known [] packets none counted = refl
none_known (tick ∷ known) packets none counted =
    absurd (let none_there : length packets ≡ 0 = ap length none in omega (arith, counted, none_there))

-- it is there
pub begun_there : (known : List ℕ) (tick : ℕ) (asked : Reception) (sets : Checking) (wanting : Bool)
    (taken : List (List ℕ)) (text : List ℕ)
    → HasTimed known (record { asked = asked; sets = Some sets; is_wanting = wanting }) taken text
    → HasBegun (known ++ tick ∷ []) (record { asked = asked; sets = Some sets; is_wanting = wanting }) taken text
begun_there known tick asked sets wanting taken text has = record {
  nothing = has.nothing;
  taken = λ found.
      let timed = has.taken found in record {
        own = timed.1.own ∙ same_first known (tick ∷ []) asked timed.0;
        pace = timed.1.pace;
        metered = more_metered known (tick ∷ []) sets taken text has.counted timed.1.metered;
      };
}

-- it is made
pub begun_anew : (known : List ℕ) (tick : ℕ) (asked : Reception) (sets : Checking) (taken : List (List ℕ))
    (text : List ℕ)
    → reception sets.receiving ≡ from_first (tick ∷ []) asked → sets.meter.pace ≡ by_ticks asked.profile
    → ((slot_of : ℕ → ℕ) → HasMetered slot_of sets [] [])
    → HasTimed known (record { asked = asked; sets = None; is_wanting = false }) taken text
    → HasBegun (known ++ tick ∷ []) (record { asked = asked; sets = Some sets; is_wanting = false }) taken text
begun_anew known tick asked sets taken text own pace metered has =
    let before = has.taken refl in
    let none : known ≡ [] = none_known known taken before.0 has.counted in
    record {
      nothing = λ wanting. absurd (cc);
      taken = λ found. record {
        own = own ∙ (λ i. from_first (sym none i ++ tick ∷ []) asked);
        pace = pace;
        metered =
            subst (λ (ticks : List ℕ). HasMetered (tick_at (ticks ++ tick ∷ [])) sets taken text) (sym none)
            (subst (λ (front : List ℕ). HasMetered (tick_at (tick ∷ [])) sets taken front) (sym before.1)
            (subst (λ (packets : List (List ℕ)). HasMetered (tick_at (tick ∷ [])) sets packets []) (sym before.0)
            (metered (tick_at (tick ∷ [])))));
      };
    }

-- no memory is found for it
pub begun_in_want : (known : List ℕ) (tick : ℕ) (asked : Reception) (taken : List (List ℕ)) (text : List ℕ)
    → HasTimed known (record { asked = asked; sets = None; is_wanting = false }) taken text
    → HasBegun (known ++ tick ∷ []) (record { asked = asked; sets = None; is_wanting = true }) taken text
begun_in_want known tick asked taken text has = record {
  nothing = λ wanting. (has.taken refl).1;
  taken = λ found. absurd (cc);
}

-- none was found before
pub begun_wanting : (known : List ℕ) (tick : ℕ) (asked : Reception) (taken : List (List ℕ)) (text : List ℕ)
    → HasTimed known (record { asked = asked; sets = None; is_wanting = true }) taken text
    → HasBegun (known ++ tick ∷ []) (record { asked = asked; sets = None; is_wanting = true }) taken text
begun_wanting known tick asked taken text has = record {
  nothing = has.nothing;
  taken = λ found. absurd (cc);
}

-- none came before
pub begun_first : (known : List ℕ) (tick : ℕ) (asked : Reception) (sets : Checking) (there : Option Checking)
    (wanting : Bool) (taken : List (List ℕ)) (text : List ℕ) → is_some there ≡ false → wanting ≡ false
    → reception sets.receiving ≡ from_first (tick ∷ []) asked → sets.meter.pace ≡ by_ticks asked.profile
    → ((slot_of : ℕ → ℕ) → HasMetered slot_of sets [] [])
    → HasTimed known (record { asked = asked; sets = there; is_wanting = wanting }) taken text
    → HasBegun (known ++ tick ∷ []) (record { asked = asked; sets = Some sets; is_wanting = wanting }) taken text
begun_first known tick asked sets None false taken text none found own pace metered has =
    begun_anew known tick asked sets taken text own pace metered has
begun_first known tick asked sets None true taken text none found own pace metered has =
    absurd (not_both true refl found)
begun_first known tick asked sets (Some one) wanting taken text none found own pace metered has =
    absurd (not_both true refl none)

-- none came before, and no memory is found
pub begun_unfound : (known : List ℕ) (tick : ℕ) (asked : Reception) (there : Option Checking) (wanting : Bool)
    (taken : List (List ℕ)) (text : List ℕ) → is_some there ≡ false → wanting ≡ false
    → HasTimed known (record { asked = asked; sets = there; is_wanting = wanting }) taken text
    → HasBegun (known ++ tick ∷ []) (record { asked = asked; sets = there; is_wanting = true }) taken text
begun_unfound known tick asked None false taken text none found has = begun_in_want known tick asked taken text has
begun_unfound known tick asked None true taken text none found has = absurd (not_both true refl found)
begun_unfound known tick asked (Some one) wanting taken text none found has = absurd (not_both true refl none)

-- one came before, or no memory was found
pub begun_before : (known : List ℕ) (tick : ℕ) (asked : Reception) (there : Option Checking) (wanting : Bool)
    (taken : List (List ℕ)) (text : List ℕ) → (is_some there ≡ false → wanting ≡ false → ⊥)
    → HasTimed known (record { asked = asked; sets = there; is_wanting = wanting }) taken text
    → HasBegun (known ++ tick ∷ []) (record { asked = asked; sets = there; is_wanting = wanting }) taken text
begun_before known tick asked None false taken text other has = absurd (other refl refl)
begun_before known tick asked None true taken text other has = begun_wanting known tick asked taken text has
begun_before known tick asked (Some sets) wanting taken text other has =
    begun_there known tick asked sets wanting taken text has

-- where a receiver is there, memory was found for it
pub found_where : (wanting : Bool) (there : Option Checking) (sets : Checking) → (wanting ≡ true → there ≡ None)
    → there ≡ Some sets → wanting ≡ false
found_where false there sets none is = refl
found_where true there sets none is = absurd (not_both true refl (sym (ap is_some (sym (none refl) ∙ is))))

-- a receiver that is there is for what is asked
pub asked_where : (asked : Reception) (there : Option Checking) (sets : Checking) → IsAskedFor asked there
    → there ≡ Some sets → IsMeterFor asked sets
asked_where asked there sets is same = subst (IsAskedFor asked) same is

-- a packet that can be taken is taken
pub taken_right : {X : Type 0} (result : Result (Unit {0}) PacketFault) (fault : Option PacketFault)
    → MatchResult result (λ _. fault ≡ None) (λ one. fault ≡ Some one) → fault ≡ None → OnOk result X → X
taken_right (Ok x) fault is none told = told
taken_right (Err one) fault is none told = absurd (not_both true refl (sym (ap is_some (sym none ∙ is))))

-- ---- packets

-- no packet
pub timed_none : (anchoring : Anchoring) (shown : Received) (buffer : Buffered)
    → TakesTimed shown shown anchoring anchoring buffer buffer [] []
timed_none anchoring shown buffer = record {
  goes = λ known taken text has. (
    [],
    subst (λ (ticks : List ℕ). HasTimed ticks anchoring (taken ++ []) (text ++ [])) (sym (append-nil known))
        (subst (λ (packets : List (List ℕ)). HasTimed known anchoring packets (text ++ [])) (sym (append-nil taken))
        (subst (λ (front : List ℕ). HasTimed known anchoring taken front) (sym (append-nil text)) has)),
    PutsOut-nothing shown buffer,
  );
}

-- packets, and others behind them
pub timed_both : (a b c : Received) (old mid new : Anchoring) (was between is : Buffered) (some more : List ℕ)
    (front rest : List (List ℕ))
    → TakesTimed a b old mid was between some front → TakesTimed b c mid new between is more rest
    → TakesTimed a c old new was is (some ++ more) (front ++ rest)
timed_both a b c old mid new was between is some more front rest one other = record {
  goes = λ known taken text has.
      let first = one.goes known taken text has in
      let second = other.goes (known ++ some) (taken ++ front) (text ++ first.0) first.1 in (
        first.0 ++ second.0,
        subst (λ (ticks : List ℕ). HasTimed ticks new (taken ++ (front ++ rest)) (text ++ (first.0 ++ second.0)))
            (append_assoc known some more)
            (subst (λ (packets : List (List ℕ)). HasTimed ((known ++ some) ++ more) new packets
            (text ++ (first.0 ++ second.0))) (append_assoc taken front rest)
            (subst (λ (told : List ℕ). HasTimed ((known ++ some) ++ more) new ((taken ++ front) ++ rest) told)
            (append_assoc text first.0 second.0) second.1)),
        PutsOut-both a b c was between is first.0 second.0 first.2 second.2,
      );
}

one_longer : (known : List ℕ) (tick : ℕ) (taken : List (List ℕ)) (packet : List ℕ) → length known ≡ length taken
    → length (known ++ tick ∷ []) ≡ length (taken ++ packet ∷ [])
one_longer known tick taken packet counted =
    omega (arith, counted, length-append known (tick ∷ []), length-append taken (packet ∷ []))

-- one packet, where the receiver is there
pub one_timed : (before now : Received) (old begun new : Anchoring) (sets next : Checking) (was is : Buffered)
    (tick : ℕ) (packet : List ℕ)
    → ((known : List ℕ) (taken : List (List ℕ)) (text : List ℕ) → HasTimed known old taken text
    → HasBegun (known ++ tick ∷ []) begun taken text)
    → begun.sets ≡ Some sets → begun.is_wanting ≡ false → new.sets ≡ Some next → new.is_wanting ≡ false
    → new.asked ≡ begun.asked
    → ((slot_of : ℕ → ℕ) (place : ℕ) → slot_of place ≡ tick
    → TellsOne (HasMetered slot_of) before now sets next was is place packet)
    → reception next.receiving ≡ reception sets.receiving → next.meter.pace ≡ sets.meter.pace
    → TakesTimed before now old new was is (tick ∷ []) (packet ∷ [])
one_timed before now old begun new sets next was is tick packet begins there found now_there now_found for_same tells
    same pace = record {
      goes = λ known taken text has.
          let timed : IsTimed begun.asked (known ++ tick ∷ []) sets taken text =
          subst (λ (one : Option Checking). IsBegunIn begun.asked (known ++ tick ∷ []) one taken text) there
          ((begins known taken text has).taken found) in
          let told =
          (tells (tick_at (known ++ tick ∷ [])) (length taken)
          (ap (λ (n : ℕ). get_or (known ++ tick ∷ []) n 0) (sym has.counted) ∙ get_or-append_seam known tick [] 0)).goes
          taken text refl timed.metered in (
            told.0,
            record {
              counted = one_longer known tick taken packet has.counted;
              nothing = λ wanting. absurd (not_both new.is_wanting wanting now_found);
              taken = λ _.
                  subst (λ (there : Option Checking). IsTimedIn new.asked (known ++ tick ∷ []) there
                  (taken ++ packet ∷ []) (text ++ told.0)) (sym now_there)
                  (subst (λ (asked : Reception). IsTimedIn asked (known ++ tick ∷ []) (Some next) (taken ++ packet ∷ [])
                  (text ++ told.0)) (sym for_same) (
                    omega (arith, length-append known (tick ∷ [])),
                    record {
                      own = same ∙ timed.own;
                      pace = pace ∙ timed.pace;
                      metered = told.1;
                    },
                  ));
            },
            told.2,
          );
    }

-- one packet, where no memory was found for the receiver
pub one_untold : (shown : Received) (old new : Anchoring) (buffer : Buffered) (tick : ℕ) (packet : List ℕ)
    → ((known : List ℕ) (taken : List (List ℕ)) (text : List ℕ) → HasTimed known old taken text
    → HasBegun (known ++ tick ∷ []) new taken text)
    → new.sets ≡ None → TakesTimed shown shown old new buffer buffer (tick ∷ []) (packet ∷ [])
one_untold shown old new buffer tick packet begins none = record {
  goes = λ known taken text has. (
    [],
    record {
      counted = one_longer known tick taken packet has.counted;
      nothing = λ wanting. append-nil text ∙ (begins known taken text has).nothing wanting;
      taken = λ found. absurd
          (subst (λ (there : Option Checking). IsBegunIn new.asked (known ++ tick ∷ []) there taken text) none
          ((begins known taken text has).taken found));
    },
    PutsOut-nothing shown buffer,
  );
}

-- one packet of another PID, which brings nothing, whether the receiver is there or not
other_in : (asked : Reception) (ticks : List ℕ) (there : Option Checking) (taken : List (List ℕ)) (packet : List ℕ)
    (text : List ℕ) → 0 < length ticks → IsOther asked.pid packet → IsBegunIn asked ticks there taken text
    → IsTimedIn asked ticks there (taken ++ packet ∷ []) text
other_in asked ticks None taken packet text some other is = absurd is
other_in asked ticks (Some sets) taken packet text some other is = (
  some,
  record {
    own = is.own;
    pace = is.pace;
    metered =
        other_metered (tick_at ticks) sets taken packet text
        (subst (λ (pid : ℕ). IsOther pid packet) (sym (ap (λ (made : Reception). made.pid) is.own)) other)
        is.metered;
  },
)

pub other_timed : (shown : Received) (old begun : Anchoring) (buffer : Buffered) (tick : ℕ) (packet : List ℕ)
    → ((known : List ℕ) (taken : List (List ℕ)) (text : List ℕ) → HasTimed known old taken text
    → HasBegun (known ++ tick ∷ []) begun taken text)
    → IsOther begun.asked.pid packet → TakesTimed shown shown old begun buffer buffer (tick ∷ []) (packet ∷ [])
other_timed shown old begun buffer tick packet begins other = record {
  goes = λ known taken text has.
      let is = begins known taken text has in (
        [],
        record {
          counted = one_longer known tick taken packet has.counted;
          nothing = λ wanting. append-nil text ∙ is.nothing wanting;
          taken = λ found.
              subst (λ (front : List ℕ). IsTimedIn begun.asked (known ++ tick ∷ []) begun.sets (taken ++ packet ∷ [])
              front) (sym (append-nil text))
              (other_in begun.asked (known ++ tick ∷ []) begun.sets taken packet text
              (omega (arith, length-append known (tick ∷ []))) other (is.taken found));
        },
        PutsOut-nothing shown buffer,
      );
}

-- ---- packets without a sample, one behind the other

abbrev pub ticks_in : Run → List ℕ
ticks_in run = ticks_of_run run.last run.since run.count run.next

-- there is none
none_there : (packets : List (List ℕ)) → length packets ≡ 0 → packets ≡ []
none_there [] none = refl
none_there (packet ∷ packets) none = absurd (omega (arith, none))

pub run_empty : (shown : Received) (anchoring : Anchoring) (buffer : Buffered) (run : Run) (pid : ℕ)
    (held : List HeldPacket) → run.count ≡ 0
    → (packets : List (List ℕ)) → IsRun pid run.since run.count held packets
    → TakesTimed shown shown anchoring anchoring buffer buffer (ticks_in run) packets
run_empty shown anchoring buffer run pid held none packets is =
    subst (λ (count : ℕ). TakesTimed shown shown anchoring anchoring buffer buffer
    (ticks_of_run run.last run.since count run.next) packets) (sym none)
    (subst (λ (all : List (List ℕ)). TakesTimed shown shown anchoring anchoring buffer buffer [] all)
    (sym (none_there packets (is.counted ∙ none))) (timed_none anchoring shown buffer))

-- the first tick, and the others
run_first : (run : Run) (count : ℕ) → 0 < count
    → (rest : List ℕ) × (ticks_of_run run.last run.since count run.next ≡ tick_in run run.since ∷ rest)
run_first run zero some = absurd (omega (arith, some))
run_first run (suc count) some = (ticks_of_run run.last (run.since + 1) count run.next, refl)

run_at : (last : Option ℕ) (since count : ℕ) (next : Option NextSample) (k : ℕ) → k < count
    → get_or (ticks_of_run last since count next) k 0 ≡ tick_between last (since + k) next
run_at last since zero next k within = absurd (omega (arith, within))
run_at last since (suc count) next zero within =
    ap (λ (n : ℕ). tick_between last n next) (let same : since ≡ since + 0 = omega arith in same)
run_at last since (suc count) next (suc k) within =
    run_at last (since + 1) count next k (omega (arith, within))
    ∙ ap (λ (n : ℕ). tick_between last n next) (let same : since + 1 + k ≡ since + suc k = omega arith in same)

-- each of the packets arrives at its tick
ticks_behind_known : (run : Run) (known : List ℕ) (taken packets : List (List ℕ)) → length known ≡ length taken
    → length packets ≡ run.count → (k : ℕ) → k < length packets
    → tick_at (known ++ ticks_in run) (length taken + k) ≡ tick_in run (run.since + k)
ticks_behind_known run known taken packets counted all k within =
    let place : length taken + k - length known ≡ k = omega (arith, counted) in
    get_or-append_right known (ticks_in run) (length taken + k) 0 (omega (arith, counted))
    ∙ ap (λ (n : ℕ). get_or (ticks_in run) n 0) place
    ∙ run_at run.last run.since run.count run.next k (omega (arith, within, all))

-- the receiver, which is there for the first of them, took them
timed_for_run : (asked : Reception) (run : Run) (known : List ℕ) (sets : Checking) (taken : List (List ℕ))
    (text : List ℕ) → 0 < run.count → length known ≡ length taken
    → IsTimed asked (known ++ tick_in run run.since ∷ []) sets taken text
    → IsTimed asked (known ++ ticks_in run) sets taken text
timed_for_run asked run known sets taken text some counted is =
    let tick = tick_in run run.since in
    let first = run_first run run.count some in
    let all : (known ++ tick ∷ []) ++ first.0 ≡ known ++ ticks_in run =
    append_assoc known (tick ∷ []) first.0 ∙ ap (λ (ticks : List ℕ). known ++ ticks) (sym first.1) in
    record {
      own = is.own ∙ same_first (known ++ tick ∷ []) first.0 asked (omega (arith, length-append known (tick ∷ [])))
          ∙ ap (λ (ticks : List ℕ). from_first ticks asked) all;
      pace = is.pace;
      metered =
          metered_same (tick_at (known ++ tick ∷ [])) (tick_at (known ++ ticks_in run)) sets taken text
          (λ k within. get_or_append_left known (tick ∷ []) 0 k (omega (arith, within, counted))
          ∙ sym (get_or_append_left known (ticks_in run) 0 k (omega (arith, within, counted)))) is.metered;
    }

both_longer : (run : Run) (known : List ℕ) (taken packets : List (List ℕ)) → length known ≡ length taken
    → length packets ≡ run.count → length (known ++ ticks_in run) ≡ length (taken ++ packets)
both_longer run known taken packets counted all =
    omega (
      arith,
      counted,
      all,
      length-append known (ticks_in run),
      length-append taken packets,
      run_count run.last run.since run.count run.next,
    )

-- they were taken, where the receiver is there
pub run_timed : (before now : Received) (old begun new : Anchoring) (sets next : Checking) (was is : Buffered)
    (run : Run) (held : List HeldPacket)
    → ((known : List ℕ) (taken : List (List ℕ)) (text : List ℕ) → HasTimed known old taken text
    → HasBegun (known ++ tick_in run run.since ∷ []) begun taken text)
    → begun.sets ≡ Some sets → begun.is_wanting ≡ false → new.sets ≡ Some next → new.is_wanting ≡ false
    → new.asked ≡ begun.asked → TakesHeld before now sets next was is run held
    → reception next.receiving ≡ reception sets.receiving → next.meter.pace ≡ sets.meter.pace → 0 < run.count
    → (packets : List (List ℕ)) → IsRun begun.asked.pid run.since run.count held packets
    → TakesTimed before now old new was is (ticks_in run) packets
run_timed before now old begun new sets next was is run held begins there found now_there now_found for_same takes
    same pace some packets of_run = record {
      goes = λ known taken text has.
          let first : IsTimed begun.asked (known ++ tick_in run run.since ∷ []) sets taken text =
          subst (λ (one : Option Checking). IsBegunIn begun.asked (known ++ tick_in run run.since ∷ []) one taken text)
          there ((begins known taken text has).taken found) in
          let timed = timed_for_run begun.asked run known sets taken text some has.counted first in
          let own_pid : begun.asked.pid ≡ (reception sets.receiving).pid =
          ap (λ (made : Reception). made.pid) (sym timed.own) in
          let told =
          takes.goes (tick_at (known ++ ticks_in run)) taken packets text
          (of_run.own ∙ ap (λ (pid : ℕ). held_of pid run.since packets) own_pid)
          (subst (λ (pid : ℕ). AreValidPackets pid packets) own_pid of_run.sound)
          (ticks_behind_known run known taken packets has.counted of_run.counted) timed.metered in (
            told.0,
            record {
              counted = both_longer run known taken packets has.counted of_run.counted;
              nothing = λ wanting. absurd (not_both new.is_wanting wanting now_found);
              taken = λ _.
                  subst (λ (there : Option Checking). IsTimedIn new.asked (known ++ ticks_in run) there
                  (taken ++ packets) (text ++ told.0)) (sym now_there)
                  (subst (λ (asked : Reception). IsTimedIn asked (known ++ ticks_in run) (Some next)
                  (taken ++ packets) (text ++ told.0)) (sym for_same) (
                    omega (
                      arith,
                      some,
                      length-append known (ticks_in run),
                      run_count run.last run.since run.count run.next,
                    ),
                    record {
                      own = same ∙ timed.own;
                      pace = pace ∙ timed.pace;
                      metered = told.1;
                    },
                  ));
            },
            told.2,
          );
    }

-- where no memory was found for the receiver
pub run_untold : (shown : Received) (old new : Anchoring) (buffer : Buffered) (run : Run) (pid : ℕ)
    (held : List HeldPacket)
    → ((known : List ℕ) (taken : List (List ℕ)) (text : List ℕ) → HasTimed known old taken text
    → HasBegun (known ++ tick_in run run.since ∷ []) new taken text)
    → new.sets ≡ None → (packets : List (List ℕ)) → IsRun pid run.since run.count held packets
    → TakesTimed shown shown old new buffer buffer (ticks_in run) packets
run_untold shown old new buffer run pid held begins none packets of_run = record {
  goes = λ known taken text has. (
    [],
    record {
      counted = both_longer run known taken packets has.counted of_run.counted;
      nothing = λ wanting. append-nil text ∙ (begins known taken text has).nothing wanting;
      taken = λ found. absurd
          (subst (λ (there : Option Checking). IsBegunIn new.asked (known ++ tick_in run run.since ∷ []) there taken
          text) none ((begins known taken text has).taken found));
    },
    PutsOut-nothing shown buffer,
  );
}
