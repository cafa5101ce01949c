-- Packets that arrive by the samples of a clock: one more, and the end.
use Rattle.std.proofs.Common.{◌≡◌, ◌∙◌, ℕ, zero, suc, ◌+◌, ◌<◌, ◌≤◌, ◌==◌, Bool, true, false, if◌then◌else◌, List, [], ◌∷◌, ◌++◌, length, Option, Some, None, append-nil, append_assoc, refl, sym, ap, subst, arith}
use Rattle.std.proofs.lemmas.List.{length-append, length-replicate}
use Rattle.check_text.specs.Checking.{Checking}
use Rattle.check_text.specs.Courses.{IsTextBy}
use Rattle.command_text.specs.Putting.{Buffered}
use Rattle.command_text.proofs.PutLaws.{PutsOut-both, PutsOut-nothing}
use Rattle.decoder_model.specs.Received.{Reception}
use Rattle.pcr_clock.specs.Arrivals.{IsClockAt, last_tick, tick_of_time, ticks_of, ticks_of_run}
use Rattle.pcr_clock.specs.Samples.{time_behind}
use Rattle.pcr_clock.specs.declared.arrival.NextSample.{NextSample}
use Rattle.pcr_clock.specs.declared.arrival.TheConstants.{MOST_BETWEEN}
use Rattle.pcr_clock.proofs.RunLaws.{clock_begins, clock_to_end, clock_to_sample, clock_where_far, none_of, run_more}
use Rattle.stream_syntax.specs.TransportPackets.{packet_fault, pid_of}
use Rattle.sub_base.specs.Endpoints.{Received}
use Rattle.level_text.specs.Anchoring.{Anchoring, FinishesTimed, HasTimed, IsTimedIn, TakesTimed}
use Rattle.level_text.specs.ClockText.{IsClockText, at_ticks, from_first}
use Rattle.level_text.specs.Clocking.{Clocking, FinishesClocked, HasClocked, Holds, IsClocking, TakesSampled}
use Rattle.level_text.specs.Held.{AreHeld, AreValidPackets, IsRun, IsValidPacket, held_of, held_with}
use Rattle.level_text.specs.declared.held.HeldPacket.{HeldPacket}
use Rattle.level_text.proofs.AnchorEndLaws.{told_so_far}
use Rattle.level_text.proofs.AnchorLaws.{timed_both}
use Rattle.level_text.proofs.HeldLaws.{held_before, one_more_held}

-- ---- before the first packet

-- no packet waits
none_wait : (pid since waiting : ℕ) (held : List HeldPacket) → held ≡ [] → waiting ≡ 0 → IsRun pid since waiting held []
none_wait pid since waiting held none no_more = record { counted = sym no_more; own = none; sound = tt }

pub nothing_clocked : (clocking : Clocking) → clocking.held ≡ [] → clocking.last ≡ None → clocking.since ≡ 0
    → clocking.waiting ≡ 0 → clocking.meter.sets ≡ None → clocking.meter.is_wanting ≡ false
    → HasClocked clocking [] [] []
nothing_clocked clocking held last since waiting sets found = record {
  taken = [];
  behind = [];
  known = [];
  ticks = [];
  matched = refl;
  all = refl;
  run = none_wait clocking.meter.asked.pid clocking.since clocking.waiting clocking.held held waiting;
  carried = λ i. none_of (sym waiting i);
  clock =
      subst (λ (time : Option ℕ). IsClockAt [] [] time clocking.since) (sym last)
      (subst (IsClockAt [] [] (let none : Option ℕ = None in none)) (sym since) clock_begins);
  timed = record {
    counted = refl;
    nothing = λ wanting. refl;
    taken =
        λ _. subst (λ (there : Option Checking). IsTimedIn clocking.meter.asked [] there [] []) (sym sets) (refl, refl);
  };
  counted = omega (arith, since, waiting);
}

-- ---- packets that wait

none_more : (count : ℕ) → none_of count ++ None ∷ [] ≡ none_of (suc count)
none_more zero = refl
none_more (suc count) = ap (λ (samples : List (Option ℕ)). None ∷ samples) (none_more count)

-- those of the PID among packets, and among others behind them
held_both : (pid since : ℕ) (packets more : List (List ℕ))
    → held_of pid since (packets ++ more) ≡ held_of pid since packets ++ held_of pid (since + length packets) more
held_both pid since [] more =
    ap (λ (n : ℕ). held_of pid n more) (let same : since ≡ since + 0 = omega arith in same)
held_both pid since (packet ∷ packets) more =
    by (pid_of packet == pid)
    (held_both pid (since + 1) packets more
    ∙ ap (λ (n : ℕ). held_of pid (since + 1) packets ++ held_of pid n more)
    (let same : since + 1 + length packets ≡ since + suc (length packets) = omega arith in same))
  where
    by : (b : Bool)
        → held_of pid (since + 1) (packets ++ more)
        ≡ held_of pid (since + 1) packets ++ held_of pid (since + suc (length packets)) more
        → (if b then record { behind = since; packet = packet } ∷ held_of pid (since + 1) (packets ++ more)
        else held_of pid (since + 1) (packets ++ more))
        ≡ (if b then record { behind = since; packet = packet } ∷ held_of pid (since + 1) packets
        else held_of pid (since + 1) packets) ++ held_of pid (since + suc (length packets)) more
    by true rest = ap (λ (held : List HeldPacket). record { behind = since; packet = packet } ∷ held) rest
    by false rest = rest

sound_both : (pid : ℕ) (packets : List (List ℕ)) (packet : List ℕ) → AreValidPackets pid packets
    → IsValidPacket pid packet → AreValidPackets pid (packets ++ packet ∷ [])
sound_both pid [] packet are is = (is, tt)
sound_both pid (first ∷ packets) packet are is = (are.0, sound_both pid packets packet are.1 is)

-- one packet more waits
run_with : (pid since count : ℕ) (held : List HeldPacket) (packets : List (List ℕ)) (packet : List ℕ)
    → IsRun pid since count held packets → IsValidPacket pid packet
    → IsRun pid since (count + 1) (held_with (pid_of packet == pid) held (since + count) packet)
    (packets ++ packet ∷ [])
run_with pid since count held packets packet is sound = record {
  counted = omega (arith, is.counted, length-append packets (packet ∷ []));
  own = by (pid_of packet == pid) ∙ sym (held_both pid since packets (packet ∷ []));
  sound = sound_both pid packets packet is.sound sound;
}
  where
    at : since + count ≡ since + length packets
    at = ap (λ (n : ℕ). since + n) (sym is.counted)

    by : (b : Bool) → held_with b held (since + count) packet
        ≡ held_of pid since packets
        ++ (if b then record { behind = since + length packets; packet = packet } ∷ [] else [])
    by true = λ i. is.own i ++ record { behind = at i; packet = packet } ∷ []
    by false = is.own ∙ sym (append-nil (held_of pid since packets))

pub one_waits : (old : Clocking) (held : List HeldPacket) (packet : List ℕ) → IsValidPacket old.meter.asked.pid packet
    → held ≡ held_with (pid_of packet == old.meter.asked.pid) old.held (old.since + old.waiting) packet
    → Holds old (record {
      meter = old.meter;
      held = held;
      last = old.last;
      since = old.since;
      waiting = old.waiting + 1;
    }) packet
one_waits old held packet sound held_is = record {
  goes = λ samples packets text has.
      let one : suc old.waiting ≡ old.waiting + 1 = omega arith in record {
        taken = has.taken;
        behind = has.behind ++ packet ∷ [];
        known = has.known;
        ticks = has.ticks;
        matched = has.matched;
        all = ap (λ (front : List (List ℕ)). front ++ packet ∷ []) has.all
            ∙ append_assoc has.taken has.behind (packet ∷ []);
        run =
            subst (λ (all : List HeldPacket). IsRun old.meter.asked.pid old.since (old.waiting + 1) all
            (has.behind ++ packet ∷ [])) (sym held_is)
            (run_with old.meter.asked.pid old.since old.waiting old.held has.behind packet has.run sound);
        carried = ap (λ (front : List (Option ℕ)). front ++ None ∷ []) has.carried
            ∙ append_assoc has.known (none_of old.waiting) (None ∷ [])
            ∙ ap (λ (rest : List (Option ℕ)). has.known ++ rest) (none_more old.waiting ∙ ap none_of one);
        clock = has.clock;
        timed = has.timed;
        counted = omega (arith, has.counted, length-append packets (packet ∷ []));
      };
}

-- nothing is put out for it
pub waits_sampled : (shown : Received) (old new : Clocking) (buffer : Buffered) (packet : List ℕ)
    → Holds old new packet → TakesSampled shown shown old new buffer buffer None packet
waits_sampled shown old new buffer packet holds = record {
  goes = λ samples packets text has. (
    [],
    subst (λ (front : List ℕ). HasClocked new (samples ++ None ∷ []) (packets ++ packet ∷ []) front)
        (sym (append-nil text)) (holds.goes samples packets text has),
    PutsOut-nothing shown buffer,
  );
}

-- ---- packets whose ticks become known

-- the packets that wait are taken, by the next sample or by none
abbrev pub TakesWaiting : Clocking → Option NextSample → Received → Received → Anchoring → Buffered → Buffered → Type 0
TakesWaiting old next before mid start was between =
    (packets : List (List ℕ)) → IsRun old.meter.asked.pid old.since old.waiting old.held packets
    → TakesTimed before mid old.meter start was between (ticks_of_run old.last old.since old.waiting next) packets

-- the sample that comes behind them
abbrev pub sample_behind : Clocking → ℕ → Option NextSample
sample_behind old time = Some (record { behind = old.since + old.waiting; time = time })

module _ (before mid now : Received) (old : Clocking) (start end : Anchoring) (was between is : Buffered)
    (packet : List ℕ) where
  -- those that wait were taken, and one behind them
  taken_behind : (behind : List (List ℕ)) (run : List ℕ) (tick : ℕ)
      → TakesTimed before mid old.meter start was between run behind
      → TakesTimed mid now start end between is (tick ∷ []) (packet ∷ [])
      → TakesTimed before now old.meter end was is (run ++ tick ∷ []) (behind ++ packet ∷ [])
  taken_behind behind run tick waited one =
      timed_both before mid now old.meter start end was between is run (tick ∷ []) behind (packet ∷ []) waited one

  all_taken : (taken behind packets : List (List ℕ)) → packets ≡ taken ++ behind
      → packets ++ packet ∷ [] ≡ (taken ++ (behind ++ packet ∷ [])) ++ []
  all_taken taken behind packets all =
      ap (λ (front : List (List ℕ)). front ++ packet ∷ []) all ∙ append_assoc taken behind (packet ∷ [])
      ∙ sym (append-nil (taken ++ (behind ++ packet ∷ [])))

  all_carried : (known samples : List (Option ℕ)) (sample : Option ℕ) → samples ≡ known ++ none_of old.waiting
      → samples ++ sample ∷ [] ≡ (known ++ (none_of old.waiting ++ sample ∷ [])) ++ []
  all_carried known samples sample all =
      ap (λ (front : List (Option ℕ)). front ++ sample ∷ []) all
      ∙ append_assoc known (none_of old.waiting) (sample ∷ [])
      ∙ sym (append-nil (known ++ (none_of old.waiting ++ sample ∷ [])))

  all_matched : (known : List (Option ℕ)) (taken behind : List (List ℕ)) (sample : Option ℕ)
      → length known ≡ length taken → length behind ≡ old.waiting
      → length (known ++ (none_of old.waiting ++ sample ∷ [])) ≡ length (taken ++ (behind ++ packet ∷ []))
  all_matched known taken behind sample matched counted = omega (
    arith,
    matched,
    counted,
    length-append known (none_of old.waiting ++ sample ∷ []),
    length-append (none_of old.waiting) (sample ∷ []),
    length-append taken (behind ++ packet ∷ []),
    length-append behind (packet ∷ []),
    length-replicate old.waiting (let none : Option ℕ = None in none),
  )

  -- by a packet with a sample
  pub one_sampled : (sample : ℕ)
      → TakesWaiting old (sample_behind old (time_behind old.last sample)) before mid start was between
      → TakesTimed mid now start end between is (tick_of_time (time_behind old.last sample) ∷ []) (packet ∷ [])
      → TakesSampled before now old
      (record { meter = end; held = []; last = Some (time_behind old.last sample); since = 1; waiting = 0 }) was is
      (Some sample) packet
  one_sampled sample waited one = record {
    goes = λ samples packets text has.
        let goes =
        (taken_behind has.behind _ (tick_of_time (time_behind old.last sample)) (waited has.behind has.run) one).goes
        has.ticks has.taken text has.timed in (
          goes.0,
          record {
            taken = has.taken ++ (has.behind ++ packet ∷ []);
            behind = [];
            known = has.known ++ (none_of old.waiting ++ Some sample ∷ []);
            ticks = _;
            matched = all_matched has.known has.taken has.behind (Some sample) has.matched has.run.counted;
            all = all_taken has.taken has.behind packets has.all;
            run = none_wait end.asked.pid 1 0 [] refl refl;
            carried = all_carried has.known samples (Some sample) has.carried;
            clock = clock_to_sample has.known has.ticks old.last old.since old.waiting sample has.clock;
            timed = goes.1;
            counted = omega (arith, length-append packets (packet ∷ []));
          },
          goes.2,
        );
  }

  -- where the next sample is too far
  pub one_far : MOST_BETWEEN ≤ old.since + old.waiting → TakesWaiting old None before mid start was between
      → TakesTimed mid now start end between is (last_tick old.last ∷ []) (packet ∷ [])
      → TakesSampled before now old
      (record { meter = end; held = []; last = old.last; since = old.since + suc old.waiting; waiting = 0 }) was is None
      packet
  one_far far waited one = record {
    goes = λ samples packets text has.
        let count = old.waiting in
        let goes =
        (taken_behind has.behind _ (last_tick old.last) (waited has.behind has.run) one).goes has.ticks has.taken text
        has.timed in
        let clock =
        clock_where_far has.known has.ticks old.last old.since (suc count) (omega (arith, far)) has.clock in (
          goes.0,
          record {
            taken = has.taken ++ (has.behind ++ packet ∷ []);
            behind = [];
            known = has.known ++ none_of (suc count);
            ticks = has.ticks ++ ticks_of_run old.last old.since (suc count) None;
            matched =
                ap (λ (rest : List (Option ℕ)). length (has.known ++ rest)) (sym (none_more count))
                ∙ all_matched has.known has.taken has.behind None has.matched has.run.counted;
            all = all_taken has.taken has.behind packets has.all;
            run = none_wait end.asked.pid (old.since + suc count) 0 [] refl refl;
            carried = all_carried has.known samples None has.carried
                ∙ ap (λ (rest : List (Option ℕ)). (has.known ++ rest) ++ []) (none_more count);
            clock = clock;
            timed =
                subst (λ (run : List ℕ). HasTimed (has.ticks ++ run) end (has.taken ++ (has.behind ++ packet ∷ []))
                (text ++ goes.0)) (sym (run_more old.last old.since count None)) goes.1;
            counted = omega (arith, has.counted, length-append packets (packet ∷ []));
          },
          goes.2,
        );
  }

-- the same as the code names them
pub sampled_as : (before mid now : Received) (old : Clocking) (start end : Anchoring) (was between is : Buffered)
    (packet : List ℕ) (sample : ℕ) (left : List HeldPacket) (time tick : ℕ)
    → left ≡ [] → time ≡ time_behind old.last sample → tick ≡ tick_of_time time
    → TakesWaiting old (sample_behind old time) before mid start was between
    → TakesTimed mid now start end between is (tick ∷ []) (packet ∷ [])
    → TakesSampled before now old (record { meter = end; held = left; last = Some time; since = 1; waiting = 0 }) was is
    (Some sample) packet
sampled_as before mid now old start end was between is packet sample left time tick left_is time_is tick_is waited one =
    subst (λ (none : List HeldPacket). TakesSampled before now old
    (record { meter = end; held = none; last = Some time; since = 1; waiting = 0 }) was is (Some sample) packet)
    (sym left_is)
    (subst (λ (t : ℕ). TakesSampled before now old
    (record { meter = end; held = []; last = Some t; since = 1; waiting = 0 }) was is (Some sample) packet)
    (sym time_is)
    (one_sampled before mid now old start end was between is packet sample
    (subst (λ (t : ℕ). TakesWaiting old (sample_behind old t) before mid start was between) time_is waited)
    (subst (λ (t : ℕ). TakesTimed mid now start end between is (t ∷ []) (packet ∷ []))
    (tick_is ∙ ap tick_of_time time_is) one)))

pub far_as : (before mid now : Received) (old : Clocking) (start end : Anchoring) (was between is : Buffered)
    (packet : List ℕ) (left : List HeldPacket) (since tick : ℕ)
    → left ≡ [] → since ≡ old.since + suc old.waiting → tick ≡ last_tick old.last
    → MOST_BETWEEN ≤ old.since + old.waiting → TakesWaiting old None before mid start was between
    → TakesTimed mid now start end between is (tick ∷ []) (packet ∷ [])
    → TakesSampled before now old (record { meter = end; held = left; last = old.last; since = since; waiting = 0 }) was
    is None packet
far_as before mid now old start end was between is packet left since tick left_is since_is tick_is far waited one =
    subst (λ (none : List HeldPacket). TakesSampled before now old
    (record { meter = end; held = none; last = old.last; since = since; waiting = 0 }) was is None packet) (sym left_is)
    (subst (λ (n : ℕ). TakesSampled before now old
    (record { meter = end; held = []; last = old.last; since = n; waiting = 0 }) was is None packet) (sym since_is)
    (one_far before mid now old start end was between is packet far waited
    (subst (λ (t : ℕ). TakesTimed mid now start end between is (t ∷ []) (packet ∷ [])) tick_is one)))

-- ---- what may wait

-- one packet more may
pub more_waits : (clocking : Clocking) (held : List HeldPacket) (packet : List ℕ) → IsClocking clocking
    → packet_fault clocking.meter.asked.pid packet ≡ None
    → held ≡ held_with (pid_of packet == clocking.meter.asked.pid) clocking.held
    (clocking.since + clocking.waiting) packet
    → clocking.since + clocking.waiting < MOST_BETWEEN
    → IsClocking (record {
      meter = clocking.meter;
      held = held;
      last = clocking.last;
      since = clocking.since;
      waiting = clocking.waiting + 1;
    })
more_waits clocking held packet is faultless held_is near = record {
  sample = is.sample;
  few = omega (arith, near);
  fewer =
      subst (λ (all : List HeldPacket). length all ≤ clocking.waiting + 1) (sym held_is)
      (longer (pid_of packet == clocking.meter.asked.pid));
  waits =
      subst (λ (all : List HeldPacket). AreHeld clocking.meter.asked.pid clocking.since
      (clocking.since + (clocking.waiting + 1)) all) (sym held_is)
      (subst (λ (end : ℕ). AreHeld clocking.meter.asked.pid clocking.since end
      (held_with (pid_of packet == clocking.meter.asked.pid) clocking.held (clocking.since + clocking.waiting)
      packet)) one_on
      (all_right (pid_of packet == clocking.meter.asked.pid)));
  told = is.told;
  within = omega (arith, near);
}
  where
    one_on : clocking.since + clocking.waiting + 1 ≡ clocking.since + (clocking.waiting + 1)
    one_on = omega arith

    longer : (own : Bool)
        → length (held_with own clocking.held (clocking.since + clocking.waiting) packet) ≤ clocking.waiting + 1
    longer true =
        omega (
          arith,
          is.fewer,
          length-append clocking.held
              (let one : HeldPacket = record { behind = clocking.since + clocking.waiting; packet = packet } in
              one ∷ []),
        )
    longer false = omega (arith, is.fewer)

    all_right : (own : Bool)
        → AreHeld clocking.meter.asked.pid clocking.since (clocking.since + clocking.waiting + 1)
        (held_with own clocking.held (clocking.since + clocking.waiting) packet)
    all_right true =
        one_more_held clocking.meter.asked.pid clocking.since (clocking.since + clocking.waiting) clocking.held packet
        (omega arith) is.waits faultless
    all_right false =
        held_before clocking.meter.asked.pid clocking.since (clocking.since + clocking.waiting)
        (clocking.since + clocking.waiting + 1) clocking.held (omega arith) is.waits

-- ---- the end

pub all_finished : (ended : Bool) (before mid now : Received) (old : Clocking) (start end : Anchoring)
    (was between is : Buffered) → end.asked ≡ old.meter.asked
    → TakesWaiting old None before mid start was between
    → FinishesTimed ended mid now start end between is
    → FinishesClocked ended before now old end.is_wanting was is
all_finished ended before mid now old start end was between is asked_is waited finishes = record {
  goes = λ samples packets text has.
      let run = ticks_of_run old.last old.since old.waiting None in
      let taken = (waited has.behind has.run).goes has.ticks has.taken text has.timed in
      let last = finishes.goes (has.ticks ++ run) (has.taken ++ has.behind) (text ++ taken.0) taken.1 in
      let joined : (text ++ taken.0) ++ last.0 ≡ text ++ (taken.0 ++ last.0) = append_assoc text taken.0 last.0 in
      let ticks_are : ticks_of samples ≡ has.ticks ++ run =
      ap ticks_of has.carried ∙ clock_to_end has.known has.ticks old.last old.since old.waiting has.clock in (
        taken.0 ++ last.0,
        (λ wanting. sym joined ∙ last.1.nothing wanting),
        (λ found.
            subst (λ (asked : Reception). IsClockText samples asked ended packets (text ++ (taken.0 ++ last.0)))
            asked_is
            (subst (λ (ticks : List ℕ). IsTextBy (at_ticks ticks end.asked.profile) (from_first ticks end.asked)
            ended packets (text ++ (taken.0 ++ last.0))) (sym ticks_are)
            (subst (λ (all : List (List ℕ)). IsTextBy (at_ticks (has.ticks ++ run) end.asked.profile)
            (from_first (has.ticks ++ run) end.asked) ended all (text ++ (taken.0 ++ last.0))) (sym has.all)
            (subst (λ (front : List ℕ). IsTextBy (at_ticks (has.ticks ++ run) end.asked.profile)
            (from_first (has.ticks ++ run) end.asked) ended (has.taken ++ has.behind) front) joined
            (last.1.told found))))),
        PutsOut-both before mid now was between is taken.0 last.0 taken.2 last.2,
      );
}

-- ---- what was told so far

-- the text is of the packets that were taken, by the samples of these
pub told_of_taken : (clocking : Clocking) (samples : List (Option ℕ)) (packets : List (List ℕ)) (text : List ℕ)
    → clocking.meter.is_wanting ≡ false → (has : HasClocked clocking samples packets text)
    → IsClockText has.known clocking.meter.asked false has.taken text
told_of_taken clocking samples packets text found has =
    let ticks_are : ticks_of has.known ≡ has.ticks =
    ap ticks_of (sym (append-nil has.known)) ∙ has.clock.goes [] ∙ append-nil has.ticks in
    subst (λ (ticks : List ℕ). IsTextBy (at_ticks ticks clocking.meter.asked.profile)
    (from_first ticks clocking.meter.asked) false has.taken text) (sym ticks_are)
    (told_so_far clocking.meter.asked has.ticks clocking.meter.sets has.taken text (has.timed.taken found))
