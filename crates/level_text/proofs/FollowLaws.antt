-- Packets that arrive by the clock of the programme that lists their PID: one more, and what was told of those so far.
use Rattle.std.proofs.Common.{◌≡◌, ◌∙◌, ℕ, ◌+◌, ◌<◌, Bool, true, false, List, [], ◌∷◌, ◌++◌, length, take, suc, Option, Some, None, Result, Ok, Err, OnOk, is_some, append-nil, append_assoc, refl, sym, ap, subst, arith}
use Rattle.std.specs.Option.{option_or}
use Rattle.std.proofs.Math.Seq.{take-append_seam}
use Rattle.std.proofs.lemmas.List.{length-append}
use Rattle.command_text.specs.Putting.{Buffered, PutsOut}
use Rattle.command_text.proofs.PutLaws.{PutsOut-nothing}
use Rattle.decoder_model.specs.Received.{Reception}
use Rattle.packet_source.specs.declared.limits.TheConstants.{STREAM_LIMIT}
use Rattle.packet_walk.specs.Told.{HasTaken, TellsOne}
use Rattle.service_tables.specs.Clock.{clock_among, clock_pid}
use Rattle.service_tables.specs.Reading.{HasRead}
use Rattle.service_tables.specs.Tables.{programme_maps}
use Rattle.stream_syntax.specs.declared.transport.PacketFault.{PacketFault}
use Rattle.sub_base.specs.Endpoints.{Received}
use Rattle.level_text.specs.ClockText.{IsClockText}
use Rattle.level_text.specs.Clocking.{FinishesClocked, HasClocked, TakesSampled}
use Rattle.level_text.specs.Following.{FinishesFollowing, Following, HasFollowed}
use Rattle.level_text.specs.ProgrammeClock.{first_clock, sample_by, samples_behind, samples_of}
use Rattle.level_text.proofs.AnchorLaws.{not_both}
use Rattle.level_text.proofs.ClockLaws.{told_of_taken}

-- ---- one packet more

or_both : (a b c : Option ℕ) → option_or a (option_or b c) ≡ option_or (option_or a b) c
or_both None b c = refl
or_both (Some a) b c = refl

clock_more : (pid : ℕ) (before packets : List (List ℕ)) (packet : List ℕ)
    → first_clock pid before (packets ++ packet ∷ [])
    ≡ option_or (first_clock pid before packets) (clock_pid (before ++ (packets ++ packet ∷ [])) pid)
clock_more pid before [] packet = refl
clock_more pid before (first ∷ packets) packet =
    ap (option_or (clock_pid before pid)) (clock_more pid (before ++ first ∷ []) packets packet)
    ∙ or_both (clock_pid before pid) (first_clock pid (before ++ first ∷ []) packets)
    (clock_pid ((before ++ first ∷ []) ++ (packets ++ packet ∷ [])) pid)
    ∙ ap (λ (all : List (List ℕ)). option_or (first_clock pid before (first ∷ packets)) (clock_pid all pid))
    (append_assoc before (first ∷ []) (packets ++ packet ∷ []))

samples_more : (pid : ℕ) (before packets : List (List ℕ)) (packet : List ℕ)
    → samples_behind pid before (packets ++ packet ∷ [])
    ≡ samples_behind pid before packets ++ sample_by (first_clock pid [] (before ++ packets)) packet ∷ []
samples_more pid before [] packet =
    ap (λ (all : List (List ℕ)). sample_by (first_clock pid [] all) packet ∷ []) (sym (append-nil before))
samples_more pid before (first ∷ packets) packet =
    ap (λ (samples : List (Option ℕ)). sample_by (first_clock pid [] before) first ∷ samples)
    (samples_more pid (before ++ first ∷ []) packets packet
    ∙ ap (λ (all : List (List ℕ)). samples_behind pid (before ++ first ∷ []) packets
    ++ sample_by (first_clock pid [] all) packet ∷ []) (append_assoc before (first ∷ []) packets))

-- ---- what is kept

-- all packets stand in the stream
pub few_followed : (followed : Following) (place : ℕ) → HasTaken HasFollowed followed place → place < STREAM_LIMIT
    → followed.levels.since + followed.levels.waiting < STREAM_LIMIT
few_followed followed place taken small =
    let told = taken.told in
    omega (
      arith,
      small,
      taken.counted,
      told.clocked.counted,
      length-append told.front told.passed,
      ap (λ (l : List (List ℕ)). length l) told.all,
    )

-- a packet was taken, by the clock that is known
pub one_followed : (before now : Received) (old new : Following) (was is : Buffered) (place : ℕ) (packet : List ℕ)
    → old.programmes.is_wanting ≡ false
    → TakesSampled before now old.levels new.levels was is (sample_by old.clock packet) packet
    → new.levels.meter.asked ≡ old.levels.meter.asked
    → ((packets : List (List ℕ)) → HasRead old.programmes packets → HasRead new.programmes (packets ++ packet ∷ []))
    → ((packets : List (List ℕ)) → new.programmes.is_wanting ≡ false → HasRead old.programmes packets
    → old.clock ≡ first_clock old.levels.meter.asked.pid [] packets
    → new.clock ≡ option_or old.clock (clock_pid (packets ++ packet ∷ []) old.levels.meter.asked.pid))
    → TellsOne HasFollowed before now old new was is place packet
one_followed before now old new was is place packet found takes same reads asks = record {
  goes = λ packets text. λ count has.
      let pid = old.levels.meter.asked.pid in
      let whole : packets ≡ has.front =
      has.all ∙ ap (λ (rest : List (List ℕ)). has.front ++ rest) (has.none found) ∙ append-nil has.front in
      let own_clock : old.clock ≡ first_clock pid [] packets = has.clock found in
      let told = takes.goes (samples_of pid has.front) has.front text has.clocked in
      let own_pid : pid ≡ new.levels.meter.asked.pid = ap (λ (made : Reception). made.pid) (sym same) in
      let samples : samples_of pid has.front ++ sample_by old.clock packet ∷ []
      ≡ samples_of new.levels.meter.asked.pid (has.front ++ packet ∷ []) =
      ap (λ (clock : Option ℕ). samples_of pid has.front ++ sample_by clock packet ∷ [])
      (own_clock ∙ ap (first_clock pid []) whole)
      ∙ sym (samples_more pid [] has.front packet)
      ∙ ap (λ (n : ℕ). samples_of n (has.front ++ packet ∷ [])) own_pid in (
        told.0,
        record {
          front = has.front ++ packet ∷ [];
          passed = [];
          all = ap (λ (front : List (List ℕ)). front ++ packet ∷ []) whole
              ∙ sym (append-nil (has.front ++ packet ∷ []));
          none = λ _. refl;
          read = λ _. reads packets (has.read found);
          clock = λ still.
              asks packets still (has.read found) own_clock
              ∙ ap (λ (clock : Option ℕ). option_or clock (clock_pid (packets ++ packet ∷ []) pid)) own_clock
              ∙ sym (clock_more pid [] packets packet)
              ∙ ap (λ (n : ℕ). first_clock n [] (packets ++ packet ∷ [])) own_pid;
          clocked =
              subst (λ (carried : List (Option ℕ)). HasClocked new.levels carried (has.front ++ packet ∷ [])
              (text ++ told.0)) samples told.1;
        },
        told.2,
      );
}

-- a packet was passed over
pub one_passed : (shown : Received) (followed : Following) (buffer : Buffered) (place : ℕ) (packet : List ℕ)
    → followed.programmes.is_wanting ≡ true
    → TellsOne HasFollowed shown shown followed followed buffer buffer place packet
one_passed shown followed buffer place packet wanting = record {
  goes = λ packets text. λ count has. (
    [],
    record {
      front = has.front;
      passed = has.passed ++ packet ∷ [];
      all = ap (λ (front : List (List ℕ)). front ++ packet ∷ []) has.all
          ∙ append_assoc has.front has.passed (packet ∷ []);
      none = λ found. absurd (not_both followed.programmes.is_wanting wanting found);
      read = λ found. absurd (not_both followed.programmes.is_wanting wanting found);
      clock = λ found. absurd (not_both followed.programmes.is_wanting wanting found);
      clocked =
          subst (λ (front : List ℕ). HasClocked followed.levels (samples_of followed.levels.meter.asked.pid has.front)
          has.front front) (sym (append-nil text)) has.clocked;
    },
    PutsOut-nothing shown buffer,
  );
}

-- what is known whatever is answered
pub on_ok_of : {X : Type 0} (result : Result (Unit {0}) PacketFault) → X → OnOk result X
on_ok_of (Ok x) told = told
on_ok_of (Err fault) told = tt

-- where none was told before packets, none is told before the last of them
told_before : (pid : ℕ) (before packets : List (List ℕ)) → first_clock pid before packets ≡ None
    → clock_pid (before ++ packets) pid ≡ None
told_before pid before [] none = ap (λ (all : List (List ℕ)). clock_pid all pid) (append-nil before) ∙ none
told_before pid before (packet ∷ packets) none =
    ap (λ (all : List (List ℕ)). clock_pid all pid) (sym (append_assoc before (packet ∷ []) packets))
    ∙ told_before pid (before ++ packet ∷ []) packets (rest_none (clock_pid before pid) none)
  where
    rest_none : (first : Option ℕ) → option_or first (first_clock pid (before ++ packet ∷ []) packets) ≡ None
        → first_clock pid (before ++ packet ∷ []) packets ≡ None
    rest_none None none = none
    rest_none (Some clock) none = absurd (cc)

-- where no table came, no clock is told that was not
pub clock_same : (clock : Option ℕ) (pid : ℕ) (packets : List (List ℕ)) (packet : List ℕ)
    → clock ≡ first_clock pid [] packets
    → programme_maps (packets ++ packet ∷ []) ≡ programme_maps packets
    → clock ≡ option_or clock (clock_pid (packets ++ packet ∷ []) pid)
clock_same None pid packets packet is same = sym (ap (clock_among pid) same ∙ told_before pid [] packets (sym is))
clock_same (Some clock) pid packets packet is same = refl

-- the clock is asked for where none is known
pub clock_asked : (clock answer told : Option ℕ) → is_some clock ≡ false → answer ≡ told → answer ≡ option_or clock told
clock_asked None answer told none is = is
clock_asked (Some one) answer told none is = absurd (not_both true refl none)

-- and the one that is known is kept
pub clock_kept : (clock told : Option ℕ) → is_some clock ≡ true → clock ≡ option_or clock told
clock_kept (Some one) told known = refl
clock_kept None told known = absurd (not_both true refl (sym known))

-- no packet was taken
pub nothing_followed : (followed : Following) → HasRead followed.programmes []
    → (followed.programmes.is_wanting ≡ false → followed.clock ≡ clock_pid [] followed.levels.meter.asked.pid)
    → HasClocked followed.levels [] [] [] → HasFollowed followed [] []
nothing_followed followed read clock clocked = record {
  front = [];
  passed = [];
  all = refl;
  none = λ _. refl;
  read = λ _. read;
  clock = clock;
  clocked = clocked;
}

-- ---- the end

pub all_followed : (ended : Bool) (before now : Received) (followed : Following) (wanting : Bool) (was is : Buffered)
    → followed.programmes.is_wanting ≡ false → FinishesClocked ended before now followed.levels wanting was is
    → FinishesFollowing ended before now followed wanting was is
all_followed ended before now followed wanting was is found finishes = record {
  goes = λ packets text has.
      let pid = followed.levels.meter.asked.pid in
      let whole : has.front ≡ packets =
      sym (has.all ∙ ap (λ (rest : List (List ℕ)). has.front ++ rest) (has.none found) ∙ append-nil has.front) in
      subst (λ (all : List (List ℕ)). (more : List ℕ) × (wanting ≡ true → text ++ more ≡ [])
      × (wanting ≡ false → IsClockText (samples_of pid all) followed.levels.meter.asked ended all (text ++ more))
      × PutsOut before now was is more) whole
      (finishes.goes (samples_of pid has.front) has.front text has.clocked);
}

-- ---- the packets whose ticks are known

behind_both : (pid : ℕ) (before front others : List (List ℕ))
    → samples_behind pid before (front ++ others)
    ≡ samples_behind pid before front ++ samples_behind pid (before ++ front) others
behind_both pid before [] others =
    ap (λ (all : List (List ℕ)). samples_behind pid all others) (sym (append-nil before))
behind_both pid before (first ∷ front) others =
    ap (λ (samples : List (Option ℕ)). sample_by (first_clock pid [] before) first ∷ samples)
    (behind_both pid (before ++ first ∷ []) front others
    ∙ ap (λ (all : List (List ℕ)). samples_behind pid (before ++ first ∷ []) front ++ samples_behind pid all others)
    (append_assoc before (first ∷ []) front))

one_each : (pid : ℕ) (before packets : List (List ℕ)) → length (samples_behind pid before packets) ≡ length packets
one_each pid before [] = refl
one_each pid before (packet ∷ packets) = ap suc (one_each pid (before ++ packet ∷ []) packets)

fronts_same : (one other some more : List (Option ℕ)) → length one ≡ length other → one ++ some ≡ other ++ more
    → one ≡ other
fronts_same one other some more long same =
    sym (take-append_seam one some)
    ∙ (λ i. take (long i) (same i))
    ∙ take-append_seam other more

-- the packets whose ticks are known, those behind them, and the text of the first
pub record FrontTold (followed : Following) (packets : List (List ℕ)) (text : List ℕ) : Type 0 where
  pub front : List (List ℕ)
  pub others : List (List ℕ)
  pub all : packets ≡ front ++ others
  pub told : IsClockText (samples_of followed.levels.meter.asked.pid front) followed.levels.meter.asked false front text

pub told_of_front : (followed : Following) (packets : List (List ℕ)) (text : List ℕ)
    → followed.levels.meter.is_wanting ≡ false → HasFollowed followed packets text → FrontTold followed packets text
told_of_front followed packets text found has =
    let pid = followed.levels.meter.asked.pid in
    let behind = has.clocked.behind in
    let known : has.clocked.known ≡ samples_of pid has.clocked.taken =
    fronts_same has.clocked.known (samples_of pid has.clocked.taken) _ _
    (has.clocked.matched ∙ sym (one_each pid [] has.clocked.taken))
    (sym has.clocked.carried ∙ ap (samples_of pid) has.clocked.all ∙ behind_both pid [] has.clocked.taken behind) in
    record {
      front = has.clocked.taken;
      others = behind ++ has.passed;
      all = has.all ∙ ap (λ (front : List (List ℕ)). front ++ has.passed) has.clocked.all
          ∙ append_assoc has.clocked.taken behind has.passed;
      told =
          subst (λ (samples : List (Option ℕ)). IsClockText samples followed.levels.meter.asked false has.clocked.taken
          text) known
          (told_of_taken followed.levels (samples_of pid has.front) has.front text found has.clocked);
    }
