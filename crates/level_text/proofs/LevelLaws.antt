-- What `levels` has told of packets that come at an even rate.
use Rattle.std.proofs.Common.{◌≡◌, ◌∙◌, ℕ, ◌+◌, ◌≤◌, Bool, false, List, [], ◌∷◌, ◌++◌, length, sym, ap, subst, arith}
use Rattle.std.proofs.lemmas.List.{length-append}
use Rattle.check_text.specs.Checking.{HasMetered}
use Rattle.check_text.specs.Courses.{IsTextBy}
use Rattle.check_text.proofs.MeteredLaws.{metered_so_far}
use Rattle.command_text.specs.Putting.{Buffered}
use Rattle.packet_walk.specs.Told.{TellsOne}
use Rattle.decoder_model.specs.Received.{Reception}
use Rattle.set_receiver.specs.Receiving.{reception}
use Rattle.sub_base.specs.Endpoints.{Received}
use Rattle.sub_base.specs.declared.pace.Pace.{Pace}
use Rattle.buffer_model.specs.Ticks.{by_ticks}
use Rattle.level_text.specs.LevelText.{IsLevelText, by_rate}
use Rattle.level_text.specs.Levelling.{HasLevelled, Levelling, levels_tell}
use Rattle.level_text.specs.RateClock.{arrival_tick}
use Rattle.level_text.specs.declared.rate_clock.TheConstants.{LEAST_RATE}
use Rattle.level_text.proofs.RateLaws.{tick_rises}

-- nothing was told
pub nothing_levelled : (levelling : Levelling)
    → ((slot_of : ℕ → ℕ) → HasMetered slot_of levelling.sets [] [])
    → levelling.sets.meter.pace ≡ by_ticks (reception levelling.sets.receiving).profile
    → levelling.sets.meter.last ≡ 0 → HasLevelled levelling [] []
nothing_levelled levelling metered pace last = record {
  metered = metered (arrival_tick levelling.rate);
  pace = pace;
  last = omega (arith, last);
}

-- a packet more
pub one_levelled : (before now : Received) (old new : Levelling) (was is : Buffered) (place : ℕ) (packet : List ℕ)
    → TellsOne (HasMetered (arrival_tick old.rate)) before now old.sets new.sets was is place packet
    → new.rate ≡ old.rate → reception new.sets.receiving ≡ reception old.sets.receiving
    → new.sets.meter.pace ≡ old.sets.meter.pace → LEAST_RATE ≤ old.rate
    → new.sets.meter.last ≤ arrival_tick old.rate place
    → TellsOne HasLevelled before now old new was is place packet
one_levelled before now old new was is place packet tells same for_same pace least last = record {
  goes = λ packets text. λ count has.
      let told = tells.goes packets text count has.metered in
      let more : length (packets ++ packet ∷ []) ≡ place + 1 = omega (arith, count, length-append packets (packet ∷ []))
      in (
        told.0,
        record {
          metered =
              subst (λ (rate : ℕ). HasMetered (arrival_tick rate) new.sets (packets ++ packet ∷ []) (text ++ told.0))
              (sym same) told.1;
          pace = pace ∙ has.pace ∙ ap (λ (made : Reception). by_ticks made.profile) (sym for_same);
          last =
              subst (λ (rate : ℕ). new.sets.meter.last ≤ arrival_tick rate (length (packets ++ packet ∷ []))) (sym same)
              (subst (λ (count : ℕ). new.sets.meter.last ≤ arrival_tick old.rate count) (sym more)
              (omega (arith, last, tick_rises old.rate place (omega (arith, least)))));
        },
        told.2,
      );
}

-- ---- what was told

-- the course that the packets come by
pub course_text : (levelling : Levelling) (ended : Bool) (packets : List (List ℕ)) (text : List ℕ)
    → levelling.sets.meter.pace ≡ by_ticks (reception levelling.sets.receiving).profile
    → IsTextBy (record { slot_of = arrival_tick levelling.rate; pace = levelling.sets.meter.pace })
    (reception levelling.sets.receiving) ended packets text
    → levels_tell levelling ended packets text
course_text levelling ended packets text pace_is told =
    subst (λ (pace : Pace). IsTextBy (record { slot_of = arrival_tick levelling.rate; pace = pace })
    (reception levelling.sets.receiving) ended packets text) pace_is told

-- what was told of packets, where the stream does not end with them
pub levelled_so_far : (levelling : Levelling) (packets : List (List ℕ)) (text : List ℕ)
    → HasLevelled levelling packets text → levels_tell levelling false packets text
levelled_so_far levelling packets text has =
    course_text levelling false packets text has.pace
    (metered_so_far (arrival_tick levelling.rate) levelling.sets packets text has.metered)

-- what a receiver at work tells is what it was made for
pub tells_as_made : (asked : Reception) (rate : ℕ) (levelling : Levelling) (ended : Bool) (packets : List (List ℕ))
    (text : List ℕ) → reception levelling.sets.receiving ≡ asked → levelling.rate ≡ rate
    → levels_tell levelling ended packets text → IsLevelText rate asked ended packets text
tells_as_made asked rate levelling ended packets text same at_rate is =
    subst (λ (one : ℕ). IsLevelText one asked ended packets text) at_rate
    (subst (λ (made : Reception). IsTextBy (by_rate levelling.rate made.profile) made ended packets text) same is)
