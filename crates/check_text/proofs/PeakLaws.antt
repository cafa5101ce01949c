-- The greatest level of the packets that were checked.
use Rattle.std.proofs.Common.{◌≡◌, ◌∙◌, ℕ, false, List, sym, ap}
use Rattle.buffer_model.specs.Calls.{greatest}
use Rattle.received_level_laws.proofs.ToldLaws.{are_calls}
use Rattle.received_level_laws.specs.ToldSets.{ToldCall, calls_told, told_of}
use Rattle.set_receiver.specs.Receiving.{reception}
use Rattle.check_text.specs.CheckText.{IsPeak}
use Rattle.check_text.specs.Checking.{Checking, HasChecked}
use Rattle.check_text.proofs.CourseLaws.{told_itself}

-- what the meter says is the greatest level of the calls that the packets give
pub peak_so_far : (checking : Checking) (packets : List (List ℕ)) (text : List ℕ) (peak : ℕ)
    → (has : HasChecked checking packets text)
    → peak ≡ greatest checking.meter.pace (calls_told has.metered.told)
    → IsPeak (reception checking.receiving) packets peak
peak_so_far checking packets text peak has says =
    let made = reception checking.receiving in
    let own : List ToldCall = told_of made 0 packets has.metered.past in
    let same : has.metered.told ≡ own = has.metered.are ∙ told_itself own in
    record {
      calls = calls_told own;
      called = are_calls made 0 false packets own (record {
        past = has.metered.past;
        received = has.metered.received;
        are =
            ap (λ (all : List (List ℕ)). told_of made 0 all has.metered.past)
            (sym has.metered.at.taken.stands.reads.taken);
      });
      peak_is = says ∙ (λ i. greatest (has.pace i) (calls_told (same i)));
    }
