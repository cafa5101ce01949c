-- How many sets and losses packets give: no more than two for each packet.
use Rattle.std.proofs.Common.{◌≡◌, ℕ, zero, suc, ◌*◌, ◌≤◌, Bool, true, false, cond, List, [], ◌∷◌, ◌++◌, length, reverse, Option, Some, None, refl, ap, arith, length-append}
use Rattle.std.proofs.lemmas.List.{length-reverse}
use Rattle.std.specs.Option.{is_none}
use Rattle.std.specs.Prelude.{◌==◌, find, take, take_while}
use Rattle.std.specs.List.{prefix_len}
use Rattle.decoder_model.specs.declared.pages.Pages.{Pages}
use Rattle.decoder_model.specs.Arrivals.{Arrival, PesUnit, arrivals_at, arrivals_of, aside, loss, losses_at, packets_taken, refused_unit, unit, units_at}
use Rattle.decoder_model.specs.Readings.{AreDeliveriesRead, Reading}
use Rattle.decoder_model.specs.Received.{HasReceived, Reception, sets_received}
use Rattle.decoder_model.specs.Sets.{Delivery, Stretch, frames_in, has_ended, is_ended, is_followed, joined_to, loss_between, run, runs_of, set_of, sets_in, sets_of}
use Rattle.display_sets.proofs.PacketLaws.{sets_of_packets}
use Rattle.stream_syntax.specs.DataField.{Frame}
use Rattle.stream_syntax.specs.Units.{each_after, event_at, is_loss, unit_at}
use Rattle.stream_syntax.specs.TransportPackets.{packet_fault}
use Rattle.sub_base.specs.Lists.{all_of, prefixes}

-- ---- stretches

one_set : (coded time : ℕ) (units : List PesUnit) (followed : Bool) (found : Option (List Frame))
    → length (set_of coded time units followed found) ≤ 1
one_set coded time units followed (Some front) = omega arith
one_set coded time units true None = omega arith
one_set coded time units false None = omega arith

few_in : (coded : ℕ) (ended : Bool) (stretches : List Stretch)
    → length (sets_in coded ended stretches) ≤ length stretches
few_in coded ended [] = omega arith
few_in coded ended (loss_between ∷ rest) = omega (arith, few_in coded ended rest)
few_in coded ended (run first more ∷ rest) =
    by (few_in coded ended rest) (find (is_ended coded) (prefixes (frames_in (first ∷ more))))
  where
    by : length (sets_in coded ended rest) ≤ length rest → (found : Option (List Frame))
        → length (set_of coded first.time (first ∷ more) (is_followed ended rest) found ++ sets_in coded ended rest)
        ≤ suc (length rest)
    by few found =
        omega (
          arith,
          few,
          one_set coded first.time (first ∷ more) (is_followed ended rest) found,
          length-append
              (set_of coded first.time (first ∷ more) (is_followed ended rest) found) (sets_in coded ended rest),
        )

joined_few : (one : PesUnit) (stretches : List Stretch) → length (joined_to one stretches) ≤ suc (length stretches)
joined_few one [] = omega arith
joined_few one (loss_between ∷ rest) = omega arith
joined_few one (run next more ∷ rest) = by (one.time == next.time)
  where
    by : (same : Bool)
        → length (cond same (run one (next ∷ more) ∷ rest) (run one [] ∷ run next more ∷ rest))
        ≤ suc (suc (length rest))
    by true = omega arith
    by false = omega arith

few_runs : (arrivals : List Arrival) → length (runs_of arrivals) ≤ length arrivals
few_runs [] = omega arith
few_runs (loss ∷ arrivals) = omega (arith, few_runs arrivals)
few_runs (refused_unit ∷ arrivals) = omega (arith, few_runs arrivals)
few_runs (aside ∷ arrivals) = omega (arith, few_runs arrivals)
few_runs (unit one ∷ arrivals) = omega (arith, few_runs arrivals, joined_few one (runs_of arrivals))

-- ---- arrivals

one_loss : (lost : Bool) → length (cond {A = List Arrival} lost (loss ∷ []) []) ≤ 1
one_loss true = omega arith
one_loss false = omega arith

one_unit : (pages : Pages) (place : ℕ) (ended : Option (List ℕ)) → length (units_at pages place ended) ≤ 1
one_unit pages place None = omega arith
one_unit pages place (Some bytes) = omega arith

two_at : (size pid : ℕ) (pages : Pages) (before : List (List ℕ)) (packet : List ℕ)
    → length (arrivals_at size pid pages before packet) ≤ 2
two_at size pid pages before packet =
    omega (
      arith,
      one_loss (is_loss (event_at pid size before packet)),
      one_unit pages (length before) (unit_at pid size before packet),
      length-append
          (losses_at (event_at pid size before packet))
          (units_at pages (length before) (unit_at pid size before packet)),
    )

two_each : (f : List (List ℕ) → List ℕ → List Arrival)
    → ((before : List (List ℕ)) (packet : List ℕ) → length (f before packet) ≤ 2)
    → (before packets : List (List ℕ)) → length (all_of (each_after f before packets)) ≤ 2 * length packets
two_each f few before [] = omega arith
two_each f few before (packet ∷ packets) =
    omega (
      arith,
      few before packet,
      two_each f few (before ++ packet ∷ []) packets,
      length-append
          (f before packet) (all_of (each_after f (before ++ packet ∷ []) packets)),
    )

few_taken : {X : Type 0} (count : ℕ) (xs : List X) → length (take count xs) ≤ length xs
few_taken zero xs = omega arith
few_taken (suc count) [] = omega arith
few_taken (suc count) (x ∷ xs) = omega (arith, few_taken count xs)

fewer_while : {X : Type 0} (test : X → Bool) (xs : List X) → length (take_while test xs) ≤ length xs
fewer_while test xs = few_taken (prefix_len test xs) xs

few_arrivals : (size pid : ℕ) (pages : Pages) (packets : List (List ℕ))
    → length (arrivals_of size pid pages packets) ≤ 2 * length packets
unfolding arrivals_of
few_arrivals size pid pages packets =
    let each = two_each (arrivals_at size pid pages) (two_at size pid pages) [] (packets_taken pid packets) in
    let taken = fewer_while (λ packet. is_none (packet_fault pid packet)) packets in
    omega (arith, each, taken)

-- ---- sets

few_sets : (coded pid : ℕ) (pages : Pages) (ended : Bool) (packets : List (List ℕ))
    → length (sets_of coded pid pages ended packets) ≤ 2 * length packets
few_sets coded pid pages ended packets =
    omega (
      arith,
      ap (λ (sets : List (Delivery (List ℕ))). length sets) (sets_of_packets coded pid pages ended packets),
      few_in coded (has_ended ended pid packets) (runs_of (arrivals_of coded pid pages packets)),
      few_runs (arrivals_of coded pid pages packets),
      few_arrivals
          coded pid pages packets,
    )

-- as many as are read
pub as_many_read : (deliveries : List (Delivery (List ℕ))) (past : List (Delivery Reading))
    → AreDeliveriesRead deliveries past → length past ≡ length deliveries
as_many_read [] [] read = refl
as_many_read [] (one ∷ past) read = absurd read
as_many_read (delivery ∷ deliveries) [] read = absurd read
as_many_read (delivery ∷ deliveries) (one ∷ past) read = ap suc (as_many_read deliveries past read.1)

-- no more than two sets and losses for each packet
pub few_received : (reception : Reception) (ended : Bool) (packets : List (List ℕ)) (past : List (Delivery Reading))
    → HasReceived reception ended packets past
    → length past ≤ 2 * length packets
few_received reception ended packets past received =
    let sets = sets_received reception ended packets in
    omega (
      arith,
      as_many_read (reverse sets) past received,
      length-reverse sets,
      few_sets reception.profile.coded reception.pid reception.pages ended packets,
    )
