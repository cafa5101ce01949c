-- Where something is lost among packets, it is among their sets; and how many sets there are.
use Rattle.std.proofs.Common.{◌≡◌, ◌∙◌, ℕ, ◌+◌, ◌*◌, ◌≤◌, ◌||◌, true, false, cond, eqb, Bool, List, [], ◌∷◌, ◌++◌, length, Option, Some, None, refl, ap, arith, length-append}
use Rattle.std.specs.Prelude.{find}
use Rattle.std.specs.List.{list_any}
use Rattle.std.specs.Option.{option_or}
use Rattle.stream_syntax.specs.TransportPackets.{packet_fault}
use Rattle.stream_syntax.specs.Units.{each_after, event_at, unit_at, is_loss as means_loss}
use Rattle.sub_base.specs.Lists.{all_of, prefixes}
use Rattle.decoder_model.specs.declared.pages.Pages.{Pages}
use Rattle.decoder_model.specs.declared.set_fault.SetFault.{SetFault}
use Rattle.decoder_model.specs.Arrivals.{PesUnit, Arrival, loss, refused_unit, aside, unit, arrivals_at, arrivals_of, losses_at, packets_taken, units_at}
use Rattle.stream_syntax.specs.DataField.{Frame}
use Rattle.decoder_model.specs.Sets.{Stretch, loss_between, run, joined_to, runs_of, Delivery, lost, whole, refused, excess_in, first_fault_in, frames_in, handed, is_ended, is_followed, set_of, sets_in, sets_of, size_in, units_to_end, has_ended}
use Rattle.display_sets.proofs.PacketLaws.{arrivals_grow}
use Rattle.splice.specs.StreamTests.{is_lost}

-- a loss that is handed over
abbrev pub is_loss : Delivery (List ℕ) → Bool
is_loss lost = true
is_loss (whole time size segments) = false
is_loss (refused time size fault) = false

abbrev pub is_between : Stretch → Bool
is_between loss_between = true
is_between (run first more) = false

pub any_joined : {X : Type 0} (p : X → Bool) (xs ys : List X)
    → list_any p (xs ++ ys) ≡ (list_any p xs || list_any p ys)
any_joined p [] ys = refl
any_joined p (x ∷ xs) ys = by (p x) (any_joined p xs ys)
  where
    by : (b : Bool) → list_any p (xs ++ ys) ≡ (list_any p xs || list_any p ys)
        → (b || list_any p (xs ++ ys)) ≡ ((b || list_any p xs) || list_any p ys)
    by true e = refl
    by false e = e

joined_loss : (one : PesUnit) (rest : List Stretch)
    → list_any is_between (joined_to one rest) ≡ list_any is_between rest
joined_loss one [] = refl
joined_loss one (loss_between ∷ rest) = refl
joined_loss one (run next more ∷ rest) = by (eqb one.time next.time)
  where
    by : (same : Bool)
        → list_any is_between (cond same (run one (next ∷ more) ∷ rest) (run one [] ∷ run next more ∷ rest))
        ≡ list_any is_between rest
    by true = refl
    by false = refl

pub runs_loss : (arrivals : List Arrival) → list_any is_between (runs_of arrivals) ≡ list_any is_lost arrivals
runs_loss [] = refl
runs_loss (loss ∷ arrivals) = refl
runs_loss (refused_unit ∷ arrivals) = refl
runs_loss (aside ∷ arrivals) = runs_loss arrivals
runs_loss (unit one ∷ arrivals) = joined_loss one (runs_of arrivals) ∙ runs_loss arrivals

handed_none : (time size : ℕ) (front : List Frame) (fault : Option SetFault)
    → (list_any is_loss (handed time size front fault ∷ []) ≡ false)
handed_none time size front None = refl
handed_none time size front (Some fault) = refl

set_none : (coded time : ℕ) (units : List PesUnit) (followed : Bool) (found : Option (List Frame))
    → list_any is_loss (set_of coded time units followed found) ≡ false
set_none coded time units followed (Some front) =
    handed_none time (size_in (units_to_end coded units)) front
    (option_or (first_fault_in front) (excess_in coded front))
set_none coded time units true None = refl
set_none coded time units false None = refl

pub sets_loss : (coded : ℕ) (ended : Bool) (stretches : List Stretch)
    → list_any is_loss (sets_in coded ended stretches) ≡ list_any is_between stretches
sets_loss coded ended [] = refl
sets_loss coded ended (loss_between ∷ rest) = refl
sets_loss coded ended (run first more ∷ rest) =
    let found = find (is_ended coded) (prefixes (frames_in (first ∷ more))) in
    any_joined is_loss (set_of coded first.time (first ∷ more) (is_followed ended rest) found)
    (sets_in coded ended rest)
    ∙ ap (λ (b : Bool). b || list_any is_loss (sets_in coded ended rest))
    (set_none coded first.time (first ∷ more) (is_followed ended rest) found)
    ∙ sets_loss coded ended rest

-- a loss is handed over exactly where something is lost
pub loss_same : (coded pid : ℕ) (pages : Pages) (ended : Bool) (packets : List (List ℕ))
    → list_any is_loss (sets_of coded pid pages ended packets)
    ≡ list_any is_lost (arrivals_of coded pid pages packets)
unfolding sets_of
loss_same coded pid pages ended packets =
    sets_loss coded (has_ended ended pid packets) (runs_of (arrivals_of coded pid pages packets))
    ∙ runs_loss (arrivals_of coded pid pages packets)

-- of packets with one more something is lost where it was before, or with that one
pub loss_more : (coded pid : ℕ) (pages : Pages) (packets : List (List ℕ)) (packet : List ℕ)
    → packets_taken pid packets ≡ packets → packet_fault pid packet ≡ None
    → list_any is_lost (arrivals_of coded pid pages (packets ++ packet ∷ []))
    ≡ (list_any is_lost (arrivals_of coded pid pages packets)
    || list_any is_lost (arrivals_at coded pid pages packets packet))
loss_more coded pid pages packets packet taken none =
    ap (list_any is_lost) (arrivals_grow coded pid pages packets packet taken none)
    ∙ any_joined is_lost (arrivals_of coded pid pages packets) (arrivals_at coded pid pages packets packet)

-- ---- how many sets

joined_many : (one : PesUnit) (rest : List Stretch) → length (joined_to one rest) ≤ 1 + length rest
joined_many one [] = omega arith
joined_many one (loss_between ∷ rest) = omega arith
joined_many one (run next more ∷ rest) = by (eqb one.time next.time)
  where
    by : (same : Bool)
        → length (cond same (run one (next ∷ more) ∷ rest) (run one [] ∷ run next more ∷ rest))
        ≤ 1 + length (run next more ∷ rest)
    by true = omega arith
    by false = omega arith

runs_many : (arrivals : List Arrival) → length (runs_of arrivals) ≤ length arrivals
runs_many [] = omega arith
runs_many (loss ∷ arrivals) = omega (arith, runs_many arrivals)
runs_many (refused_unit ∷ arrivals) = omega (arith, runs_many arrivals)
runs_many (aside ∷ arrivals) = omega (arith, runs_many arrivals)
runs_many (unit one ∷ arrivals) = omega (arith, runs_many arrivals, joined_many one (runs_of arrivals))

set_many : (coded time : ℕ) (units : List PesUnit) (followed : Bool) (found : Option (List Frame))
    → length (set_of coded time units followed found) ≤ 1
set_many coded time units followed (Some front) = omega arith
set_many coded time units true None = omega arith
set_many coded time units false None = omega arith

sets_many : (coded : ℕ) (ended : Bool) (stretches : List Stretch)
    → length (sets_in coded ended stretches) ≤ length stretches
sets_many coded ended [] = omega arith
sets_many coded ended (loss_between ∷ rest) = omega (arith, sets_many coded ended rest)
sets_many coded ended (run first more ∷ rest) =
    let found = find (is_ended coded) (prefixes (frames_in (first ∷ more))) in
    omega (
      arith,
      length-append (set_of coded first.time (first ∷ more) (is_followed ended rest) found) (sets_in coded ended rest),
      set_many coded first.time (first ∷ more) (is_followed ended rest) found,
      sets_many coded ended rest,
    )

ended_many : (pages : Pages) (place : ℕ) (ended : Option (List ℕ)) → length (units_at pages place ended) ≤ 1
ended_many pages place None = omega arith
ended_many pages place (Some bytes) = omega arith

lost_many : (is : Bool) → length (cond is (loss ∷ []) []) ≤ 1
lost_many true = omega arith
lost_many false = omega arith

each_many : (coded pid : ℕ) (pages : Pages) (before packets : List (List ℕ))
    → length (all_of (each_after (arrivals_at coded pid pages) before packets)) ≤ 2 * length packets
each_many coded pid pages before [] = omega arith
each_many coded pid pages before (packet ∷ packets) =
    let losses = losses_at (event_at pid coded before packet) in
    let units = units_at pages (length before) (unit_at pid coded before packet) in
    omega (
      arith,
      each_many coded pid pages (before ++ packet ∷ []) packets,
      length-append (losses ++ units)
          (all_of (each_after (arrivals_at coded pid pages) (before ++ packet ∷ []) packets)),
      length-append losses units,
      lost_many (means_loss (event_at pid coded before packet)),
      ended_many pages (length before) (unit_at pid coded before packet),
    )

-- packets make at most two sets and losses each
pub few_sets : (coded pid : ℕ) (pages : Pages) (ended : Bool) (packets : List (List ℕ))
    → packets_taken pid packets ≡ packets
    → length (sets_of coded pid pages ended packets) ≤ 2 * length packets
unfolding sets_of arrivals_of
few_sets coded pid pages ended packets taken =
    let arrivals = arrivals_of coded pid pages packets in
    omega (
      arith,
      sets_many coded (has_ended ended pid packets) (runs_of arrivals),
      runs_many arrivals,
      each_many coded pid pages [] (packets_taken pid packets),
      ap length taken,
    )
