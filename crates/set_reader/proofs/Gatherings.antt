-- What a unit, as it is read, adds to what was gathered.
use Rattle.std.proofs.Common.{◌≡◌, ◌∙◌, ℕ, ◌+◌, Bool, true, false, cond, List, [], ◌∷◌, ◌++◌, length, reverse, append-nil, append_assoc, Option, sym, ap, subst}
use Rattle.std.specs.Prelude.{Ok, Err}
use Rattle.std.proofs.lemmas.List.{reverse-append}
use Rattle.stream_syntax.specs.Pes.{pes_of}
use Rattle.stream_syntax.specs.Units.{is_loss}
use Rattle.stream_syntax.specs.declared.transport.Event.{Event}
use Rattle.stream_syntax.specs.declared.pes.PesFault.{PesFault}
use Rattle.decoder_model.specs.declared.pages.Pages.{Pages}
use Rattle.decoder_model.specs.Arrivals.{Arrival, loss, losses_at, units_at, aside, refused_unit, unit_with, unit_from, arrival_of_unit, is_passed_over}
use Rattle.decoder_model.specs.PacketArrivals.{last_run}
use Rattle.decoder_model.specs.Sets.{Delivery, lost}
use Rattle.display_sets.specs.Counted.{counted_in}
use Rattle.display_sets.specs.Gathered.{Gathered}
use Rattle.display_sets.specs.Standing.{IsUnitEnd, HasGathered}
use Rattle.display_sets.specs.declared.hand.UnitEnd.{UnitEnd}
use Rattle.display_sets.proofs.Standings.{aside_stands}
use Rattle.set_reader.specs.Collecting.{losses}
use Rattle.set_reader.specs.Private.Ends.{IsEndOf, lost_where}

-- ---- a unit by its bytes

-- one that was read as a PES packet of subtitles
pub read_unit : (pages : Pages) (place : ℕ) (bytes : List ℕ) (pts : ℕ) (segments : List ℕ)
    → pes_of bytes ≡ Ok (pts, segments)
    → arrival_of_unit pages place bytes ≡ unit_with place (length bytes) pts (counted_in pages segments)
read_unit pages place bytes pts segments is = ap (unit_from pages place (length bytes)) is

-- one that is passed over, and one that is a loss
pub other_unit : (pages : Pages) (place : ℕ) (bytes : List ℕ) (fault : PesFault) → pes_of bytes ≡ Err fault
    → is_passed_over fault ≡ true → arrival_of_unit pages place bytes ≡ aside
other_unit pages place bytes fault is other =
    ap (unit_from pages place (length bytes)) is ∙ ap (λ b. cond b aside refused_unit) other

pub lost_unit : (pages : Pages) (place : ℕ) (bytes : List ℕ) (fault : PesFault) → pes_of bytes ≡ Err fault
    → is_passed_over fault ≡ false → arrival_of_unit pages place bytes ≡ refused_unit
lost_unit pages place bytes fault is other =
    ap (unit_from pages place (length bytes)) is ∙ ap (λ b. cond b aside refused_unit) other

-- ---- what it adds

-- a unit that was taken gives nothing
pub taken_gathers : (arrivals : List Arrival) (arrival other : Arrival) (given : List (Delivery (List ℕ)))
    (new : Gathered) → arrival ≡ other → HasGathered (arrivals ++ other ∷ []) false given new
    → HasGathered (arrivals ++ arrival ∷ []) false (given ++ []) new
taken_gathers arrivals arrival other given new same stands =
    subst (λ (all : List (Delivery (List ℕ))). HasGathered (arrivals ++ arrival ∷ []) false all new)
    (sym (append-nil given))
    (subst (λ (one : Arrival). HasGathered (arrivals ++ one ∷ []) false given new) (sym same) stands)

-- nor does one that is passed over
pub passed_gathers : (arrivals : List Arrival) (arrival : Arrival) (given : List (Delivery (List ℕ))) (old : Gathered)
    → arrival ≡ aside → HasGathered arrivals false given old
    → HasGathered (arrivals ++ arrival ∷ []) false (given ++ []) old
passed_gathers arrivals arrival given old same stands =
    taken_gathers arrivals arrival aside given old same (aside_stands old arrivals given stands)

-- one that is refused is a loss
pub lost_gathers : (arrivals : List Arrival) (arrival : Arrival) (given : List (Delivery (List ℕ))) (new : Gathered)
    → arrival ≡ refused_unit → HasGathered (arrivals ++ refused_unit ∷ []) false (given ++ lost ∷ []) new
    → HasGathered (arrivals ++ arrival ∷ []) false (given ++ lost ∷ []) new
lost_gathers arrivals arrival given new same stands =
    subst (λ (one : Arrival). HasGathered (arrivals ++ one ∷ []) false (given ++ lost ∷ []) new) (sym same) stands

-- the answer on a unit is that on what arrived
pub end_of : (coded : ℕ) (arrivals : List Arrival) (arrival other : Arrival) (answer : UnitEnd) → arrival ≡ other
    → IsUnitEnd coded (last_run (reverse arrivals)) other answer
    → IsUnitEnd coded (last_run (reverse arrivals)) arrival answer
end_of coded arrivals arrival other answer same is =
    subst (λ (one : Arrival). IsUnitEnd coded (last_run (reverse arrivals)) one answer) (sym same) is

-- ---- a packet

-- arrivals before a loss, from the last one on
turned_losses : (arrivals : List Arrival) (event : Event)
    → reverse (arrivals ++ losses_at event) ≡ losses_at event ++ reverse arrivals
turned_losses arrivals event = by (is_loss event)
  where
    by : (is_lost : Bool)
        → reverse (arrivals ++ cond is_lost (loss ∷ []) []) ≡ cond is_lost (loss ∷ []) [] ++ reverse arrivals
    by true = reverse-append arrivals (loss ∷ [])
    by false = ap reverse (append-nil arrivals)

-- the losses of a packet and of its unit are so many
counted_losses : (first other : Bool) (count : ℕ) → count ≡ cond first 1 0 + cond other 1 0
    → lost_where first ++ lost_where other ≡ losses count
counted_losses true true count is = ap losses (sym is)
counted_losses true false count is = ap losses (sym is)
counted_losses false true count is = ap losses (sym is)
counted_losses false false count is = ap losses (sym is)

-- the same, by what is known of the packet
pub fed_gathers : (arrivals : List Arrival) (event told : Event) (pages own : Pages) (place : ℕ)
    (unit ended : Option (List ℕ)) (given : List (Delivery (List ℕ))) (gathered : Gathered) (first other : Bool)
    (count : ℕ) → event ≡ told → pages ≡ own → unit ≡ ended → count ≡ cond first 1 0 + cond other 1 0
    → HasGathered ((arrivals ++ losses_at event) ++ units_at pages place unit) false
    ((given ++ lost_where first) ++ lost_where other) gathered
    → HasGathered (arrivals ++ (losses_at told ++ units_at own place ended)) false (given ++ losses count) gathered
fed_gathers arrivals event told pages own place unit ended given gathered first other count event_is pages_is unit_is
    count_is stands =
    subst (λ (all : List Arrival). HasGathered all false (given ++ losses count) gathered)
    (append_assoc arrivals (losses_at event) (units_at pages place unit)
    ∙ (λ i. arrivals ++ (losses_at (event_is i) ++ units_at (pages_is i) place (unit_is i))))
    (subst
    (λ (all : List (Delivery (List ℕ))).
    HasGathered ((arrivals ++ losses_at event) ++ units_at pages place unit) false all gathered)
    (append_assoc given (lost_where first) (lost_where other)
    ∙ ap (λ (all : List (Delivery (List ℕ))). given ++ all) (counted_losses first other count count_is))
    stands)

pub fed_end : (coded most : ℕ) (pages own : Pages) (place : ℕ) (arrivals : List Arrival) (event told : Event)
    (unit ended : Option (List ℕ)) (answer : Option UnitEnd) → coded ≡ most → pages ≡ own → event ≡ told
    → unit ≡ ended → IsEndOf coded pages place (last_run (reverse (arrivals ++ losses_at event))) unit answer
    → IsEndOf most own place (last_run (losses_at told ++ reverse arrivals)) ended answer
fed_end coded most pages own place arrivals event told unit ended answer coded_is pages_is event_is unit_is end =
    subst (λ (n : ℕ). IsEndOf n own place (last_run (losses_at told ++ reverse arrivals)) ended answer) coded_is
    (subst (λ (p : Pages). IsEndOf coded p place (last_run (losses_at told ++ reverse arrivals)) ended answer) pages_is
    (subst (λ (e : Event). IsEndOf coded pages place (last_run (losses_at e ++ reverse arrivals)) ended answer)
    event_is
    (subst (λ (u : Option (List ℕ)). IsEndOf coded pages place (last_run (losses_at event ++ reverse arrivals)) u
    answer)
    unit_is
    (subst (λ (units : List Arrival). IsEndOf coded pages place (last_run units) unit answer)
    (turned_losses arrivals event) end))))
