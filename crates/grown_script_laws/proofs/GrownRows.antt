-- Scripts that go on above a horizon: names, records and epochs of the ticks up to it stay.
use Rattle.std.proofs.Common.{◌≡◌, ◌∙◌, ◌⊎◌, inl, inr, refl, sym, ap, subst, ℕ, zero, suc, ◌<◌, ◌≤◌, ◌==◌, Bool, true, false, List, [], ◌∷◌, ◌++◌, map, get_or, All, Some, None, arith}
use Rattle.std.specs.Prelude.{slice_get}
use Rattle.std.specs.List.{flat_map, list_any, Contains}
use Rattle.std.proofs.lemmas.Bool.Decides.{nat_tests}
use Rattle.std.proofs.lemmas.Grind.{flat_map-append}
use Rattle.std.proofs.lemmas.List.{map-append}
use Rattle.std.proofs.lemmas.List.Elements.{All-contains, All-contains_itself, Contains-append_right}
use Rattle.cue_records.specs.declared.row_values.ColourRow.{ColourRow}
use Rattle.cue_list.specs.declared.epoch.Cue.{Cue}
use Rattle.cue_list.specs.declared.epoch.Epoch.{Epoch}
use Rattle.cue_list.specs.Sound.{ticks_of}
use Rattle.page_epoch.specs.declared.events.Event.{Event}
use Rattle.page_epoch.specs.declared.planned_set.PlannedSet.{PlannedSet}
use Rattle.grown_script_laws.specs.Growth.{AreAbove, EpochGrows, EpochsGrow}
use Rattle.page_epoch.specs.Instants.{named_ticks, is_named}
use Rattle.page_epoch.specs.Plan.{IsEpochAt, IsBringingRecord}
use Rattle.page_epoch.specs.Rows.{event, events_of, events_of_cue, IsLeastRow}
use Rattle.page_epoch.proofs.AnswerLaws.{some_same}
use Rattle.page_epoch.proofs.EventLaws.{colour_ticks, contains_mapped, cue_ticks, event_ticks}
use Rattle.grown_script_laws.proofs.GrowthLaws.{Stay, either_true, named_stay, stay_both, stay_more, stay_same}
use Rattle.page_epoch.proofs.InstantLaws.{is_named-yes}

-- ---- named ticks

any_there : (ticks : List ℕ) (tick : ℕ) → list_any (λ named. named == tick) ticks ≡ true → Contains ticks tick
any_there [] tick is = absurd (let no : false ≡ true = is in cc)
any_there (first ∷ ticks) tick is =
    elim (either_true (first == tick) (list_any (λ named. named == tick) ticks) is) [
      | inl here ↦ let same : first ≡ tick = grind (arith, nat_tests) in (0, omega arith, same)
      | inr more ↦ Contains-append_right (first ∷ []) ticks tick (any_there ticks tick more)
    ]

same_bools : (a b : Bool) → (a ≡ true → b ≡ true) → (b ≡ true → a ≡ true) → a ≡ b
same_bools true true onward back = refl
same_bools true false onward back = sym (onward refl)
same_bools false true onward back = back refl
same_bools false false onward back = refl

pub names_stay : (horizon : ℕ) (old new : List Epoch) (tick : ℕ) → EpochsGrow horizon old new → tick ≤ horizon
    → is_named new tick ≡ is_named old tick
names_stay horizon old new tick grow early =
    let stay = named_stay horizon old new grow in
    same_bools (is_named new tick) (is_named old tick)
    (λ is. is_named-yes old tick (stay.back tick early (any_there (named_ticks new) tick is)))
    (λ is. is_named-yes new tick (stay.kept tick (any_there (named_ticks old) tick is)))

-- ---- records

abbrev tick_of : Event → ℕ
tick_of one = one.tick

all_from : {X : Type 0} (P : X → Type 0) (xs : List X) → ((x : X) → Contains xs x → P x) → All P xs
all_from P xs each k d within = each (get_or xs k d) (All-contains_itself xs k d within)

events_above : (horizon : ℕ) (events : List Event) → AreAbove horizon (map tick_of events)
    → All (λ one. horizon < tick_of one) events
events_above horizon events above =
    all_from (λ (one : Event). horizon < tick_of one) events
    (λ one there. All-contains (λ tick. horizon < tick) (map tick_of events) (tick_of one) above
    (contains_mapped tick_of events one there))

abbrev event_of : ColourRow → Event
event_of row = event row.tick row.row

colour_events_stay : (horizon : ℕ) (old new : Epoch) → EpochGrows horizon old new
    → Stay tick_of horizon (map event_of old.colours) (map event_of new.colours)
colour_events_stay horizon old new grows =
    subst (Stay tick_of horizon (map event_of old.colours))
    (sym (ap (map event_of) grows.colours ∙ map-append event_of old.colours grows.more_colours))
    (stay_more tick_of horizon (map event_of old.colours) (map event_of grows.more_colours)
    (events_above horizon (map event_of grows.more_colours)
    (subst (AreAbove horizon) (sym (colour_ticks grows.more_colours)) grows.colours_above)))

cue_events_stay : (horizon : ℕ) (old new : Epoch) → EpochGrows horizon old new
    → Stay tick_of horizon (flat_map events_of_cue old.cues) (flat_map events_of_cue new.cues)
cue_events_stay horizon old new grows =
    subst (Stay tick_of horizon (flat_map events_of_cue old.cues))
    (sym (ap (λ (cues : List Cue). flat_map events_of_cue cues) grows.cues
    ∙ flat_map-append events_of_cue old.cues grows.more_cues))
    (stay_more tick_of horizon (flat_map events_of_cue old.cues) (flat_map events_of_cue grows.more_cues)
    (events_above horizon (flat_map events_of_cue grows.more_cues)
    (subst (AreAbove horizon) (sym (cue_ticks grows.more_cues)) grows.cues_above)))

start_event_stays : (horizon : ℕ) (old new : Epoch) → EpochGrows horizon old new
    → Stay tick_of horizon (event old.start old.row ∷ []) (event new.start new.row ∷ [])
start_event_stays horizon old new grows =
    let same : event old.start old.row ≡ event new.start new.row =
    λ i. event (sym grows.start i) (sym grows.row i) in
    subst (λ (one : Event). Stay tick_of horizon (event old.start old.row ∷ []) (one ∷ [])) same
    (stay_same tick_of horizon (event old.start old.row ∷ []))

epoch_events_stay : (horizon : ℕ) (old new : Epoch) → EpochGrows horizon old new
    → Stay tick_of horizon (events_of old) (events_of new)
epoch_events_stay horizon old new grows =
    stay_both tick_of horizon (event old.start old.row ∷ []) (event new.start new.row ∷ [])
    (map event_of old.colours ++ flat_map events_of_cue old.cues)
    (map event_of new.colours ++ flat_map events_of_cue new.cues) (start_event_stays horizon old new grows)
    (stay_both tick_of horizon (map event_of old.colours) (map event_of new.colours)
    (flat_map events_of_cue old.cues) (flat_map events_of_cue new.cues) (colour_events_stay horizon old new grows)
    (cue_events_stay horizon old new grows))

pub events_stay : (horizon : ℕ) (old new : List Epoch) → EpochsGrow horizon old new
    → Stay tick_of horizon (flat_map events_of old) (flat_map events_of new)
events_stay horizon [] later grow =
    stay_more tick_of horizon [] (flat_map events_of later)
    (events_above horizon (flat_map events_of later) (subst (AreAbove horizon) (sym (event_ticks later)) grow))
events_stay horizon (old ∷ olds) [] grow = absurd grow
events_stay horizon (old ∷ olds) (new ∷ news) grow =
    stay_both tick_of horizon (events_of old) (events_of new) (flat_map events_of olds) (flat_map events_of news)
    (epoch_events_stay horizon old new grow.0) (events_stay horizon olds news grow.1)

pub least_stays : (horizon : ℕ) (old new : List Epoch) (tick row : ℕ) → EpochsGrow horizon old new → tick ≤ horizon
    → IsLeastRow (flat_map events_of old) tick row → IsLeastRow (flat_map events_of new) tick row
least_stays horizon old new tick row grow early is =
    let stay = events_stay horizon old new grow in
    record {
      among = stay.kept (event tick row) is.among;
      least = all_from (λ (other : Event). other.tick ≡ tick → row ≤ other.row) (flat_map events_of new)
          (λ other there same. All-contains (λ (other : Event). other.tick ≡ tick → row ≤ other.row)
          (flat_map events_of old) other is.least (stay.back other (omega (arith, same, early)) there) same);
    }

-- the record that brings the set of a tick up to the horizon stays the same
pub rows_stay : (horizon : ℕ) (old new : List Epoch) (past : List PlannedSet) (tick row : ℕ)
    → EpochsGrow horizon old new → tick ≤ horizon
    → IsBringingRecord old past tick row → IsBringingRecord new past tick row
rows_stay horizon old new past tick row grow early is =
    let named = names_stay horizon old new tick grow early in
    record {
      of_named = λ yes. least_stays horizon old new tick row grow early (is.of_named (sym named ∙ yes));
      of_refresh = λ no. is.of_refresh (sym named ∙ no);
    }

-- ---- epochs

-- an epoch of the script stands at its place as it went on
pub grown_at : (horizon : ℕ) (old new : List Epoch) (place : ℕ) (epoch : Epoch) → EpochsGrow horizon old new
    → slice_get old place ≡ Some epoch
    → (grown : Epoch) × (slice_get new place ≡ Some grown) × EpochGrows horizon epoch grown
grown_at horizon [] later place epoch grow found = absurd (let no : None ≡ Some epoch = found in cc)
grown_at horizon (old ∷ olds) [] place epoch grow found = absurd grow
grown_at horizon (old ∷ olds) (new ∷ news) zero epoch grow found =
    let same : old ≡ epoch = some_same old epoch (Some old) refl found in
    (new, refl, subst (λ (one : Epoch). EpochGrows horizon one new) same grow.0)
grown_at horizon (old ∷ olds) (new ∷ news) (suc place) epoch grow found =
    grown_at horizon olds news place epoch grow.1 found

-- an epoch that goes on stood at its place, or starts above the horizon
was_at : (horizon : ℕ) (old new : List Epoch) (place : ℕ) (grown : Epoch) → EpochsGrow horizon old new
    → slice_get new place ≡ Some grown
    → ((epoch : Epoch) × (slice_get old place ≡ Some epoch) × (grown.start ≡ epoch.start))
    ⊎ (horizon < grown.start)
was_at horizon [] [] place grown grow found = absurd (let no : None ≡ Some grown = found in cc)
was_at horizon [] (new ∷ news) zero grown grow found =
    let same : new ≡ grown = some_same new grown (Some new) refl found in
    inr (omega (arith, grow 0 0 (omega arith), ap (λ (one : Epoch). one.start) same))
was_at horizon [] (new ∷ news) (suc place) grown grow found =
    was_at horizon [] news place grown (later_above horizon (ticks_of new) (named_ticks news) grow) found
  where
    later_above : (horizon : ℕ) (ticks more : List ℕ) → AreAbove horizon (ticks ++ more) → AreAbove horizon more
    later_above horizon [] more above = above
    later_above horizon (tick ∷ ticks) more above =
        later_above horizon ticks more (λ k d within. above (suc k) d (omega arith))
was_at horizon (old ∷ olds) [] place grown grow found = absurd grow
was_at horizon (old ∷ olds) (new ∷ news) zero grown grow found =
    let same : new ≡ grown = some_same new grown (Some new) refl found in
    inl (old, refl, sym (ap (λ (one : Epoch). one.start) same) ∙ grow.0.start)
was_at horizon (old ∷ olds) (new ∷ news) (suc place) grown grow found =
    was_at horizon olds news place grown grow.1 found

-- the epoch of a tick up to the horizon stays at its place, and goes on above the horizon
pub epochs_stay : (horizon : ℕ) (old new : List Epoch) (tick place : ℕ) (epoch : Epoch)
    → EpochsGrow horizon old new → tick ≤ horizon → IsEpochAt old tick place epoch
    → (grown : Epoch) × IsEpochAt new tick place grown × EpochGrows horizon epoch grown
epochs_stay horizon old new tick place epoch grow early at =
    let here = grown_at horizon old new place epoch grow at.found in (
      here.0,
      record {
        found = here.1;
        started = omega (arith, at.started, here.2.start);
        last = λ later other behind found. elim (was_at horizon old new later other grow found) [
          | inl was ↦ let after = at.last later was.0 behind was.1 in omega (arith, after, was.2)
          | inr high ↦ omega (arith, high, early)
        ];
      },
      here.2,
    )
