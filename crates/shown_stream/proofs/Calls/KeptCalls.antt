-- Sets that come one after another, each ahead of the one before, are whole sets for the buffers, at their own times.
use Rattle.std.proofs.Common.{◌≡◌, ◌∙◌, ℕ, zero, suc, ◌+◌, ◌-◌, ◌%◌, ◌<◌, List, [], ◌∷◌, length, map, get_or, Option, Some, refl, sym, ap, arith}
use Rattle.std.specs.Prelude.{unwrap_or}
use Rattle.std.specs.Option.{option_or}
use Rattle.sub_base.specs.declared.load.SetLoad.{SetLoad}
use Rattle.sub_base.specs.declared.load.WriteLoad.{WriteLoad}
use Rattle.sub_base.specs.declared.profile.Profile.{Profile}
use Rattle.stream_syntax.specs.declared.wire.TheConstants.{TIME_ROUND, TICK_LIMIT}
use Rattle.page_epoch.specs.declared.planned_set.PlannedSet.{PlannedSet}
use Rattle.buffer_model.specs.Calls.{Call, SetWhole}
use Rattle.schedule.specs.Packets.{sum_below, load_of, size_of, payload_of}
use Rattle.decoder_model.specs.Kept.{lifted_behind, last_time, lifted_time}
use Rattle.decoder_model.specs.Painting.{painting_by}
use Rattle.decoder_model.specs.Readings.{Reading, AreDeliveriesRead}
use Rattle.decoder_model.specs.Sets.{Delivery, whole}
use Rattle.decoder_model.specs.Verdict.{verdict_of}
use Rattle.scheduled_level_laws.specs.EnteredCalls.{Entry, from_of}
use Rattle.received_level_laws.specs.StreamCalls.{call_by, set_call}
use Rattle.shown_stream.proofs.Calls.CallsOfPieces.{AreLeft}
use Rattle.shown_stream.proofs.Sent.PlannedTimes.{pts_of}
use Rattle.shown_stream.proofs.Shown.SetPaintings.{painting_in, calls_behind}
use Rattle.shown_stream.proofs.Shown.ShownSets.{IsAheadOf, AreAheadOf, lifted_at}
use Rattle.sent_sets.proofs.SetEnds.{delivered}
use Rattle.sent_sets.proofs.Units.{TimedSet, size_of_units}

-- the first of these planned sets are received at these times, in their order
abbrev pub AreTimed : List PlannedSet → List TimedSet → Type 0
AreTimed planned [] = Unit {0}
AreTimed [] (one ∷ sets) = ⊥
AreTimed (set ∷ planned) (one ∷ sets) = (one.time ≡ set.pts % TIME_ROUND) × AreTimed planned sets

-- that call is a whole set, with that time and size
pub record IsWholeAt (calls : List (List Call)) (j pts size : ℕ) : Type 0 where
  pub load : SetLoad
  pub is : get_or calls j [] ≡ SetWhole load ∷ []
  pub at : load.pts ≡ pts
  pub many : load.size ≡ size

-- a set that is ahead of those before is whole, at its own time
one_kept : (profile : Profile) (anchor pts time size : ℕ) (last : Option ℕ) (older : List (Delivery Reading))
    (readings : List Reading) → last_time anchor older ≡ last → IsAheadOf anchor last pts → pts < TICK_LIMIT
    → time ≡ pts % TIME_ROUND
    → lifted_time anchor older (whole time size readings) ≡ Some pts
one_kept profile anchor pts time size last older readings before ahead low is =
    ap (λ found. lifted_behind anchor found time) before ∙ ap (lifted_behind anchor last) is
    ∙ lifted_at anchor last pts ahead low

whole_call : (profile : Profile) (anchor pts time size : ℕ) (older : List (Delivery Reading))
    (readings : List Reading) → lifted_time anchor older (whole time size readings) ≡ Some pts
    → set_call profile anchor older (whole time size readings)
    ≡ SetWhole
    (record {
      pts = pts;
      size = size;
      painted = painting_by readings
          (verdict_of profile anchor older (whole time size readings));
    }) ∷ []
whole_call profile anchor pts time size older readings kept =
    ap (λ found. call_by found
    (Some (record {
      pts = unwrap_or found time;
      size = size;
      painted = painting_by readings
          (verdict_of profile anchor older (whole time size readings));
    }))) kept

last_kept : (anchor pts : ℕ) (older : List (Delivery Reading)) (delivery : Delivery Reading)
    → lifted_time anchor older delivery ≡ Some pts → last_time anchor (delivery ∷ older) ≡ Some pts
unfolding last_time
last_kept anchor pts older delivery kept = ap (λ found. option_or found (last_time anchor older)) kept

-- each of them is a whole set
pub each_kept : (profile : Profile) (anchor : ℕ) (last : Option ℕ) (older : List (Delivery Reading))
    (planned : List PlannedSet) (sets : List TimedSet) (received : List (Delivery Reading))
    → last_time anchor older ≡ last → AreAheadOf anchor last planned
    → AreTimed planned sets → AreDeliveriesRead (map delivered sets) received → (j : ℕ) → j < length received
    → IsWholeAt (calls_behind profile anchor older received) j (get_or (pts_of planned) j 0)
    (get_or (map (λ (one : TimedSet). size_of_units one.units) sets) j 0)
each_kept profile anchor last older planned [] [] before ahead are_timed read j inside = absurd (omega arith)
each_kept profile anchor last older planned [] (one ∷ received) before ahead are_timed read j inside = absurd read
each_kept profile anchor last older planned (one ∷ sets) [] before ahead are_timed read j inside = absurd read
each_kept profile anchor last older [] (one ∷ sets) (delivery ∷ received) before ahead are_timed read j inside =
    absurd are_timed
each_kept profile anchor last older (set ∷ planned) (one ∷ sets) (delivery ∷ received) before ahead are_timed read
    zero inside =
    let size = size_of_units one.units in
    let readings = read.0.0 in
    let kept = one_kept profile anchor set.pts one.time size last older readings before ahead.0 ahead.1 are_timed.0 in
    record {
      load =
          record {
            pts = set.pts;
            size = size;
            painted = painting_by readings
                (verdict_of profile anchor older (whole one.time size readings));
          };
      is =
          ap (set_call profile anchor older) read.0.2
          ∙ whole_call profile anchor set.pts one.time size older readings kept;
      at = refl;
      many = refl;
    }
each_kept profile anchor last older (set ∷ planned) (one ∷ sets) (delivery ∷ received) before ahead are_timed read
    (suc j) inside =
    let size = size_of_units one.units in
    let readings = read.0.0 in
    let kept =
    ap (lifted_time anchor older) read.0.2
    ∙ one_kept profile anchor set.pts one.time size last older readings before ahead.0 ahead.1 are_timed.0 in
    let more =
    each_kept profile anchor (Some set.pts) (delivery ∷ older) planned sets received
    (last_kept anchor set.pts older delivery kept) ahead.2 are_timed.1 read.1 j (omega arith) in
    record { load = more.load; is = more.is; at = more.at; many = more.many }

-- ---- the calls that are left

-- where each call is that of a whole set with the time, the size and the painting of a scheduled one, the calls are
-- those of the sets from the entry on
pub are_left : (loads : List WriteLoad) (painted : ℕ → ℕ) (entry : Entry) (calls : List (List Call))
    → ((j : ℕ) → j < length calls
    → IsWholeAt calls j (load_of loads (entry.set + j)).pts
    (size_of loads (entry.set + j) - sum_below (payload_of loads (entry.set + j)) (from_of entry (entry.set + j))))
    → ((j : ℕ) → j < length calls → painting_in (get_or calls j []) ≡ painted (entry.set + j))
    → AreLeft loads painted entry entry.set calls
are_left loads painted entry calls each paintings j inside =
    let found = each j inside in
    let is_painted : found.load.painted ≡ painted (entry.set + j) =
    ap painting_in (sym found.is) ∙ paintings j inside in
    found.is ∙ λ i. SetWhole (record { pts = found.at i; size = found.many i; painted = is_painted i }) ∷ []
