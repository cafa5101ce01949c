-- What a receiver gets of sets that are sent, where it enters the stream behind any number of its packets (EN 300 743,
-- clause 5.1.1, service acquisition).
use Rattle.std.specs.Prelude.{◌≡◌, ℕ, ◌+◌, ◌%◌, ◌<◌, ◌≤◌, true, false, Bool, nat_le, List, [], ◌∷◌, ◌++◌, length, drop, filter, Some, slice_get}
use Rattle.std.specs.List.{AllZip, list_all, list_any}
use Rattle.sub_base.specs.Lists.{all_of}
use Rattle.stream_syntax.specs.declared.wire.TheConstants.{TIME_ROUND}
use Rattle.pes_packets.specs.Units.{IsSharedOut}
use Rattle.schedule.specs.Slots.{Timetable, slots_of}
use Rattle.decoder_model.specs.Frames.{is_of_pages}
use Rattle.decoder_model.specs.Sets.{Delivery, whole}
use Rattle.decoder_model.specs.declared.pages.Pages.{Pages}
use Rattle.sent_sets.specs.RawSets.{RawSet, has_counted, IsDeliveryOf}

-- where the first so many packets of the stream are missed, all packets of the set of that number come
abbrev pub is_left : ℕ → Timetable → ℕ → Bool
is_left missed table number = list_all (λ at. nat_le missed at) (slots_of table number)

-- and there some of them do
abbrev pub has_some_left : ℕ → Timetable → ℕ → Bool
has_some_left missed table number = list_any (λ at. nat_le missed at) (slots_of table number)

-- some packets of the set come, and not all: handed on are, with its time, the segments of later units of it that count
pub record IsCutSet (pages : Pages) (missed : ℕ) (table : Timetable) (number : ℕ) (set : RawSet)
    (delivery : Delivery (List ℕ)) : Type 0 where
  pub cut : is_left missed table number ≡ false
  pub some_left : has_some_left missed table number ≡ true
  pub units : List (List (List ℕ))
  pub shared : IsSharedOut length set.segments units
  pub later : ℕ
  pub some : 1 ≤ later
  pub few : later < length units
  pub size : ℕ
  pub is : delivery ≡ whole (set.time % TIME_ROUND) size (filter (is_of_pages pages) (all_of (drop later units)))

-- before the set of that number nothing is handed on, or what comes of the set before it, where this is cut
abbrev pub IsRest : Pages → ℕ → Timetable → List RawSet → ℕ → List (Delivery (List ℕ)) → Type 0
IsRest pages missed table sets first [] = Unit {0}
IsRest pages missed table sets first (delivery ∷ []) =
    (number : ℕ) × (set : RawSet) × (first ≡ number + 1) × (slice_get sets number ≡ Some set)
    × IsCutSet pages missed table number set delivery
IsRest pages missed table sets first (delivery ∷ next ∷ more) = ⊥

-- this is handed on of the sets: those from one on, of which all packets come, whole and in order, where they have
-- segments that count. Of each set before these a packet is missed, and at most the rest of the last one is handed on
pub record IsEnteredLate (pages : Pages) (missed : ℕ) (table : Timetable) (sets : List RawSet)
    (deliveries : List (Delivery (List ℕ))) : Type 0 where
  pub first : ℕ
  pub few : first ≤ length sets
  pub missed_before : (number : ℕ) → number < first → is_left missed table number ≡ false
  pub left : (number : ℕ) → first ≤ number → number < length sets → is_left missed table number ≡ true
  pub rest : List (Delivery (List ℕ))
  pub is_rest : IsRest pages missed table sets first rest
  pub come : List (Delivery (List ℕ))
  pub whole_sets : AllZip (IsDeliveryOf pages) (filter (has_counted pages) (drop first sets)) come
  pub are : deliveries ≡ rest ++ come
