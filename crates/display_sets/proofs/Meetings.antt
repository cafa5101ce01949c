-- What the time of a unit says of the run in hand.
use Rattle.std.proofs.Common.{◌≡◌, ℕ, ◌<◌, Bool, true, false, not, ◌==◌, ◌||◌, List, [], ◌∷◌, length, Some, None, refl, sym, ap, subst, arith}
use Rattle.std.specs.Bool.{if◌then◌else◌}
use Rattle.std.proofs.lemmas.Bool.{eq-eqb, eqb-true}
use Rattle.decoder_model.specs.Arrivals.{PesUnit}
use Rattle.decoder_model.specs.PacketArrivals.{of_time, is_in_hand}
use Rattle.decoder_model.specs.Sets.{is_ended, frames_in}
use Rattle.display_sets.specs.Gathered.{content_of, ready_in}
use Rattle.display_sets.specs.Private.Hands.{meeting_of}
use Rattle.display_sets.specs.Standing.{AreOfTime, IsOpenRun, IsEndedRun, IsInHand, AreReady}
use Rattle.display_sets.specs.declared.hand.Hand.{Hand}
use Rattle.display_sets.specs.declared.hand.Hand.TheVariants as hand
use Rattle.display_sets.specs.declared.hand.Head.{Head}
use Rattle.display_sets.specs.declared.hand.Meeting.{Meeting}
use Rattle.display_sets.specs.declared.hand.Meeting.TheVariants as meeting
use Rattle.display_sets.proofs.Runs.{has_time, none_of_time}
use Rattle.display_sets.proofs.RunSets.{set_of_run}

-- ---- runs of one time

pub some_has_time : (time : ℕ) (units : List PesUnit) → AreOfTime time units → has_time time units ≡ true
some_has_time time [] h = absurd (omega (arith, h.some))
some_has_time time (one ∷ units) h = ap (λ b. b || has_time time units) (eq-eqb one.time time h.all.0)

pub ended_hand : (coded : ℕ) (units : List PesUnit) → is_ended coded (frames_in units) ≡ true
    → is_in_hand coded units ≡ false
ended_hand coded [] e = refl
ended_hand coded (one ∷ units) e = ap not e

pub open_hand : (coded : ℕ) (units : List PesUnit) → 0 < length units
    → is_ended coded (frames_in units) ≡ false → is_in_hand coded units ≡ true
open_hand coded [] some e = absurd (omega arith)
open_hand coded (one ∷ units) some e = ap not e

-- the units of an open run, with a head of its time and size, are the set that is made ready
pub run_ready : (coded : ℕ) (units : List PesUnit) (head : Head) (bytes : List ℕ)
    → IsOpenRun coded units head.time head.size bytes → head.fault ≡ None
    → AreReady (set_of_run units) (ready_in (Some head) bytes)
run_ready coded [] head bytes h none = absurd (omega (arith, h.of_time.some))
run_ready coded (first ∷ units) head bytes h none =
    ((sym h.of_time.all.0, h.size_is, (bytes, ap (content_of bytes) none, h.frames.bytes_are)), tt)

-- ---- meetings

-- what a unit of that time finds
abbrev pub Finds : ℕ → List PesUnit → ℕ → List ℕ → Meeting → Type 0
Finds coded units time bytes meeting.Begins = (of_time time units ≡ []) × (is_in_hand coded units ≡ false)
Finds coded units time bytes (meeting.Joins size) = IsOpenRun coded units time size bytes
Finds coded units time bytes (meeting.Parts head) =
    IsOpenRun coded units head.time head.size bytes × ((head.time == time) ≡ false) × (head.fault ≡ None)
Finds coded units time bytes meeting.Behind = IsEndedRun coded units time

moved_times : (own time : ℕ) (units : List PesUnit) → own ≡ time → AreOfTime own units → AreOfTime time units
moved_times own time units is h = subst (λ (time : ℕ). AreOfTime time units) is h

finds_ended : (coded : ℕ) (units : List PesUnit) (own time : ℕ) (bytes : List ℕ) (same : Bool)
    → (own == time) ≡ same → IsEndedRun coded units own
    → Finds coded units time bytes (if same then meeting.Behind else meeting.Begins)
finds_ended coded units own time bytes true is h =
    record { of_time = moved_times own time units (eqb-true own time is) h.of_time; ended = h.ended }
finds_ended coded units own time bytes false is h =
    (none_of_time own time units h.of_time.all is, ended_hand coded units h.ended)

finds_open : (coded : ℕ) (units : List PesUnit) (own time size : ℕ) (bytes : List ℕ) (same : Bool)
    → (own == time) ≡ same → IsOpenRun coded units own size bytes
    → Finds coded units time bytes
    (if same then meeting.Joins size else meeting.Parts (record { time = own; size = size; fault = None }))
finds_open coded units own time size bytes true is h =
    record {
      of_time = moved_times own time units (eqb-true own time is) h.of_time;
      size_is = h.size_is;
      frames = h.frames;
    }
finds_open coded units own time size bytes false is h = (h, is, refl)

finds : (coded : ℕ) (units : List PesUnit) (time : ℕ) (own : Hand) (bytes : List ℕ)
    → IsInHand coded units own bytes → Finds coded units time bytes (meeting_of time own)
finds coded units time hand.Empty bytes h = (ap (of_time time) h, ap (is_in_hand coded) h)
finds coded units time (hand.Open own size) bytes h = finds_open coded units own time size bytes (own == time) refl h
finds coded units time (hand.Ready head) bytes h =
    finds_ended coded units head.time time bytes (head.time == time) refl h
finds coded units time (hand.Given own) bytes h = finds_ended coded units own time bytes (own == time) refl h

pub finds_by : (coded : ℕ) (units : List PesUnit) (time : ℕ) (own : Hand) (bytes : List ℕ) (met : Meeting)
    → met ≡ meeting_of time own → IsInHand coded units own bytes → Finds coded units time bytes met
finds_by coded units time own bytes met is h =
    subst (Finds coded units time bytes) (sym is) (finds coded units time own bytes h)
