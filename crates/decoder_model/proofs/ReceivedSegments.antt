-- The segments of the sets in a list of packets: what holds of each segment that stands in bytes holds of each of them;
-- each is one by its head, and one of the pages; and of a set none but the last is an end segment.
use Rattle.std.proofs.Common.{◌≡◌, ◌∙◌, ℕ, ◌+◌, Bool, true, false, ◌||◌, cond, eqb, ltb, List, [], ◌∷◌, ◌++◌, length, map, take, filter, Option, Some, None, refl, sym, ap, subst, arith}
use Rattle.std.specs.Prelude.{flat_map, find}
use Rattle.std.specs.List.{AllByRecursion, list_any}
use Rattle.std.specs.Option.{option_or, option_map, is_some}
use Rattle.std.proofs.lemmas.Bool.Decides.{nat_tests}
use Rattle.std.proofs.lemmas.List.{get_or-take, length-take-le, map-append}
use Rattle.sub_base.specs.Lists.{prefixes, first_given}
use Rattle.stream_syntax.specs.DataField.{Frame, segment, broken, AreFrames, no_more, cut_off, one_more, frames_of}
use Rattle.stream_syntax.specs.Pes as pes
use Rattle.stream_syntax.specs.SegmentTests.{frame_tests, segment_size}
use Rattle.stream_syntax.specs.Tests.{byte_at, word_at, first_fault}
use Rattle.stream_syntax.specs.Units.{each_after, event_at, unit_at, is_loss}
use Rattle.stream_syntax.specs.declared.pes.PesFault.{PesFault}
use Rattle.stream_syntax.specs.declared.segment_fault.SegmentFault.{SegmentFault}
use Rattle.stream_syntax.specs.declared.segment_fault.SegmentKind.TheVariants.{NoSync}
use Rattle.decoder_model.specs.declared.pages.Pages.{Pages}
use Rattle.decoder_model.specs.Arrivals.{PesUnit, Arrival, loss, refused_unit, aside, unit, is_passed_over, unit_with, unit_from, losses_at, units_at, arrivals_at, packets_taken, arrivals_of}
use Rattle.decoder_model.specs.Frames.{counts_for, is_of_pages, segments_in, is_end, fault_of, bytes_in}
use Rattle.decoder_model.specs.Received.{IsFramed}
use Rattle.decoder_model.specs.Sets.{Stretch, loss_between, run, joined_to, runs_of, is_ended, frames_in, size_in, units_to_end, Delivery, lost, whole, refused, first_fault_in, excess_in, handed, is_followed, set_of, sets_in, has_ended, sets_of}
use Rattle.decoder_model.specs.declared.set_fault.SetFault.{SetFault}
use Rattle.decoder_model.specs.declared.set_fault.SetFault.TheVariants.{Segment}
use Rattle.stream_syntax.proofs.FrameLaws.{frames_are, whole_there}
use Rattle.decoder_model.proofs.Growth.{found_is_front}
use Rattle.decoder_model.proofs.Lists.{all-append, find-map}

-- ---- a segment by its head

pub sync_there : (bytes : List ℕ) → first_fault (frame_tests bytes) ≡ None → byte_at 0 bytes ≡ 15
sync_there bytes none = by (eqb (byte_at 0 bytes) 15) refl
  where
    by : (b : Bool) → eqb (byte_at 0 bytes) 15 ≡ b → byte_at 0 bytes ≡ 15
    by true is = grind (arith, nat_tests)
    by false is =
        absurd (let found : first_fault (frame_tests bytes) ≡ Some (record { place = 0; kind = NoSync }) = rw is refl in
        cc)

-- the segment at the front of bytes, as its head frames it
pub front_framed : (bytes : List ℕ) → first_fault (frame_tests bytes) ≡ None
    → IsFramed (take (segment_size bytes) bytes)
front_framed bytes none =
    let size = segment_size bytes in
    let inside = whole_there bytes (sym none) in
    let long : length (take size bytes) ≡ size = length-take-le size bytes inside in
    let zeroth : byte_at 0 (take size bytes) ≡ byte_at 0 bytes = get_or-take size bytes 0 0 (omega arith) in
    let fourth : byte_at 4 (take size bytes) ≡ byte_at 4 bytes = get_or-take size bytes 4 0 (omega arith) in
    let fifth : byte_at 5 (take size bytes) ≡ byte_at 5 bytes = get_or-take size bytes 5 0 (omega arith) in
    let word : word_at 4 (take size bytes) ≡ word_at 4 bytes = rw (fourth, fifth) refl in
    let sync : byte_at 0 (take size bytes) ≡ 15 = zeroth ∙ sync_there bytes none in
    let one : eqb (byte_at 0 (take size bytes)) 15 ≡ true = ap (λ byte. eqb byte 15) sync in
    let short : ltb (length (take size bytes)) 6 ≡ false = grind (arith, nat_tests) in
    let cut : ltb (length (take size bytes)) (6 + word_at 4 (take size bytes)) ≡ false = grind (arith, nat_tests) in
    record { framed = rw (one, short, cut) refl; whole = omega (arith, long, word) }

-- ---- frames

-- a segment among frames has that
abbrev pub FrameHas : (List ℕ → Type 0) → Frame → Type 0
FrameHas P (segment bytes) = P bytes
FrameHas P (broken fault) = Unit {0}

-- each segment that stands in bytes is one by its head
pub frames_framed : {bytes : List ℕ} {frames : List Frame} → AreFrames bytes frames
    → AllByRecursion (FrameHas IsFramed) frames
frames_framed (no_more ends are) = subst (AllByRecursion (FrameHas IsFramed)) (sym are) tt
frames_framed (cut_off fault ends is are) = subst (AllByRecursion (FrameHas IsFramed)) (sym are) (tt, tt)
frames_framed {bytes} (one_more rest ends is behind are) =
    subst (AllByRecursion (FrameHas IsFramed)) (sym are) (front_framed bytes is, frames_framed behind)

-- a segment that is one by its head, and one of the pages
pub record IsCounted (pages : Pages) (bytes : List ℕ) : Type 0 where
  pub framed : IsFramed bytes
  pub counts : is_of_pages pages bytes ≡ true

counted_frames : (pages : Pages) (frames : List Frame) → AllByRecursion (FrameHas IsFramed) frames
    → AllByRecursion (FrameHas (IsCounted pages)) (filter (counts_for pages) frames)
counted_frames pages [] h = tt
counted_frames pages (broken fault ∷ frames) h = (tt, counted_frames pages frames h.1)
counted_frames pages (segment bytes ∷ frames) h = by (is_of_pages pages bytes) refl (counted_frames pages frames h.1)
  where
    by : (b : Bool) → is_of_pages pages bytes ≡ b
        → AllByRecursion (FrameHas (IsCounted pages)) (filter (counts_for pages) frames)
        → AllByRecursion (FrameHas (IsCounted pages))
        (cond (is_of_pages pages bytes) (segment bytes ∷ filter (counts_for pages) frames)
        (filter (counts_for pages) frames))
    by true is rest =
        subst (λ b. AllByRecursion (FrameHas (IsCounted pages))
        (cond b (segment bytes ∷ filter (counts_for pages) frames) (filter (counts_for pages) frames))) (sym is)
        (record { framed = h.0; counts = is }, rest)
    by false is rest =
        subst (λ b. AllByRecursion (FrameHas (IsCounted pages))
        (cond b (segment bytes ∷ filter (counts_for pages) frames) (filter (counts_for pages) frames))) (sym is) rest

-- ---- units and runs

abbrev pub UnitHas : (List ℕ → Type 0) → PesUnit → Type 0
UnitHas P one = AllByRecursion (FrameHas P) one.frames

abbrev pub ArrivalHas : (List ℕ → Type 0) → Arrival → Type 0
ArrivalHas P loss = Unit {0}
ArrivalHas P refused_unit = Unit {0}
ArrivalHas P aside = Unit {0}
ArrivalHas P (unit one) = UnitHas P one

pub unit_of_frames : (P : List ℕ → Type 0) (place size time : ℕ) (frames : List Frame)
    → AllByRecursion (FrameHas P) frames → ArrivalHas P (unit_with place size time frames)
unit_of_frames P place size time [] h = tt
unit_of_frames P place size time (frame ∷ frames) h = h

abbrev pub StretchHas : (List ℕ → Type 0) → Stretch → Type 0
StretchHas P loss_between = Unit {0}
StretchHas P (run first more) = AllByRecursion (UnitHas P) (first ∷ more)

joined_runs : (P : List ℕ → Type 0) (one : PesUnit) (stretches : List Stretch) → UnitHas P one
    → AllByRecursion (StretchHas P) stretches → AllByRecursion (StretchHas P) (joined_to one stretches)
joined_runs P one [] h k = ((h, tt), tt)
joined_runs P one (loss_between ∷ rest) h k = ((h, tt), k)
joined_runs P one (run next more ∷ rest) h k = by (eqb one.time next.time)
  where
    by : (same : Bool)
        → AllByRecursion (StretchHas P)
        (cond same (run one (next ∷ more) ∷ rest) (run one [] ∷ run next more ∷ rest))
    by true = ((h, k.0), k.1)
    by false = ((h, tt), k)

pub runs_have : (P : List ℕ → Type 0) (arrivals : List Arrival) → AllByRecursion (ArrivalHas P) arrivals
    → AllByRecursion (StretchHas P) (runs_of arrivals)
runs_have P [] h = tt
runs_have P (loss ∷ arrivals) h = (tt, runs_have P arrivals h.1)
runs_have P (refused_unit ∷ arrivals) h = (tt, runs_have P arrivals h.1)
runs_have P (aside ∷ arrivals) h = runs_have P arrivals h.1
runs_have P (unit one ∷ arrivals) h = joined_runs P one (runs_of arrivals) h.0 (runs_have P arrivals h.1)

-- ---- ends

-- of these frames none but the last is an end segment
abbrev pub EndLast : List Frame → Type 0
EndLast frames = (before after : List Frame) (one : Frame) → frames ≡ before ++ one ∷ after → is_end one ≡ true
    → after ≡ []

-- where a prefix is the first that passes, what it begins with passes only where that is all of it
first_passes : {X : Type 0} (test : List X → Bool) (xs front before after : List X) (x : X)
    → find test (prefixes xs) ≡ Some front → front ≡ before ++ x ∷ after → test (before ++ x ∷ []) ≡ true
    → after ≡ []
first_passes test [] front before after x found is passes = absurd (cc)
first_passes {X} test (first ∷ xs) front before after x found is passes =
    by (test (first ∷ [])) refl found before is passes
    (λ (rest more : List X) (found_rest : find (λ (behind : List X). test (first ∷ behind)) (prefixes xs) ≡ Some rest)
    (is_rest : rest ≡ more ++ x ∷ after) (passes_too : test (first ∷ (more ++ x ∷ [])) ≡ true).
    first_passes (λ (behind : List X). test (first ∷ behind)) xs rest more after x found_rest is_rest passes_too)
  where
    moved : find test (map (λ (behind : List X). first ∷ behind) (prefixes xs))
        ≡ option_map (λ (behind : List X). first ∷ behind)
        (find (λ (behind : List X). test (first ∷ behind)) (prefixes xs))
    moved = find-map test (λ (behind : List X). first ∷ behind) (prefixes xs)

    later : (found_rest : Option (List X))
        → find (λ (behind : List X). test (first ∷ behind)) (prefixes xs) ≡ found_rest
        → option_map (λ (behind : List X). first ∷ behind) found_rest ≡ Some front
        → test (first ∷ []) ≡ false → (before : List X) → front ≡ before ++ x ∷ after
        → test (before ++ x ∷ []) ≡ true
        → ((rest more : List X)
        → find (λ (behind : List X). test (first ∷ behind)) (prefixes xs) ≡ Some rest → rest ≡ more ++ x ∷ after
        → test (first ∷ (more ++ x ∷ [])) ≡ true → after ≡ []) → after ≡ []
    later None is_rest e fails before is passes again = absurd (cc)
    later (Some rest) is_rest e fails [] is passes again =
        let same : first ∷ rest ≡ x ∷ after = cc in
        let one : first ≡ x = cc in
        let fails_too : test (x ∷ []) ≡ false = subst (λ y. test (y ∷ []) ≡ false) one fails in
        absurd (cc)
    later (Some rest) is_rest e fails (y ∷ more) is passes again =
        let same : first ∷ rest ≡ y ∷ (more ++ x ∷ after) = cc in
        let one : y ≡ first = cc in
        let behind : rest ≡ more ++ x ∷ after = cc in
        again rest more is_rest behind (subst (λ z. test (z ∷ (more ++ x ∷ [])) ≡ true) one passes)

    by : (b : Bool) → test (first ∷ []) ≡ b
        → cond (test (first ∷ [])) (Some (first ∷ []))
        (find test (map (λ (behind : List X). first ∷ behind) (prefixes xs))) ≡ Some front
        → (before : List X) → front ≡ before ++ x ∷ after → test (before ++ x ∷ []) ≡ true
        → ((rest more : List X)
        → find (λ (behind : List X). test (first ∷ behind)) (prefixes xs) ≡ Some rest → rest ≡ more ++ x ∷ after
        → test (first ∷ (more ++ x ∷ [])) ≡ true → after ≡ []) → after ≡ []
    by true passes_first e [] is passes again =
        let whole_is : Some (first ∷ []) ≡ Some front =
        ap (λ b. cond b (Some (first ∷ []))
        (find test (map (λ (behind : List X). first ∷ behind) (prefixes xs)))) (sym passes_first) ∙ e in
        let same : first ∷ [] ≡ x ∷ after = cc in
        let none : [] ≡ after = cc in
        sym none
    by true passes_first e (y ∷ more) is passes again =
        let whole_is : Some (first ∷ []) ≡ Some front =
        ap (λ b. cond b (Some (first ∷ []))
        (find test (map (λ (behind : List X). first ∷ behind) (prefixes xs)))) (sym passes_first) ∙ e in
        let same : first ∷ [] ≡ y ∷ (more ++ x ∷ after) = cc in
        let none : [] ≡ more ++ x ∷ after = cc in
        absurd (no_items more none)
      where
        no_items : (items : List X) → [] ≡ items ++ x ∷ after → ⊥
        no_items [] e = cc
        no_items (z ∷ items) e = cc
    by false fails e before is passes again =
        later (find (λ (behind : List X). test (first ∷ behind)) (prefixes xs)) refl
        (sym moved
        ∙ ap (λ b. cond b (Some (first ∷ []))
        (find test (map (λ (behind : List X). first ∷ behind) (prefixes xs)))) (sym fails) ∙ e)
        fails before is passes again

not_mapped : {X : Type 0} (x : X) (found : Option (List X)) → option_map (λ behind. x ∷ behind) found ≡ None
    → found ≡ None
not_mapped x None e = refl
not_mapped x (Some rest) e = absurd (cc)

-- where no front passes, neither does the shortest, nor one behind it
none_passed : {X : Type 0} (test : List X → Bool) (x : X) (xs : List X) → find test (prefixes (x ∷ xs)) ≡ None
    → (test (x ∷ []) ≡ false) × (find (λ behind. test (x ∷ behind)) (prefixes xs) ≡ None)
none_passed {X} test x xs none = by (test (x ∷ [])) refl none
  where
    by : (b : Bool) → test (x ∷ []) ≡ b
        → cond b (Some (x ∷ [])) (find test (map (λ (behind : List X). x ∷ behind) (prefixes xs))) ≡ None
        → (test (x ∷ []) ≡ false) × (find (λ behind. test (x ∷ behind)) (prefixes xs) ≡ None)
    by true is e = absurd (cc)
    by false is e = (
      is,
      not_mapped x (find (λ behind. test (x ∷ behind)) (prefixes xs))
          (sym (find-map test (λ (behind : List X). x ∷ behind) (prefixes xs)) ∙ e),
    )

none_passes : {X : Type 0} (test : List X → Bool) (x : X) (xs : List X) → find test (prefixes (x ∷ xs)) ≡ None
    → test (x ∷ xs) ≡ false
none_passes test x [] none = (none_passed test x [] none).0
none_passes test x (next ∷ more) none =
    none_passes (λ behind. test (x ∷ behind)) next more (none_passed test x (next ∷ more) none).1

any_there : {X : Type 0} (test : X → Bool) (before after : List X) (x : X) → test x ≡ true
    → list_any test (before ++ x ∷ after) ≡ true
any_there test [] after x passes = ap (λ b. b || list_any test after) passes
any_there test (first ∷ before) after x passes =
    ap (λ rest. test first || rest) (any_there test before after x passes) ∙ by (test first)
  where
    by : (b : Bool) → (b || true) ≡ true
    by true = refl
    by false = refl

any_end : (frames : List Frame)
    → list_any is_end frames ≡ list_any (λ bytes. is_end (segment bytes)) (segments_in frames)
any_end [] = refl
any_end (segment bytes ∷ frames) = ap (λ rest. is_end (segment bytes) || rest) (any_end frames)
any_end (broken fault ∷ frames) = any_end frames

-- frames with an end segment end a set
ended_by : (coded : ℕ) (frames : List Frame) → list_any is_end frames ≡ true → is_ended coded frames ≡ true
ended_by coded frames is =
    ap (λ b. b || list_any (λ frame. is_some (fault_of frame)) frames || ltb coded (bytes_in frames)) is

-- frames without a fault are segments
no_fault_first : (found : Option SegmentFault) (rest : Option SegmentFault) → option_or found rest ≡ None
    → (found ≡ None) × (rest ≡ None)
no_fault_first None rest e = (refl, e)
no_fault_first (Some fault) rest e = absurd (cc)

all_segments : (frames : List Frame) → first_given fault_of frames ≡ None → frames ≡ map segment (segments_in frames)
all_segments [] none = refl
all_segments (segment bytes ∷ frames) none = ap (λ rest. segment bytes ∷ rest) (all_segments frames none)
all_segments (broken fault ∷ frames) none = absurd (cc)

-- of these segments none but the last is an end segment
abbrev pub EndAtLast : List (List ℕ) → Type 0
EndAtLast segments = (before after : List (List ℕ)) (bytes : List ℕ) → segments ≡ before ++ bytes ∷ after
    → is_end (segment bytes) ≡ true → after ≡ []

no_frames : (after : List (List ℕ)) → map segment after ≡ [] → after ≡ []
no_frames [] e = refl
no_frames (bytes ∷ after) e = absurd (cc)

of_front : (coded : ℕ) (frames front : List Frame) → find (is_ended coded) (prefixes frames) ≡ Some front
    → first_given fault_of front ≡ None → EndAtLast (segments_in front)
of_front coded frames front found none before after bytes is ends =
    no_frames after
    (first_passes (is_ended coded) frames front (map segment before) (map segment after) (segment bytes) found
    (all_segments front none ∙ ap (map segment) is ∙ map-append segment before (bytes ∷ after))
    (ended_by coded (map segment before ++ segment bytes ∷ [])
    (any_there is_end (map segment before) [] (segment bytes) ends)))

of_all : (coded : ℕ) (frames : List Frame) → find (is_ended coded) (prefixes frames) ≡ None
    → EndAtLast (segments_in frames)
of_all coded [] none before after bytes is ends = absurd (none_there before is)
  where
    none_there : (items : List (List ℕ)) → [] ≡ items ++ bytes ∷ after → ⊥
    none_there [] e = cc
    none_there (item ∷ items) e = cc
of_all coded (frame ∷ frames) none before after bytes is ends =
    absurd (let fails = none_passes (is_ended coded) frame frames none in
    let passes =
    ended_by coded (frame ∷ frames)
    (any_end (frame ∷ frames) ∙ ap (list_any (λ bytes. is_end (segment bytes))) is
    ∙ any_there (λ bytes. is_end (segment bytes)) before after bytes ends) in
    let same : true ≡ false = sym passes ∙ fails in
    cc)

-- ---- sets

frames_of_units : (P : List ℕ → Type 0) (units : List PesUnit) → AllByRecursion (UnitHas P) units
    → AllByRecursion (FrameHas P) (frames_in units)
frames_of_units P [] h = tt
frames_of_units P (one ∷ units) h =
    all-append (FrameHas P) one.frames (frames_in units) h.0 (frames_of_units P units h.1)

segments_have : (P : List ℕ → Type 0) (frames : List Frame) → AllByRecursion (FrameHas P) frames
    → AllByRecursion P (segments_in frames)
segments_have P [] h = tt
segments_have P (segment bytes ∷ frames) h = (h.0, segments_have P frames h.1)
segments_have P (broken fault ∷ frames) h = segments_have P frames h.1

-- the segments of a set each have that, and none but the last is an end segment
pub record SegmentsHave (P : List ℕ → Type 0) (segments : List (List ℕ)) : Type 0 where
  pub each : AllByRecursion P segments
  pub ends : EndAtLast segments

abbrev pub DeliveryHas : (List ℕ → Type 0) → Delivery (List ℕ) → Type 0
DeliveryHas P lost = Unit {0}
DeliveryHas P (whole time size segments) = SegmentsHave P segments
DeliveryHas P (refused time size fault) = Unit {0}

all_front : {X : Type 0} (P : X → Type 0) (xs ys : List X) → AllByRecursion P (xs ++ ys) → AllByRecursion P xs
all_front P [] ys h = tt
all_front P (x ∷ xs) ys h = (h.0, all_front P xs ys h.1)

of_handed : (P : List ℕ → Type 0) (coded time size : ℕ) (frames front : List Frame) (fault : Option SetFault)
    → option_or (first_fault_in front) (excess_in coded front) ≡ fault
    → find (is_ended coded) (prefixes frames) ≡ Some front → AllByRecursion (FrameHas P) front
    → DeliveryHas P (handed time size front fault)
of_handed P coded time size frames front (Some fault) is found h = tt
of_handed P coded time size frames front None is found h =
    record {
      each = segments_have P front h;
      ends = of_front coded frames front found
          (none_given (first_given fault_of front) is);
    }
  where
    none_given : (given : Option SegmentFault)
        → option_or (option_map Segment given) (excess_in coded front) ≡ None → given ≡ None
    none_given None e = refl
    none_given (Some found_fault) e = absurd (cc)

of_set : (P : List ℕ → Type 0) (coded time : ℕ) (units : List PesUnit) (followed : Bool) (found : Option (List Frame))
    → find (is_ended coded) (prefixes (frames_in units)) ≡ found → AllByRecursion (UnitHas P) units
    → AllByRecursion (DeliveryHas P) (set_of coded time units followed found)
of_set P coded time units followed (Some front) is h =
    let there = found_is_front (is_ended coded) (frames_in units) front is in
    let own : AllByRecursion (FrameHas P) front =
    all_front (FrameHas P) front there.0 (subst (AllByRecursion (FrameHas P)) there.1 (frames_of_units P units h)) in (
      of_handed P coded time (size_in (units_to_end coded units)) (frames_in units) front
          (option_or (first_fault_in front) (excess_in coded front)) refl is own,
      tt,
    )
of_set P coded time units false None is h = tt
of_set P coded time units true None is h = (
  record {
    each = segments_have P (frames_in units) (frames_of_units P units h);
    ends = of_all coded (frames_in units) is;
  },
  tt,
)

-- what holds of each segment that arrives holds of each of a set
pub sets_have : (P : List ℕ → Type 0) (coded : ℕ) (ended : Bool) (stretches : List Stretch)
    → AllByRecursion (StretchHas P) stretches → AllByRecursion (DeliveryHas P) (sets_in coded ended stretches)
sets_have P coded ended [] h = tt
sets_have P coded ended (loss_between ∷ rest) h = (tt, sets_have P coded ended rest h.1)
sets_have P coded ended (run first more ∷ rest) h =
    all-append (DeliveryHas P)
    (set_of coded first.time (first ∷ more) (is_followed ended rest)
    (find (is_ended coded) (prefixes (frames_in (first ∷ more)))))
    (sets_in coded ended rest)
    (of_set P coded first.time (first ∷ more) (is_followed ended rest)
    (find (is_ended coded) (prefixes (frames_in (first ∷ more)))) refl h.0)
    (sets_have P coded ended rest h.1)

-- ---- in packets

of_pes : (pages : Pages) (place size : ℕ) (fault : Option PesFault) (found : ℕ × List ℕ)
    → ArrivalHas (IsCounted pages) (unit_from pages place size (pes.unless_fault fault found))
of_pes pages place size None found =
    unit_of_frames (IsCounted pages) place size found.0 (filter (counts_for pages) (frames_of found.1))
    (counted_frames pages (frames_of found.1) (frames_framed (frames_are found.1)))
of_pes pages place size (Some fault) found = by (is_passed_over fault)
  where
    by : (b : Bool) → ArrivalHas (IsCounted pages) (cond b aside refused_unit)
    by true = tt
    by false = tt

of_ended : (pages : Pages) (place : ℕ) (ended : Option (List ℕ))
    → AllByRecursion (ArrivalHas (IsCounted pages)) (units_at pages place ended)
of_ended pages place None = tt
of_ended pages place (Some bytes) =
    (of_pes pages place (length bytes) (pes.pes_fault bytes) (pes.pts_in bytes, pes.segments_in bytes), tt)

of_losses : (pages : Pages) (is : Bool)
    → AllByRecursion (ArrivalHas (IsCounted pages)) (cond is (loss ∷ []) [])
of_losses pages true = (tt, tt)
of_losses pages false = tt

of_each : (size pid : ℕ) (pages : Pages) (before packets : List (List ℕ))
    → AllByRecursion (ArrivalHas (IsCounted pages))
    (flat_map (λ arrivals. arrivals) (each_after (arrivals_at size pid pages) before packets))
of_each size pid pages before [] = tt
of_each size pid pages before (packet ∷ packets) =
    all-append (ArrivalHas (IsCounted pages)) (arrivals_at size pid pages before packet)
    (flat_map (λ arrivals. arrivals) (each_after (arrivals_at size pid pages) (before ++ packet ∷ []) packets))
    (all-append (ArrivalHas (IsCounted pages)) (losses_at (event_at pid size before packet))
    (units_at pages (length before) (unit_at pid size before packet))
    (of_losses pages (is_loss (event_at pid size before packet)))
    (of_ended pages (length before) (unit_at pid size before packet)))
    (of_each size pid pages (before ++ packet ∷ []) packets)

-- the segments of each set in packets are segments of the pages by their heads, and none but the last is an end segment
pub received_segments : (coded pid : ℕ) (pages : Pages) (ended : Bool) (packets : List (List ℕ))
    → AllByRecursion (DeliveryHas (IsCounted pages)) (sets_of coded pid pages ended packets)
unfolding sets_of arrivals_of
received_segments coded pid pages ended packets =
    sets_have (IsCounted pages) coded (has_ended ended pid packets) (runs_of (arrivals_of coded pid pages packets))
    (runs_have (IsCounted pages) (arrivals_of coded pid pages packets)
    (of_each coded pid pages [] (packets_taken pid packets)))
