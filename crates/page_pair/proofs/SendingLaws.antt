-- The stream that is made of two plans, why none is, and the packets that are written of it.
use Rattle.std.proofs.Common.{◌≡◌, ◌∙◌, refl, sym, ap, subst, suc, ℕ, ◌+◌, ◌^◌, ◌<◌, ◌≤◌, List, [], ◌∷◌, ◌++◌, length, get_or, map, take, All, arith}
use Rattle.std.specs.Prelude.{zip}
use Rattle.std.specs.List.{AllByRecursion, AllZip, concat}
use Rattle.std.specs.List.Sorted.{IsStrictlyIncreasing}
use Rattle.std.proofs.lemmas.List.{append-nil, take_more}
use Rattle.std.proofs.lemmas.List.Concat.{flat_map-append}
use Rattle.std.proofs.lemmas.List.Elements.{All-from_recursion, recursion_from_All}
use Rattle.cue_list.specs.declared.script.Script.{Script}
use Rattle.page_epoch.specs.Plan.{IsPlan}
use Rattle.page_epoch.specs.declared.planned_set.PlannedSet.{PlannedSet}
use Rattle.schedule.specs.Packets.{first_packet}
use Rattle.schedule.specs.Slots.{IsOnTime, IsSchedule, Timetable}
use Rattle.sent_sets.proofs.PacketCounts.{count_pieces}
use Rattle.sent_sets.specs.SentStream.{AreSizedAs}
use Rattle.slot_stream.specs.SlotStream.{Piece, all_pieces, pieces_of, stream_of}
use Rattle.slot_stream.specs.UnitBytes.{AreUnitsOf as AreCutTo}
use Rattle.sub_base.specs.Lists.{all_of}
use Rattle.sub_base.specs.Pace.{pace_of}
use Rattle.sub_base.specs.Profile.{profile_of}
use Rattle.sub_base.specs.declared.load.TheConstants.{UNIT_ROOM}
use Rattle.sub_base.specs.declared.load.WriteLoad.{WriteLoad}
use Rattle.sub_base.specs.declared.profile.ProfileName.{ProfileName}
use Rattle.page_pair.specs.PairSets.{Paged, ArePairSegments, pair_size, segments_size}
use Rattle.page_pair.specs.PairStream.{ArePairLoads, ArePairPlans, HaveEqualHeads, IsEven, IsPairedTo}
use Rattle.page_pair.specs.Private.Sending.{AreShort, CanBeSent, IsStreamStop, IsPlanStop, IsSlotStop, SentPair, first_refusal, pair_bytes, second_refusal, slots_refusal, units_refusal}
use Rattle.page_pair.specs.Private.Units.{AreUnitsOf, IsUnitsStop}
use Rattle.page_pair.specs.declared.pages.TwoPages.{TwoPages}
use Rattle.page_pair.specs.declared.planned.PlanStop.{PlanStop}
use Rattle.page_pair.specs.declared.planned.PlanStop.TheVariants as plan
use Rattle.page_pair.specs.declared.slots.SlotStop.{SlotStop}
use Rattle.page_pair.specs.declared.slots.SlotStop.TheVariants as slot
use Rattle.page_pair.specs.declared.units.PairUnits.{PairUnits}
use Rattle.page_pair.specs.declared.units.UnitsStop.{UnitsStop}
use Rattle.page_pair.specs.declared.units.UnitsStop.TheVariants as units

-- ---- one PES packet for each set

-- the set is sent in one PES packet, of its size
abbrev IsOneUnit : List Paged → WriteLoad → Type 0
IsOneUnit of_set load = load.units ≡ pair_size of_set ∷ []

abbrev HasRoomIn : List Paged → Type 0
HasRoomIn of_set = segments_size of_set ≤ UNIT_ROOM

abbrev AreOfPlans : TwoPages → Script → Script → PlannedSet × PlannedSet → List Paged → Type 0
AreOfPlans pages first second sets of_set = ArePairSegments pages first second sets.0 sets.1 of_set

one_units : (pages : TwoPages) (first second : Script) (one two : List PlannedSet) (segments : List (List Paged))
    (loads : List WriteLoad) → AllZip (AreOfPlans pages first second) (zip one two) segments
    → ArePairLoads first second one two segments loads → AllZip IsOneUnit segments loads
one_units pages first second one two [] [] paired asked = tt
one_units pages first second one two [] (load ∷ loads) paired asked = absurd (omega (arith, asked.counts))
one_units pages first second one two (of_set ∷ segments) [] paired asked = absurd (omega (arith, asked.counts))
one_units pages first second [] two (of_set ∷ segments) (load ∷ loads) paired asked = absurd paired
one_units pages first second (a ∷ one) [] (of_set ∷ segments) (load ∷ loads) paired asked = absurd paired
one_units pages first second (a ∷ one) (b ∷ two) (of_set ∷ segments) (load ∷ loads) paired asked = (
  (asked.each 0 a b of_set load refl refl refl refl).units,
  one_units pages first second one two segments loads paired.1 (record {
    counts = omega (arith, asked.counts);
    each = λ n x y its own has_first has_second has_set has_load.
        asked.each (suc n) x y its own has_first has_second has_set has_load;
  }),
)

-- a set has one load, and one place in both plans
pub count_loads : (pages : TwoPages) (first second : Script) (one two : List PlannedSet)
    (segments : List (List Paged)) → AllZip IsEven one two
    → AllZip (AreOfPlans pages first second) (zip one two) segments → length segments ≡ length one
count_loads pages first second [] [] [] even paired = refl
count_loads pages first second [] [] (of_set ∷ segments) even paired = absurd paired
count_loads pages first second [] (b ∷ two) segments even paired = absurd even
count_loads pages first second (a ∷ one) [] segments even paired = absurd even
count_loads pages first second (a ∷ one) (b ∷ two) [] even paired = absurd paired
count_loads pages first second (a ∷ one) (b ∷ two) (of_set ∷ segments) even paired =
    ap suc (count_loads pages first second one two segments even.1 paired.1)

-- the bytes of each set are those of its one PES packet
record AreWhole (units : List (List (List ℕ))) : Type 0 where
  joined : all_of units ≡ map concat units
  short : AllByRecursion (λ (unit : List ℕ). length unit < 2 ^ 32) (map concat units)

one_more : (unit : List ℕ) (more : List (List (List ℕ))) → length unit < 2 ^ 32 → AreWhole more
    → AreWhole ((unit ∷ []) ∷ more)
one_more unit more few are = record {
  joined =
      ap (λ (rest : List (List ℕ)). unit ∷ rest) are.joined
      ∙ ap (λ (bytes : List ℕ). bytes ∷ map concat more) (sym (append-nil unit));
  short = (subst (λ (bytes : List ℕ). length bytes < 2 ^ 32) (sym (append-nil unit)) few, are.short);
}

one_length : (n size : ℕ) (more : List ℕ) → n ∷ more ≡ size ∷ [] → n ≡ size
one_length n size more is = ap (λ (ns : List ℕ). get_or ns 0 0) is

are_whole : (segments : List (List Paged)) (loads : List WriteLoad) (units : List (List (List ℕ)))
    → AllZip IsOneUnit segments loads → AllByRecursion HasRoomIn segments → AreSizedAs loads units → AreWhole units
are_whole [] [] [] one short sized = record { joined = refl; short = tt }
are_whole [] [] (unit ∷ units) one short sized = absurd sized
are_whole [] (load ∷ loads) units one short sized = absurd one
are_whole (of_set ∷ segments) [] units one short sized = absurd one
are_whole (of_set ∷ segments) (load ∷ loads) [] one short sized = absurd sized
are_whole (of_set ∷ segments) (load ∷ loads) ([] ∷ units) one short sized =
    absurd (omega (arith, ap length (sized.0 ∙ one.0)))
are_whole (of_set ∷ segments) (load ∷ loads) ((unit ∷ next ∷ more) ∷ units) one short sized =
    absurd (omega (arith, ap length (sized.0 ∙ one.0)))
are_whole (of_set ∷ segments) (load ∷ loads) ((unit ∷ []) ∷ units) one short sized =
    one_more unit units
    (omega (arith, one_length (length unit) (pair_size of_set) [] (sized.0 ∙ one.0), short.0))
    (are_whole segments loads units one.1 short.1 sized.1)

-- ---- what is made

module _ (profile : ProfileName) (pid : ℕ) (pages : TwoPages) (first second : Script) (one two : List PlannedSet)
    (made : PairUnits) (plans : ArePairPlans profile first second one two)
    (sent : AreUnitsOf pages first second one two made) where
  whole_units : AreWhole sent.units
  whole_units =
      are_whole sent.segments made.loads.items sent.units
      (one_units pages first second one two sent.segments made.loads.items sent.paired sent.asked)
      (recursion_from_All HasRoomIn sent.segments sent.short) sent.sized

  joined_units : all_of sent.units ≡ made.written.items
  joined_units = whole_units.joined ∙ sent.whole

  -- there is one load for each set
  pub many_loads : length made.loads.items ≡ length one
  many_loads = sent.asked.counts ∙ count_loads pages first second one two sent.segments plans.even sent.paired

  -- the scripts are sent in the packets of the stream
  pub is_paired : (table : Timetable)
      → IsSchedule made.loads.items (length made.loads.items) (pace_of first.origin (profile_of profile)) table
      → IsOnTime made.loads.items (length made.loads.items) (pace_of first.origin (profile_of profile)) table
      → IsPairedTo (record { profile = profile; pid = pid; pages = pages }) first second
      (pair_bytes (record { pid = pid; units = made.written.items; table = table }))
  is_paired table schedule on_time = record {
    one = one;
    two = two;
    plans = plans;
    segments = sent.segments;
    paired = sent.paired;
    short = sent.short;
    fit = sent.fit;
    loads = made.loads.items;
    asked = sent.asked;
    raw = sent.raw;
    are_raw = sent.are_raw;
    table = table;
    sent = record {
      each = sent.each;
      units = sent.units;
      carried = sent.carried;
      sized = sent.sized;
      times = sent.times;
      schedule = schedule;
      on_time = on_time;
      sent = ap (λ (all : List (List ℕ)). stream_of pid (all_pieces all) table.slots) (sym joined_units);
    };
  }

  -- and it can be written
  pub can_be_sent : (table : Timetable) → pid < 8192
      → length table.slots ≡ first_packet made.loads.items (length made.loads.items)
      → (rise : IsStrictlyIncreasing table.slots) → All (λ slot. slot < 2 ^ 56) table.slots
      → CanBeSent pid made.written.items table
  can_be_sent table small packets rise few = record {
    pid_is = small;
    short =
        subst AreShort sent.whole
        (All-from_recursion (λ (unit : List ℕ). length unit < 2 ^ 32) (map concat sent.units) whole_units.short);
    pairs =
        packets ∙ count_pieces made.loads.items sent.units sent.sized
        ∙ ap (λ (all : List (List ℕ)). length (all_pieces all)) joined_units;
    rise = rise;
    small = few;
  }

-- ---- why nothing is

pub first_stop : (profile : ProfileName) (pages : TwoPages) (first second : Script) (refused : PlanStop)
    → HaveEqualHeads first second → IsPlanStop profile first refused
    → IsStreamStop profile pages first second (first_refusal refused)
first_stop profile pages first second plan.Memory heads cause = tt
first_stop profile pages first second (plan.Refused fault) heads cause = (heads, cause)

pub second_stop : (profile : ProfileName) (pages : TwoPages) (first second : Script) (one : List PlannedSet)
    (refused : PlanStop) → HaveEqualHeads first second → IsPlan first (profile_of profile) one
    → IsPlanStop profile second refused → IsStreamStop profile pages first second (second_refusal refused)
second_stop profile pages first second one plan.Memory heads planned cause = tt
second_stop profile pages first second one (plan.Refused fault) heads planned cause = (heads, one, planned, cause)

pub units_stop : (profile : ProfileName) (pages : TwoPages) (first second : Script) (one two : List PlannedSet)
    (refused : UnitsStop) → ArePairPlans profile first second one two
    → IsUnitsStop pages first second one two refused
    → IsStreamStop profile pages first second (units_refusal refused)
units_stop profile pages first second one two units.Memory plans cause = tt
units_stop profile pages first second one two (units.TooLong set size) plans cause = (one, two, plans, cause)

pub slots_stop : (profile : ProfileName) (pages : TwoPages) (first second : Script) (one two : List PlannedSet)
    (made : PairUnits) (refused : SlotStop) → ArePairPlans profile first second one two
    → AreUnitsOf pages first second one two made
    → IsSlotStop one made.loads.items (pace_of first.origin (profile_of profile)) refused
    → IsStreamStop profile pages first second (slots_refusal refused)
slots_stop profile pages first second one two made slot.Memory plans sent cause = tt
slots_stop profile pages first second one two made (slot.Refused row fault) plans sent cause = record {
  one = one;
  two = two;
  plans = plans;
  segments = sent.segments;
  paired = sent.paired;
  short = sent.short;
  loads = made.loads.items;
  asked = sent.asked;
  each = sent.each;
  cause = cause.0;
  row_is = cause.1;
}

-- ---- what is written

-- one unit is cut into itself
pub one_cut : (unit lent : List ℕ) (size : ℕ) → lent ≡ unit → size ≡ length unit
    → AreCutTo (size ∷ []) lent (unit ∷ [])
one_cut unit lent size lent_is size_is = record {
  whole = append-nil unit ∙ sym lent_is;
  sized = ap (λ (n : ℕ). n ∷ []) (sym size_is);
}

-- the pieces of one unit more
pub pieces_more : (units : List (List ℕ)) (k : ℕ) (unit lent : List ℕ) (size : ℕ) (old new : List Piece)
    → k < length units → unit ≡ get_or units k unit → lent ≡ unit → size ≡ length unit
    → old ≡ all_pieces (take k units)
    → ((cut : List (List ℕ)) → AreCutTo (size ∷ []) lent cut → new ≡ old ++ all_pieces cut)
    → new ≡ all_pieces (take (k + 1) units)
pieces_more units k unit lent size old new inside is lent_is size_is before put =
    put (unit ∷ []) (one_cut unit lent size lent_is size_is)
    ∙ ap (λ (pieces : List Piece). pieces ++ all_pieces (unit ∷ [])) before
    ∙ sym (flat_map-append pieces_of (take k units) (unit ∷ []))
    ∙ ap (λ (one : List ℕ). all_pieces (take k units ++ one ∷ [])) is
    ∙ ap all_pieces (sym (take_more units k unit inside))

-- the bytes of the pieces that are lent, in the slots that are lent, are those of the stream
pub lent_bytes : (sent : SentPair) (units : List (List ℕ)) (pieces lent : List Piece) (all : List ℕ)
    → units ≡ sent.units → pieces ≡ all_pieces units → lent ≡ pieces → all ≡ sent.table.slots
    → stream_of sent.pid lent all ≡ pair_bytes sent
lent_bytes sent units pieces lent all same are lent_is all_is =
    ap (stream_of sent.pid lent) all_is
    ∙ ap (λ (own : List Piece). stream_of sent.pid own sent.table.slots) (lent_is ∙ are ∙ ap all_pieces same)
