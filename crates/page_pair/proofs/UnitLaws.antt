-- The sets of two scripts, each pair in one PES packet: its load, and the loads and packets of all.
use Rattle.std.proofs.Common.{◌≡◌, ◌∙◌, ◌+◌, ◌<◌, ◌≤◌, ◌^◌, inr, ℕ, zero, suc, List, [], ◌∷◌, ◌++◌, length, length-append, append-nil, get_or, map, take, All, Some, refl, sym, ap, subst, arith}
use Rattle.std.specs.Prelude.{slice_get, sum, sum_by, zip}
use Rattle.std.specs.List.{AllZip, concat, flat_map}
use Rattle.std.proofs.lemmas.List.{map-append, take_all}
use Rattle.std.proofs.lemmas.List.Elements.{All-cons, All-nil}
use Rattle.std.proofs.lemmas.Option.{same_Some, slice_get_read, slice_get_within}
use Rattle.std.proofs.lemmas.Slice.Zip.{get_or-zip, length-zip}
use Rattle.sub_base.specs.declared.load.TheConstants.{UNIT_ROOM}
use Rattle.sub_base.specs.declared.load.WriteLoad.{WriteLoad}
use Rattle.stream_syntax.specs.Segments.{end_of_set}
use Rattle.pes_packets.specs.declared.units.TheConstants.{OTHER_BYTES}
use Rattle.cue_list.specs.declared.script.Script.{Script}
use Rattle.page_epoch.specs.declared.planned_set.PlannedSet.{PlannedSet}
use Rattle.schedule.specs.Slots.{IsLoad}
use Rattle.set_coder.specs.SetSizes.{IsPaintedIn}
use Rattle.sent_sets.specs.RawSets.{AreRawPackets, raw_packet}
use Rattle.sent_sets.proofs.RawUnits.{raw_size, sum_of_lengths}
use Rattle.script_stream.proofs.UnitLaws.{AllZip-length, AllZip-more}
use Rattle.page_pair.specs.PairSets.{ArePairSegments, Paged, Side, first_names, head_of, in_order, on, own_cluts, paged_bytes, pair_raw, pair_segments, pair_size, pairs_of, second_names, segments_size, shared_cluts}
use Rattle.page_pair.specs.PairStream.{HavePairRoom, IsEven, IsPairLoad, IsPairTooLong}
use Rattle.page_pair.specs.Private.Objects.{IsReady}
use Rattle.page_pair.specs.Private.Units.{AreMade, AreSetUnits, AreUnitsOf, IsLoadOf, IsPairStop, IsPairUnit, IsStopAt, IsUnitAt, IsUnitsStop, IsWrittenPair, packet_of, stop_at}
use Rattle.page_pair.specs.Private.Writing.{AreWritten, CanBeWritten, IsSetStop}
use Rattle.page_pair.specs.declared.pages.TwoPages.{TwoPages}
use Rattle.page_pair.specs.declared.pair_set.SetStop.{SetStop}
use Rattle.page_pair.specs.declared.pair_set.SetStop.TheVariants as set_stop
use Rattle.page_pair.specs.declared.units.PairUnit.{PairUnit}
use Rattle.page_pair.specs.declared.units.PairUnits.{PairUnits}
use Rattle.page_pair.specs.declared.units.UnitsStop.{UnitsStop}
use Rattle.page_pair.specs.declared.units.UnitsStop.TheVariants.{Memory, TooLong}
use Rattle.page_pair.specs.declared.written.Written.{Written}
use Rattle.page_pair.proofs.PairSetLaws.{sizes}

-- ---- the segments of a pair of sets

some_behind : (front back : List Paged) → 1 ≤ length back → 1 ≤ length (front ++ back)
some_behind front back some = omega (arith, some, length-append front back)

-- there are always some
some_segments : (pages : TwoPages) (one two : Side) → 1 ≤ length (pair_segments pages one two)
unfolding pair_segments
some_segments pages one two =
    let ends = on pages.first end_of_set ∷ on pages.second end_of_set ∷ [] in
    let objects =
    in_order pages (first_names one two) (second_names one two) (pairs_of one two) one.objects two.objects in
    let h1 = map (on pages.first) (head_of (first_names one two) one) in
    let h2 = map (on pages.second) (head_of (second_names one two) two) in
    let c1 = map (on pages.first) (own_cluts one two) in
    let c2 = map (on pages.second) (own_cluts two one) in
    let c3 = map (on pages.shared) (shared_cluts one two) in
    some_behind h1 (h2 ++ (c1 ++ (c2 ++ (c3 ++ (objects ++ ends)))))
    (some_behind h2 (c1 ++ (c2 ++ (c3 ++ (objects ++ ends))))
    (some_behind c1 (c2 ++ (c3 ++ (objects ++ ends)))
    (some_behind c2 (c3 ++ (objects ++ ends))
    (some_behind c3 (objects ++ ends) (some_behind objects ends (omega arith))))))

some_of_set : (pages : TwoPages) (first second : Script) (one two : PlannedSet) (of_set : List Paged)
    → ArePairSegments pages first second one two of_set → 1 ≤ length of_set
some_of_set pages first second one two of_set paired =
    subst (λ (all : List Paged). 1 ≤ length all) (sym paired.are)
    (some_segments pages paired.first_side paired.second_side)

-- the sides of two languages that are ready
pub pair_sides : (pages : TwoPages) (first second : Script) (one two : PlannedSet) (own other : Side)
    → IsReady own → own.script ≡ first → own.set ≡ one → IsReady other → other.script ≡ second → other.set ≡ two
    → ArePairSegments pages first second one two (pair_segments pages own other)
pair_sides pages first second one two own other ready script set other_ready other_script other_set = record {
  first_side = own;
  second_side = other;
  of_first = (ready.is_side, script, set);
  of_second = (other_ready.is_side, other_script, other_set);
  are = refl;
}

module _ (pages : TwoPages) (first second : Script) (one two : PlannedSet) (of_set : List Paged)
    (paired : ArePairSegments pages first second one two of_set) where
  pub pair_is_written : (written : Written) → AreWritten of_set written → length written.bytes.items ≤ UNIT_ROOM
      → IsWrittenPair pages first second one two written
  pair_is_written written are short =
      record { of_set = of_set; paired = paired; are = are; short = short }

  pub pair_stops : (stop : SetStop) → IsSetStop of_set stop → IsPairStop pages first second one two stop
  pair_stops set_stop.Memory is = tt
  pair_stops (set_stop.TooLong size) is = record { of_set = of_set; paired = paired; long = is.0; size_is = is.1 }

pub stops_at : (pages : TwoPages) (first second : Script) (one two : PlannedSet) (place : ℕ) (stop : SetStop)
    → IsPairStop pages first second one two stop
    → IsStopAt pages first second one two place (stop_at place stop)
stops_at pages first second one two place set_stop.Memory is = tt
stops_at pages first second one two place (set_stop.TooLong size) is = (refl, is)

-- ---- one PES packet

-- their bytes one after the other
joined_bytes : (segments : List Paged) → concat (map paged_bytes segments) ≡ flat_map paged_bytes segments
joined_bytes [] = refl
joined_bytes (one ∷ more) = ap (λ (rest : List ℕ). paged_bytes one ++ rest) (joined_bytes more)

-- and how many they are
bytes_size : (segments : List Paged) → All CanBeWritten segments
    → sum_by length (map paged_bytes segments) ≡ segments_size segments
bytes_size segments fit =
    sum_of_lengths (map paged_bytes segments) ∙ ap length (joined_bytes segments) ∙ sizes segments fit

some_mapped : (segments : List Paged) → 1 ≤ length segments → 1 ≤ length (map paged_bytes segments)
some_mapped [] some = absurd (omega (arith, some))
some_mapped (one ∷ more) some = omega arith

-- segments that have room in one PES packet are sent in one
one_packet : (time : ℕ) (segments : List Paged) → 1 ≤ length segments
    → sum_by length (map paged_bytes segments) ≤ UNIT_ROOM
    → AreRawPackets (pair_raw time segments) (raw_packet time (map paged_bytes segments) ∷ [])
one_packet time segments some room = record {
  units = map paged_bytes segments ∷ [];
  shared = record {
    whole = append-nil (map paged_bytes segments);
    each = ((some_mapped segments some, inr room), tt, tt);
  };
  are = refl;
}

-- nothing stands before the packet
pub first_packet : (old new packet : List ℕ) → old ≡ [] → new ≡ old ++ packet → new ≡ packet
first_packet old new packet none put = put ∙ ap (λ (front : List ℕ). front ++ packet) none

-- what sending a pair of sets takes, and its PES packet
pub is_unit : (pages : TwoPages) (first second : Script) (one two : PlannedSet) (written : Written) (unit : PairUnit)
    (own other : ℕ) → IsWrittenPair pages first second one two written → one.pts < 2 ^ 34
    → IsPaintedIn first one own → own ≤ 274877906944 → IsPaintedIn second two other → other ≤ 274877906944
    → IsLoadOf one.pts (own + other) written unit.load → unit.bytes ≡ packet_of one.pts written.bytes.items
    → IsPairUnit pages first second one two unit
is_unit pages first second one two written unit own other is early paints few other_paints other_few load packet =
    let of_set = is.of_set in
    let size : length written.bytes.items ≡ segments_size of_set =
    ap length is.are.bytes ∙ sizes of_set is.are.fit in
    let room : segments_size of_set ≤ UNIT_ROOM = omega (arith, size, is.short) in
    let counted : sum_by length (map paged_bytes of_set) ≡ segments_size of_set = bytes_size of_set is.are.fit in
    let bytes : unit.bytes ≡ raw_packet one.pts (map paged_bytes of_set) =
    packet ∙ ap (packet_of one.pts) (is.are.bytes ∙ sym (joined_bytes of_set)) in
    let units : unit.load.units ≡ pair_size of_set ∷ [] =
    load.units ∙ ap (λ (n : ℕ). (OTHER_BYTES + n) ∷ []) size in
    record {
      of_set = of_set;
      paired = is.paired;
      short = room;
      fit = is.are.fit;
      asked = record {
        time = load.time_is;
        size = load.size ∙ ap (λ (n : ℕ). OTHER_BYTES + n) size;
        units = units;
        first_painted = own;
        second_painted = other;
        is_first = paints;
        is_second = other_paints;
        painted = load.painted_is;
        longest = load.longest ∙ is.are.longest;
      };
      is_load = record {
        some = omega (arith, load.size);
        size = omega (arith, load.size, ap sum load.units);
        pts = omega (arith, load.time_is, early);
        painted = omega (arith, load.painted_is, few, other_few);
      };
      carried =
          subst (λ (all : List ℕ). AreRawPackets (pair_raw one.pts of_set) (all ∷ [])) (sym bytes)
          (one_packet one.pts of_set (some_of_set pages first second one two of_set is.paired)
          (omega (arith, counted, room)));
      sized =
          ap (λ (n : ℕ). n ∷ [])
          (ap length bytes ∙ raw_size one.pts (map paged_bytes of_set) ∙ ap (λ (n : ℕ). OTHER_BYTES + n) counted)
          ∙ sym units;
    }

-- ---- two plans

-- even plans have as many sets
pub even_many : (one two : List PlannedSet) → AllZip IsEven one two → length one ≡ length two
even_many one two even = AllZip-length IsEven one two even

module _ (pages : TwoPages) (first second : Script) where
  pub made_none : (made : PairUnits) → made.loads.items ≡ [] → made.written.items ≡ []
      → AreMade pages first second [] made
  made_none made loads written = record { units = []; each = tt; loads = loads; written = written }

  -- one pair of sets more
  pub made_more : (one two : List PlannedSet) (place : ℕ) (a b : PlannedSet) (unit : PairUnit) (old new : PairUnits)
      → place < length one → place < length two → a ≡ get_or one place a → b ≡ get_or two place b
      → IsPairUnit pages first second a b unit → new.loads.items ≡ old.loads.items ++ unit.load ∷ []
      → new.written.items ≡ old.written.items ++ unit.bytes ∷ []
      → AreMade pages first second (take place (zip one two)) old
      → AreMade pages first second (take (place + 1) (zip one two)) new
  made_more one two place a b unit old new inside other_inside a_is b_is is load bytes so_far =
      let pair : (a, b) ≡ get_or (zip one two) place (a, b) =
      (λ i. (a_is i, b_is i)) ∙ sym (get_or-zip one two place (a, b) inside other_inside) in
      record {
        units = so_far.units ++ unit ∷ [];
        each =
            AllZip-more (IsUnitAt pages first second) (zip one two) so_far.units place (a, b) unit
            (omega (arith, length-zip one two, inside, other_inside)) so_far.each
            (subst (λ (p : PlannedSet × PlannedSet). IsUnitAt pages first second p unit) pair is);
        loads =
            load ∙ ap (λ (all : List WriteLoad). all ++ unit.load ∷ []) so_far.loads
            ∙ sym (map-append (λ (u : PairUnit). u.load) so_far.units (unit ∷ []));
        written =
            bytes ∙ ap (λ (all : List (List ℕ)). all ++ unit.bytes ∷ []) so_far.written
            ∙ sym (map-append (λ (u : PairUnit). u.bytes) so_far.units (unit ∷ []));
      }

  -- ---- the sets that are too long

  -- the sets before have room
  room_before : (one two : List PlannedSet) (units : List PairUnit) (place n : ℕ) (a b : PlannedSet)
      → AllZip (IsUnitAt pages first second) (take place (zip one two)) units → n < place → slice_get one n ≡ Some a
      → slice_get two n ≡ Some b → HavePairRoom pages first second a b
  room_before [] two units place n a b each before has_a has_b =
      absurd (omega (arith, slice_get_within {A = PlannedSet} [] n a has_a))
  room_before (x ∷ one) [] units place n a b each before has_a has_b =
      absurd (omega (arith, slice_get_within {A = PlannedSet} [] n b has_b))
  room_before (x ∷ one) (y ∷ two) units zero n a b each before has_a has_b = absurd (omega (arith, before))
  room_before (x ∷ one) (y ∷ two) [] (suc place) n a b each before has_a has_b = absurd each
  room_before (x ∷ one) (y ∷ two) (unit ∷ units) (suc place) zero a b each before has_a has_b =
      let is : IsPairUnit pages first second a b unit =
      subst (λ (p : PlannedSet). IsPairUnit pages first second p b unit) (same_Some x a has_a)
      (subst (λ (p : PlannedSet). IsPairUnit pages first second x p unit) (same_Some y b has_b) each.0) in
      (is.of_set, is.paired, is.short)
  room_before (x ∷ one) (y ∷ two) (unit ∷ units) (suc place) (suc n) a b each before has_a has_b =
      room_before one two units place n a b each.1 (omega (arith, before)) has_a has_b

  -- and those at the place are the first
  pub is_stop : (one two : List PlannedSet) (place : ℕ) (a b : PlannedSet) (made : PairUnits) (stop : UnitsStop)
      → place < length one → place < length two → a ≡ get_or one place a → b ≡ get_or two place b
      → AreMade pages first second (take place (zip one two)) made
      → IsStopAt pages first second a b place stop → IsUnitsStop pages first second one two stop
  is_stop one two place a b made Memory inside other_inside a_is b_is so_far is = tt
  is_stop one two place a b made (TooLong set size) inside other_inside a_is b_is so_far is =
      subst (λ (n : ℕ). IsPairTooLong pages first second one two n size) (sym is.0) (record {
        first_set = a;
        second_set = b;
        has_first = slice_get_read one (length one) place a refl inside a_is;
        has_second = slice_get_read two (length two) place b refl other_inside b_is;
        of_set = is.1.of_set;
        paired = is.1.paired;
        long = is.1.long;
        size_is = is.1.size_is;
        before = λ n x y earlier has_x has_y.
            room_before one two so_far.units place n x y so_far.each earlier has_x has_y;
      })

  -- ---- all of them

  no_units : AreSetUnits pages first second [] [] [] []
  no_units = record {
    segments = [];
    paired = tt;
    short = All-nil (λ (of_set : List Paged). segments_size of_set ≤ UNIT_ROOM);
    fit = All-nil (All CanBeWritten);
    asked = record {
      counts = refl;
      each = λ n a b of_set load has_a has_b has_set has_load.
          absurd (omega (arith, slice_get_within {A = PlannedSet} [] n a has_a));
    };
    each = All-nil IsLoad;
    raw = [];
    are_raw = tt;
    units = [];
    carried = tt;
    sized = tt;
    times = refl;
    whole = refl;
  }

  -- those of a pair of sets before those of others
  units_before : (a b : PlannedSet) (one two : List PlannedSet) (unit : PairUnit) (loads : List WriteLoad)
      (written : List (List ℕ)) → IsPairUnit pages first second a b unit
      → AreSetUnits pages first second one two loads written
      → AreSetUnits pages first second (a ∷ one) (b ∷ two) (unit.load ∷ loads) (unit.bytes ∷ written)
  units_before a b one two unit loads written is rest = record {
    segments = is.of_set ∷ rest.segments;
    paired = (is.paired, rest.paired);
    short =
        All-cons (λ (of_set : List Paged). segments_size of_set ≤ UNIT_ROOM) is.of_set rest.segments is.short
        rest.short;
    fit = All-cons (All CanBeWritten) is.of_set rest.segments is.fit rest.fit;
    asked = record { counts = ap suc rest.asked.counts; each = asked_of };
    each = All-cons IsLoad unit.load loads is.is_load rest.each;
    raw = pair_raw a.pts is.of_set ∷ rest.raw;
    are_raw = (refl, rest.are_raw);
    units = (unit.bytes ∷ []) ∷ rest.units;
    carried = (is.carried, rest.carried);
    sized = (is.sized, rest.sized);
    times = λ i. is.asked.time i ∷ rest.times i;
    whole = λ i. append-nil unit.bytes i ∷ rest.whole i;
  }
    where
      asked_of : (n : ℕ) (x y : PlannedSet) (of_set : List Paged) (load : WriteLoad)
          → slice_get (a ∷ one) n ≡ Some x → slice_get (b ∷ two) n ≡ Some y
          → slice_get (is.of_set ∷ rest.segments) n ≡ Some of_set → slice_get (unit.load ∷ loads) n ≡ Some load
          → IsPairLoad first second x y of_set load
      asked_of zero x y of_set load has_x has_y has_set has_load =
          let own = same_Some a x has_x in
          let other = same_Some b y has_y in
          let segments = same_Some is.of_set of_set has_set in
          let asked = same_Some unit.load load has_load in
          subst (λ (p : PlannedSet). IsPairLoad first second p y of_set load) own
          (subst (λ (p : PlannedSet). IsPairLoad first second a p of_set load) other
          (subst (λ (s : List Paged). IsPairLoad first second a b s load) segments
          (subst (λ (l : WriteLoad). IsPairLoad first second a b is.of_set l) asked is.asked)))
      asked_of (suc n) x y of_set load has_x has_y has_set has_load =
          rest.asked.each n x y of_set load has_x has_y has_set has_load

  each_unit : (one two : List PlannedSet) (units : List PairUnit) → AllZip IsEven one two
      → AllZip (IsUnitAt pages first second) (zip one two) units
      → AreSetUnits pages first second one two (map (λ (u : PairUnit). u.load) units)
      (map (λ (u : PairUnit). u.bytes) units)
  each_unit [] [] [] even each = no_units
  each_unit [] [] (unit ∷ units) even each = absurd each
  each_unit [] (b ∷ two) units even each = absurd even
  each_unit (a ∷ one) [] units even each = absurd even
  each_unit (a ∷ one) (b ∷ two) [] even each = absurd each
  each_unit (a ∷ one) (b ∷ two) (unit ∷ units) even each =
      units_before a b one two unit (map (λ (u : PairUnit). u.load) units) (map (λ (u : PairUnit). u.bytes) units)
      each.0 (each_unit one two units even.1 each.1)

  -- once all pairs of sets are made
  pub made_all : (one two : List PlannedSet) (place : ℕ) (made : PairUnits) → length one ≤ place
      → AllZip IsEven one two → AreMade pages first second (take place (zip one two)) made
      → AreUnitsOf pages first second one two made
  made_all one two place made all even are =
      let whole : take place (zip one two) ≡ zip one two =
      take_all place (zip one two) (omega (arith, length-zip one two, all)) in
      subst (λ (loads : List WriteLoad). AreSetUnits pages first second one two loads made.written.items)
      (sym are.loads)
      (subst (λ (bytes : List (List ℕ)). AreSetUnits pages first second one two
      (map (λ (u : PairUnit). u.load) are.units) bytes) (sym are.written)
      (each_unit one two are.units even
      (subst (λ (sets : List (PlannedSet × PlannedSet)). AllZip (IsUnitAt pages first second) sets are.units) whole
      are.each)))
