-- The packets in which two scripts are sent have the sets of each plan, for a receiver of its page: so a receiver of
-- each page, entering behind any number of packets, shows what its script authors.
use Rattle.std.proofs.Common.{◌≡◌, ◌∙◌, ℕ, ◌<◌, ◌≤◌, List, [], ◌∷◌, ◌++◌, length, map, Some, refl, sym, ap, subst, arith, All}
use Rattle.std.specs.Prelude.{slice_get, zip}
use Rattle.std.specs.List.{AllByRecursion, AllZip, concat, flat_map, sum_by}
use Rattle.std.proofs.lemmas.List.Elements.{All-from_recursion, recursion_from_All}
use Rattle.std.proofs.lemmas.List.Sums.{sum_by-append, sum_by-cons}
use Rattle.sub_base.specs.Pace.{pace_of}
use Rattle.sub_base.specs.Profile.{profile_of}
use Rattle.sub_base.specs.declared.load.TheConstants.{UNIT_ROOM}
use Rattle.sub_base.specs.declared.pace.Pace.{Pace}
use Rattle.stream_syntax.specs.declared.wire.TheConstants.{NULL_PID}
use Rattle.pes_packets.specs.Units.{IsSharedOut}
use Rattle.cue_list.specs.declared.epoch.Epoch.{Epoch}
use Rattle.cue_list.specs.declared.script.Script.{Script}
use Rattle.page_epoch.specs.declared.planned_set.PlannedSet.{PlannedSet}
use Rattle.decoder_model.specs.Received.{IsFramed}
use Rattle.decoder_model.specs.declared.pages.Pages.{Pages}
use Rattle.segments.proofs.Sizes.{written_size}
use Rattle.sent_sets.specs.RawSets.{RawSet, IsSendable, EndsLast}
use Rattle.sent_sets.specs.SentStream.{IsSentTo}
use Rattle.shown_stream.specs.Entered.{IsEnteredRightly}
use Rattle.shown_stream.specs.SentPlan.{CarriesSet, AreWithoutPage, HasPageFirst, IsSentPlan}
use Rattle.shown_stream.proofs.Shown.SentEntered.{sent_entered}
use Rattle.page_pair.specs.PairOutcome.{first_pages, second_pages, ArePagesApart, first_sent, second_sent}
use Rattle.page_pair.specs.PairSets.{Paged, paged_bytes, Side, IsSide, ArePairSegments, pair_segments, paged_length, segments_size, pair_raw}
use Rattle.page_pair.specs.PairStream.{IsEven, IsPairedTo}
use Rattle.page_pair.specs.declared.pages.TwoPages.{TwoPages}
use Rattle.page_pair.proofs.CarriedEnds.{carried_ends}
use Rattle.page_pair.proofs.CountedSegments.{IsFit}
use Rattle.page_pair.proofs.KnownSets.{IsKnownSet, all_known}
use Rattle.page_pair.proofs.PagedBytes.{is_framed}
use Rattle.page_pair.proofs.PairSides.{IsKnownIn, first_carried, second_carried}
use Rattle.page_pair.specs.declared.pair_words.Pairing.{Pairing}

-- ---- one set

some_same : {X : Type 0} {a b : X} → Some a ≡ Some b → a ≡ b
some_same e = cc

-- what is known of a side
known_side : (script : Script) (set : PlannedSet) (side : Side) → IsKnownSet script set → IsSide side
    → side.script ≡ script → side.set ≡ set → IsKnownIn side.epoch side.set
known_side script set side known is of_script of_set =
    subst (λ (one : PlannedSet). IsKnownIn side.epoch one) (sym of_set)
    (subst (λ (epoch : Epoch). IsKnownIn epoch set) (some_same (sym known.found ∙ found)) known.is)
  where
    found : slice_get script.epochs set.epoch ≡ Some side.epoch
    found =
        subst (λ (s : Script). slice_get s.epochs set.epoch ≡ Some side.epoch) of_script
        (subst (λ (one : PlannedSet). slice_get side.script.epochs one.epoch ≡ Some side.epoch) of_set is.found)

-- the bytes of segments are as many as their kinds say
bytes_of : (segments : List Paged) → AllByRecursion IsFit segments
    → sum_by length (map paged_bytes segments) ≡ segments_size segments
bytes_of [] fit = refl
bytes_of (one ∷ segments) fit =
    omega (
      arith,
      bytes_of segments fit.1,
      written_size one.page one.value fit.0,
      sum_by-cons (λ (bytes : List ℕ). length bytes) (paged_bytes one) (map paged_bytes segments),
      sum_by-cons paged_length one segments,
    )

all_framed : (segments : List Paged) → AllByRecursion IsFit segments
    → AllByRecursion IsFramed (map paged_bytes segments)
all_framed [] fit = tt
all_framed (one ∷ segments) fit = (is_framed one.page one.value fit.0, all_framed segments fit.1)

each_small : (segments : List (List ℕ)) → sum_by length segments ≤ UNIT_ROOM
    → AllByRecursion (λ bytes. length bytes ≤ UNIT_ROOM) segments
each_small [] few = tt
each_small (bytes ∷ segments) few =
    let all = sum_by-cons (λ (one : List ℕ). length one) bytes segments in
    (omega (arith, all, few), each_small segments (omega (arith, all, few)))

-- it can be sent
sendable : (pts : ℕ) (segments : List Paged) → AllByRecursion IsFit segments → segments_size segments ≤ UNIT_ROOM
    → IsSendable (pair_raw pts segments)
sendable pts segments fit short = record {
  framed = All-from_recursion IsFramed (map paged_bytes segments) (all_framed segments fit);
  room = All-from_recursion (λ bytes. length bytes ≤ UNIT_ROOM) (map paged_bytes segments)
      (each_small (map paged_bytes segments) (omega (arith, short, bytes_of segments fit)));
}

-- it is sent in one PES packet
one_unit : (first : List (List ℕ)) (units : List (List (List ℕ))) (segments : List (List ℕ))
    → sum_by length segments ≤ UNIT_ROOM → IsSharedOut length segments (first ∷ units) → units ≡ []
one_unit first [] segments short shared = refl
one_unit first ([] ∷ units) segments short shared = absurd (omega (arith, shared.each.2.0.0))
one_unit first ((next ∷ others) ∷ units) segments short shared =
    absurd (omega (
      arith,
      shared.each.1,
      short,
      ap (sum_by length) shared.whole,
      sum_by-append length first ((next ∷ others) ++ flat_map (λ unit. unit) units),
      sum_by-cons (λ (one : List ℕ). length one) next (others ++ flat_map (λ unit. unit) units),
    ))

page_first : (pages : Pages) (pts : ℕ) (segments : List Paged) → AllByRecursion IsFit segments
    → segments_size segments ≤ UNIT_ROOM → HasPageFirst pages (pair_raw pts segments)
page_first pages pts segments fit short = record {
  later_without = λ first units shared.
      subst (All (AreWithoutPage pages))
      (sym (one_unit first units (map paged_bytes segments) (omega (arith, short, bytes_of segments fit)) shared))
      (All-from_recursion (AreWithoutPage pages) [] tt);
}

-- ---- all sets

-- what is known of the sets that are sent
record AreSent (pages : TwoPages) (first second : Script) (one two : List PlannedSet)
    (raw : List RawSet) : Type 0 where
  sendable : AllByRecursion IsSendable raw
  first_carries : AllZip (CarriesSet first (first_pages pages)) one raw
  second_carries : AllZip (CarriesSet second (second_pages pages)) two raw
  first_ends : AllByRecursion (EndsLast (first_pages pages)) raw
  second_ends : AllByRecursion (EndsLast (second_pages pages)) raw
  first_page : AllByRecursion (HasPageFirst (first_pages pages)) raw
  second_page : AllByRecursion (HasPageFirst (second_pages pages)) raw

-- the first set and the others
one_more : (pages : TwoPages) (first second : Script) (one two : List PlannedSet) (a b : PlannedSet)
    (segments : List Paged) (set : RawSet) (raw : List RawSet) → ArePagesApart pages → IsKnownSet first a
    → IsKnownSet second b → IsEven a b → ArePairSegments pages first second a b segments
    → segments_size segments ≤ UNIT_ROOM → AllByRecursion IsFit segments → set ≡ pair_raw a.pts segments
    → AreSent pages first second one two raw → AreSent pages first second (a ∷ one) (b ∷ two) (set ∷ raw)
one_more pages first second one two a b segments set raw apart known others even paired short fit is more =
    record {
      sendable = (subst IsSendable (sym is) (sendable a.pts segments fit short), more.sendable);
      first_carries = (of_first, more.first_carries);
      second_carries = (of_second, more.second_carries);
      first_ends = (carried_ends first (first_pages pages) a set of_first, more.first_ends);
      second_ends = (carried_ends second (second_pages pages) b set of_second, more.second_ends);
      first_page = (
        subst (HasPageFirst (first_pages pages)) (sym is) (page_first (first_pages pages) a.pts segments fit short),
        more.first_page,
      );
      second_page = (
        subst (HasPageFirst (second_pages pages)) (sym is) (page_first (second_pages pages) a.pts segments fit short),
        more.second_page,
      );
    }
  where
    left : Side
    left = paired.first_side

    right : Side
    right = paired.second_side

    known_left : IsKnownIn left.epoch left.set
    known_left = known_side first a left known paired.of_first.0 paired.of_first.1 paired.of_first.2

    known_right : IsKnownIn right.epoch right.set
    known_right = known_side second b right others paired.of_second.0 paired.of_second.1 paired.of_second.2

    fit_all : AllByRecursion IsFit (pair_segments pages left right)
    fit_all = subst (AllByRecursion IsFit) paired.are fit

    sent : pair_raw a.pts (pair_segments pages left right) ≡ set
    sent = ap (pair_raw a.pts) (sym paired.are) ∙ sym is

    of_first : CarriesSet first (first_pages pages) a set
    of_first =
        subst (CarriesSet first (first_pages pages) a) sent
        (subst (λ (script : Script). CarriesSet script (first_pages pages) a
        (pair_raw a.pts (pair_segments pages left right))) paired.of_first.1
        (subst (λ (planned : PlannedSet). CarriesSet left.script (first_pages pages) planned
        (pair_raw a.pts (pair_segments pages left right))) paired.of_first.2
        (first_carried pages left right a.pts apart paired.of_first.0 paired.of_second.0 known_left known_right fit_all
        (sym (ap (λ (planned : PlannedSet). planned.pts) paired.of_first.2)))))

    of_second : CarriesSet second (second_pages pages) b set
    of_second =
        subst (CarriesSet second (second_pages pages) b) sent
        (subst (λ (script : Script). CarriesSet script (second_pages pages) b
        (pair_raw a.pts (pair_segments pages left right))) paired.of_second.1
        (subst (λ (planned : PlannedSet). CarriesSet right.script (second_pages pages) planned
        (pair_raw a.pts (pair_segments pages left right))) paired.of_second.2
        (second_carried pages left right a.pts apart paired.of_first.0 paired.of_second.0 known_left known_right fit_all
        (even.0 ∙ sym (ap (λ (planned : PlannedSet). planned.pts) paired.of_second.2)))))

abbrev IsOfPlans : TwoPages → Script → Script → PlannedSet × PlannedSet → List Paged → Type 0
IsOfPlans pages first second sets segments = ArePairSegments pages first second sets.0 sets.1 segments

abbrev IsRawOf : PlannedSet × List Paged → RawSet → Type 0
IsRawOf sets set = set ≡ pair_raw sets.0.pts sets.1

are_sent : (pages : TwoPages) (first second : Script) (one two : List PlannedSet) (segments : List (List Paged))
    (raw : List RawSet) → ArePagesApart pages → AllByRecursion (IsKnownSet first) one
    → AllByRecursion (IsKnownSet second) two → AllZip IsEven one two
    → AllZip (IsOfPlans pages first second) (zip one two) segments
    → AllByRecursion (λ of_set. segments_size of_set ≤ UNIT_ROOM) segments
    → AllByRecursion (All IsFit) segments → AllZip IsRawOf (zip one segments) raw
    → AreSent pages first second one two raw
are_sent pages first second [] [] [] [] apart known others even paired short fit are = record {
  sendable = tt;
  first_carries = tt;
  second_carries = tt;
  first_ends = tt;
  second_ends = tt;
  first_page = tt;
  second_page = tt;
}
are_sent pages first second [] [] [] (set ∷ raw) apart known others even paired short fit are = absurd are
are_sent pages first second [] [] (of_set ∷ segments) raw apart known others even paired short fit are = absurd paired
are_sent pages first second [] (b ∷ two) segments raw apart known others even paired short fit are = absurd even
are_sent pages first second (a ∷ one) [] segments raw apart known others even paired short fit are = absurd even
are_sent pages first second (a ∷ one) (b ∷ two) [] raw apart known others even paired short fit are = absurd paired
are_sent pages first second (a ∷ one) (b ∷ two) (of_set ∷ segments) [] apart known others even paired short fit are =
    absurd are
are_sent pages first second (a ∷ one) (b ∷ two) (of_set ∷ segments) (set ∷ raw) apart known others even paired short
    fit are =
    one_more pages first second one two a b of_set set raw apart known.0 others.0 even.0 paired.0 short.0
    (recursion_from_All IsFit of_set fit.0) are.0
    (are_sent pages first second one two segments raw apart known.1 others.1 even.1 paired.1 short.1 fit.1 are.1)

-- ---- the packets

pub pair_sent : (pairing : Pairing) (first second : Script) (packets : List ℕ)
    → ArePagesApart pairing.pages → (paired : IsPairedTo pairing first second packets)
    → IsSentPlan (first_sent pairing first paired.one paired.table) packets
    × IsSentPlan (second_sent pairing second paired.two paired.table) packets
pair_sent pairing first second packets apart paired = (
  record {
    plan = paired.plans.first_plan;
    raw = raw;
    loads = paired.loads;
    sendable = All-from_recursion IsSendable raw are.sendable;
    ends = All-from_recursion (EndsLast (first_pages pairing.pages)) raw are.first_ends;
    sent = paired.sent;
    carries = are.first_carries;
    page_first = All-from_recursion (HasPageFirst (first_pages pairing.pages)) raw are.first_page;
  },
  record {
    plan = paired.plans.second_plan;
    raw = raw;
    loads = paired.loads;
    sendable = All-from_recursion IsSendable raw are.sendable;
    ends = All-from_recursion (EndsLast (second_pages pairing.pages)) raw are.second_ends;
    sent = subst (λ (pace : Pace). IsSentTo pace pairing.pid raw paired.loads paired.table packets)
        (ap (λ (origin : ℕ). pace_of origin (profile_of pairing.profile)) paired.plans.heads.origin) paired.sent;
    carries = are.second_carries;
    page_first = All-from_recursion (HasPageFirst (second_pages pairing.pages)) raw are.second_page;
  },
)
  where
    raw : List RawSet
    raw = paired.raw

    are : AreSent pairing.pages first second paired.one paired.two raw
    are =
        are_sent pairing.pages first second paired.one paired.two paired.segments raw apart
        (all_known first (profile_of pairing.profile) paired.one paired.plans.first_plan)
        (all_known second (profile_of pairing.profile) paired.two paired.plans.second_plan) paired.plans.even
        paired.paired
        (recursion_from_All (λ of_set. segments_size of_set ≤ UNIT_ROOM) paired.segments paired.short)
        (recursion_from_All (All IsFit) paired.segments paired.fit) paired.are_raw

pub pair_entered : (pairing : Pairing) (first second : Script)
    (packets : List (List ℕ)) → pairing.pid < NULL_PID → ArePagesApart pairing.pages
    → All (λ packet. length packet ≡ 188) packets
    → (paired : IsPairedTo pairing first second (concat packets)) → (missed : ℕ)
    → IsEnteredRightly (first_sent pairing first paired.one paired.table) packets missed
    × IsEnteredRightly (second_sent pairing second paired.two paired.table) packets missed
pair_entered pairing first second packets free apart whole paired missed =
    let sent = pair_sent pairing first second (concat packets) apart paired in (
      sent_entered (first_sent pairing first paired.one paired.table) packets missed free whole sent.0,
      sent_entered (second_sent pairing second paired.two paired.table) packets missed free whole sent.1,
    )
