-- The segments of a set of both: those before the objects, and how many bytes objects have.
use Rattle.std.proofs.Common.{◌≡◌, ◌∙◌, ◌+◌, ◌<◌, ◌≤◌, ℕ, eqb, Bool, true, false, cond, List, [], ◌∷◌, ◌++◌, length, length-append, get_or, map, take, All, append_assoc, ap, refl, subst, sym, arith}
use Rattle.std.specs.List.{list_any, sum_by}
use Rattle.std.specs.Prelude.{◌||◌, filter}
use Rattle.std.specs.Str.{bytes_eq}
use Rattle.std.proofs.lemmas.List.{length-map, take_all}
use Rattle.std.proofs.lemmas.List.Elements.{All-head, All-tail}
use Rattle.std.specs.List.{flat_map}
use Rattle.std.proofs.lemmas.List.Sums.{sum_by-append, sum_by_more, sum_by_more_le}
use Rattle.stream_syntax.specs.Segments.{SegmentValue, end_of_set, spelled}
use Rattle.cue_list.specs.declared.epoch.Epoch.{Epoch}
use Rattle.page_epoch.specs.declared.planned_set.SentClut.{SentClut}
use Rattle.set_coder.specs.SetSegments.{clut_segment_of}
use Rattle.shown_plan.specs.NamedSets.{Names}
use Rattle.page_pair.specs.PairSets.{CueObject, Paged, Side, at_cue, before_cue, behind_cue, first_names, in_order, names_of, own, paged_bytes, pair_segments, pairs_of, second_names, segments_size, head_of, is_same_flag, is_same_segment, on, own_cluts, paged_length, shared_cluts}
use Rattle.page_pair.specs.Private.Writing.{AreWritten, CanBeWritten, IsSetStop, WritesMore, behind, clut_bytes, cluts_by, leading_segments}
use Rattle.page_pair.specs.declared.pages.TwoPages.{TwoPages}
use Rattle.page_pair.specs.declared.written.Written.{Written}
use Rattle.page_pair.specs.declared.pair_set.SetStop.{SetStop}
use Rattle.page_pair.specs.declared.pair_set.SetStop.TheVariants.{TooLong}
use Rattle.page_pair.specs.Private.Objects.{IsReady}
use Rattle.segments.proofs.Sizes.{written_size}
use Rattle.sub_base.specs.declared.load.TheConstants.{UNIT_ROOM}
use Rattle.pes_packets.specs.declared.units.TheConstants.{OTHER_BYTES}
use Rattle.page_pair.proofs.WritingLaws.{more_trans}

-- ---- CLUTs by their bytes

any_clut : (clut : SegmentValue) (epoch : Epoch) (cluts : List SentClut)
    → list_any (bytes_eq (spelled 0 clut)) (map (clut_bytes epoch) cluts)
    ≡ list_any (is_same_segment clut) (map (clut_segment_of epoch) cluts)
any_clut clut epoch [] = refl
any_clut clut epoch (one ∷ more) =
    ap (λ (b : Bool). is_same_segment clut (clut_segment_of epoch one) || b) (any_clut clut epoch more)

cluts_are : (shared : Bool) (epoch other_epoch : Epoch) (cluts other_cluts : List SentClut) (others : List (List ℕ))
    → others ≡ map (clut_bytes other_epoch) other_cluts
    → cluts_by shared others epoch cluts
    ≡ filter (λ clut. is_same_flag shared
    (list_any (is_same_segment clut) (map (clut_segment_of other_epoch) other_cluts)))
    (map (clut_segment_of epoch) cluts)
cluts_are shared epoch other_epoch cluts other_cluts others are =
    ap (λ (bytes : List (List ℕ)). cluts_by shared bytes epoch cluts) are
    ∙ ap (λ (test : SegmentValue → Bool). filter test (map (clut_segment_of epoch) cluts))
    (λ i clut. is_same_flag shared (any_clut clut other_epoch other_cluts i))

-- ---- the segments before the objects

pub leading_is : (pages : TwoPages) (first second : Names) (one two : Side) (own others : List (List ℕ))
    (start a b c d e : Written) → own ≡ map (clut_bytes one.epoch) one.set.cluts
    → others ≡ map (clut_bytes two.epoch) two.set.cluts → AreWritten [] start
    → WritesMore (map (on pages.first) (head_of first one)) start a
    → WritesMore (map (on pages.second) (head_of second two)) a b
    → WritesMore (map (on pages.first) (cluts_by false others one.epoch one.set.cluts)) b c
    → WritesMore (map (on pages.second) (cluts_by false own two.epoch two.set.cluts)) c d
    → WritesMore (map (on pages.shared) (cluts_by true others one.epoch one.set.cluts)) d e
    → AreWritten (leading_segments pages first second one two) e
leading_is pages first second one two own others start a b c d e own_are others_are none one_head two_head one_own
    two_own both =
    let h1 = map (on pages.first) (head_of first one) in
    let h2 = map (on pages.second) (head_of second two) in
    let c1 = map (on pages.first) (own_cluts one two) in
    let c2 = map (on pages.second) (own_cluts two one) in
    let c3 = map (on pages.shared) (shared_cluts one two) in
    let put1 : WritesMore c1 b c =
    subst (λ (vs : List SegmentValue). WritesMore (map (on pages.first) vs) b c)
    (cluts_are false one.epoch two.epoch one.set.cluts two.set.cluts others others_are) one_own
    in
    let put2 : WritesMore c2 c d =
    subst (λ (vs : List SegmentValue). WritesMore (map (on pages.second) vs) c d)
    (cluts_are false two.epoch one.epoch two.set.cluts one.set.cluts own own_are) two_own
    in
    let put3 : WritesMore c3 d e =
    subst (λ (vs : List SegmentValue). WritesMore (map (on pages.shared) vs) d e)
    (cluts_are true one.epoch two.epoch one.set.cluts two.set.cluts others others_are) both
    in
    more_trans h1 (h2 ++ (c1 ++ (c2 ++ c3))) start a e one_head
    (more_trans h2 (c1 ++ (c2 ++ c3)) a b e two_head
    (more_trans c1 (c2 ++ c3) b c e put1 (more_trans c2 c3 c d e put2 put3))) [] none

-- ---- how many bytes objects have

pub sum_more : (objects : List Paged) (i : ℕ) (object : Paged) (size : ℕ) → i < length objects
    → object ≡ get_or objects i object → size ≡ sum_by paged_length (take i objects)
    → size + paged_length object ≡ sum_by paged_length (take (i + 1) objects)
sum_more objects i object size inside is so_far =
    ap (λ (n : ℕ). n + paged_length object) so_far
    ∙ ap (λ (one : Paged). sum_by paged_length (take i objects) + paged_length one) is
    ∙ sym (sum_by_more paged_length objects i object inside)

pub sum_all : (objects : List Paged) (i size : ℕ) → length objects ≤ i
    → size ≡ sum_by paged_length (take i objects) → size ≡ sum_by paged_length objects
sum_all objects i size all so_far = so_far ∙ ap (sum_by paged_length) (take_all i objects all)

-- ---- how many there are

pub objects_few : (side : Side) → IsReady side → length side.objects ≤ 4096
objects_few side ready =
    omega (
      arith,
      length-map side.objects (λ (object : CueObject). object.cue),
      ap length ready.is_side.cues,
      ready.carried.few_cues,
    )

pub few_cues : (side : Side) (pairs : List (ℕ × ℕ)) (take : ℕ × ℕ → ℕ) (cues : List ℕ) → IsReady side
    → length pairs ≤ length side.objects → cues ≡ map take pairs → length cues ≤ 4096
few_cues side pairs take cues ready few are =
    omega (arith, objects_few side ready, ap length are, length-map pairs take, few)

parts : (cue : ℕ) (objects : List CueObject)
    → length (before_cue cue objects) + (length (at_cue cue objects) + length (behind_cue cue objects))
    ≡ length objects
parts cue [] = refl
parts cue (one ∷ more) = by (eqb one.cue cue) (parts cue more)
  where
    by : (b : Bool)
        → length (before_cue cue more) + (length (at_cue cue more) + length (behind_cue cue more)) ≡ length more
        → length (cond b [] (one ∷ before_cue cue more))
        + (length (cond b (one ∷ []) (at_cue cue more)) + length (cond b more (behind_cue cue more)))
        ≡ length (one ∷ more)
    by true rest = omega arith
    by false rest = omega (arith, rest)

own_length : (page : ℕ) (names : Names) (objects : List CueObject) → length (own page names objects) ≡ length objects
own_length page names objects = length-map objects _

order_few : (pages : TwoPages) (first second : Names) (pairs : List (ℕ × ℕ)) (one two : List CueObject)
    → length (in_order pages first second pairs one two) ≤ length one + length two
order_few pages first second [] one two =
    omega (
      arith,
      length-append (own pages.first first one) (own pages.second second two),
      own_length pages.first first one,
      own_length pages.second second two,
    )
order_few pages first second (pair ∷ pairs) one two =
    let a = own pages.first first (before_cue pair.0 one) in
    let b = own pages.second second (before_cue pair.1 two) in
    let c = own pages.shared first (at_cue pair.0 one) in
    let d = in_order pages first second pairs (behind_cue pair.0 one) (behind_cue pair.1 two) in
    omega (
      arith,
      length-append a (b ++ (c ++ d)),
      length-append b (c ++ d),
      length-append c d,
      own_length pages.first first (before_cue pair.0 one),
      own_length pages.second second (before_cue pair.1 two),
      own_length pages.shared first (at_cue pair.0 one),
      parts pair.0 one,
      parts pair.1 two,
      order_few pages first second pairs (behind_cue pair.0 one) (behind_cue pair.1 two),
    )

pub few_objects : (pages : TwoPages) (first second : Names) (pairs : List (ℕ × ℕ)) (one two : Side)
    (objects : List Paged) → IsReady one → IsReady two
    → objects ≡ in_order pages first second pairs one.objects two.objects → length objects ≤ 8192
few_objects pages first second pairs one two objects one_ready two_ready are =
    omega (
      arith,
      ap length are,
      order_few pages first second pairs one.objects two.objects,
      objects_few one one_ready,
      objects_few two two_ready,
    )

-- ---- by the numbers of shared objects

module _ (pages : TwoPages) (one two : Side) (pairs : List (ℕ × ℕ)) (first second : List ℕ)
    (pairs_are : pairs ≡ pairs_of one two) (first_are : first ≡ map (λ (pair : ℕ × ℕ). pair.0) pairs)
    (second_are : second ≡ map (λ (pair : ℕ × ℕ). pair.1) pairs) where
  first_names_are : names_of first ≡ first_names one two
  first_names_are =
      ap names_of (first_are ∙ ap (map (λ (pair : ℕ × ℕ). pair.0)) pairs_are)

  second_names_are : names_of second ≡ second_names one two
  second_names_are =
      ap names_of (second_are ∙ ap (map (λ (pair : ℕ × ℕ). pair.1)) pairs_are)

  pub leading_named : (written : Written)
      → AreWritten (leading_segments pages (names_of first) (names_of second) one two) written
      → AreWritten (leading_segments pages (first_names one two) (second_names one two) one two) written
  leading_named written are =
      subst (λ (names : Names). AreWritten (leading_segments pages (first_names one two) names one two) written)
      second_names_are
      (subst (λ (names : Names). AreWritten (leading_segments pages names (names_of second) one two) written)
      first_names_are are)

  pub objects_named : (objects : List Paged)
      → objects ≡ in_order pages (names_of first) (names_of second) pairs one.objects two.objects
      → objects
      ≡ in_order pages (first_names one two) (second_names one two) (pairs_of one two) one.objects two.objects
  objects_named objects are =
      are ∙ (λ i. in_order pages (first_names_are i) (second_names_are i) (pairs_are i) one.objects two.objects)

-- ---- the objects and the ends

pub behind_more : (pages : TwoPages) (objects : List Paged) (old first second new : Written)
    → WritesMore objects old first → WritesMore (on pages.first end_of_set ∷ []) first second
    → WritesMore (on pages.second end_of_set ∷ []) second new → WritesMore (behind pages objects) old new
behind_more pages objects old first second new all one two =
    more_trans objects (on pages.first end_of_set ∷ on pages.second end_of_set ∷ []) old first new all
    (more_trans (on pages.first end_of_set ∷ []) (on pages.second end_of_set ∷ []) first second new one two)

-- segments that are written have as many bytes as are counted for them
pub sizes : (segments : List Paged) → All CanBeWritten segments
    → length (flat_map paged_bytes segments) ≡ segments_size segments
sizes [] fit = refl
sizes (one ∷ more) fit =
    length-append (paged_bytes one) (flat_map paged_bytes more)
    ∙ (λ i. written_size one.page one.value (All-head CanBeWritten one more fit) i
    + sizes more (All-tail CanBeWritten one more fit) i)
    ∙ ap (λ (n : ℕ). n + segments_size more) (behind_none (paged_length one))
    ∙ sym (sum_by-append paged_length (one ∷ []) more)
  where
    behind_none : (n : ℕ) → n ≡ 0 + n
    behind_none n = omega arith

whole_size : (pages : TwoPages) (objects so_far : List Paged) (old : Written) → AreWritten so_far old
    → length old.bytes.items + sum_by paged_length objects + 12 ≡ segments_size (so_far ++ behind pages objects)
whole_size pages objects so_far old are =
    let ends = on pages.first end_of_set ∷ on pages.second end_of_set ∷ [] in
    omega (
      arith,
      ap length are.bytes,
      sizes so_far are.fit,
      sum_by-append paged_length so_far (behind pages objects),
      sum_by-append paged_length objects ends,
    )

-- where all have room, each object has room
pub each_short : (old : List ℕ) (segments : List Paged) (size : ℕ)
    → size ≡ length old + sum_by paged_length segments + 12 → size ≤ UNIT_ROOM
    → All (λ segment. paged_length segment ≤ UNIT_ROOM) segments
each_short old segments size is short = λ i d inside.
    omega (arith, sum_by_more_le paged_length segments i d inside, is, short)

pub whole_short : (pages : TwoPages) (objects : List Paged) (size : ℕ) (old new : Written)
    → size ≡ length old.bytes.items + sum_by paged_length objects + 12 → size ≤ UNIT_ROOM
    → WritesMore (behind pages objects) old new → (so_far : List Paged) → AreWritten so_far old
    → length new.bytes.items ≤ UNIT_ROOM
whole_short pages objects size old new is short more so_far are =
    let written = more so_far are in
    omega (
      arith,
      ap length written.bytes,
      sizes (so_far ++ behind pages objects) written.fit,
      whole_size pages objects so_far old are,
      is,
      short,
    )

pub too_long : (pages : TwoPages) (objects : List Paged) (size told : ℕ) (old : Written)
    → size ≡ length old.bytes.items + sum_by paged_length objects + 12 → UNIT_ROOM < size
    → told ≡ size + OTHER_BYTES → (so_far : List Paged) → AreWritten so_far old
    → IsSetStop (so_far ++ behind pages objects) (TooLong told)
too_long pages objects size told old is long tells so_far are =
    let whole = whole_size pages objects so_far old are in
    (omega (arith, whole, is, long), omega (arith, whole, is, tells))

-- ---- all of them

pub whole_is : (pages : TwoPages) (one two : Side) (objects : List Paged)
    → objects ≡ in_order pages (first_names one two) (second_names one two) (pairs_of one two) one.objects two.objects
    → leading_segments pages (first_names one two) (second_names one two) one two ++ behind pages objects
    ≡ pair_segments pages one two
unfolding pair_segments
whole_is pages one two objects are =
    let h1 = map (on pages.first) (head_of (first_names one two) one) in
    let h2 = map (on pages.second) (head_of (second_names one two) two) in
    let c1 = map (on pages.first) (own_cluts one two) in
    let c2 = map (on pages.second) (own_cluts two one) in
    let c3 = map (on pages.shared) (shared_cluts one two) in
    let rest = behind pages objects in
    append_assoc h1 (h2 ++ (c1 ++ (c2 ++ c3))) rest
    ∙ ap (λ (l : List Paged). h1 ++ l) (append_assoc h2 (c1 ++ (c2 ++ c3)) rest
    ∙ ap (λ (l : List Paged). h2 ++ l) (append_assoc c1 (c2 ++ c3) rest
    ∙ ap (λ (l : List Paged). c1 ++ l) (append_assoc c2 c3 rest)))
    ∙ ap (λ (os : List Paged). h1 ++ (h2 ++ (c1 ++ (c2 ++ (c3 ++ behind pages os))))) are

module _ (pages : TwoPages) (one two : Side) (objects : List Paged) (old : Written)
    (are : objects
    ≡ in_order pages (first_names one two) (second_names one two) (pairs_of one two) one.objects two.objects)
    (leading : AreWritten (leading_segments pages (first_names one two) (second_names one two) one two) old) where
  pub pair_written : (new : Written) → WritesMore (behind pages objects) old new
      → AreWritten (pair_segments pages one two) new
  pair_written new more =
      subst (λ (all : List Paged). AreWritten all new) (whole_is pages one two objects are) (more _ leading)

  pub pair_short : (size : ℕ) → ((so_far : List Paged) → AreWritten so_far old → size ≤ UNIT_ROOM) → size ≤ UNIT_ROOM
  pair_short size short = short _ leading

  pub pair_stop : (stop : SetStop)
      → ((so_far : List Paged) → AreWritten so_far old → IsSetStop (so_far ++ behind pages objects) stop)
      → IsSetStop (pair_segments pages one two) stop
  pair_stop stop stops =
      subst (λ (all : List Paged). IsSetStop all stop) (whole_is pages one two objects are) (stops _ leading)
