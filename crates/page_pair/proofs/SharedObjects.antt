-- Objects that two pages share stand in the file order of both: of the objects that are sent in order, those that a
-- page keeps are its own, each with its own name.
use Rattle.std.proofs.Common.{◌≡◌, ◌≢◌, ◌∙◌, ℕ, ◌==◌, ◌&&◌, Bool, true, false, cond, List, [], ◌∷◌, ◌++◌, filter, Option, Some, None, refl, sym, ap, subst, append_assoc, append-nil, arith}
use Rattle.std.specs.List.{AllByRecursion, AllZip}
use Rattle.std.specs.Str.{bytes_eq}
use Rattle.std.proofs.lemmas.Bool.Decides.{nat_tests}
use Rattle.std.proofs.lemmas.List.Elements.{filter-append}
use Rattle.std.proofs.lemmas.Slice.Eq.{bytes_eq-Decides}
use Rattle.stream_syntax.specs.Segments.{Object, of_object}
use Rattle.shown_plan.specs.NamedSets.{Names}
use Rattle.page_pair.specs.PairSets.{Paged, on, CueObject, is_same_flag, is_same_object, first_and_rest, with_found, shared_objects, object_of, before_cue, behind_cue, at_cue, own, in_order}
use Rattle.page_pair.specs.declared.pages.TwoPages.{TwoPages}

-- ---- cues of their own

-- no object of the list is that of the cue
abbrev pub HasNo : ℕ → List CueObject → Type 0
HasNo cue objects = AllByRecursion (λ (object : CueObject). object.cue ≢ cue) objects

-- each object is of a cue of its own
abbrev pub AreApart : List CueObject → Type 0
AreApart [] = Unit {0}
AreApart (object ∷ objects) = HasNo object.cue objects × AreApart objects

-- the object of a cue, between those before it and those behind it
pub record HasOne (cue : ℕ) (objects : List CueObject) : Type 0 where
  pub before : List CueObject
  pub object : CueObject
  pub behind : List CueObject
  pub whole : objects ≡ before ++ object ∷ behind
  pub is : object.cue ≡ cue
  pub none_before : HasNo cue before
  pub none_behind : HasNo cue behind

apart_behind : (skipped : List CueObject) (object : CueObject) (two : List CueObject)
    → AreApart (skipped ++ object ∷ two) → HasNo object.cue skipped × HasNo object.cue two × AreApart two
apart_behind [] object two apart = (tt, apart.0, apart.1)
apart_behind (one ∷ skipped) object two apart =
    let more = apart_behind skipped object two apart.1 in
    ((here skipped apart.0, more.0), more.1, more.2)
  where
    here : (skipped : List CueObject) → HasNo one.cue (skipped ++ object ∷ two) → one.cue ≢ object.cue
    here [] other = λ e. other.0 (sym e)
    here (next ∷ skipped) other = here skipped other.1

-- ---- pairs

-- the object of the one cue is that of the other, but for its name
pub record IsPair (pair : ℕ × ℕ) (one two : List CueObject) : Type 0 where
  pub in_one : HasOne pair.0 one
  pub in_two : HasOne pair.1 two
  pub see_through : in_one.object.see_through ≡ in_two.object.see_through
  pub top : in_one.object.top ≡ in_two.object.top
  pub bottom : in_one.object.bottom ≡ in_two.object.bottom

-- pairs of two lists, each behind the one before it in both
abbrev pub ArePairs : List (ℕ × ℕ) → List CueObject → List CueObject → Type 0
ArePairs [] one two = Unit {0}
ArePairs (pair ∷ pairs) one two =
    (is : IsPair pair one two) × ArePairs pairs is.in_one.behind is.in_two.behind

-- what a search finds
record IsFound (test : CueObject → Bool) (objects : List CueObject) (found : ℕ × List CueObject) : Type 0 where
  has : HasOne found.0 objects
  behind : has.behind ≡ found.1
  passes : test has.object ≡ true
  apart : AreApart found.1

found_in : (test : CueObject → Bool) (objects : List CueObject) (found : ℕ × List CueObject)
    → first_and_rest test objects ≡ Some found → AreApart objects → IsFound test objects found
found_in test [] found e apart = absurd (cc)
found_in test (one ∷ objects) found e apart =
    by (test one) refl e (λ later. found_in test objects found later apart.1)
  where
    by : (b : Bool) → test one ≡ b → cond b (Some (one.cue, objects)) (first_and_rest test objects) ≡ Some found
        → (first_and_rest test objects ≡ Some found → IsFound test objects found)
        → IsFound test (one ∷ objects) found
    by true passes e later =
        let cue : one.cue ≡ found.0 = cc in
        let rest : objects ≡ found.1 = cc in
        record {
          has = record {
            before = [];
            object = one;
            behind = objects;
            whole = refl;
            is = cue;
            none_before = tt;
            none_behind = subst (λ (n : ℕ). HasNo n objects) cue apart.0;
          };
          behind = rest;
          passes = passes;
          apart = subst AreApart rest apart.1;
        }
    by false passes e later =
        let is = later e in
        record {
          has = record {
            before = one ∷ is.has.before;
            object = is.has.object;
            behind = is.has.behind;
            whole = ap (λ all. one ∷ all) is.has.whole;
            is = is.has.is;
            none_before = (other is.has, is.has.none_before);
            none_behind = is.has.none_behind;
          };
          behind = is.behind;
          passes = is.passes;
          apart = is.apart;
        }
      where
        among : (before : List CueObject) (object : CueObject) (behind : List CueObject)
            → HasNo one.cue (before ++ object ∷ behind) → object.cue ≢ one.cue
        among [] object behind other = other.0
        among (next ∷ before) object behind other = among before object behind other.1

        other : (has : HasOne found.0 objects) → one.cue ≢ found.0
        other has e =
            among has.before has.object has.behind
            (subst (HasNo one.cue) has.whole apart.0) (has.is ∙ sym e)

both_hold : (a b : Bool) → (a && b) ≡ true → (a ≡ true) × (b ≡ true)
both_hold true b e = (refl, e)
both_hold false b e = absurd (cc)

-- objects that are the same but for their numbers
same_object : (one two : CueObject) → is_same_object one two ≡ true
    → (one.see_through ≡ two.see_through) × (one.top ≡ two.top) × (one.bottom ≡ two.bottom)
same_object one two same =
    let flags = both_hold (is_same_flag one.see_through two.see_through)
    (bytes_eq one.top two.top && bytes_eq one.bottom two.bottom) same in
    let blocks = both_hold (bytes_eq one.top two.top) (bytes_eq one.bottom two.bottom) flags.1 in (
      same_flag one.see_through two.see_through flags.0,
      same_bytes one.top two.top blocks.0,
      same_bytes one.bottom two.bottom blocks.1,
    )
  where
    same_flag : (a b : Bool) → is_same_flag a b ≡ true → a ≡ b
    same_flag true true e = refl
    same_flag true false e = absurd (cc)
    same_flag false true e = absurd (cc)
    same_flag false false e = refl

    same_bytes : (a b : List ℕ) → bytes_eq a b ≡ true → a ≡ b
    same_bytes a b e = (bytes_eq-Decides a b).0 e

-- what is shared are pairs, wherever other objects of the second list stand before
pub shared_pairs : (one two skipped : List CueObject) → AreApart one → AreApart (skipped ++ two)
    → ArePairs (shared_objects one two) one (skipped ++ two)
shared_pairs one [] skipped apart others = tt
shared_pairs one (object ∷ two) skipped apart others =
    by (first_and_rest test one) refl (λ rest passed. shared_pairs rest two passed)
  where
    test : CueObject → Bool
    test other = is_same_object other object

    by : (found : Option (ℕ × List CueObject)) → first_and_rest test one ≡ found
        → ((rest passed : List CueObject) → AreApart rest → AreApart (passed ++ two)
        → ArePairs (shared_objects rest two) rest (passed ++ two))
        → ArePairs (with_found (λ rest. shared_objects rest two) one object.cue found) one (skipped ++ object ∷ two)
    by None e more =
        let joined = append_assoc skipped (object ∷ []) two in
        subst (ArePairs (shared_objects one two) one) joined
        (more one (skipped ++ object ∷ []) apart (subst AreApart (sym joined) others))
    by (Some found) e more =
        let is = found_in test one found e apart in
        let split = apart_behind skipped object two others in
        let same = same_object is.has.object object is.passes in (
          record {
            in_one = is.has;
            in_two = record {
              before = skipped;
              object = object;
              behind = two;
              whole = refl;
              is = refl;
              none_before = split.0;
              none_behind = split.1;
            };
            see_through = same.0;
            top = same.1;
            bottom = same.2;
          },
          subst (λ (rest : List CueObject). ArePairs (shared_objects found.1 two) rest two) (sym is.behind)
              (more found.1 [] is.apart split.2),
        )

-- ---- the parts of a list round the object of a cue

is_cue : (object : CueObject) (cue : ℕ) → object.cue ≡ cue → (object.cue == cue) ≡ true
is_cue object cue e = grind (arith, nat_tests)

is_other : (object : CueObject) (cue : ℕ) → object.cue ≢ cue → (object.cue == cue) ≡ false
is_other object cue other = grind (arith, nat_tests)

before_is : (cue : ℕ) (before : List CueObject) (object : CueObject) (behind : List CueObject) → HasNo cue before
    → object.cue ≡ cue → before_cue cue (before ++ object ∷ behind) ≡ before
before_is cue [] object behind other e =
    ap (λ b. cond b [] (object ∷ before_cue cue behind)) (is_cue object cue e)
before_is cue (one ∷ before) object behind other e =
    ap (λ b. cond b [] (one ∷ before_cue cue (before ++ object ∷ behind))) (is_other one cue other.0)
    ∙ ap (λ rest. one ∷ rest) (before_is cue before object behind other.1 e)

behind_is : (cue : ℕ) (before : List CueObject) (object : CueObject) (behind : List CueObject) → HasNo cue before
    → object.cue ≡ cue → behind_cue cue (before ++ object ∷ behind) ≡ behind
behind_is cue [] object behind other e =
    ap (λ b. cond b behind (behind_cue cue behind)) (is_cue object cue e)
behind_is cue (one ∷ before) object behind other e =
    ap (λ b. cond b (before ++ object ∷ behind) (behind_cue cue (before ++ object ∷ behind)))
    (is_other one cue other.0)
    ∙ behind_is cue before object behind other.1 e

at_is : (cue : ℕ) (before : List CueObject) (object : CueObject) (behind : List CueObject) → HasNo cue before
    → object.cue ≡ cue → at_cue cue (before ++ object ∷ behind) ≡ object ∷ []
at_is cue [] object behind other e =
    ap (λ b. cond b (object ∷ []) (at_cue cue behind)) (is_cue object cue e)
at_is cue (one ∷ before) object behind other e =
    ap (λ b. cond b (one ∷ []) (at_cue cue (before ++ object ∷ behind))) (is_other one cue other.0)
    ∙ at_is cue before object behind other.1 e

-- the parts of a pair, in the order in which they are sent
pair_in_order : (pages : TwoPages) (first second : Names) (pair : ℕ × ℕ) (pairs : List (ℕ × ℕ))
    (one two : List CueObject) (is : IsPair pair one two)
    → in_order pages first second (pair ∷ pairs) one two
    ≡ own pages.first first is.in_one.before
    ++ (own pages.second second is.in_two.before
    ++ (own pages.shared first (is.in_one.object ∷ [])
    ++ in_order pages first second pairs is.in_one.behind is.in_two.behind))
pair_in_order pages first second pair pairs one two is = λ i.
    own pages.first first (first_before i)
    ++ (own pages.second second (second_before i)
    ++ (own pages.shared first (first_at i)
    ++ in_order pages first second pairs (first_behind i) (second_behind i)))
  where
    a : HasOne pair.0 one
    a = is.in_one

    b : HasOne pair.1 two
    b = is.in_two

    first_before : before_cue pair.0 one ≡ a.before
    first_before = ap (before_cue pair.0) a.whole ∙ before_is pair.0 a.before a.object a.behind a.none_before a.is

    first_behind : behind_cue pair.0 one ≡ a.behind
    first_behind = ap (behind_cue pair.0) a.whole ∙ behind_is pair.0 a.before a.object a.behind a.none_before a.is

    first_at : at_cue pair.0 one ≡ a.object ∷ []
    first_at = ap (at_cue pair.0) a.whole ∙ at_is pair.0 a.before a.object a.behind a.none_before a.is

    second_before : before_cue pair.1 two ≡ b.before
    second_before = ap (before_cue pair.1) b.whole ∙ before_is pair.1 b.before b.object b.behind b.none_before b.is

    second_behind : behind_cue pair.1 two ≡ b.behind
    second_behind = ap (behind_cue pair.1) b.whole ∙ behind_is pair.1 b.before b.object b.behind b.none_before b.is

-- ---- what is kept

-- each object stands as a segment of these names
abbrev pub AreNamed : Names → List CueObject → List Paged → Type 0
AreNamed names objects sent =
    AllZip (λ (object : CueObject) (one : Paged). one.value ≡ object_of names object) objects sent

-- objects of the page are kept, or none is
abbrev pub Keeps : (Paged → Bool) → ℕ → Bool → Type 0
Keeps kept page b = (object : Object) → kept (on page (of_object object)) ≡ b

own_kept : (kept : Paged → Bool) (page : ℕ) (names : Names) (objects : List CueObject) → Keeps kept page true
    → AreNamed names objects (filter kept (own page names objects))
own_kept kept page names [] keeps = tt
own_kept kept page names (object ∷ objects) keeps =
    subst (λ (b : Bool). AreNamed names (object ∷ objects)
    (cond b (on page (object_of names object) ∷ filter kept (own page names objects))
    (filter kept (own page names objects)))) (sym (keeps _)) (refl, own_kept kept page names objects keeps)

own_left : (kept : Paged → Bool) (page : ℕ) (names : Names) (objects : List CueObject) → Keeps kept page false
    → filter kept (own page names objects) ≡ []
own_left kept page names [] leaves = refl
own_left kept page names (object ∷ objects) leaves =
    ap (λ (b : Bool). cond b (on page (object_of names object) ∷ filter kept (own page names objects))
    (filter kept (own page names objects))) (leaves _)
    ∙ own_left kept page names objects leaves

joined : (names : Names) (objects others : List CueObject) (sent more : List Paged) → AreNamed names objects sent
    → AreNamed names others more → AreNamed names (objects ++ others) (sent ++ more)
joined names [] others [] more h k = k
joined names [] others (one ∷ sent) more h k = absurd h
joined names (object ∷ objects) others [] more h k = absurd h
joined names (object ∷ objects) others (one ∷ sent) more h k = (h.0, joined names objects others sent more h.1 k)

-- what is kept of four parts
kept_parts : (kept : Paged → Bool) (a b c d : List Paged)
    → filter kept (a ++ (b ++ (c ++ d)))
    ≡ filter kept a ++ (filter kept b ++ (filter kept c ++ filter kept d))
kept_parts kept a b c d =
    filter-append kept a (b ++ (c ++ d))
    ∙ ap (λ rest. filter kept a ++ rest)
    (filter-append kept b (c ++ d) ∙ ap (λ rest. filter kept b ++ rest) (filter-append kept c d))

-- a receiver of the first page gets its own objects
pub first_objects : (kept : Paged → Bool) (pages : TwoPages) (first second : Names) (pairs : List (ℕ × ℕ))
    (one two : List CueObject) → Keeps kept pages.first true → Keeps kept pages.second false
    → Keeps kept pages.shared true → ArePairs pairs one two
    → AreNamed first one (filter kept (in_order pages first second pairs one two))
first_objects kept pages first second [] one two mine other both are =
    subst (AreNamed first one) (sym same) (own_kept kept pages.first first one mine)
  where
    same : filter kept (own pages.first first one ++ own pages.second second two)
        ≡ filter kept (own pages.first first one)
    same =
        filter-append kept (own pages.first first one) (own pages.second second two)
        ∙ ap (λ rest. filter kept (own pages.first first one) ++ rest)
        (own_left kept pages.second second two other)
        ∙ append-nil (filter kept (own pages.first first one))
first_objects kept pages first second (pair ∷ pairs) one two mine other both are =
    let is = are.0 in
    let front = own_kept kept pages.first first is.in_one.before mine in
    let here = own_kept kept pages.shared first (is.in_one.object ∷ []) both in
    let more =
    first_objects kept pages first second pairs is.in_one.behind is.in_two.behind mine other both are.1 in
    let sent =
    joined first is.in_one.before (is.in_one.object ∷ is.in_one.behind) _ _ front
    (joined first (is.in_one.object ∷ []) is.in_one.behind _ _ here more) in
    subst (λ (objects : List CueObject). AreNamed first objects
    (filter kept (in_order pages first second (pair ∷ pairs) one two))) (sym is.in_one.whole)
    (subst (AreNamed first (is.in_one.before ++ is.in_one.object ∷ is.in_one.behind))
    (sym (ap (filter kept) (pair_in_order pages first second pair pairs one two is)
    ∙ kept_parts kept (own pages.first first is.in_one.before) (own pages.second second is.in_two.before)
    (own pages.shared first (is.in_one.object ∷ []))
    (in_order pages first second pairs is.in_one.behind is.in_two.behind)
    ∙ ap (λ none. filter kept (own pages.first first is.in_one.before)
    ++ (none ++ (filter kept (own pages.shared first (is.in_one.object ∷ []))
    ++ filter kept (in_order pages first second pairs is.in_one.behind is.in_two.behind))))
    (own_left kept pages.second second is.in_two.before other))) sent)

-- the names of a pair are the same
abbrev pub HaveSameNames : Names → Names → List (ℕ × ℕ) → Type 0
HaveSameNames first second pairs = AllByRecursion (λ (pair : ℕ × ℕ). first pair.0 ≡ second pair.1) pairs

-- and one of the second page gets its own, the shared ones under names that both pages have
pub second_objects : (kept : Paged → Bool) (pages : TwoPages) (first second : Names) (pairs : List (ℕ × ℕ))
    (one two : List CueObject) → Keeps kept pages.first false → Keeps kept pages.second true
    → Keeps kept pages.shared true → ArePairs pairs one two → HaveSameNames first second pairs
    → AreNamed second two (filter kept (in_order pages first second pairs one two))
second_objects kept pages first second [] one two other mine both are same_names =
    subst (AreNamed second two) (sym same) (own_kept kept pages.second second two mine)
  where
    same : filter kept (own pages.first first one ++ own pages.second second two)
        ≡ filter kept (own pages.second second two)
    same =
        filter-append kept (own pages.first first one) (own pages.second second two)
        ∙ ap (λ rest. rest ++ filter kept (own pages.second second two))
        (own_left kept pages.first first one other)
second_objects kept pages first second (pair ∷ pairs) one two other mine both are same_names =
    let is = are.0 in
    let front = own_kept kept pages.second second is.in_two.before mine in
    let more =
    second_objects kept pages first second pairs is.in_one.behind is.in_two.behind other mine both are.1
    same_names.1 in
    let sent =
    joined second is.in_two.before (is.in_two.object ∷ is.in_two.behind) _ _ front
    (joined second (is.in_two.object ∷ []) is.in_two.behind _ _ (here is) more) in
    subst (λ (objects : List CueObject). AreNamed second objects
    (filter kept (in_order pages first second (pair ∷ pairs) one two))) (sym is.in_two.whole)
    (subst (AreNamed second (is.in_two.before ++ is.in_two.object ∷ is.in_two.behind))
    (sym (ap (filter kept) (pair_in_order pages first second pair pairs one two is)
    ∙ kept_parts kept (own pages.first first is.in_one.before) (own pages.second second is.in_two.before)
    (own pages.shared first (is.in_one.object ∷ []))
    (in_order pages first second pairs is.in_one.behind is.in_two.behind)
    ∙ ap (λ none. none ++ (filter kept (own pages.second second is.in_two.before)
    ++ (filter kept (own pages.shared first (is.in_one.object ∷ []))
    ++ filter kept (in_order pages first second pairs is.in_one.behind is.in_two.behind))))
    (own_left kept pages.first first is.in_one.before other))) sent)
  where
    value : (is : IsPair pair one two) → object_of first is.in_one.object ≡ object_of second is.in_two.object
    value is = λ i. of_object (record {
      object = (ap first is.in_one.is ∙ same_names.0 ∙ ap second (sym is.in_two.is)) i;
      version = 0;
      see_through = is.see_through i;
      top = is.top i;
      bottom = is.bottom i;
    })

    here : (is : IsPair pair one two)
        → AreNamed second (is.in_two.object ∷ [])
        (filter kept (own pages.shared first (is.in_one.object ∷ [])))
    here is =
        subst (λ (b : Bool). AreNamed second (is.in_two.object ∷ [])
        (cond b (on pages.shared (object_of first is.in_one.object) ∷ []) [])) (sym (both _)) (value is, tt)
