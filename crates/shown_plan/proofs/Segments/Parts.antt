-- Where the segment of a region, or of a CLUT, stands in a set: all others of its kind are of other ids.
use Rattle.std.proofs.Common.{◌≡◌, ◌≢◌, ◌∙◌, ℕ, suc, ◌==◌, ◌<◌, ◌≤◌, Bool, true, false, not, cond, List, [], ◌∷◌, ◌++◌, length, get_or, refl, sym, ap, arith}
use Rattle.std.specs.Prelude.{All}
use Rattle.std.specs.List.{AllPairs, Contains, count_by, flat_map}
use Rattle.std.proofs.lemmas.Bool.Decides.{nat_tests}
use Rattle.std.proofs.lemmas.List.Concat.{flat_map-append}
use Rattle.std.proofs.lemmas.List.Elements.{All-head, All-tail, All-cons, All-append}
use Rattle.std.proofs.lemmas.List.Sorted.{sum_by-IsPermutation, Contains-permutation}
use Rattle.cue_list.specs.declared.epoch.Cue.{Cue}
use Rattle.cue_records.specs.declared.region.Region.{Region}
use Rattle.page_epoch.proofs.CountLaws.{count_cons, count_append}
use Rattle.page_epoch.proofs.ListLaws.{All-none, All-one}
use Rattle.page_epoch.specs.SentRegions.{is_redrawn, is_extended, region_version, live_before, filled, extended, region_from, sent_region, AreSentRegions}
use Rattle.page_epoch.specs.Live.{live_places}
use Rattle.page_epoch.specs.declared.planned_set.SentRegion.{SentRegion}
use Rattle.decoder_model.proofs.NoFaults.{stands_in}

-- ---- one item of its kind

-- none of the items passes
pub none_counted : {X : Type 0} (p : X → Bool) (xs : List X) → count_by p xs ≡ 0 → All (λ x. p x ≡ false) xs
none_counted p [] none = All-none _
none_counted {X} p (x ∷ xs) none = by (p x) refl (none_counted p xs)
  where
    by : (b : Bool) → p x ≡ b → (count_by p xs ≡ 0 → All (λ x. p x ≡ false) xs)
        → All (λ x. p x ≡ false) (x ∷ xs)
    by true e again = absurd (omega (arith, none, count_cons p x xs, ap (λ b. cond {A = ℕ} b 1 0) e))
    by false e again =
        All-cons (λ x. p x ≡ false) x xs e
        (again (omega (arith, none, count_cons p x xs, ap (λ b. cond {A = ℕ} b 1 0) e)))

-- items of which no two pass are counted at most once
pub once_counted : {X : Type 0} (p : X → Bool) (xs : List X)
    → AllPairs (λ (a b : X). p a ≡ true → p b ≡ true → ⊥) xs → count_by p xs ≤ 1
once_counted p [] apart = omega arith
once_counted {X} p (x ∷ xs) apart =
    by (p x) refl (once_counted p xs (λ i j d before within. apart (suc i) (suc j) d (omega arith) (omega arith)))
  where
    none : p x ≡ true → (k : ℕ) (d : X) (b : Bool) → k < length xs → p (get_or xs k d) ≡ b
        → p (get_or xs k d) ≡ false
    none e k d true within is = absurd (apart 0 (suc k) d (omega arith) (omega arith) e is)
    none e k d false within is = is

    count_none : (ys : List X) → All (λ x. p x ≡ false) ys → count_by p ys ≡ 0
    count_none [] none = refl
    count_none (y ∷ ys) none =
        omega (
          arith,
          count_cons p y ys,
          ap (λ b. cond {A = ℕ} b 1 0)
              (All-head (λ x. p x ≡ false) y ys none),
          count_none ys (All-tail (λ x. p x ≡ false) y ys none),
        )

    by : (b : Bool) → p x ≡ b → count_by p xs ≤ 1 → count_by p (x ∷ xs) ≤ 1
    by false e again = omega (arith, again, count_cons p x xs, ap (λ b. cond {A = ℕ} b 1 0) e)
    by true e again =
        omega (
          arith,
          count_cons p x xs,
          ap (λ b. cond {A = ℕ} b 1 0) e,
          count_none xs
              (λ k d within. none e k d (p (get_or xs k d)) within refl),
        )

-- a list with one item that passes: what is before it and behind it does not
pub record IsParted {X : Type 0} (p : X → Bool) (x : X) (xs : List X) : Type 0 where
  pub front : List X
  pub back : List X
  pub whole : xs ≡ front ++ x ∷ back
  pub before : All (λ y. p y ≡ false) front
  pub behind : All (λ y. p y ≡ false) back

pub parted : {X : Type 0} (p : X → Bool) (x : X) (xs : List X) → count_by p xs ≤ 1 → p x ≡ true
    → Contains xs x → IsParted p x xs
parted {X} p x xs once is there =
    let place = stands_in x xs there in
    let count = ap (count_by p) place.2 ∙ count_append p place.0 (x ∷ place.1) in
    let here = count_cons p x place.1 in
    let one : cond {A = ℕ} (p x) 1 0 ≡ 1 = ap (λ b. cond {A = ℕ} b 1 0) is in
    record {
      front = place.0;
      back = place.1;
      whole = place.2;
      before = none_counted p place.0 (omega (arith, once, count, here, one));
      behind = none_counted p place.1 (omega (arith, once, count, here, one));
    }

-- ---- regions

-- the segments of a region in a set, of those of all regions
pub record HasPart {X : Type 0} (number : X → ℕ) (id : ℕ) (own all : List X) : Type 0 where
  pub front : List X
  pub back : List X
  pub whole : all ≡ front ++ (own ++ back)
  pub before : All (λ one. number one ≢ id) front
  pub behind : All (λ one. number one ≢ id) back

-- what a set sends of a region has the region's id
from_own : (id version : ℕ) (whole : Bool) (old new : List ℕ)
    → All (λ (sent : SentRegion). sent.id ≡ id) (region_from id version whole old new)
from_own id version true old new = All-one (λ (sent : SentRegion). sent.id ≡ id) (filled id version new) refl
from_own id version false old new = by (is_redrawn old new) (is_extended old new)
  where
    by : (b c : Bool)
        → All (λ (sent : SentRegion). sent.id ≡ id)
        (cond (not b) [] (cond c (extended id version old new ∷ []) (filled id version new ∷ [])))
    by false c = All-none _
    by true true = All-one (λ (sent : SentRegion). sent.id ≡ id) (extended id version old new) refl
    by true false = All-one (λ (sent : SentRegion). sent.id ≡ id) (filled id version new) refl

pub sent_own : (cues : List Cue) (whole : Bool) (seen : List ℕ) (id : ℕ)
    → All (λ (sent : SentRegion). sent.id ≡ id) (sent_region cues whole seen id)
sent_own cues whole [] id = All-none _
sent_own cues whole (tick ∷ earlier) id =
    from_own id (region_version cues id (tick ∷ earlier)) whole (live_before cues id earlier)
    (live_places cues id tick)

pub others_sent : {X Y : Type 0} (number : Y → ℕ) (key : X → ℕ) (send : X → List Y) (id : ℕ)
    (xs : List X) → ((x : X) → All (λ y. number y ≡ key x) (send x)) → All (λ x. (key x == id) ≡ false) xs
    → All (λ y. number y ≢ id) (flat_map send xs)
others_sent number key send id [] own other = All-none _
others_sent {X} {Y} number key send id (x ∷ xs) own other =
    All-append (λ y. number y ≢ id) (send x) (flat_map send xs)
    (λ k d within
    e. (let mine : number (get_or (send x) k d) ≡ key x = own x k d within in let not_here : (key x == id)
    ≡ false = All-head (λ x. (key x == id) ≡ false) x xs other in let here : key x ≡ id = sym mine
    ∙ e in absurd (grind (arith, nat_tests))))
    (others_sent number key send id xs own (All-tail (λ x. (key x == id) ≡ false) x xs other))

-- what a list of things sends, of which one has an id
pub part_of : {X Y : Type 0} (number : Y → ℕ) (key : X → ℕ) (send : X → List Y) (x : X) (xs : List X)
    → ((x : X) → All (λ y. number y ≡ key x) (send x))
    → IsParted (λ y. key y == key x) x xs → HasPart number (key x) (send x) (flat_map send xs)
part_of number key send x xs own p =
    record {
      front = flat_map send p.front;
      back = flat_map send p.back;
      whole = ap (flat_map send) p.whole ∙ flat_map-append send p.front (x ∷ p.back);
      before = others_sent number key send (key x) p.front own p.before;
      behind = others_sent number key send (key x) p.back own p.behind;
    }

-- regions of an epoch have different ids
abbrev pub HaveOwnIds : List Region → Type 0
HaveOwnIds regions = AllPairs (λ (first second : Region). first.id ≢ second.id) regions

pub region_part : (cues : List Cue) (regions : List Region) (whole : Bool) (seen : List ℕ) (sent : List SentRegion)
    (region : Region) → HaveOwnIds regions → AreSentRegions cues regions whole seen sent
    → Contains regions region
    → HasPart (λ (sent : SentRegion). sent.id) region.id (sent_region cues whole seen region.id) sent
region_part cues regions whole seen sent region apart are there =
    let once : count_by (λ (other : Region). other.id == region.id) regions ≤ 1 =
    once_counted (λ (other : Region). other.id == region.id) regions
    (λ i j d before within a b. (let differ = apart i j d before within in absurd (grind (arith, nat_tests)))) in
    let moved : count_by (λ (other : Region). other.id == region.id) are.by_id ≤ 1 =
    omega (
      arith,
      once,
      sum_by-IsPermutation (λ (other : Region). cond {A = ℕ} (other.id == region.id) 1 0) regions
          are.by_id are.ordered.same,
    ) in
    let itself : (region.id == region.id) ≡ true = grind (arith, nat_tests) in
    let place =
    parted (λ (other : Region). other.id == region.id) region are.by_id moved itself
    (Contains-permutation regions are.by_id region are.ordered.same there) in
    let part =
    part_of (λ (sent : SentRegion). sent.id) (λ (region : Region). region.id)
    (λ (region : Region). sent_region cues whole seen region.id) region are.by_id
    (λ (region : Region). sent_own cues whole seen region.id) place in
    record {
      front = part.front;
      back = part.back;
      whole = are.is
          ∙ part.whole;
      before = part.before;
      behind = part.behind;
    }
