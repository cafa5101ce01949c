-- What is shared of the objects of two languages, one object after another, and what numbers shared objects have.
use Rattle.std.proofs.Common.{◌≡◌, ◌∙◌, ◌+◌, ◌<◌, ◌≤◌, ℕ, zero, suc, eqb, Bool, true, false, cond, List, [], ◌∷◌, ◌++◌, length, length-append, get_or, drop, Option, Some, None, append-nil, append_assoc, refl, sym, ap, subst, arith}
use Rattle.std.proofs.lemmas.List.{drop_more, drop_all}
use Rattle.std.specs.Prelude.{unwrap_or}
use Rattle.std.specs.Option.{option_map}
use Rattle.slot_stream.specs.SlotStream.{place_from}
use Rattle.page_pair.specs.PairSets.{CueObject, first_and_rest, is_same_object, names_of, shared_objects, with_found}
use Rattle.page_pair.specs.Private.Objects.{Shares, WasFound}

-- the items from a place on, by the item there
pub drop_at : {X : Type 0} (xs : List X) (n : ℕ) (x : X) → n < length xs → x ≡ get_or xs n x
    → drop n xs ≡ x ∷ drop (n + 1) xs
drop_at xs n x inside is = drop_more xs n x inside ∙ ap (λ y. y ∷ drop (n + 1) xs) (sym is)

-- an item that is there is the same by any default
pub same_item : {X : Type 0} (xs : List X) (n : ℕ) (d x : X) → n < length xs → get_or xs n d ≡ get_or xs n x
same_item [] n d x inside = absurd (omega arith)
same_item (y ∷ xs) zero d x inside = refl
same_item (y ∷ xs) (suc n) d x inside = same_item xs n d x (omega arith)

-- ---- the first that passes a test

module _ (test : CueObject → Bool) (xs : List CueObject) (n : ℕ) where
  pub found_here : (x : CueObject) → n < length xs → x ≡ get_or xs n x
      → first_and_rest test xs ≡ first_and_rest test (drop n xs) → test x ≡ true → WasFound test xs (Some n)
  found_here x inside is so_far passes = (
    inside,
    λ d. so_far ∙ ap (first_and_rest test) (drop_more xs n d inside)
        ∙ ap (λ b. cond b (Some ((get_or xs n d).cue, drop (n + 1) xs)) (first_and_rest test (drop (n + 1) xs)))
        (ap test (drop_head d) ∙ passes),
  )
    where
      drop_head : (d : CueObject) → get_or xs n d ≡ x
      drop_head d = same_item xs n d x inside ∙ sym is

  pub found_next : (x : CueObject) → n < length xs → x ≡ get_or xs n x
      → first_and_rest test xs ≡ first_and_rest test (drop n xs) → test x ≡ false
      → first_and_rest test xs ≡ first_and_rest test (drop (n + 1) xs)
  found_next x inside is so_far fails =
      so_far ∙ ap (first_and_rest test) (drop_at xs n x inside is)
      ∙ ap (λ b. cond b (Some (x.cue, drop (n + 1) xs)) (first_and_rest test (drop (n + 1) xs))) fails

  pub found_none : length xs ≤ n → first_and_rest test xs ≡ first_and_rest test (drop n xs)
      → first_and_rest test xs ≡ None
  found_none all so_far = so_far ∙ ap (first_and_rest test) (drop_all n xs all)

-- ---- one object after another

pub shares_none : (object : CueObject) (others : List CueObject) (old : List (ℕ × ℕ))
    → first_and_rest (λ other. is_same_object other object) others ≡ None → Shares object others old old others
shares_none object others old none = record {
  more = [];
  few = omega arith;
  pushed = sym (append-nil old);
  goes_on = λ two. ap (with_found (λ left. shared_objects left two) others object.cue) none;
}

pub shares_one : (object : CueObject) (others left : List CueObject) (old new : List (ℕ × ℕ)) (cue : ℕ)
    → first_and_rest (λ other. is_same_object other object) others ≡ Some (cue, left)
    → new ≡ old ++ (cue, object.cue) ∷ [] → Shares object others old new left
shares_one object others left old new cue some pushed = record {
  more = (cue, object.cue) ∷ [];
  few = omega arith;
  pushed = pushed;
  goes_on = λ two. ap (with_found (λ rest. shared_objects rest two) others object.cue) some;
}

-- the items behind a place of those from a place on
pub drop_behind : {X : Type 0} (xs : List X) (from at : ℕ) → drop at (drop from xs) ≡ drop (from + at) xs
drop_behind xs zero at =
    let same : at ≡ 0 + at = omega arith in
    ap (λ (n : ℕ). drop n xs) same
drop_behind [] (suc from) at = drop_all at [] (omega arith) ∙ sym (drop_all (suc from + at) [] (omega arith))
drop_behind (x ∷ xs) (suc from) at =
    let same : suc (from + at) ≡ suc from + at = omega arith in
    drop_behind xs from at ∙ ap (λ (n : ℕ). drop n (x ∷ xs)) same

-- the first equal one was found, and the pair was pushed
pub shares_pushed : (object : CueObject) (objects rest : List CueObject) (old new : List (ℕ × ℕ)) (from at : ℕ)
    (x : CueObject) (cue own : ℕ) → rest ≡ drop from objects
    → WasFound (λ other. is_same_object other object) rest (Some at) → x ≡ get_or rest at x → cue ≡ x.cue
    → own ≡ object.cue → new ≡ old ++ (cue, own) ∷ []
    → Shares object (drop from objects) old new (drop (from + at + 1) objects)
shares_pushed object objects rest old new from at x cue own is_rest found is_x cue_is own_is pushed =
    let some : first_and_rest (λ other. is_same_object other object) rest ≡ Some (x.cue, drop (at + 1) rest) =
    found.1 x ∙ ap (λ (y : CueObject). Some (y.cue, drop (at + 1) rest)) (sym is_x) in
    let one : Shares object rest old new (drop (at + 1) rest) =
    shares_one object rest (drop (at + 1) rest) old new x.cue some
    (pushed ∙ (λ i. old ++ (cue_is i, own_is i) ∷ [])) in
    let there : Shares object (drop from objects) old new (drop (at + 1) (drop from objects)) =
    subst (λ (r : List CueObject). Shares object r old new (drop (at + 1) r)) is_rest one in
    let place : from + (at + 1) ≡ from + at + 1 = omega arith in
    subst (Shares object (drop from objects) old new)
    (drop_behind objects from (at + 1) ∙ ap (λ (n : ℕ). drop n objects) place) there

pub shared_step : (one two rest left : List CueObject) (pairs new : List (ℕ × ℕ)) (i : ℕ) (object : CueObject)
    → i < length two → object ≡ get_or two i object
    → shared_objects one two ≡ pairs ++ shared_objects rest (drop i two)
    → Shares object rest pairs new left
    → shared_objects one two ≡ new ++ shared_objects left (drop (i + 1) two)
shared_step one two rest left pairs new i object inside is so_far s =
    let behind = drop (i + 1) two in
    so_far ∙ ap (λ (more : List CueObject). pairs ++ shared_objects rest more) (drop_at two i object inside is)
    ∙ ap (λ (more : List (ℕ × ℕ)). pairs ++ more) (s.goes_on behind)
    ∙ sym (append_assoc pairs s.more (shared_objects left behind))
    ∙ ap (λ (all : List (ℕ × ℕ)). all ++ shared_objects left behind) (sym s.pushed)

pub shared_few : (object : CueObject) (others left : List CueObject) (old new : List (ℕ × ℕ)) (i : ℕ)
    → Shares object others old new left → length old ≤ i → length new ≤ i + 1
shared_few object others left old new i s few =
    omega (arith, ap length s.pushed, length-append old s.more, s.few)

pub shared_all : (one two rest : List CueObject) (pairs : List (ℕ × ℕ)) (i : ℕ) → length two ≤ i
    → shared_objects one two ≡ pairs ++ shared_objects rest (drop i two) → pairs ≡ shared_objects one two
shared_all one two rest pairs i all so_far =
    sym (so_far ∙ ap (λ (more : List CueObject). pairs ++ shared_objects rest more) (drop_all i two all)
    ∙ append-nil pairs)

-- ---- numbers

module _ (shared : List ℕ) (cue n : ℕ) (so_far : place_from 0 cue shared ≡ place_from n cue (drop n shared)) where
  pub number_here : (x : ℕ) → n < length shared → x ≡ get_or shared n x → eqb x cue ≡ true
      → names_of shared cue ≡ 32768 + n
  number_here x inside is same =
      ap (λ (o : Option ℕ). unwrap_or (option_map (λ k. 32768 + k) o) cue)
      (so_far ∙ ap (place_from n cue) (drop_at shared n x inside is)
      ∙ ap (λ b. cond b (Some n) (place_from (n + 1) cue (drop (n + 1) shared))) same)

  pub number_next : (x : ℕ) → n < length shared → x ≡ get_or shared n x → eqb x cue ≡ false
      → place_from 0 cue shared ≡ place_from (n + 1) cue (drop (n + 1) shared)
  number_next x inside is other =
      so_far ∙ ap (place_from n cue) (drop_at shared n x inside is)
      ∙ ap (λ b. cond b (Some n) (place_from (n + 1) cue (drop (n + 1) shared))) other

  pub number_own : length shared ≤ n → names_of shared cue ≡ cue
  number_own all =
      ap (λ (o : Option ℕ). unwrap_or (option_map (λ k. 32768 + k) o) cue)
      (so_far ∙ ap (place_from n cue) (drop_all n shared all))

-- a number fits 16 bits
small_from : (k place : ℕ) (shared : List ℕ) → k + length shared ≤ 4096 → place < 65536
    → unwrap_or (option_map (λ n. 32768 + n) (place_from k place shared)) place < 65536
small_from k place [] few own = own
small_from k place (x ∷ shared) few own =
    by (eqb x place) (small_from (k + 1) place shared (omega (arith, few)) own)
  where
    by : (b : Bool)
        → unwrap_or (option_map (λ n. 32768 + n) (place_from (k + 1) place shared)) place < 65536
        → unwrap_or (option_map (λ n. 32768 + n) (cond b (Some k) (place_from (k + 1) place shared))) place < 65536
    by true rest = omega (arith, few)
    by false rest = rest

pub number_small : (shared : List ℕ) (place : ℕ) → length shared ≤ 4096 → place < 65536
    → names_of shared place < 65536
number_small shared place few own = small_from 0 place shared (omega (arith, few)) own
