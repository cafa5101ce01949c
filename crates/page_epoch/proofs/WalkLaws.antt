-- The walk over a CLUT's rows in order of their ticks finds what counts from each tick on.
use Rattle.std.proofs.Common.{◌≡◌, ◌∙◌, ℕ, ◌+◌, ◌-◌, ◌==◌, ◌<◌, ◌≤◌, nat_le, nat_lt, Bool, true, false, not, ◌&&◌, cond, List, [], ◌∷◌, ◌++◌, map, filter, take, drop, set, length, get_or, All, Option, None, Some, Less, Equal, Greater, refl, sym, ap, subst, arith}
use Rattle.std.specs.List.{flat_map, AllWithin}
use Rattle.std.specs.List.Sorted.{IsNonDecreasingBy, IsPartitionPoint, IsStrictlyIncreasing, IsStableByKey, ties}
use Rattle.std.specs.Ordering.{is_lt, nat_cmp}
use Rattle.std.specs.Option.{option_to_list}
use Rattle.std.proofs.lemmas.Bool.Decides.{nat_tests}
use Rattle.std.proofs.lemmas.List.FromFn.{get_or-map-range_with_len}
use Rattle.std.proofs.lemmas.List.{get_or_append_left, get_or-append_right, append-nil, length-map, length-take, length-drop, get_or-map, get_or-take, get_or-drop, get_or_default, get_or-set_same, get_or-set_other, take_more, map-append, take-append-drop, ext_get_or}
use Rattle.std.proofs.lemmas.List.Elements.{All-head, All-tail, All-cons, All-weaker, All-filter, filter-append, filter_more, filter_agree}
use Rattle.std.proofs.lemmas.Bool.{eq-eqb}
use Rattle.sub_base.specs.declared.depth.Depth.TheVariants.{Two, Four, Eight}
use Rattle.sub_base.specs.declared.depth.Depth.{Depth}
use Rattle.sub_base.specs.Depth.{bits_of, code_count}
use Rattle.cue_records.specs.declared.row_values.ColourRow.{ColourRow}
use Rattle.page_epoch.specs.declared.clut_rows.Entry.{Entry}
use Rattle.page_epoch.specs.declared.clut_changes.Change.{Change}
use Rattle.page_epoch.specs.SentCluts.{row_at, entries_at, all_entries, rows_of_clut, rows_of_entry, is_of_entry, later_place, latest_place, by_tick, defined_rows}
use Rattle.page_epoch.specs.Private.Changes.{AreInOrder, first_of, current_of, change_at}
use Rattle.page_epoch.proofs.ListLaws.{All-none, filter_none, flat_map_mapped}
use Rattle.page_epoch.proofs.InstantLaws.{in_order}
use Rattle.page_epoch.proofs.RowLaws.{latest_in, entry_of, length-entries_at, length-all_entries}

-- the tick of the row at a place
abbrev tick_at : List ColourRow → ℕ → ℕ
tick_at colours place = (row_at colours place).tick

le_test : (a b : ℕ) → a ≤ b → nat_le a b ≡ true
le_test a b h = grind (arith, nat_tests)

-- ---- the latest row of a list

-- no row has a later tick, and it is the last of its tick
record IsLatest (colours : List ColourRow) (xs : List ℕ) (m : ℕ) : Type 0 where
  top : All (λ place. tick_at colours place ≤ tick_at colours m) xs
  among : latest_place colours (filter (λ place. tick_at colours place == tick_at colours m) xs) ≡ Some m

abbrev IsFound : List ColourRow → List ℕ → Option ℕ → Type 0
IsFound colours xs None = xs ≡ []
IsFound colours xs (Some m) = IsLatest colours xs m

latest_one : (colours : List ColourRow) (x : ℕ) (xs : List ℕ)
    → filter (λ place. tick_at colours place == tick_at colours x) xs ≡ [] →
    latest_place colours (filter (λ place. tick_at colours place == tick_at colours x) (x ∷ xs)) ≡ Some x
unfolding latest_place
latest_one colours x xs none =
    let kept = filter (λ place. tick_at colours place == tick_at colours x) xs in
    ap (λ b. latest_place colours (cond b (x ∷ kept) kept)) (eq-eqb (tick_at colours x) (tick_at colours x) refl)
    ∙ ap (λ (ys : List ℕ). latest_place colours (x ∷ ys)) none

latest_kept : (colours : List ColourRow) (c : Bool) (x q : ℕ) (kept : List ℕ)
    → nat_le (tick_at colours x) (tick_at colours q) ≡ true → latest_place colours kept ≡ Some q
    → latest_place colours (cond c (x ∷ kept) kept) ≡ Some q
unfolding latest_place
latest_kept colours true x q kept t e =
    ap (λ found. Some (later_place colours x found)) e ∙ ap (λ b. Some (cond b q x)) t
latest_kept colours false x q kept t e = e

latest_either : (colours : List ColourRow) (b : Bool) (x q : ℕ) (xs : List ℕ)
    → nat_le (tick_at colours x) (tick_at colours q) ≡ b → IsLatest colours xs q
    → IsLatest colours (x ∷ xs) (cond b q x)
latest_either colours true x q xs t is = record {
  top = All-cons (λ place. tick_at colours place ≤ tick_at colours q) x xs (grind (arith, nat_tests)) is.top;
  among =
      latest_kept colours (tick_at colours x == tick_at colours q) x q
      (filter (λ place. tick_at colours place == tick_at colours q) xs) t is.among;
}
latest_either colours false x q xs t is =
    let late : tick_at colours q < tick_at colours x = grind (arith, nat_tests) in
    record {
      top = All-cons (λ place. tick_at colours place ≤ tick_at colours x) x xs (omega arith)
          (All-weaker (λ place. tick_at colours place ≤ tick_at colours q)
          (λ place. tick_at colours place ≤ tick_at colours x) (λ place h. omega arith) xs is.top);
      among = latest_one colours x xs (filter_none (λ place. tick_at colours place == tick_at colours x) xs
          (All-weaker (λ place. tick_at colours place ≤ tick_at colours q)
          (λ place. (tick_at colours place == tick_at colours x) ≡ false) (λ place h. grind (arith, nat_tests))
          xs is.top));
    }

latest_cons : (colours : List ColourRow) (x : ℕ) (xs : List ℕ) (found : Option ℕ) → IsFound colours xs found
    → IsLatest colours (x ∷ xs) (later_place colours x found)
latest_cons colours x xs None none = record {
  top =
      All-cons (λ place. tick_at colours place ≤ tick_at colours x) x xs (omega arith)
      (subst (λ (ys : List ℕ). All (λ place. tick_at colours place ≤ tick_at colours x) ys) (sym none)
      (All-none (λ place. tick_at colours place ≤ tick_at colours x)));
  among = latest_one colours x xs (ap (filter (λ place. tick_at colours place == tick_at colours x)) none);
}
latest_cons colours x xs (Some q) is =
    latest_either colours (nat_le (tick_at colours x) (tick_at colours q)) x q xs refl is

latest_found : (colours : List ColourRow) (xs : List ℕ) → IsFound colours xs (latest_place colours xs)
unfolding latest_place
latest_found colours [] = refl
latest_found colours (x ∷ xs) = latest_cons colours x xs (latest_place colours xs) (latest_found colours xs)

-- what holds of all rows holds of the latest one
found_in : (P : ℕ → Type 0) (colours : List ColourRow) (xs : List ℕ) (m : ℕ)
    → latest_place colours xs ≡ Some m → All P xs → P m
found_in P colours xs m e all =
    All-head P m [] (subst (λ (found : Option ℕ). All P (option_to_list found)) e (latest_in P colours xs all))

-- of each tick the same rows, in the same order
abbrev AreSame : List ColourRow → List ℕ → List ℕ → Type 0
AreSame colours xs ys = (other : ℕ)
    → filter (λ place. tick_at colours place == tick_at colours other) xs
    ≡ filter (λ place. tick_at colours place == tick_at colours other) ys

among_other : (colours : List ColourRow) (xs ys : List ℕ) (m : ℕ) → AreSame colours xs ys
    → IsLatest colours xs m
    → latest_place colours (filter (λ place. tick_at colours place == tick_at colours m) ys) ≡ Some m
among_other colours xs ys m same is = ap (latest_place colours) (sym (same m)) ∙ is.among

none_other : (colours : List ColourRow) (xs ys : List ℕ) (m : ℕ) → AreSame colours xs ys
    → IsLatest colours xs m → ys ≡ [] → ⊥
none_other colours xs ys m same is none =
    found_in (λ _. ⊥) colours (filter (λ place. tick_at colours place == tick_at colours m) ys) m
    (among_other colours xs ys m same is)
    (subst (λ (zs : List ℕ). All (λ _. ⊥) (filter (λ place. tick_at colours place == tick_at colours m) zs))
    (sym none) (All-none (λ _. ⊥)))

no_later : (colours : List ColourRow) (xs ys : List ℕ) (m n : ℕ) → AreSame colours xs ys
    → IsLatest colours xs m → IsLatest colours ys n → tick_at colours m ≤ tick_at colours n
no_later colours xs ys m n same is other =
    found_in (λ place. tick_at colours place ≤ tick_at colours n) colours
    (filter (λ place. tick_at colours place == tick_at colours m) ys) m (among_other colours xs ys m same is)
    (All-filter (λ place. tick_at colours place == tick_at colours m)
    (λ place. tick_at colours place ≤ tick_at colours n) ys other.top)

same_found : (colours : List ColourRow) (xs ys : List ℕ) (found other : Option ℕ) → AreSame colours xs ys
    → IsFound colours xs found → IsFound colours ys other → found ≡ other
same_found colours xs ys None None same is is' = refl
same_found colours xs ys None (Some n) same is is' =
    absurd (none_other colours ys xs n (λ other. sym (same other)) is' is)
same_found colours xs ys (Some m) None same is is' = absurd (none_other colours xs ys m same is is')
same_found colours xs ys (Some m) (Some n) same is is' =
    let low = no_later colours xs ys m n same is is' in
    let high = no_later colours ys xs n m (λ other. sym (same other)) is' is in
    let at : tick_at colours m ≡ tick_at colours n = omega arith in
    sym (among_other colours xs ys m same is)
    ∙ ap (λ (tick : ℕ). latest_place colours (filter (λ place. tick_at colours place == tick) ys)) at
    ∙ is'.among

latest_same : (colours : List ColourRow) (xs ys : List ℕ) → AreSame colours xs ys
    → latest_place colours xs ≡ latest_place colours ys
latest_same colours xs ys same =
    same_found colours xs ys (latest_place colours xs) (latest_place colours ys) same (latest_found colours xs)
    (latest_found colours ys)

-- ---- one row more

pub none_more : (entries : List Entry) (i : ℕ) (now next : List (Option ℕ)) → i < length entries
    → now ≡ map (λ _. None) (take i entries) → next ≡ now ++ None ∷ []
    → next ≡ map (λ _. None) (take (i + 1) entries)
none_more entries i now next h e push =
    let first : Entry = record { depth = Two; number = 0 } in
    let none = λ (entry : Entry). let found : Option ℕ = None in found in
    push ∙ ap (λ (xs : List (Option ℕ)). xs ++ None ∷ []) e
    ∙ sym (ap (map none) (take_more entries i first h)
    ∙ map-append none (take i entries) (get_or entries i first ∷ []))

latest_push : (colours : List ColourRow) (xs : List ℕ) (x : ℕ)
    → All (λ place. tick_at colours place ≤ tick_at colours x) xs
    → latest_place colours (xs ++ x ∷ []) ≡ Some x
unfolding latest_place
latest_push colours [] x all = refl
latest_push colours (y ∷ ys) x all =
    ap (λ found. Some (later_place colours y found))
    (latest_push colours ys x (All-tail (λ place. tick_at colours place ≤ tick_at colours x) y ys all))
    ∙ ap (λ b. Some (cond b x y))
    (le_test (tick_at colours y) (tick_at colours x)
    (All-head (λ place. tick_at colours place ≤ tick_at colours x) y ys all))

pushed_by : (colours : List ColourRow) (b : Bool) (xs : List ℕ) (x : ℕ)
    → All (λ place. tick_at colours place ≤ tick_at colours x) xs
    → cond b (Some x) (latest_place colours xs) ≡ latest_place colours (xs ++ cond b (x ∷ []) [])
pushed_by colours true xs x all = sym (latest_push colours xs x all)
pushed_by colours false xs x all = ap (latest_place colours) (sym (append-nil xs))

earlier_by : (colours : List ColourRow) (rows : List ℕ) (i place : ℕ)
    → IsNonDecreasingBy (λ place. tick_at colours place) rows → i < length rows
    → place ≡ get_or rows i place → All (λ other. tick_at colours other ≤ tick_at colours place) (take i rows)
earlier_by colours rows i place rise h r k d short =
    let long = length-take i rows in
    let low : tick_at colours (get_or rows k d) ≤ tick_at colours (get_or rows i d) = rise k i d (omega arith) h in
    let first = ap (tick_at colours) (get_or-take i rows k d (omega arith)) in
    let second = ap (tick_at colours) (r ∙ get_or_default rows i place d h) in
    omega arith

abbrev current_for : List ColourRow → List ℕ → Entry → Option ℕ
current_for colours rows entry = latest_place colours (filter (λ place. is_of_entry entry (row_at colours place)) rows)

entry_more : (colours : List ColourRow) (rows : List ℕ) (i place : ℕ) (entry : Entry)
    → IsNonDecreasingBy (λ place. tick_at colours place) rows → i < length rows
    → place ≡ get_or rows i place →
    cond (is_of_entry entry (row_at colours place)) (Some place) (current_for colours (take i rows) entry)
    ≡ current_for colours (take (i + 1) rows) entry
entry_more colours rows i place entry rise h r =
    let q = λ (place : ℕ). is_of_entry entry (row_at colours place) in
    pushed_by colours (q place) (filter q (take i rows)) place
    (All-filter q (λ other. tick_at colours other ≤ tick_at colours place) (take i rows)
    (earlier_by colours rows i place rise h r))
    ∙ ap (λ (x : ℕ). latest_place colours (filter q (take i rows) ++ cond (q x) (x ∷ []) [])) r
    ∙ ap (latest_place colours) (sym (filter_more q rows i place h))

pub current_more : (colours : List ColourRow) (entries : List Entry) (rows : List ℕ) (i place : ℕ) (row : ColourRow)
    (old new : List (Option ℕ)) → IsNonDecreasingBy (λ place. tick_at colours place) rows → i < length rows
    → place ≡ get_or rows i place →
    row ≡ row_at colours place → old ≡ current_of colours entries (take i rows) → length new ≡ length old →
    ((k : ℕ) (d : Entry) → k < length entries
    → get_or new k None ≡ cond (is_of_entry (get_or entries k d) row) (Some place) (get_or old k None)) →
    new ≡ current_of colours entries (take (i + 1) rows)
current_more colours entries rows i place row old new rise h r at is long each =
    let before = current_for colours (take i rows) in
    let after = current_for colours (take (i + 1) rows) in
    let none : Entry = record { depth = Two; number = 0 } in
    let old_long = ap length is ∙ length-map entries before in
    let new_long = length-map entries after in
    ext_get_or None new (map after entries) (omega arith) (λ k short.
    let within : k < length entries = omega arith in
    each k none within
    ∙ ap (λ (x : ColourRow). cond (is_of_entry (get_or entries k none) x) (Some place) (get_or old k None)) at
    ∙ ap (cond (is_of_entry (get_or entries k none) (row_at colours place)) (Some place))
    (ap (λ (xs : List (Option ℕ)). get_or xs k None) is ∙ get_or-map before entries k none None within)
    ∙ entry_more colours rows i place (get_or entries k none) rise h r
    ∙ sym (get_or-map after entries k none None within))

pub current_long : (colours : List ColourRow) (rows : List ℕ) (current : List (Option ℕ))
    → current ≡ current_of colours all_entries rows → length current ≡ 276
current_long colours rows current is =
    ap length is ∙ length-map all_entries (current_for colours rows) ∙ length-all_entries

-- ---- where the entry of a row stands among all entries

two_at : (k : ℕ) (d : Entry) → k < 4 → get_or all_entries k d ≡ record { depth = Two; number = k }
unfolding all_entries entries_at
two_at k d h =
    let long = length-entries_at Two in
    get_or_append_left (entries_at Two) (entries_at Four ++ entries_at Eight) d k (omega arith)
    ∙ get_or-map-range_with_len (entry_of Two) 0 4 k k d h (omega arith)

four_at : (k : ℕ) (d : Entry) → 4 ≤ k → k < 20
    → get_or all_entries k d ≡ record { depth = Four; number = k - 4 }
unfolding all_entries entries_at
four_at k d low h =
    let long = length-entries_at Four in
    get_or-append_right (entries_at Two) (entries_at Four ++ entries_at Eight) 4 k d (length-entries_at Two) low
    ∙ get_or_append_left (entries_at Four) (entries_at Eight) d (k - 4) (omega arith)
    ∙ get_or-map-range_with_len (entry_of Four) 0 16 (k - 4) (k - 4) d (omega arith) (omega arith)

eight_at : (k : ℕ) (d : Entry) → 20 ≤ k → k < 276
    → get_or all_entries k d ≡ record { depth = Eight; number = k - 20 }
unfolding all_entries entries_at
eight_at k d low h =
    let less : k - 4 - 16 ≡ k - 20 = omega arith in
    get_or-append_right (entries_at Two) (entries_at Four ++ entries_at Eight) 4 k d (length-entries_at Two)
    (omega arith)
    ∙ get_or-append_right (entries_at Four) (entries_at Eight) 16 (k - 4) d (length-entries_at Four) (omega arith)
    ∙ ap (λ (n : ℕ). get_or (entries_at Eight) n d) less
    ∙ get_or-map-range_with_len (entry_of Eight) 0 256 (k - 20) (k - 20) d (omega arith) (omega arith)

-- a row's entry stands at one place
abbrev is_slot : Depth → ℕ → ℕ → Bool
is_slot depth entry k = nat_lt entry (code_count depth) && (k == first_of depth + entry)

slot_two : (depth : Depth) (entry k : ℕ) → k < 4
    → ((bits_of depth == 2) && (entry == k)) ≡ is_slot depth entry k
slot_two Two entry k h = grind (arith, nat_tests)
slot_two Four entry k h = grind (arith, nat_tests)
slot_two Eight entry k h = grind (arith, nat_tests)

slot_four : (depth : Depth) (entry k : ℕ) → 4 ≤ k → k < 20
    → ((bits_of depth == 4) && (entry == k - 4)) ≡ is_slot depth entry k
slot_four Two entry k low h = grind (arith, nat_tests)
slot_four Four entry k low h = grind (arith, nat_tests)
slot_four Eight entry k low h = grind (arith, nat_tests)

slot_eight : (depth : Depth) (entry k : ℕ) → 20 ≤ k → k < 276
    → ((bits_of depth == 8) && (entry == k - 20)) ≡ is_slot depth entry k
slot_eight Two entry k low h = grind (arith, nat_tests)
slot_eight Four entry k low h = grind (arith, nat_tests)
slot_eight Eight entry k low h = grind (arith, nat_tests)

slot_is : (row : ColourRow) (k : ℕ) (d : Entry) → k < 276
    → is_of_entry (get_or all_entries k d) row ≡ is_slot row.depth row.entry k
slot_is row k d h =
    elim (nat_lt k 4) as
    (λ b. nat_lt k 4 ≡ b → is_of_entry (get_or all_entries k d) row ≡ is_slot row.depth row.entry k) [
      | true ↦ λ e. ap (λ (entry : Entry). is_of_entry entry row) (two_at k d (grind (arith, nat_tests)))
          ∙ slot_two row.depth row.entry k (grind (arith, nat_tests))
      | false ↦ λ e. elim (nat_lt k 20) as
          (λ b. nat_lt k 20 ≡ b → is_of_entry (get_or all_entries k d) row ≡ is_slot row.depth row.entry k) [
            | true ↦ λ f. ap (λ (entry : Entry). is_of_entry entry row)
                (four_at k d (grind (arith, nat_tests)) (grind (arith, nat_tests)))
                ∙ slot_four row.depth row.entry k (grind (arith, nat_tests)) (grind (arith, nat_tests))
            | false ↦ λ f. ap (λ (entry : Entry). is_of_entry entry row) (eight_at k d (grind (arith, nat_tests)) h)
                ∙ slot_eight row.depth row.entry k (grind (arith, nat_tests)) h
          ] refl
    ] refl

set_by : (now : List (Option ℕ)) (i k : ℕ) (x : Option ℕ) (b : Bool) → (k == i) ≡ b → i < length now
    → get_or (set now i x) k None ≡ cond b x (get_or now k None)
set_by now i k x true e h =
    let at : k ≡ i = grind (arith, nat_tests) in ap (λ (n : ℕ). get_or (set now i x) n None) at
    ∙ get_or-set_same now i x None h
set_by now i k x false e h = get_or-set_other now i k x None (grind (arith, nat_tests))

pub slot_within : (row : ColourRow) → row.entry < code_count row.depth → first_of row.depth + row.entry < 276
slot_within row h = within row.depth row.entry h
  where
    within : (depth : Depth) (entry : ℕ) → entry < code_count depth → first_of depth + entry < 276
    within Two entry h = omega arith
    within Four entry h = omega arith
    within Eight entry h = omega arith

-- a row is noted where its entry stands
pub noted : (row : ColourRow) (place : ℕ) (old : List (Option ℕ)) (k : ℕ) (d : Entry) → length old ≡ 276
    → row.entry < code_count row.depth → k < length all_entries →
    get_or (set old (first_of row.depth + row.entry) (Some place)) k None
    ≡ cond (is_of_entry (get_or all_entries k d) row) (Some place) (get_or old k None)
noted row place old k d long h short =
    let all = length-all_entries in
    let slot = first_of row.depth + row.entry in
    let within = slot_within row h in
    set_by old slot k (Some place) (k == slot) refl (omega arith)
    ∙ ap (λ b. cond (b && (k == slot)) (Some place) (get_or old k None))
    (sym (let t : nat_lt row.entry (code_count row.depth) ≡ true = grind (arith, nat_tests) in t))
    ∙ ap (λ b. cond b (Some place) (get_or old k None)) (sym (slot_is row k d (omega arith)))

pub not_noted : (row : ColourRow) (place : ℕ) (old : List (Option ℕ)) (k : ℕ) (d : Entry)
    → code_count row.depth ≤ row.entry → k < length all_entries →
    get_or old k None ≡ cond (is_of_entry (get_or all_entries k d) row) (Some place) (get_or old k None)
not_noted row place old k d h short =
    let all = length-all_entries in
    sym (ap (λ b. cond b (Some place) (get_or old k None))
    (slot_is row k d (omega arith)
    ∙ ap (λ b. b && (k == first_of row.depth + row.entry))
    (let t : nat_lt row.entry (code_count row.depth) ≡ false = grind (arith, nat_tests) in t)))

-- ---- the rows that have come by a tick

filter_all : (p : ℕ → Bool) (xs : List ℕ) → All (λ x. p x ≡ true) xs → filter p xs ≡ xs
filter_all p [] all = refl
filter_all p (x ∷ xs) all =
    ap (λ b. cond b (x ∷ filter p xs) (filter p xs)) (All-head (λ x. p x ≡ true) x xs all)
    ∙ ap (λ ys. x ∷ ys) (filter_all p xs (All-tail (λ x. p x ≡ true) x xs all))

front : (P : ℕ → Type 0) (xs : List ℕ) (n : ℕ) → AllWithin P xs 0 n → All P (take n xs)
front P xs n all k d h =
    let short : k < n = let e = length-take n xs in omega arith in
    subst P (sym (get_or-take n xs k d short)) (all k d (omega arith) short)

back : (P : ℕ → Type 0) (xs : List ℕ) (n : ℕ) → AllWithin P xs n (length xs) → All P (drop n xs)
back P xs n all k d h =
    subst P (sym (get_or-drop n xs k d)) (all (n + k) d (omega arith) (let e = length-drop n xs in omega arith))

pub come_rows : (colours : List ColourRow) (rows : List ℕ) (tick n : ℕ)
    → IsPartitionPoint (λ place. nat_le (tick_at colours place) tick ≡ true)
    (λ place. nat_le (tick_at colours place) tick ≡ false) rows n →
    take n rows ≡ by_tick colours tick rows
come_rows colours rows tick n point =
    let p = λ (place : ℕ). nat_le (tick_at colours place) tick in
    sym (append-nil (take n rows))
    ∙ sym (λ i. filter_all p (take n rows) (front (λ place. p place ≡ true) rows n point.0) i
    ++ filter_none p (drop n rows) (back (λ place. p place ≡ false) rows n point.1) i)
    ∙ sym (filter-append p (take n rows) (drop n rows)) ∙ ap (filter p) (take-append-drop n rows)

-- ---- the whole

swap_by : (p q : ℕ → Bool) (b c : Bool) (x : ℕ) (xs ys : List ℕ) → p x ≡ b → q x ≡ c
    → filter p xs ≡ filter q ys → filter p (cond c (x ∷ xs) xs) ≡ filter q (cond b (x ∷ ys) ys)
swap_by p q true true x xs ys e f same =
    ap (λ b. cond b (x ∷ filter p xs) (filter p xs)) e ∙ ap (λ zs. x ∷ zs) same
    ∙ sym (ap (λ b. cond b (x ∷ filter q ys) (filter q ys)) f)
swap_by p q true false x xs ys e f same = same ∙ sym (ap (λ b. cond b (x ∷ filter q ys) (filter q ys)) f)
swap_by p q false true x xs ys e f same = ap (λ b. cond b (x ∷ filter p xs) (filter p xs)) e ∙ same
swap_by p q false false x xs ys e f same = same

filter_swap : (p q : ℕ → Bool) (xs : List ℕ) → filter p (filter q xs) ≡ filter q (filter p xs)
filter_swap p q [] = refl
filter_swap p q (x ∷ xs) = swap_by p q (p x) (q x) x (filter q xs) (filter p xs) refl refl (filter_swap p q xs)

same_rows : (colours : List ColourRow) (own rows : List ℕ) (tick : ℕ) (entry : Entry)
    → AreInOrder colours own rows →
    AreSame colours (filter (λ place. is_of_entry entry (row_at colours place)) (by_tick colours tick rows))
    (by_tick colours tick (filter (λ place. is_of_entry entry (row_at colours place)) own))
same_rows colours own rows tick entry order other =
    let p = λ (place : ℕ). tick_at colours place == tick_at colours other in
    let q = λ (place : ℕ). is_of_entry entry (row_at colours place) in
    let r = λ (place : ℕ). nat_le (tick_at colours place) tick in
    filter_swap p q (filter r rows)
    ∙ ap (filter q) (filter_swap p r rows ∙ ap (filter r) (order.stable other) ∙ filter_swap r p own)
    ∙ filter_swap q p (filter r own) ∙ ap (filter p) (filter_swap q r own)

pub rows_back : (colours : List ColourRow) (clut tick : ℕ) (rows : List ℕ)
    → AreInOrder colours (rows_of_clut colours clut) rows →
    flat_map option_to_list (current_of colours all_entries (by_tick colours tick rows))
    ≡ defined_rows colours clut tick
rows_back colours clut tick rows order =
    flat_map_mapped option_to_list (current_for colours (by_tick colours tick rows)) all_entries
    ∙ (λ i. flat_map
    (λ (entry : Entry). option_to_list
    (latest_same colours (filter (λ place. is_of_entry entry (row_at colours place)) (by_tick colours tick rows))
    (by_tick colours tick (rows_of_entry colours clut entry))
    (same_rows colours (rows_of_clut colours clut) rows tick entry order) i)) all_entries)

-- ---- one tick more

-- what is known after so many ticks: of the rows that have come none has a later tick than the next one
pub record HaveWalked (colours : List ColourRow) (entries : List Entry) (rows ticks : List ℕ) (count come : ℕ)
    (current : List (Option ℕ)) (changes : List Change) : Type 0 where
  pub few : come ≤ length rows
  pub early : (j : ℕ) (d : ℕ) → count ≤ j → j < length ticks
      → All (λ place. tick_at colours place ≤ get_or ticks j d) (take come rows)
  pub current_is : current ≡ current_of colours entries (take come rows)
  pub changes_are : changes ≡ map (change_at colours entries rows) (take count ticks)

-- the rows that have come at a tick come by it
pub come_on : (colours : List ColourRow) (entries : List Entry) (rows ticks : List ℕ) (count come next tick : ℕ)
    (current : List (Option ℕ)) (changes : List Change)
    → HaveWalked colours entries rows ticks count come current changes →
    count < length ticks → tick ≡ get_or ticks count tick → next ≤ length rows →
    IsPartitionPoint (λ place. nat_le (tick_at colours place) tick ≡ true)
    (λ place. nat_le (tick_at colours place) tick ≡ false) rows next → come ≤ next
come_on colours entries rows ticks count come next tick current changes walked h r few point =
    not_below come next (λ low.
    let long = length-take come rows in
    let short = walked.few in
    let early : tick_at colours (get_or (take come rows) next 0) ≤ get_or ticks count tick =
    walked.early count tick (omega arith) h next 0 (omega arith) in
    let same = ap (tick_at colours) (get_or-take come rows next 0 low) in
    let late = point.1 next 0 (omega arith) (omega arith) in
    grind (arith, nat_tests))
  where
    not_below : (a b : ℕ) → (b < a → ⊥) → a ≤ b
    not_below a b never = elim (nat_lt b a) as (λ t. nat_lt b a ≡ t → a ≤ b) [
      | true ↦ λ e. absurd (never (grind (arith, nat_tests)))
      | false ↦ λ e. grind (arith, nat_tests)
    ] refl

pub HaveWalked-more : (colours : List ColourRow) (entries : List Entry) (rows ticks : List ℕ)
    (count come next tick : ℕ) (current current' : List (Option ℕ)) (found : List ℕ)
    (changes changes' : List Change) →
    HaveWalked colours entries rows ticks count come current changes → IsStrictlyIncreasing ticks
    → count < length ticks → tick ≡ get_or ticks count tick → next ≤ length rows →
    IsPartitionPoint (λ place. nat_le (tick_at colours place) tick ≡ true)
    (λ place. nat_le (tick_at colours place) tick ≡ false) rows next →
    current' ≡ current_of colours entries (take next rows) → found ≡ flat_map option_to_list current'
    → changes' ≡ changes ++ record { tick = tick; rows = found } ∷ [] →
    HaveWalked colours entries rows ticks (count + 1) next current' changes'
HaveWalked-more colours entries rows ticks count come next tick current current' found changes changes' walked rise h r
    few point is f push =
    let by = come_rows colours rows tick next point in
    record {
      few = few;
      early =
          λ j d low short. All-weaker (λ place. nat_le (tick_at colours place) tick ≡ true)
          (λ place. tick_at colours place ≤ get_or ticks j d)
          (λ place t.
          let less = in_order ticks count j rise (omega arith) short in
          let first = r ∙ get_or_default ticks count tick 0 h in
          let second = get_or_default ticks j d 0 short in
          grind (arith, nat_tests)) (take next rows)
          (front (λ place. nat_le (tick_at colours place) tick ≡ true) rows next point.0);
      current_is = is;
      changes_are = push
          ∙ ap (λ (xs : List ℕ). changes ++ record { tick = tick; rows = xs } ∷ [])
          (f ∙ ap (flat_map option_to_list) (is ∙ ap (current_of colours entries) by))
          ∙ ap (λ xs. xs ++ change_at colours entries rows tick ∷ []) walked.changes_are
          ∙ ap (λ (x : ℕ). map (change_at colours entries rows) (take count ticks)
          ++ change_at colours entries rows x ∷ []) r
          ∙ sym (ap (map (change_at colours entries rows)) (take_more ticks count tick h)
          ∙ map-append (change_at colours entries rows) (take count ticks) (get_or ticks count tick ∷ []));
    }

-- ---- a stable sort by ticks

tie_test : (a b : ℕ) → ties (λ x y. is_lt (nat_cmp x y)) a b ≡ (b == a)
tie_test a b = tie_by (nat_lt a b) (a == b) (nat_lt b a) (b == a) refl refl refl refl
  where
    tie_by : (t u v w : Bool) → nat_lt a b ≡ t → (a == b) ≡ u → nat_lt b a ≡ v → (b == a) ≡ w
        → (not (is_lt (cond t Less (cond u Equal Greater))) && not (is_lt (cond v Less (cond w Equal Greater)))) ≡ w
    tie_by true u v true e f g h = absurd (grind (arith, nat_tests))
    tie_by true u v false e f g h = refl
    tie_by false true true w e f g h = absurd (grind (arith, nat_tests))
    tie_by false true false true e f g h = refl
    tie_by false true false false e f g h = absurd (grind (arith, nat_tests))
    tie_by false false true true e f g h = absurd (grind (arith, nat_tests))
    tie_by false false true false e f g h = refl
    tie_by false false false w e f g h = absurd (grind (arith, nat_tests))

pub stable_from : (colours : List ColourRow) (own rows : List ℕ)
    → IsStableByKey (λ place. tick_at colours place) nat_cmp own rows → AreSame colours rows own
stable_from colours own rows stable other =
    let tie = λ (place : ℕ). tie_test (tick_at colours other) (tick_at colours place) in
    let p = λ (place : ℕ). tick_at colours place == tick_at colours other in
    let q = λ (place : ℕ). ties (λ x y. is_lt (nat_cmp x y)) (tick_at colours other) (tick_at colours place) in
    sym (filter_agree q p tie rows) ∙ stable other ∙ filter_agree q p tie own
