-- The entries of a CLUT, one at a time: what is left of the list after one of them.
use Rattle.std.proofs.Common.{◌≡◌, ℕ, zero, suc, ◌-◌, ◌%◌, ◌<◌, ◌≤◌, Bool, true, false, cond, ltb, eqb, List, [], ◌∷◌, length, get_or, take, drop, refl, sym, ap, ◌∙◌, arith}
use Rattle.std.proofs.lemmas.Bool.{le-ltb, lt-ltb}
use Rattle.std.proofs.lemmas.Bool.Decides.{nat_tests}
use Rattle.std.proofs.lemmas.List.{length-drop, nil_from_length, take_rest}
use Rattle.stream_syntax.specs.declared.clut.ClutEntry.{ClutEntry}
use Rattle.stream_syntax.specs.SegmentTests.{entry_size, are_entries, are_whole}
use Rattle.segments.specs.Contents.{first_entry, first_entries, clut_entries}

-- an entry has bytes
pub entry_has_bytes : (bytes : List ℕ) → 4 ≤ entry_size bytes
entry_has_bytes bytes =
    elim (eqb (get_or bytes 1 0 % 2) 1) as (λ b. 4 ≤ cond b 6 4) [ true ↦ omega arith | false ↦ omega arith ]

shorter : (most : ℕ) (bytes : List ℕ) → length bytes ≤ suc most
    → length (drop (entry_size bytes) bytes) ≤ most
shorter most bytes le = omega (arith, length-drop (entry_size bytes) bytes, entry_has_bytes bytes)

none_at : (most : ℕ) → are_entries most [] ≡ true
none_at zero = refl
none_at (suc most) = refl

-- any number of entries that is enough gives the same
are_entries-enough : (m n : ℕ) (bytes : List ℕ) → length bytes ≤ m → length bytes ≤ n
    → are_entries m bytes ≡ are_entries n bytes
are_entries-enough zero n bytes le le' =
    let nothing : bytes ≡ [] = nil_from_length bytes (omega arith) in
    rw (nothing, none_at n) refl
are_entries-enough (suc m) zero bytes le le' =
    let nothing : bytes ≡ [] = nil_from_length bytes (omega arith) in
    rw nothing refl
are_entries-enough (suc m) (suc n) bytes le le' =
    let rest = are_entries-enough m n (drop (entry_size bytes) bytes) (shorter m bytes le) (shorter n bytes le') in
    ap (λ (b : Bool). cond (eqb (length bytes) 0) true (cond (ltb (length bytes) (entry_size bytes)) false b)) rest

pub are_whole_at_end : (bytes : List ℕ) → length bytes ≡ 0 → are_whole bytes ≡ true
unfolding are_whole
are_whole_at_end bytes e =
    let nothing : bytes ≡ [] = nil_from_length bytes e in
    rw nothing refl

next_is : (bytes : List ℕ)
    → are_whole bytes
    ≡ cond (eqb (length bytes) 0) true
    (cond (ltb (length bytes) (entry_size bytes)) false (are_whole (drop (entry_size bytes) bytes)))
unfolding are_whole
next_is bytes =
    let one : are_entries (length bytes) bytes ≡ are_entries (suc (length bytes)) bytes =
    are_entries-enough (length bytes) (suc (length bytes)) bytes (omega arith) (omega arith) in
    let rest =
    are_entries-enough (length bytes) (length (drop (entry_size bytes) bytes)) (drop (entry_size bytes) bytes)
    (omega (arith, length-drop (entry_size bytes) bytes)) (omega arith) in
    one ∙ ap (λ (b : Bool). cond (eqb (length bytes) 0) true (cond (ltb (length bytes) (entry_size bytes)) false b))
    rest

some_left : (n : ℕ) → 0 < n → eqb n 0 ≡ false
some_left zero lt = absurd (omega arith)
some_left (suc n) lt = grind (arith, nat_tests)

pub are_whole_cut : (bytes : List ℕ) → 0 < length bytes → length bytes < entry_size bytes
    → are_whole bytes ≡ false
are_whole_cut bytes some lt =
    let e = next_is bytes in rw (some_left (length bytes) some, lt-ltb (length bytes) (entry_size bytes) lt) at e

pub are_whole_more : (bytes : List ℕ) (size : ℕ) → 0 < length bytes → size ≡ entry_size bytes
    → size ≤ length bytes → are_whole (take (length bytes - size) (drop size bytes)) ≡ are_whole bytes
are_whole_more bytes size some size-is le =
    let e = next_is bytes in
    let more : are_whole bytes ≡ are_whole (drop (entry_size bytes) bytes) =
    rw (some_left (length bytes) some, le-ltb (length bytes) (entry_size bytes) (omega arith)) at e in
    rw (take_rest bytes size, size-is) (sym more)

-- ---- the entries themselves

first_entries-enough : (m n : ℕ) (bytes : List ℕ) → length bytes ≤ m → length bytes ≤ n
    → first_entries m bytes ≡ first_entries n bytes
first_entries-enough zero zero bytes le le' = refl
first_entries-enough zero (suc n) bytes le le' =
    let cut : ltb (length bytes) (entry_size bytes) ≡ true =
    lt-ltb (length bytes) (entry_size bytes) (omega (arith, entry_has_bytes bytes)) in
    rw cut refl
first_entries-enough (suc m) zero bytes le le' =
    let cut : ltb (length bytes) (entry_size bytes) ≡ true =
    lt-ltb (length bytes) (entry_size bytes) (omega (arith, entry_has_bytes bytes)) in
    rw cut refl
first_entries-enough (suc m) (suc n) bytes le le' =
    let rest = first_entries-enough m n (drop (entry_size bytes) bytes) (shorter m bytes le) (shorter n bytes le') in
    ap (λ (entries : List ClutEntry). cond (ltb (length bytes) (entry_size bytes)) [] (first_entry bytes ∷ entries))
    rest

entries_are : (bytes : List ℕ)
    → clut_entries bytes
    ≡ cond (ltb (length bytes) (entry_size bytes)) []
    (first_entry bytes ∷ clut_entries (drop (entry_size bytes) bytes))
unfolding clut_entries
entries_are bytes =
    let one = first_entries-enough (length bytes) (suc (length bytes)) bytes (omega arith) (omega arith) in
    let rest =
    first_entries-enough (length bytes) (length (drop (entry_size bytes) bytes)) (drop (entry_size bytes) bytes)
    (omega (arith, length-drop (entry_size bytes) bytes)) (omega arith) in
    one ∙ ap (λ (entries : List ClutEntry). cond (ltb (length bytes) (entry_size bytes)) []
    (first_entry bytes ∷ entries)) rest

pub no_entry : (bytes : List ℕ) → length bytes < entry_size bytes → clut_entries bytes ≡ []
no_entry bytes lt = let e = entries_are bytes in rw (lt-ltb (length bytes) (entry_size bytes) lt) at e

pub one_entry : (bytes : List ℕ) (size : ℕ) (entry : ClutEntry) → size ≡ entry_size bytes
    → size ≤ length bytes → entry ≡ first_entry bytes
    → clut_entries bytes ≡ entry ∷ clut_entries (take (length bytes - size) (drop size bytes))
one_entry bytes size entry size-is le entry-is =
    let e = entries_are bytes in
    let more : clut_entries bytes ≡ first_entry bytes ∷ clut_entries (drop (entry_size bytes) bytes) =
    rw (le-ltb (length bytes) (entry_size bytes) (omega arith)) at e in
    rw (take_rest bytes size, size-is, entry-is) more
