-- Of which sets all units come, and of which some, by the places of their packets.
use Rattle.std.proofs.Common.{◌≡◌, ◌∙◌, ℕ, zero, suc, ◌+◌, ◌≤◌, Bool, true, false, ◌&&◌, ◌||◌, List, [], ◌∷◌, ◌++◌, length, take, drop, refl, sym, ap, subst, arith, length-append, length-drop}
use Rattle.std.specs.List.{AllByRecursion, list_all, list_any}
use Rattle.std.proofs.lemmas.List.{drop-drop}
use Rattle.stream_syntax.specs.Cutting.{IsUnit}
use Rattle.slot_stream.specs.SlotStream.{pieces_of, all_pieces, piece_count}
use Rattle.shown_stream.proofs.Lost.LostUnits.{come_whole}
use Rattle.decoder_model.specs.Frames.{only}
use Rattle.sent_sets.proofs.PacketCounts.{length-pieces_of}

abbrev pub all_of : List Bool → Bool
all_of come = list_all (λ b. b) come

abbrev pub some_of : List Bool → Bool
some_of come = list_any (λ b. b) come

-- ---- prefixes of flags

one_more : (n k : ℕ) → suc n + k ≡ suc (n + k)
one_more n k = omega arith

none_more : (k : ℕ) → 0 + k ≡ k
none_more k = omega arith

all_none : (k : ℕ) → all_of (take k []) ≡ true
all_none zero = refl
all_none (suc k) = refl

some_none : (k : ℕ) → some_of (take k []) ≡ false
some_none zero = refl
some_none (suc k) = refl

all_take-add : (n k : ℕ) (come : List Bool) → all_of (take (n + k) come) ≡ true
    → (all_of (take n come) ≡ true) × (all_of (take k (drop n come)) ≡ true)
all_take-add zero k come e = (refl, ap (λ m. all_of (take m come)) (sym (none_more k)) ∙ e)
all_take-add (suc n) k [] e = (refl, all_none k)
all_take-add (suc n) k (false ∷ come) e =
    absurd (let no : false ≡ true = ap (λ m. all_of (take m (false ∷ come))) (sym (one_more n k)) ∙ e in cc)
all_take-add (suc n) k (true ∷ come) e =
    all_take-add n k come (ap (λ m. all_of (take m (true ∷ come))) (sym (one_more n k)) ∙ e)

some_take-add : (n k : ℕ) (come : List Bool) (a : Bool) → some_of (take n come) ≡ a
    → (a || some_of (take k (drop n come))) ≡ true → some_of (take (n + k) come) ≡ true
some_take-add zero k come false is e = ap (λ m. some_of (take m come)) (none_more k) ∙ e
some_take-add zero k come true is e = absurd (let no : false ≡ true = is in cc)
some_take-add (suc n) k [] true is e = absurd (let no : false ≡ true = is in cc)
some_take-add (suc n) k [] false is e = absurd (let no : false ≡ true = sym (some_none k) ∙ e in cc)
some_take-add (suc n) k (true ∷ come) a is e = ap (λ m. some_of (take m (true ∷ come))) (one_more n k)
some_take-add (suc n) k (false ∷ come) a is e =
    ap (λ m. some_of (take m (false ∷ come))) (one_more n k) ∙ some_take-add n k come a is e

module _ (size page : ℕ) where
  -- of units all come whole where all their pieces do
  pub all_whole : (units : List (List ℕ)) (come : List Bool)
      → all_of (take (length (all_pieces units)) come) ≡ true
      → all_of (come_whole size (only page) units come) ≡ true
  all_whole [] come e = refl
  all_whole (one ∷ units) come e =
      let many : length (pieces_of one ++ all_pieces units) ≡ piece_count one + length (all_pieces units) =
      length-append (pieces_of one) (all_pieces units)
      ∙ ap (λ n. n + length (all_pieces units)) (length-pieces_of one) in
      let parts =
      all_take-add (piece_count one) (length (all_pieces units)) come
      (subst (λ (n : ℕ). all_of (take n come) ≡ true) many e) in
      ap (λ b. b && all_of (come_whole size (only page) units (drop (piece_count one) come))) parts.0
      ∙ all_whole units (drop (piece_count one) come) parts.1

  -- and where one does some piece does
  all_then_some : (come : List Bool) (n : ℕ) → 1 ≤ n → n ≤ length come → all_of (take n come) ≡ true
      → some_of (take n come) ≡ true
  all_then_some come zero some within e = absurd (omega arith)
  all_then_some [] (suc n) some within e = absurd (omega arith)
  all_then_some (true ∷ come) (suc n) some within e = refl
  all_then_some (false ∷ come) (suc n) some within e = absurd (let no : false ≡ true = e in cc)

  pub some_whole : (units : List (List ℕ)) (come : List Bool) → AllByRecursion (IsUnit size) units
      → length (all_pieces units) ≤ length come → some_of (come_whole size (only page) units come) ≡ true
      → some_of (take (length (all_pieces units)) come) ≡ true
  some_whole [] come are within e = absurd (let no : false ≡ true = e in cc)
  some_whole (one ∷ units) come are within e =
      let many : length (pieces_of one ++ all_pieces units) ≡ piece_count one + length (all_pieces units) =
      length-append (pieces_of one) (all_pieces units)
      ∙ ap (λ n. n + length (all_pieces units)) (length-pieces_of one) in
      let long = are.0.bounded in
      subst (λ (n : ℕ). some_of (take n come) ≡ true) (sym many)
      (some_take-add (piece_count one) (length (all_pieces units)) come (some_of (take (piece_count one) come)) refl
      (by (all_of (take (piece_count one) come)) refl (some_of (take (piece_count one) come)) refl e
      (some_whole units (drop (piece_count one) come) are.1
      (omega (arith, within, many, length-drop (piece_count one) come)))))
    where
      by : (a : Bool) → all_of (take (piece_count one) come) ≡ a → (s : Bool)
          → some_of (take (piece_count one) come) ≡ s
          → (a || some_of (come_whole size (only page) units (drop (piece_count one) come))) ≡ true
          → (some_of (come_whole size (only page) units (drop (piece_count one) come)) ≡ true
          → some_of (take (length (all_pieces units)) (drop (piece_count one) come)) ≡ true)
          → (s || some_of (take (length (all_pieces units)) (drop (piece_count one) come))) ≡ true
      by true is true some e more = refl
      by true is false some e more =
          absurd (let long = are.0.bounded in let some_too = all_then_some come (piece_count one) (omega arith)
          (omega (arith, within, length-append (pieces_of one) (all_pieces units), length-pieces_of one)) is in
          let no : true ≡ false = sym some_too ∙ some in cc)
      by false is true some e more = refl
      by false is false some e more = more e

  -- ---- the flags of sets

  pub whole-append : (xs ys : List (List ℕ)) (come : List Bool)
      → come_whole size (only page) (xs ++ ys) come ≡ come_whole size (only page) xs come
      ++ come_whole size (only page) ys (drop (length (all_pieces xs)) come)
  whole-append [] ys come = refl
  whole-append (x ∷ xs) ys come =
      let many : length (pieces_of x ++ all_pieces xs) ≡ piece_count x + length (all_pieces xs) =
      length-append (pieces_of x) (all_pieces xs) ∙ ap (λ n. n + length (all_pieces xs)) (length-pieces_of x) in
      ap (λ rest. all_of (take (piece_count x) come) ∷ rest)
      (whole-append xs ys (drop (piece_count x) come)
      ∙ ap (λ more. come_whole size (only page) xs (drop (piece_count x) come)
      ++ come_whole size (only page) ys more)
      (drop-drop (length (all_pieces xs)) (piece_count x) come ∙ ap (λ n. drop n come) (sym many)))

  pub length-whole : (units : List (List ℕ)) (come : List Bool)
      → length (come_whole size (only page) units come) ≡ length units
  length-whole [] come = refl
  length-whole (one ∷ units) come = ap suc (length-whole units (drop (piece_count one) come))
