use Rattle.std.proofs.Common.{zero, suc, ◌≡◌, ◌≢◌, ◌==◌, ◌∙◌, refl, sym, ap, ℕ, ◌+◌, ◌<◌, ◌≤◌, Bool, true, false, List, [], ◌∷◌, ◌++◌, length, take, drop, get_or, filter, nat_lt, inl, inr, if◌then◌else◌, add-one, eq-eqb, arith}
use Rattle.std.specs.List.{slice_split}
use Rattle.std.specs.Str.Lines.{lines, lines_of_parts, strip_carriage_return}
use Rattle.std.proofs.lemmas.Bool.{ne_eqb, lt-ltb}
use Rattle.std.proofs.lemmas.List.{take_all, drop_all, length-take-le, get_or-take, take-append-drop}
use Rattle.std.proofs.lemmas.List.Elements.{All-from_get_or}
use Rattle.std.proofs.lemmas.List.Sums.{count_by-le-length}
use Rattle.std.proofs.lemmas.List.Splits.{slice_split_none, slice_split_at, length-slice_split}
use Rattle.std.proofs.Math.Seq.{drop-cons}
use Rattle.indexed_picture.proofs.PaintingLaws.{lt_or_le}
use Rattle.bitmap_font.specs.Words.{words}

-- a space at the front counts for nothing
words-space : (line : List ℕ) → words (32 ∷ line) ≡ words line
words-space line = refl

-- nor do more of them
pub words-drop : (n : ℕ) (line : List ℕ) → n ≤ length line
    → ((k : ℕ) → k < n → get_or line k 0 ≡ 32) → words line ≡ words (drop n line)
words-drop zero line inside spaces = refl
words-drop (suc n) [] inside spaces = absurd (omega arith)
words-drop (suc n) (byte ∷ line) inside spaces =
    ap (λ (b : ℕ). words (b ∷ line)) (spaces 0 (omega arith))
    ∙ words-drop n line (omega arith) (λ k below. spaces (suc k) (omega arith))

drop_at : (xs : List ℕ) (i : ℕ) → i < length xs → drop i xs ≡ get_or xs i 0 ∷ drop (i + 1) xs
drop_at xs i inside = rw (add-one, drop-cons xs i 0) refl

-- the parts of a list at its first element that passes
split_at : (byte : ℕ) (xs : List ℕ) (e : ℕ) → e < length xs
    → ((k : ℕ) → k < e → get_or xs k 0 ≢ byte) → get_or xs e 0 ≡ byte →
    slice_split (λ b. b == byte) xs ≡ take e xs ∷ slice_split (λ b. b == byte) (drop (e + 1) xs)
split_at byte xs e inside before here =
    let rest : drop e xs ≡ byte ∷ drop (e + 1) xs =
    drop_at xs e inside ∙ ap (λ (b : ℕ). b ∷ drop (e + 1) xs) here in
    let whole : xs ≡ take e xs ++ byte ∷ drop (e + 1) xs =
    sym (take-append-drop e xs) ∙ ap (λ (l : List ℕ). take e xs ++ l) rest in
    let front : length (take e xs) ≡ e = length-take-le e xs (omega arith) in
    ap (slice_split (λ b. b == byte)) whole
    ∙ slice_split_at (λ b. b == byte) (take e xs) byte (drop (e + 1) xs)
    (All-from_get_or (λ b. (b == byte) ≡ false) (take e xs) 0
    (λ k below. let below_e : k
    < e = omega arith in ne_eqb (get_or (take e xs) k 0) byte
    (rw (get_or-take e xs k 0 below_e) (before k below_e))))
    (eq-eqb byte byte refl)

no_split : (byte : ℕ) (xs : List ℕ) → ((k : ℕ) → k < length xs → get_or xs k 0 ≢ byte)
    → slice_split (λ b. b == byte) xs ≡ xs ∷ []
no_split byte xs none = slice_split_none (λ b. b == byte) xs
    (All-from_get_or (λ b. (b == byte) ≡ false) xs 0 (λ k below. ne_eqb (get_or xs k 0) byte (none k below)))

kept : (word : List ℕ) (more : List (List ℕ)) → 0 < length word
    → filter (λ w. nat_lt 0 (length w)) (word ∷ more) ≡ word ∷ filter (λ w. nat_lt 0 (length w)) more
kept word more some = rw (lt-ltb 0 (length word) some) refl

-- the first word, of e bytes
pub words-first : (line : List ℕ) (e : ℕ) → 0 < e → e ≤ length line
    → ((k : ℕ) → k < e → get_or line k 0 ≢ 32) →
    (e < length line → get_or line e 0 ≡ 32) → words line ≡ take e line ∷ words (drop e line)
words-first line e some inside before after =
    elim (lt_or_le e (length line)) [
      | inl short ↦
          let rest : drop e line ≡ 32 ∷ drop (e + 1) line =
          drop_at line e short ∙ ap (λ (b : ℕ). b ∷ drop (e + 1) line) (after short) in
          ap (filter (λ w. nat_lt 0 (length w))) (split_at 32 line e short before (after short))
          ∙ kept (take e line) (slice_split (λ b. b == 32) (drop (e + 1) line))
          (omega (arith, length-take-le e line inside))
          ∙ ap (λ (l : List ℕ). take e line ∷ words l) (sym rest)
      | inr whole ↦
          ap (filter (λ w. nat_lt 0 (length w))) (no_split 32 line (λ k below. before k (omega arith)))
          ∙ kept line [] (omega arith)
          ∙ ap (λ (l : List ℕ). l ∷ []) (sym (take_all e line whole))
          ∙ ap (λ (l : List ℕ). take e line ∷ words l) (sym (drop_all e line whole))
    ]

-- the one line of a text without line feeds
pub lines-one : (text : List ℕ) → 0 < length text → ((k : ℕ) → k < length text → get_or text k 0 ≢ 10)
    → lines text ≡ text ∷ []
lines-one text some none =
    let filled : (length text == 0) ≡ false = ne_eqb (length text) 0 (λ e. omega arith) in
    ap lines_of_parts (no_split 10 text none) ∙ rw filled refl

more_parts : (part : List ℕ) (parts : List (List ℕ)) → 0 < length parts
    → lines_of_parts (part ∷ parts) ≡ strip_carriage_return part ∷ lines_of_parts parts
more_parts part [] some = absurd (omega arith)
more_parts part (next ∷ parts) some = refl

-- the first line of a text with a line feed
pub lines-first : (text : List ℕ) (e : ℕ) → e < length text → ((k : ℕ) → k < e → get_or text k 0 ≢ 10)
    → get_or text e 0 ≡ 10 →
    lines text ≡ strip_carriage_return (take e text) ∷ lines (drop (e + 1) text)
lines-first text e inside before here =
    ap lines_of_parts (split_at 10 text e inside before here)
    ∙ more_parts (take e text) (slice_split (λ b. b == 10) (drop (e + 1) text))
    (omega (arith, length-slice_split (λ b. b == 10) (drop (e + 1) text)))

parts_at_least : (parts : List (List ℕ)) → length (lines_of_parts parts) ≤ length parts
parts_at_least [] = omega arith
parts_at_least (part ∷ []) =
    elim (length part == 0) as (λ (test : Bool). length (if test then [] else part ∷ []) ≤ 1)
    [ true ↦ omega arith | false ↦ omega arith ]
parts_at_least (part ∷ next ∷ parts) = omega (arith, parts_at_least (next ∷ parts))

-- a text has no more lines than bytes, and one
pub length-lines : (text : List ℕ) → length (lines text) ≤ length text + 1
length-lines text =
    omega (
      arith,
      parts_at_least (slice_split (λ b. b == 10) text),
      length-slice_split (λ b. b == 10)
          text,
      count_by-le-length (λ b. b == 10) text,
    )
