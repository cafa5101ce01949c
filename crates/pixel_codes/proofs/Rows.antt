-- The string of a row: its codes run after run, and that no other list of codes is shorter.
use Rattle.std.proofs.Common.{◌≡◌, ℕ, zero, suc, ◌+◌, ◌-◌, ◌*◌, ◌^◌, ◌<◌, ◌≤◌, Bool, true, false, cond, eqb, List, [], ◌∷◌, ◌++◌, length, get_or, take, drop, refl, sym, ap, ◌∙◌, append_assoc, arith}
use Rattle.std.specs.Prelude.{flat_map, replicate, take_while}
use Rattle.std.specs.List.{prefix_len}
use Rattle.std.proofs.lemmas.Bool.{eq-eqb, ne_eqb, eqb-true, eqb-false, not-true, not-false}
use Rattle.std.proofs.lemmas.List.{append-nil, drop_more, length-take, length-drop, drop-drop, drop_all, take_rest}
use Rattle.std.proofs.lemmas.List.Concat.{flat_map-append}
use Rattle.std.proofs.lemmas.List.Sums.{prefix_len-drop_yes, prefix_len-drop_no}
use Rattle.sub_base.specs.Depth.{code_count}
use Rattle.sub_base.specs.declared.depth.Depth.{Depth}
use Rattle.sub_base.specs.declared.depth.Depth.TheVariants.{Two, Four, Eight}
use Rattle.stream_syntax.specs.PixelCodes.{bits, Code, pixel, one_zero, two_zeros, zeros, short_run, middle_run, long_run, IsCode, pixel_count, spelled, ending, string_of, Span}
use Rattle.pixel_codes.specs.Private.Least.{first_code, chosen_within, chosen}
use Rattle.pixel_codes.specs.Private.Maximal.{ends_at, IsOneRun}
use Rattle.pixel_codes.specs.Private.Rows.{span_of, extended, runs_of, codes_of, text_from}
use Rattle.pixel_codes.specs.Private.Spelling.{width_of, value_of}
use Rattle.code_strings.proofs.Bits.{bits-join}
use Rattle.pixel_codes.proofs.DeepFirst.{first_is}

-- ---- the bits of a code as a number

code_text : (h form w field v code : ℕ) → field < 2 ^ w → code < 2 ^ v
    → bits (h + w + v) ((form * 2 ^ w + field) * 2 ^ v + code) ≡ bits h form ++ (bits w field ++ bits v code)
code_text h form w field v code k l =
    bits-join (h + w) v (form * 2 ^ w + field) code l
    ∙ ap (λ (t : List ℕ). t ++ bits v code) (bits-join h w form field k)
    ∙ append_assoc (bits h form) (bits w field) (bits v code)

pub bits-value : (depth : Depth) (code : Code) → IsCode depth code
    → bits (width_of depth code) (value_of depth code) ≡ spelled depth code
unfolding spelled
bits-value Two (pixel code) h = refl
bits-value Two one_zero h = bits-join 2 2 0 1 (omega arith)
bits-value Two two_zeros h =
    bits-join 2 4 0 1 (omega arith) ∙ ap (λ (t : List ℕ). bits 2 0 ++ t) (bits-join 2 2 0 1 (omega arith))
bits-value Two (zeros field) h = absurd h
bits-value Two (short_run field code) h =
    let e : (1 * 2 ^ 3 + field) * 2 ^ 2 + code ≡ 32 + 4 * field + code = omega arith in
    ap (bits 8) (sym e) ∙ code_text 3 1 3 field 2 code h.0 h.1
    ∙ ap (λ (t : List ℕ). t ++ (bits 3 field ++ bits 2 code)) front
    ∙ append_assoc (bits 2 0) (bits 1 1) (bits 3 field ++ bits 2 code)
  where
    front : bits 3 1 ≡ bits 2 0 ++ bits 1 1
    front = bits-join 2 1 0 1 (omega arith)
bits-value Two (middle_run field code) h =
    let e : (2 * 2 ^ 4 + field) * 2 ^ 2 + code ≡ 128 + 4 * field + code = omega arith in
    ap (bits 12) (sym e) ∙ code_text 6 2 4 field 2 code h.0 h.1
    ∙ ap (λ (t : List ℕ). t ++ (bits 4 field ++ bits 2 code)) front ∙ simp append_assoc
  where
    front : bits 6 2 ≡ bits 2 0 ++ (bits 2 0 ++ bits 2 2)
    front = bits-join 2 4 0 2 (omega arith) ∙ ap (λ (t : List ℕ). bits 2 0 ++ t) (bits-join 2 2 0 2 (omega arith))
bits-value Two (long_run field code) h =
    let e : (3 * 2 ^ 8 + field) * 2 ^ 2 + code ≡ 3072 + 4 * field + code = omega arith in
    ap (bits 16) (sym e) ∙ code_text 6 3 8 field 2 code h.0 h.1
    ∙ ap (λ (t : List ℕ). t ++ (bits 8 field ++ bits 2 code)) front ∙ simp append_assoc
  where
    front : bits 6 3 ≡ bits 2 0 ++ (bits 2 0 ++ bits 2 3)
    front = bits-join 2 4 0 3 (omega arith) ∙ ap (λ (t : List ℕ). bits 2 0 ++ t) (bits-join 2 2 0 3 (omega arith))
bits-value Four (pixel code) h = refl
bits-value Four one_zero h = bits-join 4 4 0 12 (omega arith)
bits-value Four two_zeros h = bits-join 4 4 0 13 (omega arith)
bits-value Four (zeros field) h =
    let e : 0 * 2 ^ 3 + field ≡ field = omega arith in
    ap (bits 8) (sym e) ∙ bits-join 5 3 0 field h.1 ∙ ap (λ (t : List ℕ). t ++ bits 3 field) front
    ∙ append_assoc (bits 4 0) (bits 1 0) (bits 3 field)
  where
    front : bits 5 0 ≡ bits 4 0 ++ bits 1 0
    front = bits-join 4 1 0 0 (omega arith)
bits-value Four (short_run field code) h =
    let e : (2 * 2 ^ 2 + field) * 2 ^ 4 + code ≡ 128 + 16 * field + code = omega arith in
    ap (bits 12) (sym e) ∙ code_text 6 2 2 field 4 code h.0 h.1
    ∙ ap (λ (t : List ℕ). t ++ (bits 2 field ++ bits 4 code)) front
    ∙ append_assoc (bits 4 0) (bits 2 2) (bits 2 field ++ bits 4 code)
  where
    front : bits 6 2 ≡ bits 4 0 ++ bits 2 2
    front = bits-join 4 2 0 2 (omega arith)
bits-value Four (middle_run field code) h =
    let e : (14 * 2 ^ 4 + field) * 2 ^ 4 + code ≡ 3584 + 16 * field + code = omega arith in
    ap (bits 16) (sym e) ∙ code_text 8 14 4 field 4 code h.0 h.1
    ∙ ap (λ (t : List ℕ). t ++ (bits 4 field ++ bits 4 code)) front
    ∙ append_assoc (bits 4 0) (bits 4 14) (bits 4 field ++ bits 4 code)
  where
    front : bits 8 14 ≡ bits 4 0 ++ bits 4 14
    front = bits-join 4 4 0 14 (omega arith)
bits-value Four (long_run field code) h =
    let e : (15 * 2 ^ 8 + field) * 2 ^ 4 + code ≡ 61440 + 16 * field + code = omega arith in
    ap (bits 20) (sym e) ∙ code_text 8 15 8 field 4 code h.0 h.1
    ∙ ap (λ (t : List ℕ). t ++ (bits 8 field ++ bits 4 code)) front
    ∙ append_assoc (bits 4 0) (bits 4 15) (bits 8 field ++ bits 4 code)
  where
    front : bits 8 15 ≡ bits 4 0 ++ bits 4 15
    front = bits-join 4 4 0 15 (omega arith)
bits-value Eight (pixel code) h = refl
bits-value Eight one_zero h = absurd h
bits-value Eight two_zeros h = absurd h
bits-value Eight (zeros field) h =
    let e : 0 * 2 ^ 7 + field ≡ field = omega arith in
    ap (bits 16) (sym e) ∙ bits-join 9 7 0 field h.1 ∙ ap (λ (t : List ℕ). t ++ bits 7 field) front
    ∙ append_assoc (bits 8 0) (bits 1 0) (bits 7 field)
  where
    front : bits 9 0 ≡ bits 8 0 ++ bits 1 0
    front = bits-join 8 1 0 0 (omega arith)
bits-value Eight (short_run field code) h =
    let e : (1 * 2 ^ 7 + field) * 2 ^ 8 + code ≡ 32768 + 256 * field + code = omega arith in
    ap (bits 24) (sym e) ∙ code_text 9 1 7 field 8 code h.0 h.1
    ∙ ap (λ (t : List ℕ). t ++ (bits 7 field ++ bits 8 code)) front
    ∙ append_assoc (bits 8 0) (bits 1 1) (bits 7 field ++ bits 8 code)
  where
    front : bits 9 1 ≡ bits 8 0 ++ bits 1 1
    front = bits-join 8 1 0 1 (omega arith)
bits-value Eight (middle_run field code) h = absurd h
bits-value Eight (long_run field code) h = absurd h

pub two_ending : bits 6 0 ≡ ending Two
unfolding ending
two_ending = bits-join 2 4 0 0 (omega arith) ∙ ap (λ (t : List ℕ). bits 2 0 ++ t) (bits-join 2 2 0 0 (omega arith))

pub four_ending : bits 8 0 ≡ ending Four
unfolding ending
four_ending = bits-join 4 4 0 0 (omega arith)

pub eight_ending : bits 16 0 ≡ ending Eight
unfolding ending
eight_ending = bits-join 8 8 0 0 (omega arith)

-- ---- the codes of a run, one after another

enough : (steps more : ℕ) (depth : Depth) (code count : ℕ) → code < code_count depth → count ≤ steps
    → count ≤ more → chosen_within steps depth code count ≡ chosen_within more depth code count
unfolding chosen_within
enough zero zero depth code count k h l = refl
enough zero (suc more) depth code zero k h l = refl
enough zero (suc more) depth code (suc count) k h l = absurd (omega arith)
enough (suc steps) zero depth code zero k h l = refl
enough (suc steps) zero depth code (suc count) k h l = absurd (omega arith)
enough (suc steps) (suc more) depth code zero k h l = refl
enough (suc steps) (suc more) depth code (suc count) k h l =
    let f = first_is depth code (suc count) (omega arith) k in
    ap (λ (t : List Code). first_code depth code (suc count) ∷ t)
    (enough steps more depth code (suc count - pixel_count depth (first_code depth code (suc count))) k
    (omega (arith, f.some)) (omega (arith, f.some)))

pub chosen_step : (depth : Depth) (code count : ℕ) → code < code_count depth → 1 ≤ count
    → chosen depth code count ≡ first_code depth code count
    ∷ chosen depth code (count - pixel_count depth (first_code depth code count))
unfolding chosen_within
chosen_step depth code zero k h = absurd (omega arith)
chosen_step depth code (suc count) k h =
    let f = first_is depth code (suc count) (omega arith) k in
    ap (λ (t : List Code). first_code depth code (suc count) ∷ t)
    (enough count (suc count - pixel_count depth (first_code depth code (suc count))) depth code
    (suc count - pixel_count depth (first_code depth code (suc count))) k (omega (arith, f.some)) (omega arith))

pub chosen_none : (depth : Depth) (code : ℕ) → chosen depth code 0 ≡ []
unfolding chosen_within
chosen_none depth code = refl

-- ---- the runs of a row, one after another

-- how many pixels of a code stand at the front
abbrev pub front : ℕ → List ℕ → ℕ
front c xs = prefix_len (λ x. eqb x c) xs

front-le : (c : ℕ) (xs : List ℕ) → front c xs ≤ length xs
front-le c [] = omega arith
front-le c (x ∷ xs) = by (eqb x c) (front-le c xs)
  where
    by : (b : Bool) → front c xs ≤ length xs → cond b (1 + front c xs) 0 ≤ suc (length xs)
    by true h = omega arith
    by false h = omega arith

pub taken_front : (c : ℕ) (xs : List ℕ) → length (take_while (λ x. eqb x c) xs) ≡ front c xs
taken_front c xs = omega (arith, length-take (front c xs) xs, front-le c xs)

front_by : (c x : ℕ) (xs : List ℕ) (b : Bool) → eqb x c ≡ b
    → runs_of (c ∷ xs) ≡ span_of (suc (front c xs)) c ∷ runs_of (drop (front c xs) xs)
    → runs_of (x ∷ xs) ≡ span_of (suc (front x xs)) x ∷ runs_of (drop (front x xs) xs) →
    runs_of (c ∷ x ∷ xs) ≡ span_of (suc (front c (x ∷ xs))) c ∷ runs_of (drop (front c (x ∷ xs)) (x ∷ xs))
unfolding runs_of
front_by c x xs true e h k =
    let same : x ≡ c = eqb-true x c e in
    let here : eqb c c ≡ true = eq-eqb c c refl in
    let n : suc (front c xs) + 1 ≡ suc (suc (front c xs)) = omega arith in
    let left : runs_of (c ∷ x ∷ xs)
    ≡ extended c (span_of (suc (front c xs)) c ∷ runs_of (drop (front c xs) xs)) = ap (extended c)
    (ap (λ (y : ℕ). runs_of (y ∷ xs)) same ∙ h) in
    let m : 1 + front c xs ≡ suc (front c xs) = omega arith in
    left ∙ rw (here, e, m, n) refl
front_by c x xs false e h k =
    let other : eqb c x ≡ false = ne_eqb c x (λ f. eqb-false x c e (sym f)) in
    let left : runs_of (c ∷ x ∷ xs)
    ≡ extended c (span_of (suc (front x xs)) x ∷ runs_of (drop (front x xs) xs)) = ap (extended c) k in
    left ∙ rw (other, e) (ap (λ (t : List Span). span_of 1 c ∷ t) (sym k))

-- the run at the front
front_run : (c : ℕ) (xs : List ℕ)
    → runs_of (c ∷ xs) ≡ span_of (suc (front c xs)) c ∷ runs_of (drop (front c xs) xs)
unfolding runs_of
front_run c [] = refl
front_run c (x ∷ xs) = front_by c x xs (eqb x c) refl (front_run c xs) (front_run x xs)

-- the run at a place of a row
pub next_run : (row : List ℕ) (place count : ℕ) → place < length row
    → count ≡ front (get_or row place 0) (drop place row) →
    (1 ≤ count) × (place + count ≤ length row)
    × (runs_of (drop place row) ≡ span_of count (get_or row place 0) ∷ runs_of (drop (place + count) row))
unfolding runs_of
next_run row place count h e =
    let c = get_or row place 0 in
    let xs = drop (place + 1) row in
    let at : drop place row ≡ c ∷ xs = drop_more row place 0 h in
    let same : eqb c c ≡ true = eq-eqb c c refl in
    let n : count ≡ suc (front c xs) = e ∙ ap (front c) at ∙ rw same (omega arith) in
    let short : front c xs ≤ length xs = front-le c xs in
    let on : place + count ≡ place + 1 + front c xs = omega (arith, n) in (
      omega (arith, n),
      omega (arith, n, short, length-drop (place + 1) row),
      ap runs_of at ∙ front_run c xs
          ∙ ap (λ (k : ℕ). span_of k c ∷ runs_of (drop (front c xs) xs)) (sym n)
          ∙ ap (λ (t : List ℕ). span_of count c ∷ runs_of t)
          (drop-drop (front c xs) (place + 1) row ∙ ap (λ (k : ℕ). drop k row) (sym on)),
    )

-- ---- the codes of a row

pub codes_of-cons : (depth : Depth) (span : Span) (spans : List Span)
    → codes_of depth (span ∷ spans) ≡ chosen depth span.code span.count ++ codes_of depth spans
unfolding codes_of
codes_of-cons depth span spans = refl

pub codes_of-nil : (depth : Depth) → codes_of depth (runs_of []) ≡ []
unfolding codes_of runs_of
codes_of-nil depth = refl

-- ---- what the writer puts

-- one code of a run
pub one_code : (depth : Depth) (code left width value pixels : ℕ) (before after whole : List ℕ)
    → code < code_count depth → 1 ≤ left →
    value ≡ value_of depth (first_code depth code left) → width ≡ width_of depth (first_code depth code left)
    → pixels ≡ pixel_count depth (first_code depth code left) →
    after ≡ before ++ bits width value → before ++ flat_map (spelled depth) (chosen depth code left) ≡ whole
    → after ++ flat_map (spelled depth) (chosen depth code (left - pixels)) ≡ whole
one_code depth code left width value pixels before after whole k h v w p e t =
    let first = first_code depth code left in
    let f = first_is depth code left h k in
    let text : bits width value ≡ spelled depth first =
    ap (λ (n : ℕ). bits n value) w ∙ ap (bits (width_of depth first)) v ∙ bits-value depth first f.is_code in
    let rest = flat_map (spelled depth) (chosen depth code (left - pixel_count depth first)) in
    let on : flat_map (spelled depth) (chosen depth code (left - pixels)) ≡ rest =
    ap (λ (n : ℕ). flat_map (spelled depth) (chosen depth code (left - n))) p in
    ap (λ (s : List ℕ). after ++ s) on
    ∙ ap (λ (s : List ℕ). s ++ rest) (e ∙ ap (λ (s : List ℕ). before ++ s) text)
    ∙ append_assoc before (spelled depth first) rest
    ∙ ap (λ (s : List Code). before ++ flat_map (spelled depth) s) (sym (chosen_step depth code left k h))
    ∙ t

-- at the end of a run
pub no_code : (depth : Depth) (code left : ℕ) (before whole : List ℕ) → left ≤ 0
    → before ++ flat_map (spelled depth) (chosen depth code left) ≡ whole → before ≡ whole
no_code depth code left before whole h t =
    let z : left ≡ 0 = omega arith in
    sym (append-nil before)
    ∙ ap (λ (s : List Code). before ++ flat_map (spelled depth) s)
    (sym (ap (chosen depth code) z ∙ chosen_none depth code)) ∙ t

-- one run of a row, counted from its first pixel
run_put : (depth : Depth) (row : List ℕ) (from count : ℕ) (before after whole : List ℕ) → from < length row
    → count ≡ front (get_or row from 0) (drop from row)
    → after ≡ before ++ flat_map (spelled depth) (chosen depth (get_or row from 0) count)
    → before ++ text_from depth row from ≡ whole →
    (1 ≤ count) × (from + count ≤ length row) × (after ++ text_from depth row (from + count) ≡ whole)
run_put depth row from count before after whole h n e t =
    let c = get_or row from 0 in
    let r = next_run row from count h n in
    let rest = codes_of depth (runs_of (drop (from + count) row)) in (
      r.0,
      r.1,
      ap (λ (s : List ℕ). s ++ flat_map (spelled depth) rest) e
          ∙ append_assoc before (flat_map (spelled depth) (chosen depth c count)) (flat_map (spelled depth) rest)
          ∙ ap (λ (s : List ℕ). before ++ s)
          (sym (flat_map-append (spelled depth) (chosen depth c count) rest)
          ∙ ap (flat_map (spelled depth))
          (sym (ap (codes_of depth) r.2
          ∙ codes_of-cons depth (span_of count c) (runs_of (drop (from + count) row)))))
          ∙ t,
    )

-- a run of which some pixels are passed
passed : (row : List ℕ) (gap from at : ℕ) → from + gap ≡ at → at < length row → IsOneRun row from at →
    (get_or row from 0 ≡ get_or row at 0)
    × (front (get_or row from 0) (drop from row) ≡ gap + front (get_or row at 0) (drop at row))
passed row zero from at e h alike =
    let s : from ≡ at = omega (arith, e) in
    let same : front (get_or row from 0) (drop from row) ≡ front (get_or row at 0) (drop at row) =
    ap (λ (n : ℕ). front (get_or row n 0) (drop n row)) s in
    (ap (λ (n : ℕ). get_or row n 0) s, omega (arith, same))
passed row (suc gap) from at e h alike =
    let same : get_or row from 0 ≡ get_or row (from + 1) 0 =
    eqb-true (get_or row from 0) (get_or row (from + 1) 0)
    (not-false _ (alike from (omega arith) (omega (arith, e)))) in
    let first : front (get_or row from 0) (drop from row)
    ≡ 1 + front (get_or row (from + 1) 0) (drop (from + 1) row) =
    prefix_len-drop_yes (λ x. eqb x (get_or row from 0)) row from 0 (omega (arith, e, h))
    (eq-eqb (get_or row from 0) (get_or row from 0) refl)
    ∙ ap (λ (c : ℕ). 1 + front c (drop (from + 1) row)) same in
    let rest =
    passed row gap (from + 1) at (omega (arith, e)) h (λ place low high. alike place (omega (arith, low)) high) in
    (same ∙ rest.0, omega (arith, first, rest.1))

-- the run whose last pixel this is
pub last_of_run : (row : List ℕ) (at : ℕ) → at + 1 < length row → ends_at row at ≡ true
    → 1 ≡ front (get_or row at 0) (drop at row)
last_of_run row at h e =
    let c = get_or row at 0 in
    let other : eqb c (get_or row (at + 1) 0) ≡ false = not-true _ e in
    let yes = prefix_len-drop_yes (λ x. eqb x c) row at 0 (omega (arith, h)) (eq-eqb c c refl) in
    let no =
    prefix_len-drop_no (λ x. eqb x c) row (at + 1) 0 h
    (ne_eqb (get_or row (at + 1) 0) c (λ f. eqb-false c (get_or row (at + 1) 0) other (sym f))) in
    omega (arith, yes, no)

-- a run that was counted from a pixel on
pub counted_from : (row : List ℕ) (at count : ℕ) → at < length row
    → count ≡ length
    (take_while (λ x. eqb x (get_or (take (length row - at) (drop at row)) 0 0))
    (take (length row - at) (drop at row))) →
    count ≡ front (get_or row at 0) (drop at row)
counted_from row at count h n =
    let cut : take (length row - at) (drop at row) ≡ drop at row = take_rest row at in
    let same : get_or (drop at row) 0 0
    ≡ get_or row at 0 = ap (λ (s : List ℕ). get_or s 0 0) (drop_more row at 0 h) in
    n ∙ ap (λ (s : List ℕ). length (take_while (λ x. eqb x (get_or s 0 0)) s)) cut
    ∙ ap (λ (y : ℕ). length (take_while (λ x. eqb x y) (drop at row))) same
    ∙ taken_front (get_or row at 0) (drop at row)

-- one run of a row, which was followed up to a pixel and has so many from there on
pub one_run : (depth : Depth) (row : List ℕ) (from at more count : ℕ) (before after whole : List ℕ) → from ≤ at
    → at < length row → IsOneRun row from at → more ≡ front (get_or row at 0) (drop at row) → count ≡ at + more - from
    → after ≡ before ++ flat_map (spelled depth) (chosen depth (get_or row at 0) count)
    → before ++ text_from depth row from ≡ whole →
    (1 ≤ more) × (at + more ≤ length row) × (after ++ text_from depth row (at + more) ≡ whole)
one_run depth row from at more count before after whole low h alike m n e t =
    let p = passed row (at - from) from at (omega (arith, low)) h alike in
    let code = ap (λ (c : ℕ). before ++ flat_map (spelled depth) (chosen depth c count)) (sym p.0) in
    let put =
    run_put depth row from count before after whole (omega (arith, low, h)) (omega (arith, p.1, m, n, low)) (e ∙ code)
    t in
    let on : from + count ≡ at + more = omega (arith, n, low) in
    let run = next_run row at more h m in
    (run.0, run.1, ap (λ (k : ℕ). after ++ text_from depth row k) (sym on) ∙ put.2)

-- at the end of a row
pub no_run : (depth : Depth) (row : List ℕ) (place : ℕ) (before whole : List ℕ) → length row ≤ place
    → before ++ text_from depth row place ≡ whole → before ≡ whole
no_run depth row place before whole h t =
    sym (append-nil before)
    ∙ ap (λ (s : List Code). before ++ flat_map (spelled depth) s)
    (sym (ap (λ (s : List ℕ). codes_of depth (runs_of s)) (drop_all place row h) ∙ codes_of-nil depth)) ∙ t

-- the end and the fill
pub whole_string : (depth : Depth) (codes : List Code) (out loop ended last : List ℕ) (fill : ℕ)
    → loop ≡ out ++ flat_map (spelled depth) codes → ended ≡ loop ++ ending depth
    → last ≡ ended ++ replicate fill 0 → last ≡ out ++ (string_of depth codes ++ replicate fill 0)
whole_string depth codes out loop ended last fill e f g =
    g ∙ ap (λ (s : List ℕ). s ++ replicate fill 0)
    (f ∙ ap (λ (s : List ℕ). s ++ ending depth) e
    ∙ append_assoc out (flat_map (spelled depth) codes) (ending depth))
    ∙ append_assoc out (string_of depth codes) (replicate fill 0)
