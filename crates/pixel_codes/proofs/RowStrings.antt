-- The writer's string of a row is the string of the row.
use Rattle.std.proofs.Common.{◌≡◌, ℕ, zero, suc, ◌+◌, ◌*◌, ◌<◌, ◌≤◌, Bool, true, false, cond, eqb, List, [], ◌∷◌, ◌++◌, length, get_or, refl, sym, ap, subst, ◌∙◌, arith}
use Rattle.std.specs.Prelude.{flat_map, replicate, All}
use Rattle.std.proofs.lemmas.Bool.{ne_eqb, eq-eqb, eqb-true, eqb-false}
use Rattle.std.proofs.lemmas.List.{length-append, length-replicate, append_cancel_left, get_or-append-add}
use Rattle.std.proofs.lemmas.List.Concat.{flat_map-append}
use Rattle.std.proofs.lemmas.List.Elements.{All-nil, All-cons, All-head, All-tail, All-append, All-from_get_or}
use Rattle.sub_base.specs.Depth.{code_count}
use Rattle.sub_base.specs.declared.depth.Depth.{Depth}
use Rattle.sub_base.specs.declared.depth.Depth.TheVariants.{Two, Four, Eight}
use Rattle.stream_syntax.specs.PixelCodes.{bits_of, Code, IsCode, pixel_count, colour_of, pixels_of, spelled, ending, string_of, Gives, bits_in, Span, AreApart, AreMaximalRuns, AreChosen, IsLeastSum, IsRowString, IsRowSize}
use Rattle.std.proofs.lemmas.Bool.Decides.{nat_tests}
use Rattle.pixel_codes.specs.Private.Least.{two_some, two_none, four_some, four_none, eight_some, eight_none, table_bits, chosen}
use Rattle.code_strings.proofs.Tokens.{end_width, length-ending}
use Rattle.pixel_codes.specs.Lists.{Extends}
use Rattle.pixel_codes.specs.Private.Rows.{span_of, extended, runs_of, codes_of}
use Rattle.pixel_codes.specs.Private.Spelling.{width_of}
use Rattle.code_strings.proofs.Bits.{length-bits_of, bits_of-append}
use Rattle.pixel_codes.proofs.Table.{table_step}
use Rattle.pixel_codes.proofs.Chosen.{chosen_gives, chosen_bits, chosen_is, table_least, table_0, bits_in-cons}

-- ---- the runs of a row are its maximal runs

drawn_by : (c : ℕ) (spans : List Span)
    → flat_map (λ span. replicate span.count span.code) (extended c spans) ≡ c
    ∷ flat_map (λ span. replicate span.count span.code) spans
drawn_by c [] = refl
drawn_by c (s ∷ ss) = by (eqb c s.code) refl
  where
    one : (n : ℕ) → replicate (n + 1) s.code ≡ s.code ∷ replicate n s.code
    one n = let e : n + 1 ≡ suc n = omega arith in rw e refl

    by : (b : Bool) → eqb c s.code ≡ b
        → flat_map (λ span. replicate span.count span.code)
        (cond b (span_of (s.count + 1) s.code ∷ ss) (span_of 1 c ∷ s ∷ ss)) ≡ c
        ∷ (replicate s.count s.code ++ flat_map (λ span. replicate span.count span.code) ss)
    by true e =
        ap (λ (t : List ℕ). t ++ flat_map (λ span. replicate span.count span.code) ss) (one s.count)
        ∙ ap (λ (x : ℕ). x ∷ (replicate s.count s.code ++ flat_map (λ span. replicate span.count span.code) ss))
        (sym (eqb-true c s.code e))
    by false e = refl

runs_of-drawn : (row : List ℕ) → flat_map (λ span. replicate span.count span.code) (runs_of row) ≡ row
unfolding runs_of
runs_of-drawn [] = refl
runs_of-drawn (c ∷ row) = drawn_by c (runs_of row) ∙ ap (λ (t : List ℕ). c ∷ t) (runs_of-drawn row)

some_by : (c : ℕ) (spans : List Span) → All (λ span. 0 < span.count) spans
    → All (λ span. 0 < span.count) (extended c spans)
some_by c [] h = All-cons (λ (span : Span). 0 < span.count) (span_of 1 c) [] (omega arith) h
some_by c (s ∷ ss) h = by (eqb c s.code)
  where
    P : Span → Type 0
    P span = 0 < span.count

    by : (b : Bool)
        → All (λ span. 0 < span.count) (cond b (span_of (s.count + 1) s.code ∷ ss) (span_of 1 c ∷ s ∷ ss))
    by true =
        All-cons (λ (span : Span). 0 < span.count) (span_of (s.count + 1) s.code) ss (omega arith)
        (All-tail (λ (span : Span). 0 < span.count) s ss h)
    by false = All-cons (λ (span : Span). 0 < span.count) (span_of 1 c) (s ∷ ss) (omega arith) h

runs_of-some : (row : List ℕ) → All (λ span. 0 < span.count) (runs_of row)
unfolding runs_of
runs_of-some [] = All-nil (λ (span : Span). 0 < span.count)
runs_of-some (c ∷ row) = some_by c (runs_of row) (runs_of-some row)

-- a longer first run is as far from the next
longer_apart : (n m code : ℕ) (spans : List Span) → AreApart (span_of n code ∷ spans)
    → AreApart (span_of m code ∷ spans)
longer_apart n m code [] h = tt
longer_apart n m code (s ∷ ss) h = h

apart_by : (c : ℕ) (spans : List Span) → AreApart spans → AreApart (extended c spans)
apart_by c [] h = tt
apart_by c (s ∷ ss) h = by (eqb c s.code) refl
  where
    by : (b : Bool) → eqb c s.code ≡ b
        → AreApart (cond b (span_of (s.count + 1) s.code ∷ ss) (span_of 1 c ∷ s ∷ ss))
    by true e = longer_apart s.count (s.count + 1) s.code ss h
    by false e = (eqb-false c s.code e, h)

runs_of-apart : (row : List ℕ) → AreApart (runs_of row)
unfolding runs_of
runs_of-apart [] = tt
runs_of-apart (c ∷ row) = apart_by c (runs_of row) (runs_of-apart row)

pub runs_of-maximal : (row : List ℕ) → AreMaximalRuns (runs_of row) row
runs_of-maximal row = record { drawn = runs_of-drawn row; some = runs_of-some row; apart = runs_of-apart row }

-- their codes are those of the row
below_by : (limit c : ℕ) (spans : List Span) → c < limit → All (λ span. span.code < limit) spans
    → All (λ span. span.code < limit) (extended c spans)
below_by limit c [] k h = All-cons (λ (span : Span). span.code < limit) (span_of 1 c) [] k h
below_by limit c (s ∷ ss) k h = by (eqb c s.code)
  where
    by : (b : Bool)
        → All (λ span. span.code < limit) (cond b (span_of (s.count + 1) s.code ∷ ss) (span_of 1 c ∷ s ∷ ss))
    by true =
        All-cons (λ (span : Span). span.code < limit) (span_of (s.count + 1) s.code) ss
        (All-head (λ (span : Span). span.code < limit) s ss h) (All-tail (λ (span : Span). span.code < limit) s ss h)
    by false = All-cons (λ (span : Span). span.code < limit) (span_of 1 c) (s ∷ ss) k h

runs_of-below : (limit : ℕ) (row : List ℕ) → All (λ code. code < limit) row
    → All (λ span. span.code < limit) (runs_of row)
unfolding runs_of
runs_of-below limit [] h = All-nil (λ (span : Span). span.code < limit)
runs_of-below limit (c ∷ row) h =
    below_by limit c (runs_of row) (All-head (λ (code : ℕ). code < limit) c row h)
    (runs_of-below limit row (All-tail (λ (code : ℕ). code < limit) c row h))

-- ---- the codes that the writer chooses give the runs

codes_each : (depth : Depth) (spans : List Span) → All (λ span. span.code < code_count depth) spans
    → All (IsCode depth) (codes_of depth spans)
unfolding codes_of
codes_each depth [] h = All-nil (IsCode depth)
codes_each depth (s ∷ ss) h =
    All-append (IsCode depth) (chosen depth s.code s.count) (codes_of depth ss)
    (chosen_gives depth s.code s.count (All-head (λ (span : Span). span.code < code_count depth) s ss h)).each
    (codes_each depth ss (All-tail (λ (span : Span). span.code < code_count depth) s ss h))

codes_drawn : (depth : Depth) (spans : List Span) → All (λ span. span.code < code_count depth) spans
    → flat_map (pixels_of depth) (codes_of depth spans) ≡ flat_map (λ span. replicate span.count span.code) spans
unfolding codes_of
codes_drawn depth [] h = refl
codes_drawn depth (s ∷ ss) h =
    flat_map-append (pixels_of depth) (chosen depth s.code s.count) (codes_of depth ss)
    ∙ ap (λ (t : List ℕ). t ++ flat_map (pixels_of depth) (codes_of depth ss))
    (chosen_gives depth s.code s.count (All-head (λ (span : Span). span.code < code_count depth) s ss h)).drawn
    ∙ ap (λ (t : List ℕ). replicate s.count s.code ++ t)
    (codes_drawn depth ss (All-tail (λ (span : Span). span.code < code_count depth) s ss h))

pub codes_give : (depth : Depth) (row : List ℕ) → All (λ code. code < code_count depth) row
    → Gives depth (codes_of depth (runs_of row)) row
codes_give depth row h =
    let k = runs_of-below (code_count depth) row h in
    record { each = codes_each depth (runs_of row) k; drawn = codes_drawn depth (runs_of row) k ∙ runs_of-drawn row }

codes_chosen : (depth : Depth) (spans : List Span) → All (λ span. span.code < code_count depth) spans
    → AreChosen depth spans (codes_of depth spans)
unfolding codes_of
codes_chosen depth [] h = refl
codes_chosen depth (s ∷ ss) h = (
  chosen depth s.code s.count,
  codes_of depth ss,
  refl,
  chosen_is depth s.code s.count
      (All-head (λ (span : Span). span.code < code_count depth) s ss h),
  codes_chosen depth ss
      (All-tail (λ (span : Span). span.code < code_count depth) s ss h),
)

-- ---- their bits are the least

abbrev table_sum : Depth → List Span → ℕ
table_sum depth [] = 0
table_sum depth (s ∷ ss) = table_bits depth s.code s.count + table_sum depth ss

codes_sum : (depth : Depth) (spans : List Span) → All (λ span. span.code < code_count depth) spans
    → bits_in depth (codes_of depth spans) ≡ table_sum depth spans
unfolding codes_of
codes_sum depth [] h = refl
codes_sum depth (s ∷ ss) h =
    ap length (flat_map-append (spelled depth) (chosen depth s.code s.count) (codes_of depth ss))
    ∙ length-append (flat_map (spelled depth) (chosen depth s.code s.count))
    (flat_map (spelled depth) (codes_of depth ss))
    ∙ omega (
      arith,
      chosen_bits depth s.code s.count
          (All-head (λ (span : Span). span.code < code_count depth) s ss h),
      codes_sum depth ss
          (All-tail (λ (span : Span). span.code < code_count depth) s ss h),
    )

least_sum : (depth : Depth) (spans : List Span) → All (λ span. span.code < code_count depth) spans
    → IsLeastSum depth spans (table_sum depth spans)
least_sum depth [] h = refl
least_sum depth (s ∷ ss) h = (
  table_bits depth s.code s.count,
  table_sum depth ss,
  table_least depth s.code s.count
      (All-head (λ (span : Span). span.code < code_count depth) s ss h),
  least_sum depth ss
      (All-tail (λ (span : Span). span.code < code_count depth) s ss h),
  refl,
)

-- some pixels before the runs of a row
abbrev pub joined : ℕ → ℕ → List Span → List Span
joined n c [] = span_of n c ∷ []
joined n c (s ∷ ss) = if_same (eqb c s.code)
  where
    if_same : Bool → List Span
    if_same b = cond b (span_of (n + s.count) s.code ∷ ss) (span_of n c ∷ s ∷ ss)

joined-one : (c : ℕ) (spans : List Span) → extended c spans ≡ joined 1 c spans
joined-one c [] = refl
joined-one c (s ∷ ss) = let e : s.count + 1 ≡ 1 + s.count = omega arith in rw e refl

extended-joined : (n c : ℕ) (spans : List Span) → extended c (joined n c spans) ≡ joined (n + 1) c spans
extended-joined n c [] = let e = eq-eqb c c refl in rw e refl
extended-joined n c (s ∷ ss) = by (eqb c s.code) refl
  where
    by : (b : Bool) → eqb c s.code ≡ b
        → extended c (cond b (span_of (n + s.count) s.code ∷ ss) (span_of n c ∷ s ∷ ss))
        ≡ cond b (span_of (n + 1 + s.count) s.code ∷ ss) (span_of (n + 1) c ∷ s ∷ ss)
    by true e = let k : n + s.count + 1 ≡ n + 1 + s.count = omega arith in rw (e, k) refl
    by false e = let f = eq-eqb c c refl in rw f refl

pub runs_of-more : (n c : ℕ) (rest : List ℕ)
    → runs_of (replicate (suc n) c ++ rest) ≡ joined (n + 1) c (runs_of rest)
unfolding runs_of
runs_of-more zero c rest = let e : 0 + 1 ≡ 1 = omega arith in joined-one c (runs_of rest)
runs_of-more (suc n) c rest =
    let e : suc n + 1 ≡ n + 1 + 1 = omega arith in
    ap (extended c) (runs_of-more n c rest) ∙ extended-joined (n + 1) c (runs_of rest)
    ∙ ap (λ (k : ℕ). joined k c (runs_of rest)) (sym e)

-- a code before the runs of a row adds at most its bits
joined_sum : (depth : Depth) (code : Code) (spans : List Span) → IsCode depth code
    → table_sum depth (joined (pixel_count depth code) (colour_of code) spans)
    ≤ width_of depth code + table_sum depth spans
joined_sum depth code [] h =
    let e : pixel_count depth code + 0 ≡ pixel_count depth code = omega arith in
    let s = table_step depth (colour_of code) code 0 h refl in
    let t : table_bits depth (colour_of code) (pixel_count depth code)
    ≤ width_of depth code + table_bits depth (colour_of code) 0 = rw e at s in
    omega (arith, t, table_0 depth (colour_of code))
joined_sum depth code (s ∷ ss) h = by (eqb (colour_of code) s.code) refl
  where
    by : (b : Bool) → eqb (colour_of code) s.code ≡ b
        → table_sum depth
        (cond b (span_of (pixel_count depth code + s.count) s.code ∷ ss)
        (span_of (pixel_count depth code) (colour_of code) ∷ s ∷ ss))
        ≤ width_of depth code + (table_bits depth s.code s.count + table_sum depth ss)
    by true e = let t = table_step depth s.code code s.count h (eqb-true (colour_of code) s.code e) in omega (arith, t)
    by false e =
        let k : pixel_count depth code + 0 ≡ pixel_count depth code = omega arith in
        let u = table_step depth (colour_of code) code 0 h refl in
        let t : table_bits depth (colour_of code) (pixel_count depth code)
        ≤ width_of depth code + table_bits depth (colour_of code) 0 = rw k at u in
        omega (arith, t, table_0 depth (colour_of code))

row_least : (depth : Depth) (others : List Code) (row : List ℕ) → All (IsCode depth) others
    → flat_map (pixels_of depth) others ≡ row → table_sum depth (runs_of row) ≤ bits_in depth others
unfolding runs_of
row_least depth [] row h e = let f : runs_of row ≡ [] = ap runs_of (sym e) in rw f (omega arith)
row_least depth (code ∷ codes) row h e =
    let rest = flat_map (pixels_of depth) codes in
    let good = All-head (IsCode depth) code codes h in
    let further = row_least depth codes rest (All-tail (IsCode depth) code codes h) refl in
    let more : table_sum depth (runs_of (replicate (pixel_count depth code) (colour_of code) ++ rest))
    ≤ width_of depth code + table_sum depth (runs_of rest) = by good (pixel_count depth code) refl rest in
    let whole : table_sum depth (runs_of row)
    ≡ table_sum depth (runs_of (replicate (pixel_count depth code) (colour_of code) ++ rest)) = ap
    (λ (t : List ℕ). table_sum depth (runs_of t)) (sym e) in
    omega (arith, whole, more, further, bits_in-cons depth code codes)
  where
    by : IsCode depth code → (n : ℕ) → pixel_count depth code ≡ n → (rest : List ℕ)
        → table_sum depth (runs_of (replicate n (colour_of code) ++ rest))
        ≤ width_of depth code + table_sum depth (runs_of rest)
    by good zero f rest = omega arith
    by good (suc n) f rest =
        let j = joined_sum depth code (runs_of rest) good in
        let k : n + 1 ≡ pixel_count depth code = omega arith in
        let m =
        runs_of-more n (colour_of code) rest ∙ ap (λ (i : ℕ). joined i (colour_of code) (runs_of rest)) k in
        rw m j

-- ---- the bytes

pub row_string : (depth : Depth) (row old new : List ℕ) (fill : ℕ)
    → All (λ code. code < code_count depth) row
    → ((i : ℕ) (d : ℕ) → i < length new → get_or new i d < 256) → Extends old new → fill < 8 →
    bits_of new ≡ bits_of old ++ (string_of depth (codes_of depth (runs_of row)) ++ replicate fill 0) →
    (bytes : List ℕ) × (new ≡ old ++ bytes) × IsRowString depth row bytes × IsRowSize depth row (length bytes)
row_string depth row old new fill h small x f e =
    let bytes = x.0 in
    let codes = codes_of depth (runs_of row) in
    let text : bits_of bytes ≡ string_of depth codes ++ replicate fill 0 =
    append_cancel_left (bits_of old) (bits_of bytes) (string_of depth codes ++ replicate fill 0)
    (sym (bits_of-append old bytes) ∙ ap bits_of (sym x.1) ∙ e) in
    let below = runs_of-below (code_count depth) row h in
    let sum = codes_sum depth (runs_of row) below in
    let len : 8 * length bytes ≡ length (string_of depth codes) + fill =
    sym (length-bits_of bytes) ∙ ap length text ∙ length-append (string_of depth codes) (replicate fill 0)
    ∙ ap (λ (n : ℕ). length (string_of depth codes) + n) (length-replicate fill 0) in
    let parts : length (string_of depth codes) ≡ bits_in depth codes + length (ending depth) =
    length-append (flat_map (spelled depth) codes) (ending depth) in
    let each : All (λ (byte : ℕ). byte < 256) bytes =
    All-from_get_or (λ (byte : ℕ). byte < 256) bytes 0
    (λ i l. subst (λ (n : ℕ). n < 256)
    (ap (λ (t : List ℕ). get_or t (length old + i) 0) x.1 ∙ get_or-append-add old bytes i 0)
    (small (length old + i) 0 (omega (arith, ap length x.1, length-append old bytes, l)))) in (
      bytes,
      x.1,
      record {
        codes = codes;
        given = codes_give depth row h;
        fill = fill;
        short = f;
        text = text;
        each = each;
        least =
            λ others g. omega (
              arith,
              parts,
              sum,
              row_least depth others row g.each g.drawn,
              length-append
                  (flat_map (spelled depth) others) (ending depth),
            );
        spans = runs_of row;
        maximal = runs_of-maximal row;
        chosen = codes_chosen depth (runs_of row) below;
      },
      record {
        spans = runs_of row;
        maximal = runs_of-maximal row;
        sum = table_sum depth (runs_of row);
        least = least_sum depth (runs_of row) below;
        started = omega (arith, len, parts, sum, f);
      },
    )

-- ---- how long a string can be

-- a run of code 0 has at most twelve bits a pixel and four more
none_bound : (depth : Depth) (count : ℕ) → 1 ≤ count → table_bits depth 0 count ≤ 12 * count + 4
unfolding two_none four_none eight_none
none_bound Two count h = grind (arith, nat_tests)
none_bound Four count h = grind (arith, nat_tests)
none_bound Eight count h = grind (arith, nat_tests)

-- a run of another code has at most twelve bits a pixel less four
some_bound : (depth : Depth) (colour count : ℕ) → 1 ≤ count
    → table_bits depth (suc colour) count + 4 ≤ 12 * count
unfolding two_some four_some eight_some
some_bound Two colour count h = grind (arith, nat_tests)
some_bound Four colour count h = grind (arith, nat_tests)
some_bound Eight colour count h = grind (arith, nat_tests)

abbrev pixels_sum : List Span → ℕ
pixels_sum [] = 0
pixels_sum (s ∷ ss) = s.count + pixels_sum ss

-- what runs have more than twelve bits a pixel
abbrev excess : List Span → ℕ
excess [] = 0
excess (s ∷ ss) = cond (eqb s.code 0) 4 0

excess-le : (spans : List Span) → excess spans ≤ 4
excess-le [] = omega arith
excess-le (s ∷ ss) = by (eqb s.code 0)
  where
    by : (b : Bool) → cond b 4 0 ≤ 4
    by true = omega arith
    by false = omega arith

-- behind a run of code 0 stands another code
apart_none : (s : Span) (ss : List Span) → s.code ≡ 0 → AreApart (s ∷ ss) → excess ss ≡ 0
apart_none s [] e h = refl
apart_none s (t ∷ ss) e h = let f : eqb t.code 0 ≡ false = ne_eqb t.code 0 (λ z. h.0 (e ∙ sym z)) in rw f refl

pub apart_rest : (s : Span) (ss : List Span) → AreApart (s ∷ ss) → AreApart ss
apart_rest s [] h = tt
apart_rest s (t ∷ ss) h = h.1

sum_bound : (depth : Depth) (spans : List Span) → All (λ span. 0 < span.count) spans → AreApart spans
    → table_sum depth spans ≤ 12 * pixels_sum spans + excess spans
sum_bound depth [] h a = omega arith
sum_bound depth (s ∷ ss) h a =
    let some = All-head (λ (span : Span). 0 < span.count) s ss h in
    let rest = sum_bound depth ss (All-tail (λ (span : Span). 0 < span.count) s ss h) (apart_rest s ss a) in
    by s.code refl some rest
  where
    by : (c : ℕ) → s.code ≡ c → 0 < s.count → table_sum depth ss ≤ 12 * pixels_sum ss + excess ss
        → table_sum depth (s ∷ ss) ≤ 12 * pixels_sum (s ∷ ss) + excess (s ∷ ss)
    by zero e some rest =
        let t : table_bits depth s.code s.count ≡ table_bits depth 0 s.count =
        ap (λ (c : ℕ). table_bits depth c s.count) e in
        let x : excess (s ∷ ss) ≡ 4 = let f = eq-eqb s.code 0 e in rw f refl in
        omega (arith, t, none_bound depth s.count some, rest, apart_none s ss e a, x)
    by (suc c) e some rest =
        let t : table_bits depth s.code s.count ≡ table_bits depth (suc c) s.count =
        ap (λ (c : ℕ). table_bits depth c s.count) e in
        omega (arith, t, some_bound depth c s.count some, rest, excess-le ss)

pixels_sum-drawn : (spans : List Span)
    → length (flat_map (λ span. replicate span.count span.code) spans) ≡ pixels_sum spans
pixels_sum-drawn [] = refl
pixels_sum-drawn (s ∷ ss) =
    length-append (replicate s.count s.code) (flat_map (λ span. replicate span.count span.code) ss)
    ∙ omega (arith, length-replicate s.count s.code, pixels_sum-drawn ss)

end_bound : (depth : Depth) → length (ending depth) ≤ 16
end_bound depth = omega (arith, length-ending depth, wide depth)
  where
    wide : (d : Depth) → end_width d ≤ 16
    wide Two = omega arith
    wide Four = omega arith
    wide Eight = omega arith

pub row_short : (depth : Depth) (row old new : List ℕ) (fill : ℕ) → All (λ code. code < code_count depth) row
    → fill < 8 →
    bits_of new ≡ bits_of old ++ (string_of depth (codes_of depth (runs_of row)) ++ replicate fill 0) →
    2 * length new ≤ 2 * length old + 3 * length row + 6
row_short depth row old new fill h f e =
    let codes = codes_of depth (runs_of row) in
    let below = runs_of-below (code_count depth) row h in
    let all : 8 * length new ≡ 8 * length old + (length (string_of depth codes) + fill) =
    sym (length-bits_of new) ∙ ap length e
    ∙ length-append (bits_of old) (string_of depth codes ++ replicate fill 0)
    ∙ ap (λ (n : ℕ). n + length (string_of depth codes ++ replicate fill 0)) (length-bits_of old)
    ∙ ap (λ (n : ℕ). 8 * length old + n)
    (length-append (string_of depth codes) (replicate fill 0)
    ∙ ap (λ (n : ℕ). length (string_of depth codes) + n) (length-replicate fill 0)) in
    let parts : length (string_of depth codes) ≡ bits_in depth codes + length (ending depth) =
    length-append (flat_map (spelled depth) codes) (ending depth) in
    let pixels : pixels_sum (runs_of row) ≡ length row =
    sym (pixels_sum-drawn (runs_of row)) ∙ ap length (runs_of-drawn row) in
    omega (
      arith,
      all,
      parts,
      codes_sum depth (runs_of row) below,
      sum_bound depth (runs_of row) (runs_of-some row)
          (runs_of-apart row),
      excess-le (runs_of row),
      pixels,
      end_bound depth,
      f,
    )

-- ---- the size of a string follows from its codes

sum_of : (depth : Depth) (spans : List Span) (codes : List Code) → AreChosen depth spans codes
    → IsLeastSum depth spans (bits_in depth codes)
sum_of depth [] codes h = ap (bits_in depth) h
sum_of depth (s ∷ ss) codes h =
    let front = h.0 in
    let chosen = h.3 in (
      bits_in depth front,
      bits_in depth h.1,
      record { codes = front; given = chosen.given; reached = refl; least = chosen.least },
      sum_of depth ss h.1 h.4,
      ap (bits_in depth) h.2 ∙ ap length (flat_map-append (spelled depth) front h.1)
          ∙ length-append (flat_map (spelled depth) front) (flat_map (spelled depth) h.1),
    )

pub row_size : (depth : Depth) (row bytes : List ℕ) → IsRowString depth row bytes
    → IsRowSize depth row (length bytes)
row_size depth row bytes w =
    let len : 8 * length bytes ≡ length (string_of depth w.codes) + w.fill =
    sym (length-bits_of bytes) ∙ ap length w.text
    ∙ length-append (string_of depth w.codes) (replicate w.fill 0)
    ∙ ap (λ (n : ℕ). length (string_of depth w.codes) + n) (length-replicate w.fill 0) in
    let parts : length (string_of depth w.codes) ≡ bits_in depth w.codes + length (ending depth) =
    length-append (flat_map (spelled depth) w.codes) (ending depth) in
    record {
      spans = w.spans;
      maximal = w.maximal;
      sum = bits_in depth w.codes;
      least = sum_of depth w.spans w.codes
          w.chosen;
      started = omega (arith, len, parts, w.short);
    }
