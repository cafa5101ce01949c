-- Strings of codes: where they end, and that no two of different lengths stand at one place.
use Rattle.std.proofs.Common.{◌≡◌, ℕ, zero, suc, ◌+◌, ◌-◌, ◌*◌, ◌/◌, ◌<◌, ◌≤◌, List, [], ◌∷◌, ◌++◌, length, take, drop, Option, Some, None, refl, sym, ap, subst, ◌∙◌, append_assoc, arith}
use Rattle.std.specs.Prelude.{flat_map, All}
use Rattle.std.proofs.lemmas.List.{length-append, length-drop, length-take, take_at, append-nil, take-append-drop}
use Rattle.std.proofs.lemmas.List.Concat.{flat_map-append}
use Rattle.std.proofs.lemmas.List.Elements.{All-nil, All-head, All-tail, All-push}
use Rattle.sub_base.specs.declared.depth.Depth.{Depth}
use Rattle.stream_syntax.specs.PixelCodes.{bits_of, Code, IsCode, spelled, ending, string_of, IsString}
use Rattle.code_strings.specs.declared.token.Token.{Token}
use Rattle.code_strings.specs.declared.token.Token.TheVariants.{Pixels, End}
use Rattle.code_strings.specs.Reading.{token_at}
use Rattle.code_strings.specs.Reached.{Reached}
use Rattle.code_strings.proofs.Bits.{length-bits_of, bits_of-append, IsBits-bits_of, drop-next}
use Rattle.code_strings.proofs.Tokens.{width_of, length-spelled, length-ending, token_spelled, token_ending, StandsAt}
use Rattle.code_strings.proofs.NarrowTokens.{token_reads, width_some}

-- the codes of a string one behind another
abbrev pub codes_bits : Depth → List Code → List ℕ
codes_bits depth codes = flat_map (spelled depth) codes

-- a string with its first code taken off
pub string_of-cons : (depth : Depth) (code : Code) (codes : List Code) (rest : List ℕ)
    → string_of depth (code ∷ codes) ++ rest ≡ spelled depth code ++ (string_of depth codes ++ rest)
string_of-cons depth code codes rest = simp append_assoc

-- what stands behind a code
pub behind : (depth : Depth) (code : Code) (xs rest : List ℕ) (place : ℕ)
    → drop place xs ≡ spelled depth code ++ rest → drop (place + width_of depth code) xs ≡ rest
behind depth code xs rest place e =
    drop-next xs (spelled depth code) rest place (width_of depth code) e (length-spelled depth code)

-- two readings of one place
pub same_place : (depth : Depth) (xs : List ℕ) (place a b : ℕ) (s t : Token)
    → token_at depth xs place ≡ Some (s, a) → token_at depth xs place ≡ Some (t, b) → (s ≡ t) × (a ≡ b)
same_place depth xs place a b s t e f =
    let g : ◌≡◌ {A = Option (Token × ℕ)} (Some (s, a)) (Some (t, b)) = sym e
    ∙ f in let h : ◌≡◌ {A = Token × ℕ} (s, a) (t, b) = cc in
    (ap (λ (p : Token × ℕ). p.0) h, ap (λ (p : Token × ℕ). p.1) h)

pub not_end : (count code : ℕ) → Pixels count code ≡ End → ⊥
not_end count code e = cc

-- two strings that stand at one place have one length
pub same_length : (depth : Depth) (xs r s : List ℕ) (place : ℕ) (codes others : List Code)
    → All (IsCode depth) codes → All (IsCode depth) others → drop place xs ≡ string_of depth codes ++ r
    → drop place xs ≡ string_of depth others ++ s
    → length (string_of depth codes) ≡ length (string_of depth others)
same_length depth xs r s place [] [] h k e f = refl
same_length depth xs r s place [] (o ∷ os) h k e f =
    absurd (not_end _ _
    (same_place depth xs place _ _ _ _
    (token_spelled depth o (All-head (IsCode depth) o os k) xs _ place (f ∙ string_of-cons depth o os s))
    (token_ending depth xs r place e)).0)
same_length depth xs r s place (c ∷ cs) [] h k e f =
    absurd (not_end _ _
    (same_place depth xs place _ _ _ _
    (token_spelled depth c (All-head (IsCode depth) c cs h) xs _ place (e ∙ string_of-cons depth c cs r))
    (token_ending depth xs s place f)).0)
same_length depth xs r s place (c ∷ cs) (o ∷ os) h k e f =
    let one = token_spelled depth c (All-head (IsCode depth) c cs h) xs _ place (e ∙ string_of-cons depth c cs r) in
    let two = token_spelled depth o (All-head (IsCode depth) o os k) xs _ place (f ∙ string_of-cons depth o os s) in
    let same : place + width_of depth c ≡ place + width_of depth o = (same_place depth xs place _ _ _ _ one two).1 in
    let left = behind depth c xs _ place (e ∙ string_of-cons depth c cs r) in
    let right : drop (place + width_of depth c) xs ≡ string_of depth os ++ s =
    ap (λ (i : ℕ). drop i xs) same ∙ behind depth o xs _ place (f ∙ string_of-cons depth o os s) in
    let rest =
    same_length depth xs r s (place + width_of depth c) cs os (All-tail (IsCode depth) c cs h)
    (All-tail (IsCode depth) o os k) left right in
    let a : length (string_of depth (c ∷ cs)) ≡ width_of depth c + length (string_of depth cs) =
    ap length (append_assoc (spelled depth c) (codes_bits depth cs) (ending depth))
    ∙ length-append (spelled depth c) (string_of depth cs)
    ∙ ap (λ (n : ℕ). n + length (string_of depth cs)) (length-spelled depth c) in
    let b : length (string_of depth (o ∷ os)) ≡ width_of depth o + length (string_of depth os) =
    ap length (append_assoc (spelled depth o) (codes_bits depth os) (ending depth))
    ∙ length-append (spelled depth o) (string_of depth os)
    ∙ ap (λ (n : ℕ). n + length (string_of depth os)) (length-spelled depth o) in
    omega (arith, same, rest, a, b)

pub reached_none : (depth : Depth) (xs : List ℕ) → Reached depth xs 0
reached_none depth xs = record { codes = []; each = All-nil (IsCode depth); text = refl; within = omega arith }

reached_length : (depth : Depth) (xs : List ℕ) (place : ℕ) (r : Reached depth xs place)
    → length (codes_bits depth r.codes) ≡ place
reached_length depth xs place r =
    let n = ap length r.text
    ∙ length-append (codes_bits depth r.codes) (drop place xs) in omega (arith, n, length-drop place xs, r.within)

pub reached_more : (depth : Depth) (xs : List ℕ) (place next count colour : ℕ) → Reached depth xs place
    → StandsAt depth xs place (Pixels count colour) next → Reached depth xs next
reached_more depth xs place next count colour r s = record {
  codes = r.codes ++ s.0 ∷ [];
  each = All-push (IsCode depth) r.codes s.0 r.each s.1;
  text =
      r.text ∙ ap (λ (t : List ℕ). codes_bits depth r.codes ++ t) s.4
      ∙ sym (append_assoc (codes_bits depth r.codes) (spelled depth s.0) (drop next xs))
      ∙ ap (λ (t : List ℕ). t ++ drop next xs)
      (sym (flat_map-append (spelled depth) r.codes (s.0 ∷ [])
      ∙ ap (λ (t : List ℕ). codes_bits depth r.codes ++ t) (append-nil (spelled depth s.0))));
  within = s.6;
}

-- where nothing can be read on, no string stands
cut : (depth : Depth) (xs r : List ℕ) (place next : ℕ) (codes others : List Code) (rest : List ℕ)
    → All (IsCode depth) codes → All (IsCode depth) others → drop place xs ≡ codes_bits depth codes ++ rest
    → place + length (codes_bits depth codes) ≡ next → drop place xs ≡ string_of depth others ++ r
    → token_at depth xs next ≡ None → ⊥
cut depth xs r place next [] [] rest h k e n f none =
    let at : place ≡ next = omega arith in
    let t = rw (← at) at none in
    let u = token_ending depth xs r place f in
    cc
cut depth xs r place next [] (o ∷ os) rest h k e n f none =
    let at : place ≡ next = omega arith in
    let t = rw (← at) at none in
    let u = token_spelled depth o (All-head (IsCode depth) o os k) xs _ place (f ∙ string_of-cons depth o os r) in
    cc
cut depth xs r place next (c ∷ cs) [] rest h k e n f none =
    not_end _ _
    (same_place depth xs place _ _ _ _
    (token_spelled depth c (All-head (IsCode depth) c cs h) xs _ place
    (e ∙ append_assoc (spelled depth c) (codes_bits depth cs) rest)) (token_ending depth xs r place f)).0
cut depth xs r place next (c ∷ cs) (o ∷ os) rest h k e n f none =
    let e' = e ∙ append_assoc (spelled depth c) (codes_bits depth cs) rest in
    let f' = f ∙ string_of-cons depth o os r in
    let one = token_spelled depth c (All-head (IsCode depth) c cs h) xs _ place e' in
    let two = token_spelled depth o (All-head (IsCode depth) o os k) xs _ place f' in
    let same : place + width_of depth c ≡ place + width_of depth o = (same_place depth xs place _ _ _ _ one two).1 in
    let right : drop (place + width_of depth c) xs ≡ string_of depth os ++ r =
    ap (λ (i : ℕ). drop i xs) same ∙ behind depth o xs _ place f' in
    cut depth xs r (place + width_of depth c) next cs os rest (All-tail (IsCode depth) c cs h)
    (All-tail (IsCode depth) o os k) (behind depth c xs _ place e')
    (omega (arith, n, length-append (spelled depth c) (codes_bits depth cs), length-spelled depth c)) right none

-- where nothing can be read on, no front of the bytes is a string
pub no_string : (depth : Depth) (body : List ℕ) (place : ℕ) → Reached depth (bits_of body) place
    → token_at depth (bits_of body) place ≡ None → (codes : List Code) (front : List ℕ) (rest : List ℕ)
    → body ≡ front ++ rest → IsString depth codes front → ⊥
no_string depth body place r none codes front rest e s =
    let text : bits_of body ≡ string_of depth codes ++ (s.fill ++ bits_of rest) =
    ap bits_of e ∙ bits_of-append front rest ∙ ap (λ (t : List ℕ). t ++ bits_of rest) s.text
    ∙ append_assoc (string_of depth codes) s.fill (bits_of rest) in
    cut depth (bits_of body) (s.fill ++ bits_of rest) 0 place r.codes codes (drop place (bits_of body)) r.each s.each
    r.text (omega (arith, reached_length depth (bits_of body) place r)) text none

bits_of-take : (bytes : List ℕ) (n : ℕ) → n ≤ length bytes
    → bits_of (take n bytes) ≡ take (8 * n) (bits_of bytes)
bits_of-take bytes n h =
    let split : bits_of bytes ≡ bits_of (take n bytes) ++ bits_of (drop n bytes) =
    ap bits_of (sym (take-append-drop n bytes)) ∙ bits_of-append (take n bytes) (drop n bytes) in
    let l : length (bits_of (take n bytes)) ≡ 8 * n =
    omega (arith, length-bits_of (take n bytes), length-take n bytes) in
    sym (ap (take (8 * n)) split ∙ take_at (bits_of (take n bytes)) (bits_of (drop n bytes)) (8 * n) l)

take-past : (n : ℕ) (xs ys : List ℕ) → length xs ≤ n → take n (xs ++ ys) ≡ xs ++ take (n - length xs) ys
take-past n [] ys h = let e : n - 0 ≡ n = omega arith in rw e refl
take-past zero (x ∷ xs) ys h = absurd (omega arith)
take-past (suc n) (x ∷ xs) ys h =
    let e : suc n - suc (length xs)
    ≡ n - length xs = omega arith in rw e (ap (λ (t : List ℕ). x ∷ t) (take-past n xs ys (omega arith)))

-- at the end of a string its bytes are known
pub string_found : (depth : Depth) (body : List ℕ) (place next : ℕ) → Reached depth (bits_of body) place
    → StandsAt depth (bits_of body) place End next →
    ((next + 7) / 8 ≤ length body) × (codes : List Code) × IsString depth codes (take ((next + 7) / 8) body)
string_found depth body place next r s =
    let size = (next + 7) / 8 in
    let xs = bits_of body in
    let len = length-bits_of body in
    let fits : size ≤ length body = omega (arith, s.2, len) in
    let whole : xs ≡ string_of depth r.codes ++ drop next xs =
    r.text ∙ ap (λ (t : List ℕ). codes_bits depth r.codes ++ t) s.0
    ∙ sym (append_assoc (codes_bits depth r.codes) (ending depth) (drop next xs)) in
    let l : length (string_of depth r.codes) ≡ next =
    omega (
      arith,
      length-append (codes_bits depth r.codes) (ending depth),
      reached_length depth xs place
          r,
      length-ending depth,
      s.1,
    ) in
    let text : bits_of (take size body) ≡ string_of depth r.codes
    ++ take (8 * size - length (string_of depth r.codes)) (drop next xs) =
    bits_of-take body size fits ∙ ap (take (8 * size)) whole
    ∙ take-past (8 * size) (string_of depth r.codes) (drop next xs) (omega (arith, l)) in (
      fits,
      r.codes,
      record {
        each = r.each;
        fill = take (8 * size - length (string_of depth r.codes)) (drop next xs);
        text = text;
        short = omega (arith, length-take (8 * size - length (string_of depth r.codes)) (drop next xs), l);
      },
    )

-- two strings at the front of the same bytes are the same bytes
pub same_string : (depth : Depth) (codes others : List Code) (a b r s : List ℕ) → IsString depth codes a
    → IsString depth others b → a ++ r ≡ b ++ s → a ≡ b
same_string depth codes others a b r s p q e =
    let one : bits_of (a ++ r) ≡ string_of depth codes ++ (p.fill ++ bits_of r) =
    bits_of-append a r ∙ ap (λ (t : List ℕ). t ++ bits_of r) p.text
    ∙ append_assoc (string_of depth codes) p.fill (bits_of r) in
    let two : bits_of (a ++ r) ≡ string_of depth others ++ (q.fill ++ bits_of s) =
    ap bits_of e ∙ bits_of-append b s ∙ ap (λ (t : List ℕ). t ++ bits_of s) q.text
    ∙ append_assoc (string_of depth others) q.fill (bits_of s) in
    let same =
    same_length depth (bits_of (a ++ r)) (p.fill ++ bits_of r) (q.fill ++ bits_of s) 0 codes others p.each q.each
    one two in
    let la : 8 * length a ≡ length (string_of depth codes) + length p.fill =
    sym (length-bits_of a) ∙ ap length p.text ∙ length-append (string_of depth codes) p.fill in
    let lb : 8 * length b ≡ length (string_of depth others) + length q.fill =
    sym (length-bits_of b) ∙ ap length q.text ∙ length-append (string_of depth others) q.fill in
    let l : length a ≡ length b = omega (arith, same, la, lb, p.short, q.short) in
    sym (take_at a r (length b) l) ∙ ap (take (length b)) e ∙ take_at b s (length b) refl

-- what a reader's answer says
pub read_stands : (depth : Depth) (bytes : List ℕ) (place : ℕ) (answer : Option (Token × ℕ))
    (token other : Token) (next : ℕ) → answer ≡ token_at depth (bits_of bytes) place
    → answer ≡ Some (token, next) → token ≡ other → StandsAt depth (bits_of bytes) place other next
read_stands depth bytes place answer token other next e f g =
    subst (λ (t : Token). StandsAt depth (bits_of bytes) place t next) g
    (token_reads depth (bits_of bytes) place (token, next) (IsBits-bits_of bytes) (sym e ∙ f))

pub read_further : (depth : Depth) (bytes : List ℕ) (place : ℕ) (count colour next : ℕ)
    → StandsAt depth (bits_of bytes) place (Pixels count colour) next → (place < next)
    × (next ≤ 8 * length bytes)
read_further depth bytes place count colour next s =
    (omega (arith, s.5, width_some depth s.0 s.1), omega (arith, s.6, length-bits_of bytes))
