-- A row has one list of maximal runs, a run has one number of least bits, and so the string of a row has one size.
use Rattle.std.proofs.Common.{◌≡◌, ℕ, zero, suc, ◌+◌, ◌<◌, List, [], ◌∷◌, ◌++◌, refl, sym, ap, subst, ◌∙◌, arith}
use Rattle.std.specs.Prelude.{flat_map, replicate, All}
use Rattle.std.proofs.lemmas.Bool.{ne_eqb}
use Rattle.std.proofs.lemmas.List.Elements.{All-head, All-tail}
use Rattle.sub_base.specs.declared.depth.Depth.{Depth}
use Rattle.stream_syntax.specs.PixelCodes.{Span, AreApart, AreMaximalRuns, IsLeast, IsLeastSum, IsRowSize}
use Rattle.pixel_codes.specs.Private.Rows.{span_of, runs_of}
use Rattle.pixel_codes.proofs.RowStrings.{joined, runs_of-more, apart_rest}

-- a first run that is apart from the next joins nothing
joined_apart : (n : ℕ) (s : Span) (ss : List Span) → AreApart (s ∷ ss)
    → joined n s.code ss ≡ span_of n s.code ∷ ss
joined_apart n s [] h = refl
joined_apart n s (t ∷ ss) h = let e = ne_eqb s.code t.code h.0 in rw e refl

runs_by : (spans : List Span) (row : List ℕ) → flat_map (λ span. replicate span.count span.code) spans ≡ row
    → All (λ span. 0 < span.count) spans → AreApart spans → runs_of row ≡ spans
unfolding runs_of
runs_by [] row e some apart = ap runs_of (sym e)
runs_by (s ∷ ss) row e some apart =
    let rest = flat_map (λ span. replicate span.count span.code) ss in
    let further =
    runs_by ss rest refl (All-tail (λ (span : Span). 0 < span.count) s ss some) (apart_rest s ss apart) in
    by s.count refl (All-head (λ (span : Span). 0 < span.count) s ss some) further
  where
    by : (n : ℕ) → s.count ≡ n → 0 < s.count
        → runs_of (flat_map (λ span. replicate span.count span.code) ss) ≡ ss → runs_of row ≡ s ∷ ss
    by zero f l further = absurd (omega arith)
    by (suc n) f l further =
        let rest = flat_map (λ (span : Span). replicate span.count span.code) ss in
        let k : n + 1 ≡ s.count = omega arith in
        ap runs_of (sym e) ∙ ap (λ (m : ℕ). runs_of (replicate m s.code ++ rest)) f
        ∙ runs_of-more n s.code rest ∙ ap (joined (n + 1) s.code) further ∙ joined_apart (n + 1) s ss apart
        ∙ ap (λ (m : ℕ). span_of m s.code ∷ ss) k

-- the maximal runs of a row are one list
pub one_runs : (row : List ℕ) (spans others : List Span) → AreMaximalRuns spans row → AreMaximalRuns others row
    → spans ≡ others
one_runs row spans others p q =
    sym (runs_by spans row p.drawn p.some p.apart) ∙ runs_by others row q.drawn q.some q.apart

-- the least bits of a run are one number
pub one_least : (depth : Depth) (code count bits other : ℕ) → IsLeast depth code count bits
    → IsLeast depth code count other → bits ≡ other
one_least depth code count bits other p q =
    let one = p.least q.codes q.given in
    let two = q.least p.codes p.given in
    omega (arith, one, two, p.reached, q.reached)

one_sum : (depth : Depth) (spans : List Span) (sum other : ℕ) → IsLeastSum depth spans sum
    → IsLeastSum depth spans other → sum ≡ other
one_sum depth [] sum other p q = p ∙ sym q
one_sum depth (s ∷ ss) sum other p q =
    omega (arith, p.4, q.4, one_least depth s.code s.count p.0 q.0 p.2 q.2, one_sum depth ss p.1 q.1 p.3 q.3)

-- the size of a row's string is one number
pub one_row_size : (depth : Depth) (row : List ℕ) (size other : ℕ) → IsRowSize depth row size
    → IsRowSize depth row other → size ≡ other
one_row_size depth row size other p q =
    let spans = one_runs row p.spans q.spans p.maximal q.maximal in
    let sums =
    one_sum depth q.spans p.sum q.sum (subst (λ (s : List Span). IsLeastSum depth s p.sum) spans p.least) q.least
    in
    omega (arith, p.started, q.started, sums)
