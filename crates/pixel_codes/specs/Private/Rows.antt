-- The codes that the writer chooses for a row.
use Rattle.std.specs.Prelude.{ℕ, ◌+◌, ◌==◌, if◌then◌else◌, List, [], ◌∷◌, drop, flat_map}
use Rattle.sub_base.specs.declared.depth.Depth.{Depth}
use Rattle.stream_syntax.specs.PixelCodes.{Code, Span, spelled}
use Rattle.pixel_codes.specs.Private.Least.{chosen}

-- the run of so many pixels of that code
abbrev pub span_of : ℕ → ℕ → Span
span_of count code = record { count = count; code = code }

-- the runs with one pixel more before them
abbrev pub extended : ℕ → List Span → List Span
extended code [] = span_of 1 code ∷ []
extended code (span ∷ spans) =
    if code == span.code then span_of (span.count + 1) span.code ∷ spans else span_of 1 code ∷ span ∷ spans

-- the maximal runs of a row
unfoldable pub runs_of : List ℕ → List Span
runs_of [] = []
runs_of (code ∷ codes) = extended code (runs_of codes)

-- the codes that the writer chooses for runs, one run after another
unfoldable pub codes_of : Depth → List Span → List Code
codes_of depth spans = flat_map (λ span. chosen depth span.code span.count) spans

-- the bits of the runs from a place of a row on
abbrev pub text_from : Depth → List ℕ → ℕ → List ℕ
text_from depth codes place = flat_map (spelled depth) (codes_of depth (runs_of (drop place codes)))
