-- Pixel code strings (EN 300 743, 2-bit, 4-bit and 8-bit pixel code strings): the codes of a depth, the pixels that
-- they give, the bits that they are spelled with, and the codes that a writer chooses for a row.
use Rattle.std.specs.Prelude.{◌≡◌, ℕ, zero, suc, ◌+◌, ◌/◌, ◌%◌, ◌<◌, ◌≤◌, ◌⊎◌, List, [], ◌∷◌, ◌++◌, length, map, replicate, flat_map, All}
use Rattle.sub_base.specs.declared.depth.Depth.{Depth}
use Rattle.sub_base.specs.declared.depth.Depth.TheVariants.{Two, Four, Eight}

-- a number in so many bits, the highest first
unfoldable pub bits : ℕ → ℕ → List ℕ
bits zero number = []
bits (suc count) number = bits count (number / 2) ++ number % 2 ∷ []

-- the bits of bytes, one byte after another
unfoldable pub bits_of : List ℕ → List ℕ
bits_of bytes = flat_map (bits 8) bytes

-- A code of a string, but for the end: a single pixel; one or two pixels of code 0; a run of code 0; a run of any
-- code in a short, a middle or a long form. What a run holds is the number in its field.
pub data Code : Type 0 where
  pixel : ℕ → Code
  one_zero : Code
  two_zeros : Code
  zeros : ℕ → Code
  short_run : ℕ → ℕ → Code
  middle_run : ℕ → ℕ → Code
  long_run : ℕ → ℕ → Code

-- the codes that a depth has
abbrev pub IsCode : Depth → Code → Type 0
IsCode Two (pixel code) = (0 < code) × (code < 4)
IsCode Two one_zero = Unit {0}
IsCode Two two_zeros = Unit {0}
IsCode Two (zeros field) = ⊥
IsCode Two (short_run field code) = (field < 8) × (code < 4)
IsCode Two (middle_run field code) = (field < 16) × (code < 4)
IsCode Two (long_run field code) = (field < 256) × (code < 4)
IsCode Four (pixel code) = (0 < code) × (code < 16)
IsCode Four one_zero = Unit {0}
IsCode Four two_zeros = Unit {0}
IsCode Four (zeros field) = (0 < field) × (field < 8)
IsCode Four (short_run field code) = (field < 4) × (code < 16)
IsCode Four (middle_run field code) = (field < 16) × (code < 16)
IsCode Four (long_run field code) = (field < 256) × (code < 16)
IsCode Eight (pixel code) = (0 < code) × (code < 256)
IsCode Eight one_zero = ⊥
IsCode Eight two_zeros = ⊥
IsCode Eight (zeros field) = (0 < field) × (field < 128)
IsCode Eight (short_run field code) = (field < 128) × (code < 256)
IsCode Eight (middle_run field code) = ⊥
IsCode Eight (long_run field code) = ⊥

-- how many pixels a code of a depth gives
abbrev pub pixel_count : Depth → Code → ℕ
pixel_count depth (pixel code) = 1
pixel_count depth one_zero = 1
pixel_count depth two_zeros = 2
pixel_count Two (zeros field) = 0
pixel_count Two (short_run field code) = field + 3
pixel_count Two (middle_run field code) = field + 12
pixel_count Two (long_run field code) = field + 29
pixel_count Four (zeros field) = field + 2
pixel_count Four (short_run field code) = field + 4
pixel_count Four (middle_run field code) = field + 9
pixel_count Four (long_run field code) = field + 25
pixel_count Eight (zeros field) = field
pixel_count Eight (short_run field code) = field
pixel_count Eight (middle_run field code) = 0
pixel_count Eight (long_run field code) = 0

-- the pixel code that a code gives
abbrev pub colour_of : Code → ℕ
colour_of (pixel code) = code
colour_of one_zero = 0
colour_of two_zeros = 0
colour_of (zeros field) = 0
colour_of (short_run field code) = code
colour_of (middle_run field code) = code
colour_of (long_run field code) = code

-- the pixels that a code gives
abbrev pub pixels_of : Depth → Code → List ℕ
pixels_of depth code = replicate (pixel_count depth code) (colour_of code)

-- the bits that a code is spelled with, field by field
unfoldable pub spelled : Depth → Code → List ℕ
spelled Two (pixel code) = bits 2 code
spelled Two one_zero = bits 2 0 ++ bits 2 1
spelled Two two_zeros = bits 2 0 ++ (bits 2 0 ++ bits 2 1)
spelled Two (zeros field) = []
spelled Two (short_run field code) = bits 2 0 ++ (bits 1 1 ++ (bits 3 field ++ bits 2 code))
spelled Two (middle_run field code) = bits 2 0 ++ (bits 2 0 ++ (bits 2 2 ++ (bits 4 field ++ bits 2 code)))
spelled Two (long_run field code) = bits 2 0 ++ (bits 2 0 ++ (bits 2 3 ++ (bits 8 field ++ bits 2 code)))
spelled Four (pixel code) = bits 4 code
spelled Four one_zero = bits 4 0 ++ bits 4 12
spelled Four two_zeros = bits 4 0 ++ bits 4 13
spelled Four (zeros field) = bits 4 0 ++ (bits 1 0 ++ bits 3 field)
spelled Four (short_run field code) = bits 4 0 ++ (bits 2 2 ++ (bits 2 field ++ bits 4 code))
spelled Four (middle_run field code) = bits 4 0 ++ (bits 4 14 ++ (bits 4 field ++ bits 4 code))
spelled Four (long_run field code) = bits 4 0 ++ (bits 4 15 ++ (bits 8 field ++ bits 4 code))
spelled Eight (pixel code) = bits 8 code
spelled Eight one_zero = []
spelled Eight two_zeros = []
spelled Eight (zeros field) = bits 8 0 ++ (bits 1 0 ++ bits 7 field)
spelled Eight (short_run field code) = bits 8 0 ++ (bits 1 1 ++ (bits 7 field ++ bits 8 code))
spelled Eight (middle_run field code) = []
spelled Eight (long_run field code) = []

-- the end of a string
unfoldable pub ending : Depth → List ℕ
ending Two = bits 2 0 ++ (bits 2 0 ++ bits 2 0)
ending Four = bits 4 0 ++ bits 4 0
ending Eight = bits 8 0 ++ bits 8 0

-- the string of some codes: each one's bits, then the end
abbrev pub string_of : Depth → List Code → List ℕ
string_of depth codes = flat_map (spelled depth) codes ++ ending depth

-- a list of codes of the depth gives these pixels, in order
pub record Gives (depth : Depth) (codes : List Code) (pixels : List ℕ) : Type 0 where
  pub each : All (IsCode depth) codes
  pub drawn : flat_map (pixels_of depth) codes ≡ pixels

-- These bytes begin with the string of a list of codes, and what follows are fewer than eight bits of any value: the
-- fill to a whole byte.
pub record IsString (depth : Depth) (codes : List Code) (bytes : List ℕ) : Type 0 where
  pub each : All (IsCode depth) codes
  pub fill : List ℕ
  pub text : bits_of bytes ≡ string_of depth codes ++ fill
  pub short : length fill < 8

-- the bits of a list of codes, without the end
abbrev pub bits_in : Depth → List Code → ℕ
bits_in depth codes = length (flat_map (spelled depth) codes)

-- This is the least number of bits of a run of a code: some list of codes of the depth gives the run with so many
-- bits, and every list of codes that gives it has at least so many.
pub record IsLeast (depth : Depth) (code count bits : ℕ) : Type 0 where
  pub codes : List Code
  pub given : Gives depth codes (replicate count code)
  pub reached : bits_in depth codes ≡ bits
  pub least : (others : List Code) → Gives depth others (replicate count code) → bits ≤ bits_in depth others

-- one list of lengths is at or above another, in order of the first, then the second, and so on
abbrev pub IsAtLeast : List ℕ → List ℕ → Type 0
IsAtLeast lengths [] = Unit {0}
IsAtLeast [] (other ∷ others) = ⊥
IsAtLeast (length ∷ lengths) (other ∷ others) =
    (other < length) ⊎ ((length ≡ other) × IsAtLeast lengths others)

-- The codes that a writer chooses for a run of a code: they give it with the least bits, and of all that do their
-- list of lengths is the greatest.
pub record IsChosen (depth : Depth) (code count : ℕ) (codes : List Code) : Type 0 where
  pub given : Gives depth codes (replicate count code)
  pub least : (others : List Code) → Gives depth others (replicate count code)
      → bits_in depth codes ≤ bits_in depth others
  pub greatest : (others : List Code) → Gives depth others (replicate count code)
      → bits_in depth others ≡ bits_in depth codes
      → IsAtLeast (map (pixel_count depth) codes) (map (pixel_count depth) others)

-- a run of pixels: how many, and their code
pub record Span : Type 0 where
  pub count : ℕ
  pub code : ℕ

-- no two neighbours have one code
abbrev pub AreApart : List Span → Type 0
AreApart [] = Unit {0}
AreApart (span ∷ []) = Unit {0}
AreApart (span ∷ next ∷ spans) = (span.code ≡ next.code → ⊥) × AreApart (next ∷ spans)

-- the maximal runs of a row of pixels, in order
pub record AreMaximalRuns (spans : List Span) (pixels : List ℕ) : Type 0 where
  pub drawn : flat_map (λ span. replicate span.count span.code) spans ≡ pixels
  pub some : All (λ span. 0 < span.count) spans
  pub apart : AreApart spans

-- these codes are the chosen ones of each run, run after run
abbrev pub AreChosen : Depth → List Span → List Code → Type 0
AreChosen depth [] codes = codes ≡ []
AreChosen depth (span ∷ spans) codes = (front : List Code) × (rest : List Code) × (codes ≡ front ++ rest)
    × IsChosen depth span.code span.count front × AreChosen depth spans rest

-- the sum of the least bits of runs
abbrev pub IsLeastSum : Depth → List Span → ℕ → Type 0
IsLeastSum depth [] sum = sum ≡ 0
IsLeastSum depth (span ∷ spans) sum = (here : ℕ) × (rest : ℕ) × IsLeast depth span.code span.count here
    × IsLeastSum depth spans rest × (sum ≡ here + rest)

-- These bytes are the string that a writer gives a row of pixels: it spells the row, with the end and fill bits of 0
-- to a whole byte; no other string that spells the row has fewer bits; and its codes are the chosen ones of the row's
-- maximal runs.
pub record IsRowString (depth : Depth) (pixels bytes : List ℕ) : Type 0 where
  pub codes : List Code
  pub given : Gives depth codes pixels
  pub fill : ℕ
  pub short : fill < 8
  pub text : bits_of bytes ≡ string_of depth codes ++ replicate fill 0
  pub each : All (λ byte. byte < 256) bytes
  pub least : (others : List Code) → Gives depth others pixels
      → length (string_of depth codes) ≤ length (string_of depth others)
  pub spans : List Span
  pub maximal : AreMaximalRuns spans pixels
  pub chosen : AreChosen depth spans codes

-- how many bytes such a string has: the least bits of the row's maximal runs and the end, in started bytes
pub record IsRowSize (depth : Depth) (pixels : List ℕ) (size : ℕ) : Type 0 where
  pub spans : List Span
  pub maximal : AreMaximalRuns spans pixels
  pub sum : ℕ
  pub least : IsLeastSum depth spans sum
  pub started : size ≡ (sum + length (ending depth) + 7) / 8

-- Whatever follows these bytes, one string of the depth begins there and no other: these bytes; and each list of codes
-- that it is read as gives these pixels.
pub record IsReadAs (depth : Depth) (pixels bytes : List ℕ) : Type 0 where
  pub codes : List Code
  pub whole : IsString depth codes bytes
  pub given : Gives depth codes pixels
  pub only : (others : List Code) (front rest more : List ℕ) → bytes ++ rest ≡ front ++ more
      → IsString depth others front → (front ≡ bytes) × Gives depth others pixels
