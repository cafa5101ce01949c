-- With which codes of the program its output takes the place of what was there.
use Rattle.std.specs.Prelude.{ℕ, ◌==◌, Bool, true, false, List, [], ◌∷◌}
use Rattle.std.specs.List.{list_any}
use Rattle.program_files.specs.declared.keeping.OutputKind.{OutputKind}
use Rattle.program_files.specs.declared.keeping.OutputKind.TheVariants as output

-- always where the command is done; what was told of a stream also where the stream was refused, could not be read or
-- was too long; what a tool has written also where an input was
abbrev pub kept_codes : OutputKind → Bool → List ℕ
kept_codes output.Whole has_written = 0 ∷ []
kept_codes output.Told has_written = 0 ∷ 4 ∷ 5 ∷ 8 ∷ []
kept_codes output.Tool true = 0 ∷ 3 ∷ 5 ∷ 8 ∷ []
kept_codes output.Tool false = 0 ∷ []

-- the output of a command that ends with that code takes the place of what was there
abbrev pub is_kept : OutputKind → Bool → ℕ → Bool
is_kept kind has_written code = list_any (λ kept. code == kept) (kept_codes kind has_written)
