-- With which statuses an output is kept, and what its end makes of a status.
use Rattle.std.proofs.Common.{◌≡◌, ◌⊎◌, inl, inr, Bool, true, false, true≢false, refl, sym, ◌&&◌, not, if◌then◌else◌}
use Rattle.program_files.specs.Keeping.{is_kept}
use Rattle.program_files.specs.declared.keeping.OutputKind.{OutputKind}
use Rattle.program_files.specs.declared.keeping.OutputKind.TheVariants as output

-- what was done is kept in every kind of output
pub done_kept : (kind : OutputKind) (has_written : Bool) → is_kept kind has_written 0 ≡ true
done_kept output.Whole has_written = refl
done_kept output.Told has_written = refl
done_kept output.Tool true = refl
done_kept output.Tool false = refl

-- no output is kept with the status of wrong words
pub usage_unkept : (kind : OutputKind) (has_written : Bool) → is_kept kind has_written 2 ≡ true → ⊥
usage_unkept output.Whole has_written kept = absurd (true≢false (sym kept))
usage_unkept output.Told has_written kept = absurd (true≢false (sym kept))
usage_unkept output.Tool true kept = absurd (true≢false (sym kept))
usage_unkept output.Tool false kept = absurd (true≢false (sym kept))

-- the end is the status itself; or the output was to be kept, and it is the one that tells of its loss
pub kept_or_lost : {A : Type 0} (kept finished : Bool) (lost same end : A)
    → end ≡ (if kept && not finished then lost else same) → (end ≡ same) ⊎ ((kept ≡ true) × (end ≡ lost))
kept_or_lost true false lost same end eq = inr (refl, eq)
kept_or_lost true true lost same end eq = inl eq
kept_or_lost false finished lost same end eq = inl eq
