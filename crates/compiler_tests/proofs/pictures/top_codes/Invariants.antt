use Rattle.std.proofs.Common.{◌≡◌, ◌++◌}
use Rattle.std.specs.List.{concat}
use Rattle.sub_base.specs.Picture.{top_field}
use Rattle.compiler_tests.proofs.pictures.top_codes.Given as goal

-- what was written and what is left are the field
abbrev pub invariant-loop-row : goal.invariant-loop-row
invariant-loop-row l = l.codes.items ++ concat l.row-iterator ≡ concat (top_field l.picture)
