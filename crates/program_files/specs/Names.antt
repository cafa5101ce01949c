-- The paths of new files, and those behind links.
use Rattle.std.specs.Prelude.{ℕ, List, [], ◌++◌, codes}
use Rattle.std.specs.Option.{unwrap_or}
use Rattle.std.specs.Fmt.{decimal}
use Rattle.std.specs.Path.{path_join, path_parent, path_with_file_name}

-- the name of the new file of that number
abbrev pub part_name : ℕ → List ℕ
part_name number = (codes ".dvbsub-" ++ decimal number) ++ codes ".part"

-- the new file of that number stands in the folder of the path
abbrev pub new_path : List ℕ → ℕ → List ℕ
new_path path number = path_with_file_name path (part_name number)

-- a link is read from the folder that it stands in
abbrev pub behind_link : List ℕ → List ℕ → List ℕ
behind_link path link = path_join (unwrap_or (path_parent path) []) link
