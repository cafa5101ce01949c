-- Which file is an input, by its numbers and by its name.
use Rattle.std.specs.Prelude.{ℕ, ◌==◌, Bool, false, ◌&&◌, ◌||◌, if◌then◌else◌, List, Option, Some, None, bytes_eq}
use Rattle.program_files.specs.declared.identity.FileNumbers.{FileNumbers}

-- that file is there, lies on this device and has this number on it
abbrev pub has_numbers : FileNumbers → Option FileNumbers → Bool
has_numbers numbers None = false
has_numbers numbers (Some file) = (numbers.device == file.device) && (numbers.inode == file.inode)

-- the other one is named, by this very name
abbrev pub is_same_name : List ℕ → Option (List ℕ) → Bool
is_same_name name None = false
is_same_name name (Some other) = bytes_eq name other

-- the name of the output, unless it is the first or the second input's
abbrev pub name_without : Option (List ℕ) → Option (List ℕ) → Option (List ℕ) → Option (List ℕ)
name_without first second None = None
name_without first second (Some name) = if is_same_name name first || is_same_name name second then None else Some name
