-- The names of pictures.
use Rattle.std.specs.Prelude.{ℕ, if◌then◌else◌, List, Option, Some}
use Rattle.std.specs.Str.{bytes_eq}
use Rattle.std.specs.BTreeMap.{get_by_text}
use Rattle.cue_list.specs.declared.names.Names.{Names}

-- the place of the picture of that name
abbrev pub place_by : Names → List ℕ → Option ℕ
place_by names name = get_by_text names.places name

-- the places, with one more picture of that name
abbrev pub named_with : List ℕ → ℕ → (List ℕ → Option ℕ) → List ℕ → Option ℕ
named_with name place named other = if bytes_eq other name then Some place else named other
