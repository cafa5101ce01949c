-- What is known of the definitions of an epoch: for each thing that sets can define, what its last definition says.
use Rattle.std.specs.Prelude.{◌≡◌, ℕ, ◌==◌, ◌<◌, ◌≤◌, if◌then◌else◌, List, length, slice_index_or, All, Option, Some, None}
use Rattle.set_definitions.specs.Definitions.{last_said}
use Rattle.set_definitions.specs.declared.definition.Definition.{Definition}
use Rattle.set_definitions.specs.declared.definition.Said.{Said}
use Rattle.set_definitions.specs.declared.definition.TheConstants.{NAMES}
use Rattle.set_definitions.specs.declared.known.Told.{Told}

-- what was told last of each thing, by its number, with the stamp of the epoch in which that was; and the stamp of the
-- epoch that goes on
pub record Knowledge : Type 0 where
  pub told : List Told
  pub stamp : ℕ

-- there is a place for each thing, and no stamp is later than that of the epoch that goes on
pub record IsKnowledge (known : Knowledge) : Type 0 where
  pub whole : length known.told ≡ NAMES
  pub past : All (λ (one : Told). one.stamp ≤ known.stamp) known.told

-- nothing was ever told of a thing
abbrev pub never_told : Told
never_told = record { stamp = 0; said = record { version = 0; size = 0; check = 0 } }

-- what the last definition in the epoch says
abbrev pub said_by : ℕ → Told → Option Said
said_by stamp one = if one.stamp == stamp then Some one.said else None

-- what the last definition of a thing in the epoch that goes on says, where there is one
abbrev pub said_at : Knowledge → ℕ → Option Said
said_at known name = said_by known.stamp (slice_index_or known.told name never_told)

-- it is what these definitions of an epoch say, the latest first
pub record Knows (known : Knowledge) (earlier : List Definition) : Type 0 where
  pub says : (name : ℕ) → name < NAMES → said_at known name ≡ last_said name earlier

-- one more thing is known, and all else stays
pub record Learns (old new : Knowledge) (one : Definition) : Type 0 where
  pub here : said_at new one.name ≡ Some one.said
  pub beside : (name : ℕ) → (name ≡ one.name → ⊥) → said_at new name ≡ said_at old name
