-- What the sections of a PID give first.
use Rattle.std.specs.Prelude.{ℕ, List, [], ◌∷◌, Option, Some, None}
use Rattle.sub_base.specs.Lists.{first_given}
use Rattle.section_reader.specs.Sections.{sections_at}

-- what a section gives, and the packets behind the one in which the section ends
abbrev pub Found : Type 0 → Type 0
Found X = X × List (List ℕ)

-- what a packet's sections give, or what later ones do
abbrev pub by_sections : {X : Type 0} → Option X → List (List ℕ) → Option (Found X) → Option (Found X)
by_sections None rest later = later
by_sections (Some given) rest later = Some (given, rest)

-- the first thing that sections of a PID give in these packets; those before them are given the latest first
abbrev pub first_behind : {X : Type 0} → (List ℕ → Option X) → ℕ → List (List ℕ) → List (List ℕ)
    → Option (Found X)
first_behind gives pid before [] = None
first_behind gives pid before (packet ∷ packets) =
    by_sections (first_given gives (sections_at pid before packet)) packets
    (first_behind gives pid (packet ∷ before) packets)

-- the same where the stream begins with these packets
abbrev pub first_in : {X : Type 0} → (List ℕ → Option X) → ℕ → List (List ℕ) → Option (Found X)
first_in gives pid packets = first_behind gives pid [] packets
