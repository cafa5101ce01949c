-- Words on lists and searches in them that several crates cite.
use Rattle.std.specs.Prelude.{Bool, true, false, if◌then◌else◌, List, [], ◌∷◌, flat_map, map, Option, Some, None, option_map}
use Rattle.std.specs.List.{list_any}
use Rattle.std.specs.Option.{option_or}

-- a list has some item
abbrev pub has_some : {X : Type 0} → List X → Bool
has_some [] = false
has_some (x ∷ xs) = true

-- the items of lists, one list after another
abbrev pub all_of : {X : Type 0} → List (List X) → List X
all_of lists = flat_map (λ list. list) lists

-- the prefixes of a list that have at least one item, the shortest first
abbrev pub prefixes : {X : Type 0} → List X → List (List X)
prefixes [] = []
prefixes (x ∷ xs) = (x ∷ []) ∷ map (λ prefix. x ∷ prefix) (prefixes xs)

-- what the first item for which there is something gives
abbrev pub first_given : {X Y : Type 0} → (X → Option Y) → List X → Option Y
first_given f [] = None
first_given f (x ∷ xs) = option_or (f x) (first_given f xs)

-- what the last item for which there is something gives
abbrev pub last_given : {X Y : Type 0} → (X → Option Y) → List X → Option Y
last_given f [] = None
last_given f (x ∷ xs) = option_or (last_given f xs) (f x)

-- the items of a list that differ from all later ones: how many there are is how many different ones the list has
abbrev pub different : {X : Type 0} → (X → X → Bool) → List X → List X
different same [] = []
different same (x ∷ xs) = if list_any (same x) xs then different same xs else x ∷ different same xs

-- each item of a list, with those before it, the latest first, and then older ones
abbrev pub with_earlier : {X : Type 0} → List X → List X → List (X × List X)
with_earlier older [] = []
with_earlier older (x ∷ xs) = (x, older) ∷ with_earlier (x ∷ older) xs

-- the prefix of a list up to the first item that passes a test, with it
abbrev pub up_to_first : {X : Type 0} → (X → Bool) → List X → Option (List X)
up_to_first test [] = None
up_to_first test (x ∷ xs) =
    if test x then Some (x ∷ []) else option_map (λ prefix. x ∷ prefix) (up_to_first test xs)

-- the prefix of a list up to the last item that passes a test, with it
abbrev pub up_to_last : {X : Type 0} → (X → Bool) → List X → Option (List X)
up_to_last test [] = None
up_to_last test (x ∷ xs) =
    option_or (option_map (λ prefix. x ∷ prefix) (up_to_last test xs)) (if test x then Some (x ∷ []) else None)
