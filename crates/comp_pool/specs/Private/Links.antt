use Rattle.std.specs.Prelude.{◌≡◌, ℕ, zero, suc, ◌+◌, ◌-◌, ◌<◌, ◌≤◌, ◌^◌, not, ◌==◌, List, [], ◌∷◌, ◌++◌, length, map, filter, sum_by, slice_index, slice_set, slice_index_or, if◌then◌else◌, nat_lt}
use Rattle.std.specs.List.{range_with_len}

-- Nodes are the numbers below `count`. The numbers from `count` on are the ends of the lists: count + l is both
-- ends of list l. A list is a ring: from its end over its nodes and back to its end.

-- each step forward from a over xs to b has its step back
abbrev pub Chain : (next back : ℕ → ℕ) → ℕ → List ℕ → ℕ → Type 0
Chain next back a [] b = (next a ≡ b) × (back b ≡ a)
Chain next back a (x ∷ xs) b = (next a ≡ x) × (back x ≡ a) × Chain next back x xs b

-- each of these numbers is a node, and not the end of a list
abbrev pub AllNodes : ℕ → List ℕ → Type 0
AllNodes count [] = Unit {0}
AllNodes count (x ∷ xs) = (x < count) × AllNodes count xs

-- the nodes from n on, in the order of the links, up to an end
abbrev pub walk : (next : ℕ → ℕ) → ℕ → ℕ → ℕ → List ℕ
walk next count zero n = []
walk next count (suc fuel) n = if nat_lt n count then n ∷ walk next count fuel (next n) else []

-- all lists, found by following the links
unfoldable pub lists_of : ℕ → List ℕ → List (List ℕ)
lists_of count nexts =
    map (λ l. walk (slice_index nexts) count count (slice_index nexts (count + l)))
    (range_with_len 0 (length nexts - count))

-- list l of these, and an empty one where there is none
abbrev pub list_at : List (List ℕ) → ℕ → List ℕ
list_at lists l = slice_index_or lists l []

-- the links go from the end of a list over these nodes, in order, and back to it, and the links back likewise
pub record IsRing (count : ℕ) (nexts backs : List ℕ) (end : ℕ) (xs : List ℕ) : Type 0 where
  pub chain : Chain (slice_index nexts) (slice_index backs) end xs end
  pub nodes : AllNodes count xs

-- these are the lists, and each node is in one of them
pub record IsLinked (count : ℕ) (nexts backs : List ℕ) (lists : List (List ℕ)) : Type 0 where
  pub few : length nexts < 2 ^ 64
  pub ends : length lists + count ≡ length nexts
  pub both : length backs ≡ length nexts
  pub inside : (k : ℕ) → k < length nexts → slice_index nexts k < length nexts
  pub rings : (l : ℕ) → l < length lists → IsRing count nexts backs (count + l) (list_at lists l)
  pub whole : sum_by length lists ≡ count

-- a list without the node n
abbrev pub dropping : ℕ → List ℕ → List ℕ
dropping n xs = filter (λ x. not (x == n)) xs

-- the lists without the node n in list l
abbrev pub removed : ℕ → ℕ → List (List ℕ) → List (List ℕ)
removed n l lists = slice_set lists l (dropping n (list_at lists l))

-- the lists with the node n at the end of list l
abbrev pub appended : ℕ → ℕ → List (List ℕ) → List (List ℕ)
appended n l lists = slice_set lists l (list_at lists l ++ n ∷ [])

-- the lists with the node n out of list a and at the end of list b
abbrev pub moved : ℕ → ℕ → ℕ → List (List ℕ) → List (List ℕ)
moved n a b lists = appended n b (removed n a lists)

-- the link of a place forward when all nodes are free: list 0 has them in order, and each other list is empty
abbrev pub next_when_free : ℕ → ℕ → ℕ
next_when_free count place = if nat_lt place count then place + 1 else (if place == count then 0 else place)

-- the link of a place back when all nodes are free, in order in list 0
abbrev pub back_when_free : ℕ → ℕ → ℕ
back_when_free count place = if place == 0 then count else (if nat_lt count place then place else place - 1)

-- an end is linked with itself: its list is empty
abbrev pub IsClosed : List ℕ → List ℕ → ℕ → Type 0
IsClosed nexts backs end = (slice_index nexts end ≡ end) × (slice_index backs end ≡ end)

-- a node from k on is the last one before the end
abbrev pub IsLast : List ℕ → ℕ → ℕ → ℕ → Type 0
IsLast nexts count k end = (n : ℕ) × (k ≤ n) × (n < count) × (slice_index nexts n ≡ end)
