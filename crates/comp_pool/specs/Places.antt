use Rattle.std.specs.Prelude.{Bool, ◌==◌, List, [], ◌∷◌, if◌then◌else◌, Option, Some, None}
use Rattle.comp_pool.specs.declared.node.NodeId.{NodeId}

-- What is read of a list.

-- the two name one node
abbrev pub is_node : NodeId → NodeId → Bool
is_node a b = a.number == b.number

-- the first node
abbrev pub first_of : {T : Type 0} → List (NodeId × T) → Option NodeId
first_of [] = None
first_of (p ∷ ps) = Some p.0

-- the node right behind this one
abbrev pub behind : {T : Type 0} → NodeId → List (NodeId × T) → Option NodeId
behind node [] = None
behind node (p ∷ ps) = if is_node p.0 node then first_of ps else behind node ps

-- the part of a list from this node on; nothing, where there is no node
abbrev pub rest_from : {T : Type 0} → Option NodeId → List (NodeId × T) → List (NodeId × T)
rest_from None ps = []
rest_from (Some node) [] = []
rest_from (Some node) (p ∷ ps) = if is_node p.0 node then p ∷ ps else rest_from (Some node) ps
