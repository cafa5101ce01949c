-- What a call changes in the lists of a pool.
use Rattle.std.specs.Prelude.{◌≡◌, ◌≢◌, ℕ, ◌+◌, ◌∷◌, length, map}
use Rattle.comp_pool.specs.Pool.{PoolOf, list_of, node_count}
use Rattle.comp_pool.specs.declared.node.NodeId.{NodeId}

-- the lists beside list l are as they were, and so is the number of nodes
pub record KeepsBeside {T : Type 0} (l : ℕ) (old new : PoolOf T) : Type 0 where
  pub lists : length new.lists ≡ length old.lists
  pub others : (k : ℕ) → k ≢ l → list_of new k ≡ list_of old k
  pub count : node_count new ≡ node_count old

-- the first node of list l is taken out: it has that item
pub record IsPopped {T : Type 0} (l : ℕ) (item : T) (old new : PoolOf T) : Type 0 where
  pub beside : KeepsBeside l old new
  pub node : NodeId
  pub popped : list_of old l ≡ (node, item) ∷ list_of new l
  pub free : new.free ≡ old.free + 1

-- the pair, with its item changed
abbrev pub with_changed : {T : Type 0} → (T → T) → NodeId × T → NodeId × T
with_changed change pair = (pair.0, change pair.1)

-- each item of list l is changed, and nothing else
pub record IsRewritten {T : Type 0} (l : ℕ) (change : T → T) (old new : PoolOf T) : Type 0 where
  pub beside : KeepsBeside l old new
  pub free : new.free ≡ old.free
  pub list : list_of new l ≡ map (with_changed change) (list_of old l)
