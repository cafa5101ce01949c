-- A walk over the entries of a page.
use Rattle.std.proofs.Common.{◌≡◌, ◌∙◌, sym, ap, true, List, [], ◌∷◌, Contains, Option, Some, None}
use Rattle.std.specs.Prelude.{MatchOption}
use Rattle.std.specs.List.{cons_option}
use Rattle.std.specs.Option.{is_some}
use Rattle.std.proofs.lemmas.List.Elements.{All-contains}
use Rattle.stream_syntax.specs.declared.page.PageEntry.{PageEntry}
use Rattle.comp_pool.specs.Places.{first_of, behind}
use Rattle.comp_pool.specs.Pool.{PoolOf, list_of, NoneTwice}
use Rattle.comp_pool.specs.declared.node.NodeId.{NodeId}
use Rattle.comp_pool.proofs.NodeLaws.{in_list_first, in_list_behind}
use Rattle.comp_pool.proofs.WalkLaws.{walk_start, walk_step}
use Rattle.page_core.specs.Private.Entries.{entries_left, IsWalk}
use Rattle.page_core.specs.Private.Nodes.{kept_in, entry_in, IsSorted}
use Rattle.page_core.specs.declared.node.Node.{Node}

-- a walk begins at the first node
pub walk_begins : (pool : PoolOf Node) (answer : Option NodeId) → IsSorted pool → NoneTwice pool
    → answer ≡ first_of (list_of pool 0) → IsWalk pool answer
walk_begins pool answer sorted one first =
    record { kinds = sorted.entries; distinct = one; listed = λ node is. in_list_first pool 0 node answer first is }

-- with all entries left
pub all_left : (pool : PoolOf Node) (answer : Option NodeId) → answer ≡ first_of (list_of pool 0)
    → entries_left pool answer ≡ kept_in entry_in (list_of pool 0)
all_left pool answer first = ap (kept_in entry_in) (walk_start pool 0 answer first)

-- it goes on behind a node
pub walk_goes_on : (pool : PoolOf Node) (next answer : Option NodeId) (node : NodeId) → IsWalk pool next
    → next ≡ Some node → answer ≡ behind node (list_of pool 0) → IsWalk pool answer
walk_goes_on pool next answer node walk here is =
    record {
      kinds = walk.kinds;
      distinct = walk.distinct;
      listed = λ behind_it there. in_list_behind pool 0 node
          behind_it answer is there;
    }

-- and gives the entry of that node
pub entry_given : (pool : PoolOf Node) (next answer : Option NodeId) (node : NodeId) (item : Node)
    (found : Option PageEntry) (before : List PageEntry) → IsWalk pool next → next ≡ Some node
    → Contains (list_of pool 0) (node, item) → answer ≡ behind node (list_of pool 0) → found ≡ entry_in item
    → entries_left pool next ≡ before
    → MatchOption found ((before ≡ []) × (entries_left pool answer ≡ []))
    (λ entry. before ≡ entry ∷ entries_left pool answer)
entry_given pool next answer node item found before walk here there is kind left = by found kind
  where
    some : is_some (entry_in item) ≡ true
    some =
        All-contains (λ (pair : NodeId × Node). is_some (entry_in pair.1) ≡ true) (list_of pool 0) (node, item)
        walk.kinds there

    all : before ≡ cons_option (entry_in item) (entries_left pool answer)
    all =
        sym left ∙ ap (entries_left pool) here
        ∙ ap (kept_in entry_in) (walk_step pool 0 walk.distinct node item answer there is)

    by : (found : Option PageEntry) → found ≡ entry_in item
        → MatchOption found ((before ≡ []) × (entries_left pool answer ≡ []))
        (λ entry. before ≡ entry ∷ entries_left pool answer)
    by None kind = absurd (none (ap is_some kind ∙ some))
      where
        none : is_some {T = PageEntry} None ≡ true → ⊥
        none e = cc
    by (Some entry) kind = all ∙ ap (λ one. cons_option one (entries_left pool answer)) (sym kind)
