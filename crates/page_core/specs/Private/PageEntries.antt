-- The entries of a page in a pool.
use Rattle.std.specs.Prelude.{◌≡◌, ◌+◌, List, length}
use Rattle.stream_syntax.specs.declared.page.PageEntry.{PageEntry}
use Rattle.comp_pool.specs.Pool.{PoolOf, list_of}
use Rattle.page_core.specs.Private.Lists.{KeepsBeside}
use Rattle.page_core.specs.Private.Nodes.{AreKind, entry_in, kept_in}
use Rattle.page_core.specs.declared.node.Node.{Node}

-- list 0, which was empty, has these entries, and nothing else is changed
pub record HasEntries (entries : List PageEntry) (old new : PoolOf Node) : Type 0 where
  pub beside : KeepsBeside 0 old new
  pub kinds : AreKind entry_in (list_of new 0)
  pub are : kept_in entry_in (list_of new 0) ≡ entries
  pub free : new.free + length entries ≡ old.free
