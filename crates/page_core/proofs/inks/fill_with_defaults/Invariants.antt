-- The default colours so far.
use Rattle.std.proofs.Common.{◌≡◌, ◌<◌, ◌%◌, ℕ, slice_index_or}
use Rattle.sub_base.specs.Colour.{clear}
use Rattle.page_core.specs.Private.Inks.{default_ink}
use Rattle.page_core.specs.Memory.{colours_of_clut}
use Rattle.page_core.proofs.inks.fill_with_defaults.Given as goal

abbrev pub invariant-loop-index : goal.invariant-loop-index
invariant-loop-index l =
    (k : ℕ) → k < l.index → slice_index_or l.colours k clear ≡ default_ink (k % colours_of_clut)
