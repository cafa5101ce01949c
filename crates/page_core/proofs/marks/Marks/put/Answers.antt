-- One more entry is marked.
use Rattle.std.proofs.Common.{◌∙◌, ap, ℕ, slice_set}
use Rattle.page_core.proofs.Counts.MarkLaws.{put_marked}
use Rattle.page_core.proofs.marks.Marks.put.Goals as goal

pub returns : goal.returns
returns c =
    put_marked c.self.inside.current c.ink_place-index.result c.stamp_of.result c.args.mark c.self.inside.stamps.items
    c.args.self.now c.self.view_is c.stamp_of.ensures.mark
    ∙ ap (λ (i : ℕ). slice_set c.args.self.now i c.args.mark) c.ink_place-index.ensures.place
