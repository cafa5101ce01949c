use Rattle.std.proofs.Common.{◌∙◌}
use Rattle.page_epoch.specs.SentCluts.{all_entries}
use Rattle.page_epoch.proofs.ListLaws.{three_joined}
use Rattle.page_epoch.proofs.clut_rows.all_entries.Goals as goal

pub returns : goal.returns
unfolding all_entries
returns c =
    c.new.ensures
    ∙ three_joined _ _ _ c.new-entries.result.items _ _ _ c.new-entries.ensures.items c.in_ok-push_entries.ensures
    c.in_ok-push_entries-2.ensures c.in_ok-push_entries-3.ensures
