use Rattle.std.proofs.Common.{List, map, subst}
use Rattle.std.proofs.lemmas.Result.{on_ok_weaker}
use Rattle.std.specs.Result.{OnOk}
use Rattle.page_epoch.specs.declared.planned_set.SentRegion.{SentRegion}
use Rattle.set_coder.specs.SetSegments.{display_segments, page_segment}
use Rattle.shown_plan.specs.NamedSets.{named_region}
use Rattle.page_pair.specs.PairSets.{Side, head_of, names_of, on}
use Rattle.page_pair.specs.Private.Writing.{WritesMore}
use Rattle.page_pair.proofs.WritingLaws.{head_more}
use Rattle.page_pair.proofs.written.Written.put_head.Goals as goal

pub returns : goal.returns
returns c =
    let names = names_of c.args.shared.now in
    let page = c.args.page in
    let script = c.language.inside.script.now in
    let set = c.language.inside.set.now in
    let epoch = c.language.inside.epoch.now in
    let old = c.args.self.now in
    let new = c.put_regions.new.self in
    subst (λ (side : Side). OnOk c.put_regions.result (WritesMore (map (on page) (head_of names side)) old new))
    c.language.view_is
    (on_ok_weaker c.put_regions.result
    (head_more page (display_segments script set.state) (page_segment script epoch set)
    (map (named_region names epoch) set.regions) old c.put_display.new.self c.put_page.new.self new
    c.in_ok-put_display.ensures c.in_ok-put_page.ensures)
    (subst (λ (regions : List SentRegion). OnOk c.put_regions.result
    (WritesMore (map (on page) (map (named_region names epoch) regions)) c.put_page.new.self new)) c.as_slice.ensures
    c.put_regions.ensures))
