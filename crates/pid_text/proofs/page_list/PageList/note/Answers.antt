use Rattle.std.proofs.Common.{◌≡◌, ◌||◌, arith, length, nat_lt, subst, take}
use Rattle.pid_text.proofs.NotedLaws.{all_kept}
use Rattle.pid_text.specs.Private.Listing.{PageListing, noted}
use Rattle.pid_text.proofs.page_list.PageList.note.Goals as goal

pub returns-else-len-gt-MOST_PAGES : goal.returns-else-len-gt-MOST_PAGES
returns-else-len-gt-MOST_PAGES c =
    subst
    (λ (old : PageListing). let listing : PageListing = record {
      entries = c.note_in.new.entries.items;
      more = c.self.inside.more;
    } in
    let all = noted (record { kind = c.args.kind; page = c.args.page }) old.entries in
    listing ≡ record { entries = take 64 all; more = old.more || nat_lt 64 (length all) })
    c.self.view_is
    (all_kept c.self.inside.more c.note_in.new.entries.items _ c.note_in.ensures.items
    (omega (arith, c.if-len-gt-MOST_PAGES.false, c.len.ensures)))
