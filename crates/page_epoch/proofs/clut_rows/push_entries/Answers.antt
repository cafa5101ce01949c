use Rattle.std.proofs.Common.{◌≡◌, ◌∙◌, ◌++◌, ℕ, ap, map, arith}
use Rattle.std.specs.List.{range_with_len}
use Rattle.sub_base.specs.Depth.{code_count}
use Rattle.page_epoch.specs.declared.clut_rows.Entry.{Entry}
use Rattle.page_epoch.specs.SentCluts.{entries_at}
use Rattle.page_epoch.proofs.ListLaws.{mapped_more}
use Rattle.page_epoch.proofs.clut_rows.push_entries.Goals as goal

pub loop-number-preserved : goal.loop-number-preserved
loop-number-preserved c =
    let entry = λ (number : ℕ). let made : Entry = record { depth = c.args.depth; number = number } in made in
    mapped_more entry c.loop-number.number _ c.loop-number.entries.items _ c.loop-number.invariant
    c.in_ok-push.ensures.items

pub returns : goal.returns
unfolding entries_at
returns c =
    let all : c.loop-number.number ≡ code_count c.args.depth = omega arith in
    let entry = λ (number : ℕ). let made : Entry = record { depth = c.args.depth; number = number } in made in
    c.loop-number.invariant ∙ ap (λ (n : ℕ). c.args.entries.now.items ++ map entry (range_with_len 0 n)) all
