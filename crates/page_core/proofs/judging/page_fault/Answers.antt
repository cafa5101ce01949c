-- The first entry whose region is unknown.
use Rattle.std.proofs.Common.{◌∙◌, ◌++◌, ◌+◌, ◌≤◌, cond, Some, None, drop, length, reverse, sym, ap, arith}
use Rattle.std.specs.Option.{option_or}
use Rattle.sub_base.specs.Lists.{first_given}
use Rattle.decoder_model.specs.Contents.{in_order}
use Rattle.decoder_model.specs.Faults.{unknown_region}
use Rattle.decoder_model.specs.declared.set_fault.SetFault.TheVariants.{NoSuchRegion}
use Rattle.segments.specs.Contents.{page_value}
use Rattle.page_core.proofs.Sets.Defining.{entry_unknown, drop_all}
use Rattle.page_core.proofs.judging.page_fault.Goals as goal

pub returns-then-is_unknown : goal.returns-then-is_unknown
returns-then-is_unknown c set older knows defined =
    let segments = reverse (in_order set) ++ older in
    let entries = (page_value c.args.page.now).entries in
    let rest = first_given (unknown_region segments) (drop (c.loop-i.i + 1) entries) in
    sym (
    c.loop-i.invariant set older knows defined
    ∙ entry_unknown segments entries c.loop-i.i c.entry-id.result c.is_unknown.result c.entry-id.ensures
    (c.is_unknown.ensures set older knows defined)
    ∙ ap (λ b. option_or (cond b (Some (NoSuchRegion c.entry-id.result.region)) None) rest) c.if-is_unknown.true
    )

pub loop-i-preserved : goal.loop-i-preserved
loop-i-preserved c set older knows defined =
    let segments = reverse (in_order set) ++ older in
    let entries = (page_value c.args.page.now).entries in
    let rest = first_given (unknown_region segments) (drop (c.loop-i.i + 1) entries) in
    c.loop-i.invariant set older knows defined
    ∙ entry_unknown segments entries c.loop-i.i c.entry-id.result c.is_unknown.result c.entry-id.ensures
    (c.is_unknown.ensures set older knows defined)
    ∙ ap (λ b. option_or (cond b (Some (NoSuchRegion c.entry-id.result.region)) None) rest) c.if-is_unknown.false

pub returns : goal.returns
returns c set older knows defined =
    let segments = reverse (in_order set) ++ older in
    let entries = (page_value c.args.page.now).entries in
    let over : length entries ≤ c.loop-i.i = omega (arith, c.count-i-end.ensures) in
    sym (c.loop-i.invariant set older knows defined
    ∙ ap (first_given (unknown_region segments)) (drop_all entries c.loop-i.i over))
