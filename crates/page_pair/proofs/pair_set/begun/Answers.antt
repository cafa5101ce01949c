use Rattle.std.proofs.Common.{◌∙◌, ℕ, map, ap}
use Rattle.page_pair.specs.PairSets.{Side, shared_objects}
use Rattle.page_pair.proofs.PairSetLaws.{leading_named}
use Rattle.page_pair.proofs.pair_set.begun.Goals as goal

pub returns-clause-leading : goal.returns-clause-leading
returns-clause-leading c =
    let one = c.as_slice.ensures.value ∙ ap (λ (side : Side). side.objects) c.one.view_is in
    let two = c.as_slice-2.ensures.value ∙ ap (λ (side : Side). side.objects) c.two.view_is in
    leading_named c.args.pages c.args.one.now c.args.two.now c.in_ok-pairs.pairs.items c.as_slice-6.result.now
    c.as_slice-7.result.now (c.in_ok-pairs.ensures.pairs ∙ (λ i. shared_objects (one i) (two i)))
    (c.as_slice-6.ensures.value ∙ c.in_ok-first.ensures
    ∙ ap (map (λ (pair : ℕ × ℕ). pair.0)) c.as_slice-3.ensures.value)
    (c.as_slice-7.ensures.value ∙ c.in_ok-second.ensures
    ∙ ap (map (λ (pair : ℕ × ℕ). pair.1)) c.as_slice-4.ensures.value)
    c.in_ok-written.written c.in_ok-written.ensures
