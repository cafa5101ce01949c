-- The sum of what is kept and what the set changes.
use Rattle.std.proofs.Common.{◌≡◌, ◌∙◌, ◌∷◌, ◌+◌, ◌-◌, ◌<◌, ◌^◌, ℕ, List, Some, ap, length, subst, sym}
use Rattle.std.specs.Prelude.{min}
use Rattle.decoder_model.specs.Contents.{page_in_set}
use Rattle.decoder_model.specs.Nodes.{nodes_of}
use Rattle.decoder_model.specs.Readings.{Content}
use Rattle.decoder_model.specs.Taken.{segments_of, taken_of}
use Rattle.segments.specs.Contents.{page_value}
use Rattle.page_core.specs.Private.Accepted.{IsBefore}
use Rattle.page_core.specs.Private.Sound.{IsSound}
use Rattle.page_core.proofs.Handed.CoreCounts.{core_needs, sum_is}
use Rattle.page_core.proofs.memory.Core.nodes_needed.Goals as goal

summed : (kept from page added gone cluts first second third result : ℕ) → from ≡ kept
    → first ≡ min (from + page) 18446744073709551615 → second ≡ min (first + added) 18446744073709551615
    → third ≡ second - gone
    → result ≡ min (third + cluts) 18446744073709551615
    → result ≡ min (min (min (kept + page) 18446744073709551615 + added) 18446744073709551615 - gone + cluts)
    18446744073709551615
summed kept from page added gone cluts first second third result a b c d e =
    e ∙ ap (λ n. min (n + cluts) 18446744073709551615)
    (d ∙ ap (λ n. n - gone)
    (c ∙ ap (λ n. min (n + added) 18446744073709551615)
    (b ∙ ap (λ n. min (n + page) 18446744073709551615) a)))

exact : (c : goal.After-saturating_add-3) (before : List (List Content)) (set : List Content)
    → IsBefore before c.args.self.now → IsSound set c.args.bytes.now
    → page_in_set set ≡ Some (page_value c.args.page.now)
    → (c.saturating_add-3.result ≡ nodes_of (taken_of (segments_of (set ∷ before))) (page_value c.args.page.now))
    × (nodes_of (taken_of (segments_of (set ∷ before))) (page_value c.args.page.now) < 2 ^ 32)
exact c before set is_before sound page_is =
    sum_is _ (length (page_value c.args.page.now).entries) _ c.region_nodes-regions.result.added
    c.region_nodes-regions.result.gone c.clut_nodes-cluts.result c.saturating_add-3.result
    (core_needs before set c.args.bytes.now _ c.args.self.now c.self.inside.marks (page_value c.args.page.now)
    c.region_nodes-regions.result.added c.region_nodes-regions.result.gone c.clut_nodes-cluts.result c.self.view_is
    c.self.invariant.whole c.self.invariant.few
    c.self.invariant.marked c.region_nodes-regions.ensures c.clut_nodes-cluts.ensures.counted is_before sound page_is)
    (summed _ c.from.result (length (page_value c.args.page.now).entries) c.region_nodes-regions.result.added
    c.region_nodes-regions.result.gone c.clut_nodes-cluts.result c.saturating_add.result c.saturating_add-2.result
    c.saturating_sub.result c.saturating_add-3.result
    (c.from.ensures ∙ c.kept_nodes.ensures)
    (c.saturating_add.ensures ∙ ap (λ n. min (c.from.result + n) 18446744073709551615) c.count.ensures)
    c.saturating_add-2.ensures c.saturating_sub.ensures c.saturating_add-3.ensures)

pub returns-clause-needed : goal.returns-clause-needed
returns-clause-needed c before set is_before sound page_is = (exact c before set is_before sound page_is).0

pub returns-clause-few : goal.returns-clause-few
returns-clause-few c before set is_before sound page_is =
    let all = exact c before set is_before sound page_is in subst (λ n. n < 2 ^ 32) (sym all.0) all.1
