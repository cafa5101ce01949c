-- The receiver is made with the first packet.
use Rattle.std.proofs.Common.{◌∙◌, ◌++◌, ◌∷◌, [], ap, not, sym, subst}
use Rattle.std.specs.Option.{is_some}
use Rattle.decoder_model.specs.Received.{Reception}
use Rattle.level_text.specs.Anchoring.{Anchoring, HasBegun, HasTimed}
use Rattle.level_text.proofs.AnchorLaws.{begun_before, begun_first, not_both}
use Rattle.level_text.proofs.anchored_meter.AnchoredMeter.begin.Goals as goal
use Rattle.level_text.proofs.anchored_meter.AnchoredMeter.begin.Goals.{in-Some-1, in-None-1}
use Rattle.level_text.proofs.anchored_meter.AnchoredMeter.begin.Goals.{else-is_none-via-then-is_none+else-not-self, else-is_none-via-else-is_none}

pub returns-in-Ok-clause-begun : goal.returns-in-Ok-clause-begun
returns-in-Ok-clause-begun c known taken text has =
    let asked : Reception =
    record { profile = c.self.inside.profile; pid = c.self.inside.pid; pages = c.self.inside.pages; anchor = 0 } in
    let begun =
    begun_first known c.args.tick asked c.in-Ok.sets c.self.inside.sets c.self.inside.is_wanting taken text
    c.if-is_none.ensures c.if-not-self.true c.in-Ok.ensures.made c.in-Ok.ensures.pace c.in-Ok.ensures.nothing
    (subst (λ (old : Anchoring). HasTimed known old taken text) (sym c.self.view_is) has) in
    elim c.match-self.branch [
      | in-Some-1 w ↦ subst (λ (new : Anchoring). HasBegun (known ++ c.args.tick ∷ []) new taken text) (sym w.self-is)
          begun
      | in-None-1 w ↦ subst (λ (new : Anchoring). HasBegun (known ++ c.args.tick ∷ []) new taken text) (sym w.self-is)
          begun
    ]

pub returns-else-is_none-clause-begun : goal.returns-else-is_none-clause-begun
returns-else-is_none-clause-begun c known taken text has =
    let asked : Reception =
    record { profile = c.self.inside.profile; pid = c.self.inside.pid; pages = c.self.inside.pages; anchor = 0 } in
    let old = subst (λ (one : Anchoring). HasTimed known one taken text) (sym c.self.view_is) has in
    subst (λ (one : Anchoring). HasBegun (known ++ c.args.tick ∷ []) one taken text) c.self.view_is
    (elim c.else-is_none.branch [
      | else-is_none-via-then-is_none+else-not-self w ↦
          begun_before known c.args.tick asked c.self.inside.sets c.self.inside.is_wanting taken text
          (λ none found. not_both c.self.inside.is_wanting w.if-not-self.false found) old
      | else-is_none-via-else-is_none w ↦
          begun_before known c.args.tick asked c.self.inside.sets c.self.inside.is_wanting taken text
          (λ none found. not_both (is_some c.self.inside.sets)
          (c.is_none.ensures ∙ ap not w.if-is_none.false) none) old
    ])
