use Rattle.std.proofs.Common.{◌≡◌, arith, Some, ap, sym, subst, ◌∙◌}
use Rattle.std.proofs.lemmas.Option.{slice_get-get_or, get_or_from_slice_get}
use Rattle.sub_base.specs.Picture.{Picture}
use Rattle.set_coder.specs.KeptBlocks.{CanBeKept}
use Rattle.set_coder.proofs.coded_picture.KeptBlocks.keep.Goals as goal
use Rattle.set_coder.proofs.coded_picture.KeptBlocks.keep.Goals.{then-holds-via-then-holds, then-holds-via-else-holds+then-not-can_be_kept}

pub returns-then-holds-clause-kept : goal.returns-then-holds-clause-kept
returns-then-holds-clause-kept c =
    elim c.then-holds.branch [
      | then-holds-via-then-holds w ↦ λ picture at can. c.holds.ensures.0 w.if-holds.true
      | then-holds-via-else-holds+then-not-can_be_kept w ↦ λ picture at can.
          let here = c.index-pictures-place in
          let same : picture ≡ here.result =
          sym (here.is ∙ get_or_from_slice_get c.args.pictures.now c.args.number picture here.result at) in
          let fits = w.can_be_kept.ensures.all (subst (λ (p : Picture). CanBeKept p c.args.region) same can) in
          absurd (cc (fits, w.if-not-can_be_kept.true))
    ]

pub add-requires-clause-picture : goal.add-requires-clause-picture
add-requires-clause-picture c =
    slice_get-get_or c.args.pictures.now c.args.number c.index-pictures-place.result
    (omega (arith, c.if-place-pictures.false)) ∙ ap Some (sym c.index-pictures-place.is)

pub add-requires-clause-fresh : goal.add-requires-clause-fresh
add-requires-clause-fresh c = λ any. let held = c.holds.ensures.1 any in cc (held, c.if-holds.false)
