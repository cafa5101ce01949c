use Rattle.std.proofs.Common.{arith, ◌≤◌, ◌+◌, inr}
use Rattle.std.proofs.lemmas.Bool.Decides.{nat_tests}
use Rattle.picture_fields.proofs.FieldLaws.{one_sizes}
use Rattle.sub_base.specs.declared.profile.TheConstants.{LARGEST_BUFFER}
use Rattle.set_coder.proofs.kept_blocks.can_be_kept.Goals as goal

pub returns-clause-all : goal.returns-clause-all
returns-clause-all c = λ can.
    let found = c.field_sizes-sizes in
    let same =
    one_sizes c.args.picture.now c.args.region found.result.top found.result.bottom can.top can.bottom
    found.ensures.sizes can.sizes in
    let few : found.result.top + found.result.bottom ≤ LARGEST_BUFFER = omega (arith, same.0, same.1, can.fits) in
    grind (arith, nat_tests)

pub returns-clause-fits : goal.returns-clause-fits
returns-clause-fits c = λ is.
    let found = c.field_sizes-sizes in
    let few : found.result.top + found.result.bottom ≤ LARGEST_BUFFER = grind (arith, nat_tests) in
    inr
    (λ top bottom sizes. let same =
    one_sizes c.args.picture.now c.args.region found.result.top found.result.bottom top bottom found.ensures.sizes
    sizes in
    omega (arith, same.0, same.1, few))
