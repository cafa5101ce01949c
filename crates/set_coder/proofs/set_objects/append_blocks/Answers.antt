use Rattle.std.proofs.Common.{arith}
use Rattle.set_coder.proofs.ObjectLaws.{object_writable}
use Rattle.set_coder.proofs.set_objects.append_blocks.Goals as goal

pub write_segment-requires : goal.write_segment-requires
write_segment-requires c =
    (object_writable c.args.page c.args.object c.args.see_through c.args.top.now c.args.bottom.now (omega arith)
    (omega arith) c.requires.blocks (λ i. omega (arith, c.type_inv.top i))
    (λ i. omega (arith, c.type_inv.bottom i)) (omega (arith, c.requires.short))
    (omega (arith, c.requires.short))).0

pub returns-clause-fits : goal.returns-clause-fits
returns-clause-fits c =
    (object_writable c.args.page c.args.object c.args.see_through c.args.top.now c.args.bottom.now (omega arith)
    (omega arith) c.requires.blocks (λ i. omega (arith, c.type_inv.top i))
    (λ i. omega (arith, c.type_inv.bottom i)) (omega (arith, c.requires.short))
    (omega (arith, c.requires.short))).0
