-- The CLUT is known, or new, or left out.
use Rattle.std.proofs.Common.{◌∙◌}
use Rattle.page_core.specs.Private.Nodes.{node_of}
use Rattle.page_core.proofs.ColourTables.ClutNodes.{clut_left_out, clut_listed, clut_pushed_is, clut_pushed_kept}
use Rattle.page_core.proofs.ColourTables.KnownCluts.{mapped_none, replaced_is, replaced_kept}
use Rattle.page_core.proofs.composition.CompositionMemory.set_clut.Goals as goal

pub replace-requires-clause-listed : goal.replace-requires-clause-listed
replace-requires-clause-listed c =
    clut_listed c.self.inside.pool c.args.clut _
    (c.in-Some.ensures.node ∙ c.self.invariant.1.cluts c.args.clut c.in-Some.ensures.byte)

pub invariant_of-self : goal.invariant_of-self
invariant_of-self c =
    replaced_kept c.args.clut c.args.version c.in-Some.node c.self.inside.pool c.replace.new.pool c.self.inside.regions
    c.self.inside.cluts c.replace.ensures.distinct c.replace.ensures.replaced c.replace.ensures.nodes
    (c.in-Some.ensures.node ∙ c.self.invariant.1.cluts c.args.clut c.in-Some.ensures.byte) c.self.invariant

pub invariant_of-self-in-Some-push : goal.invariant_of-self-in-Some-push
invariant_of-self-in-Some-push c =
    clut_pushed_kept c.args.clut c.args.version c.in-Some-push.node c.self.inside.pool c.push.new.pool
    c.in-Some-push.ensures.1
    (mapped_none node_of _ (c.in-None.ensures.node ∙ c.self.invariant.1.cluts c.args.clut c.in-None.ensures.byte))
    c.self.inside.regions c.self.inside.cluts c.set_node.new.nodes c.self.invariant c.set_node.ensures

pub returns-in-Some : goal.returns-in-Some
returns-in-Some c =
    replaced_is c.args.clut c.args.version c.in-Some.node c.self.inside.pool c.replace.new.pool c.args.self.now
    c.replace.ensures.distinct c.replace.ensures.replaced c.replace.ensures.nodes
    (c.in-Some.ensures.node ∙ c.self.invariant.1.cluts c.args.clut c.in-Some.ensures.byte) c.self.view_is

pub returns-in-Some-push : goal.returns-in-Some-push
returns-in-Some-push c =
    clut_pushed_is c.args.clut c.args.version c.in-Some-push.node c.self.inside.pool c.push.new.pool
    c.in-Some-push.ensures.1
    (mapped_none node_of _ (c.in-None.ensures.node ∙ c.self.invariant.1.cluts c.args.clut c.in-None.ensures.byte))
    c.args.self.now c.in-Some-push.ensures.0 c.self.view_is

pub returns-in_default : goal.returns-in_default
returns-in_default c =
    clut_left_out c.args.clut c.args.version c.self.inside.pool c.push.new.pool c.args.self.now
    (mapped_none node_of _ (c.in-None.ensures.node ∙ c.self.invariant.1.cluts c.args.clut c.in-None.ensures.byte))
    c.in_default.ensures.0 c.in_default.ensures.1 c.self.view_is
