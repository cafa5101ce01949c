-- The version of the node in the table.
use Rattle.std.proofs.Common.{◌∙◌}
use Rattle.page_core.proofs.ColourTables.ClutNodes.{clut_listed, version_is}
use Rattle.page_core.proofs.composition.CompositionMemory.clut_version.Goals as goal

pub version_at-requires-clause-listed : goal.version_at-requires-clause-listed
version_at-requires-clause-listed c =
    clut_listed c.self.inside.pool c.args.id c.node_at.result
    (c.node_at.ensures.node ∙ c.self.invariant.1.cluts c.args.id c.node_at.ensures.byte)

pub returns : goal.returns
returns c =
    version_is c.self.inside.pool c.args.id c.node_at.result c.version_at.result c.args.self.now c.self.view_is
    (c.node_at.ensures.node ∙ c.self.invariant.1.cluts c.args.id c.node_at.ensures.byte)
    c.version_at.ensures.distinct c.version_at.ensures.version
