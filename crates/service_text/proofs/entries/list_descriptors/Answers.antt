use Rattle.std.proofs.Common.{ap}
use Rattle.std.specs.List.{flat_map}
use Rattle.psi_tables.specs.Walking.{descriptor_value}
use Rattle.service_text.specs.Services.{services_by}
use Rattle.service_text.proofs.EntryLaws.{more_walked}
use Rattle.service_text.proofs.entries.list_descriptors.Goals as goal

pub loop-descriptor-preserved : goal.loop-descriptor-preserved
loop-descriptor-preserved c =
    more_walked _ c.loop-descriptor.list _ _ _
    (services_by c.args.number c.args.pid (descriptor_value c.in-Some.descriptor)) _ c.loop-descriptor.invariant
    c.list_descriptor.ensures
    (ap (flat_map (services_by c.args.number c.args.pid)) c.in-Some.ensures.first)
